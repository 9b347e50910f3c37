-- `table::grammar::atom`: a kind, then a value or a temporary.
use borrow.Author.Rules.{rules}
use Rattle.model.specs.Read as Read
use Rattle.table.proofs.Rules.{kinds-of}
use Rattle.table.proofs.grammar.atom.Goals as goal

pub returns-in_err-kind : goal.returns-in_err-kind
unfolding Read.atom
returns-in_err-kind c = search (rules, kinds-of, c.in_err-kind.ensures)

pub returns-then-kind-eq0 : goal.returns-then-kind-eq0
unfolding Read.atom
returns-then-kind-eq0 c = search (rules, kinds-of, c.in_ok-kind.ensures)

pub returns-else-kind-eq0 : goal.returns-else-kind-eq0
unfolding Read.atom
returns-else-kind-eq0 c = search (rules, kinds-of, c.in_ok-kind.ensures)
