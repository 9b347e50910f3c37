-- `table::grammar::expression`: a kind, then an atom, and another where it has two operands.
use borrow.Author.Rules.{rules}
use Rattle.model.specs.Read as Read
use Rattle.table.proofs.Laws.{byte-then}
use Rattle.table.proofs.Rules.{first-bad, kinds-of}
use Rattle.table.proofs.grammar.expression.Goals as goal

pub returns-in_err-kind : goal.returns-in_err-kind
unfolding Read.expression
returns-in_err-kind c = search (rules, kinds-of, c.in_err-kind.ensures)

pub returns-in_err-next : goal.returns-in_err-next
unfolding Read.expression
returns-in_err-next c =
    byte-then _ _ _ _ _ _ c.in_ok-kind.ensures (first-bad _ _ _ _ c.in_ok-kind.ensures _ _ c.in_err-next.ensures (search rules))

pub returns-then-operands-eq2 : goal.returns-then-operands-eq2
unfolding Read.expression
returns-then-operands-eq2 c = search (rules, kinds-of, c.in_ok-kind.ensures, c.in_ok-next.ensures)

pub returns-else-operands-eq2 : goal.returns-else-operands-eq2
unfolding Read.expression
returns-else-operands-eq2 c = search (rules, kinds-of, c.in_ok-kind.ensures, c.in_ok-next.ensures)
