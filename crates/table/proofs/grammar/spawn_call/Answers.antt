-- `table::grammar::spawn_call`: a name, then arguments.
use borrow.Author.Rules.{rules}
use Rattle.model.specs.Read as Read
use Rattle.table.proofs.Laws.{skip-else, skips}
use Rattle.table.proofs.grammar.spawn_call.Goals as goal

pub returns-in_err-k : goal.returns-in_err-k
unfolding Read.spawn_call Read.arguments
returns-in_err-k c = skip-else _ _ _ _ _ _ c.in_err-k.ensures (search rules)

pub returns : goal.returns
unfolding Read.spawn_call Read.arguments
returns c = search (rules, skips, c.in_ok-k.ensures)
