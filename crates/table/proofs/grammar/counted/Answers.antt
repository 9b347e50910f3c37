-- `table::grammar::counted`: a count, then that many items.
use borrow.Author.Rules.{rules}
use Rattle.model.specs.Read as Read
use Rattle.table.proofs.Laws.{skips}
use Rattle.table.proofs.grammar.counted.Goals as goal

pub returns-in_err-n : goal.returns-in_err-n
unfolding Read.counted
returns-in_err-n g c = search (rules, skips, c.in_err-n.ensures)

pub returns : goal.returns
unfolding Read.counted
returns g c = search (rules, skips, c.in_ok-n.ensures)
