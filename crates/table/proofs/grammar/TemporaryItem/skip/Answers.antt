-- `table::grammar::TemporaryItem::skip`: one byte.
use borrow.Author.Rules.{rules}
use Rattle.model.specs.Read as Read
use Rattle.table.proofs.Laws.{skips}
use Rattle.table.proofs.grammar.TemporaryItem.skip.Goals as goal

pub returns-in_err-next : goal.returns-in_err-next
unfolding Read.temporary
returns-in_err-next c = search (rules, skips, c.in_err-next.ensures)

pub returns : goal.returns
unfolding Read.temporary
returns c = search (rules, skips, c.in_ok-next.ensures)
