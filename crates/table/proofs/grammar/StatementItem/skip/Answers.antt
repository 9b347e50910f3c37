-- `table::grammar::StatementItem::skip`: a target, then an expression.
use borrow.Author.Rules.{rules}
use Rattle.model.specs.Read as Read
use Rattle.table.proofs.Laws.{skip-else, skips}
use Rattle.table.proofs.grammar.StatementItem.skip.Goals as goal

pub returns-in_err-k : goal.returns-in_err-k
unfolding Read.statement
returns-in_err-k c = skip-else _ _ _ _ _ _ c.in_err-k.ensures (search rules)

pub returns : goal.returns
unfolding Read.statement
returns c = search (rules, skips, c.in_ok-k.ensures)
