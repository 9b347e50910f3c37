-- `table::grammar::body`: statements, a transfer.
use borrow.Author.Rules.{rules}
use Rattle.table.specs.Skips.{body}
use Rattle.table.proofs.Laws.{skip-else, skips}
use Rattle.table.proofs.grammar.body.Goals as goal

pub returns-in_err-m : goal.returns-in_err-m
unfolding body
returns-in_err-m c = skip-else _ _ _ _ _ _ c.in_err-m.ensures (search rules)

pub returns : goal.returns
unfolding body
returns c = search (rules, skips, c.in_ok-m.ensures)
