-- `table::grammar::many`: the loop passes over the items one by one.
use borrow.Author.Rules.{rules}
use Rattle.table.proofs.Laws.{many-stops, loops}
use Rattle.table.proofs.grammar.many.Goals as goal

pub returns-in_err-k : goal.returns-in_err-k
returns-in_err-k g c = many-stops _ _ _ _ _ _ _ _ _ c.items.invariant c.in_err-k.ensures (search rules) c.items-test.true

pub items-preserved : goal.items-preserved
items-preserved g c = search (rules, loops, c.in_ok-k.ensures)

pub returns : goal.returns
returns g c = search (rules, loops)
