-- `table::walk::spawns`: the loop keeps the place of each as it passes over them one by one.
use borrow.Author.Rules.{rules}
use Rattle.table.specs.Marks.{Kept}
use Rattle.table.proofs.Laws.{many-stops}
use Rattle.table.proofs.Marks.{walks, kept-bad}
use Rattle.table.proofs.walk.spawns.Goals as goal

pub returns-in_err-k : goal.returns-in_err-k
returns-in_err-k c = (
  many-stops _ _ _ _ _ _ _ _ _ c.loop-j.invariant.0 c.in_err-k.ensures (search rules) c.loop-j-test.true,
  kept-bad _ _ _ (search rules),
)

pub loop-j-preserved : goal.loop-j-preserved
loop-j-preserved c = (search (walks, c.in_ok-k.ensures), search (walks, c.in_ok-k.ensures))

pub returns : goal.returns
unfolding Kept
returns c = (search walks, search walks)
