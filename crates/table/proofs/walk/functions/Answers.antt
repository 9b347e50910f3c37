-- `table::walk::functions`: the loop keeps the places of each function as it passes over them one by one.
use borrow.Author.Rules.{rules}
use Rattle.table.specs.Marks.{Kept}
use Rattle.table.proofs.Laws.{many-stops}
use Rattle.table.proofs.Marks.{walks, marks-go, kept-bad}
use Rattle.table.proofs.walk.functions.Goals as goal

pub returns-in_err-k : goal.returns-in_err-k
returns-in_err-k c = (
  many-stops _ _ _ _ _ _ _ _ _ c.loop-f.invariant.0 c.in_err-k.ensures.0 (search rules) c.loop-f-test.true,
  kept-bad _ _ _ (search rules),
)

pub loop-f-preserved : goal.loop-f-preserved
unfolding Kept
loop-f-preserved c =
    let (passed, kept) = c.in_ok-k.ensures in
    (search walks, marks-go _ _ _ _ _ _ _ _ _ _ _ _ c.loop-f.invariant.1 passed c.loop-f-test.true kept)

pub returns : goal.returns
unfolding Kept
returns c = (search walks, search walks)
