-- `table::walk::function`: its own place, its numbers, its spawn calls, its blocks.
use borrow.Author.Rules.{rules}
use Rattle.table.proofs.Marks.{kept-bad, few, function-then, function-else, function-kept, function-lacks}
use Rattle.table.proofs.walk.function.Goals as goal

pub spawns-requires : goal.spawns-requires
spawns-requires c =
    let w = few _ _ _ c.in_ok-sizes.ensures in
    (search rules, w.spawns)

pub blocks-requires : goal.blocks-requires
blocks-requires c =
    let w = few _ _ _ c.in_ok-sizes.ensures in
    (search rules, w.blocks)

-- all was passed over, or its blocks were not
pub returns : goal.returns
returns c =
    let is = c.in_ok-sizes.ensures in
    let (passed, kept) = c.in_ok-block.ensures in (
      function-then _ _ _ _ is _ passed _ c.blocks-2.ensures.0,
      function-kept _ _ _ _ is _ passed _ _ _ _ _ _ c.mark_function.ensures kept c.blocks-2.ensures.1,
    )

-- a spawn call is bad
pub returns-in_err-block : goal.returns-in_err-block
returns-in_err-block c = (
  function-else _ _ _ _ c.in_ok-sizes.ensures _ _ c.in_err-block.ensures.0 (search rules),
  kept-bad _ _ _ (search rules),
)

-- a number is bad
pub returns-in_err-sizes : goal.returns-in_err-sizes
returns-in_err-sizes c = (function-lacks _ _ _ _ _ c.in_err-sizes.ensures (search rules), kept-bad _ _ _ (search rules))
