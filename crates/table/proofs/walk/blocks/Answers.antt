-- `table::walk::blocks`: the loop keeps the place of each and the length of its head, as it passes over them one by one.
use mathlib.Core.Path.{ap}
use native.Mathlib.Omega.{arith}
use borrow.Author.Rules.{rules}
use Rattle.table.specs.Marks.{Kept, Along}
use Rattle.table.proofs.Laws.{many-goes, many-stops, many-ends}
use Rattle.table.proofs.Marks.{marks-go, marks-end, block-else, block-then, block-kept, kept-bad}
use Rattle.table.proofs.Placed.{head-takes}
use Rattle.table.proofs.walk.blocks.Goals as goal

-- a head is bad
pub returns-in_err-code : goal.returns-in_err-code
returns-in_err-code c = (
  many-stops _ _ _ _ _ _ _ _ _ c.loop-j.invariant.0 (block-else _ _ _ _ c.in_err-code.ensures) (search rules) c.loop-j-test.true,
  kept-bad _ _ _ (search rules),
)

pub overflow_sub-length : goal.overflow_sub-length
overflow_sub-length c = (head-takes c.args.version _ _ _ c.in_ok-code.ensures).0

pub mark_head-requires : goal.mark_head-requires
mark_head-requires c =
    let takes = head-takes c.args.version _ _ _ c.in_ok-code.ensures in
    (search rules, grind arith, search rules, omega arith)

-- what follows a head is bad
pub returns-in_err-k : goal.returns-in_err-k
returns-in_err-k c = (
  many-stops _ _ _ _ _ _ _ _ _ c.loop-j.invariant.0 (block-then _ _ _ _ c.in_ok-code.ensures _ c.in_err-k.ensures) (search rules)
      c.loop-j-test.true,
  kept-bad _ _ _ (search rules),
)

pub loop-j-preserved : goal.loop-j-preserved
loop-j-preserved c =
    let head = c.in_ok-code.ensures in
    let takes = head-takes c.args.version _ _ _ head in
    let passed = block-then _ _ _ _ head _ c.in_ok-k.ensures in (
      many-goes _ _ _ _ _ _ _ _ c.loop-j.invariant.0 passed c.loop-j-test.true,
      marks-go _ _ _ _ _ _ _ _ _ _ _ _ c.loop-j.invariant.1 passed c.loop-j-test.true
          (block-kept _ _ _ _ head _ _ _ _ _ _ c.mark_block.ensures c.mark_head.ensures),
      omega arith,
    )

pub returns : goal.returns
unfolding Kept
returns c =
    let loop = c.loop-j in (
      many-ends _ _ _ _ _ _ _ loop.invariant.0 (grind arith),
      ap (λ (σ : Along). σ.places) (marks-end _ _ _ _ _ _ _ _ _ _ loop.invariant.1 (grind arith)),
    )
