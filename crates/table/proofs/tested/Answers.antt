-- `table::tested`: the places are those of the walk, or none.
use native.Mathlib.Omega.{arith}
use Rattle.table.proofs.Answered.{kept-places, no-places}
use Rattle.table.proofs.tested.Goals as goal

pub returns-then-is_err : goal.returns-then-is_err
returns-then-is_err c =
    rw c.clear.ensures (no-places _ _ _ _ _ _ _ _ c.walked-answer.ensures (λ i. grind arith) (grind arith))

pub returns-else-is_err : goal.returns-else-is_err
returns-else-is_err c = kept-places _ _ _ _ _ _ _ _ c.walked-answer.ensures (λ i. grind arith) (grind arith)
