-- `table::sized`: test by test.
use native.Mathlib.Omega.{arith}
use Rattle.table.proofs.Answered.{too_short, too_long, in-limits}
use Rattle.table.proofs.sized.Goals.{then-s-lt6-via-then-s-lt6, then-s-lt6-via-else-s-lt6+then-most-s}
use Rattle.table.proofs.sized.Goals as goal

pub returns-then-s-lt6 : goal.returns-then-s-lt6
returns-then-s-lt6 c =
    elim c.then-s-lt6.branch [
      | then-s-lt6-via-then-s-lt6 w ↦ too_short _ _ _ w.if-s-lt6.true
      | then-s-lt6-via-else-s-lt6+then-most-s w ↦ too_long _ _ _ w.if-s-lt6.false (omega arith)
    ]

pub returns : goal.returns
returns c = in-limits _ _ _ (omega arith) (omega arith)
