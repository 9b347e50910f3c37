-- `transfers::find` meets its contract.
use native.Mathlib.Omega.{arith}
use Rattle.transfers.proofs.Filling.{filling-none, filling-same, filling_skip, filling-next, filling-end}
use Rattle.transfers.proofs.find.Goals.{else-loop-b-test, then-loop-b-test+in_default}
use Rattle.transfers.proofs.find.Goals as goal

pub loop-f-init : goal.loop-f-init
loop-f-init c = filling-none _ _ _

pub loop-b-init : goal.loop-b-init
loop-b-init c = filling-same _ _ _ _ c.loop-f.invariant (omega arith)

pub loop-b-preserved : goal.loop-b-preserved
loop-b-preserved c =
    filling-next _ _ _ _ _ _ c.loop-b-test.true c.loop-b.invariant c.loop-f-test.true c.in-Some.ensures c.behind.ensures

pub loop-f-preserved : goal.loop-f-preserved
loop-f-preserved c =
    elim c.loop-b-test.branch [
      | else-loop-b-test w ↦ filling-same _ _ _ _ c.loop-b.invariant (omega arith)
      | then-loop-b-test+in_default w ↦ filling_skip _ _ _ _ _ _ w.loop-b-test.true c.loop-b.invariant w.in_default.ensures
    ]

pub returns : goal.returns
returns c = filling-end _ _ _ _ _ c.loop-f.invariant c.loop-f-test.false
