-- `targets::adds` meets its contract.
use mathlib.Core.Path.{◌≡◌}
use mathlib.Core.Bool.{true, false}
use native.Mathlib.Omega.{arith}
use Rattle.targets.proofs.Nestings.{adds-differ, adds-not, adds_same}
use Rattle.targets.proofs.adds.Goals.{then-h-n, else-h-n}
use Rattle.targets.proofs.adds.Goals as goal

pub returns-then-same : goal.returns-then-same
returns-then-same c =
    elim c.if-h-n.branch [
      | then-h-n w ↦
          let z : w.same.result ≡ true = grind arith in
          adds_same _ _ _ _ _ w.if-h-n.true (omega arith) w.same.ensures z c.after.ensures c.byte.ensures
      | else-h-n w ↦ absurd (grind arith)
    ]

pub returns-else-same : goal.returns-else-same
returns-else-same c =
    rw c.if-same.false
    (elim c.if-h-n.branch [
      | then-h-n w ↦
          let z : w.same.result ≡ false = grind arith in
          adds-not _ _ _ _ _ w.if-h-n.true (omega arith) w.same.ensures z
      | else-h-n w ↦ adds-differ _ _ _ _ _ w.if-h-n.false
    ])
