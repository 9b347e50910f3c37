-- `depth::deepest` meets its contract.
use Prim.Native.Nat.{max}
use mathlib.Core.Path.{◌≡◌}
use native.Mathlib.Omega.{arith}
use Rattle.depth.proofs.Loops.{all_first, all-endless, all-on, all_end}
use borrow.Author.Rules.{rules}
use Rattle.depth.proofs.deepest.Goals as goal

pub loop-f-init : goal.loop-f-init
loop-f-init c = (search rules, search all_first)

pub returns-in_err-d : goal.returns-in_err-d
returns-in_err-d c = rw c.from_residual.ensures (search (all-endless, c.in_err-d.was))

pub loop-f-preserved : goal.loop-f-preserved
loop-f-preserved c =
    let m : c.max-most.result ≡ max c.loop-f.most c.in_ok-d.d = grind arith in
    (search rules, search (all-on, c.in_ok-d.was))

pub returns : goal.returns
returns c = let l = c.loop-f in all_end _ _ _ l.known _ _ l.invariant.1 c.loop-f-test.false
