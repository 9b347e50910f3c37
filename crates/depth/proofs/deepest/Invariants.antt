-- `depth::deepest` meets its contract.
use mathlib.Core.Path.{◌≡◌}
use lib.ListN.{length}
use Rattle.places.specs.Layout as Layout
use Rattle.depth.proofs.Loops.{AllLeft}
use Rattle.depth.proofs.deepest.Given as goal

abbrev pub invariant-loop-f : goal.invariant-loop-f
invariant-loop-f l = (length l.known ≡ Layout.functions) × AllLeft l.s l.places l.n l.known l.most l.f

abbrev pub decreases-loop-f : goal.decreases-loop-f
decreases-loop-f l = l.f
