-- `complete::reached` meets its contract.
use mathlib.Core.Path.{◌≡◌}
use lib.ListN.{length}
use Rattle.complete.proofs.Reaching.{ReachedFrom}
use Rattle.complete.proofs.reached.Given as goal

abbrev pub invariant-loop-f : goal.invariant-loop-f
invariant-loop-f l = (length l.words ≡ length l.initial.words) × ReachedFrom l.s l.places l.transfers l.initial.words l.f
