-- `valid::frames`: the frames from `left` on are right, and have `sum` promoted calls.
use Prim.Native.Nat.{◌+◌, ◌*◌, ◌≤◌}
use mathlib.Core.Path.{◌≡◌}
use mathlib.Core.Bool.{true}
use Rattle.model.specs.Syntax.{Program}
use Rattle.model.specs.Pool.{most_frames, frame_words}
use Rattle.places.specs.Places.{Places}
use Rattle.valid.specs.Judged.{beyond, lasts, fine, promotions}
use Rattle.valid.proofs.frames.Given as goal

abbrev pub invariant-loop-left : goal.invariant-loop-left
invariant-loop-left l = (l.left ≤ l.n) ×
    (l.sum + l.left * beyond ≤ most_frames * beyond) ×
    (promotions (lasts frame_words l.n l.ws) ≡ l.sum + promotions (lasts frame_words l.left l.ws)) ×
    ((P : Program) → Places l.s P l.places
    → fine P true true (lasts frame_words l.n l.ws) ≡ fine P l.newest l.free (lasts frame_words l.left l.ws))
