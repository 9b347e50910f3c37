-- The oldest unpromoted call: in the oldest frame that has one.
use Prim.Native.Nat.{ℕ, ◌+◌}
use mathlib.Core.Path.{◌≡◌, refl}
use mathlib.Core.Option.{none, some}
use mathlib.Core.List.{List, [], ◌∷◌, ◌++◌}
use lib.ListN.{get_elem?}
use Rattle.model.specs.Lists.{Each}
use Rattle.model.specs.Pool.{Frame}
use Rattle.model.specs.Frames.{deque}
use Rattle.model.specs.Rules.{promote_in, or_else, oldest}
use Rattle.model.proofs.Facts.{past-at}
use Rattle.steps.specs.Choice.{Done}

-- no frame has one
pub oldest-none : (K : List Frame) → Each Done K → oldest K ≡ none
unfolding oldest or_else promote_in
oldest-none [] h = refl
oldest-none (k ∷ K) h = rw (oldest-none K h.1, past-at k.calls k.promoted h.0)

-- the frame k has one, and no older frame
pub oldest-at : (K₁ : List Frame) (k : Frame) (K₂ : List Frame) (π : ℕ) → Each Done K₂ → get_elem? k.calls k.promoted ≡ some π
    → oldest (K₁ ++ k ∷ K₂) ≡ some (record { holder = k; call = π; frames = K₁ ++ deque k k.calls (k.promoted + 1) ∷ K₂ })
unfolding oldest or_else promote_in
oldest-at [] k K₂ π h e = rw (oldest-none K₂ h, e)
oldest-at (l ∷ K₁) k K₂ π h e = rw (oldest-at K₁ k K₂ π h e)
