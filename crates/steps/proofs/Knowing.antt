-- What is known of a thread of a valid pool: its frames are small and stand at their places, and its newest frame acts as was found.
use Prim.Native.Nat.{ℕ, ◌+◌}
use mathlib.Core.Path.{◌≡◌, ap, subst, subst⁻¹, ◌∙◌}
use mathlib.Core.List.{List, [], ◌∷◌, ◌++◌, append_assoc}
use lib.IntN.{ℤ}
use Rattle.model.specs.Lists.{Each}
use Rattle.model.specs.Syntax.{Program}
use Rattle.model.specs.Pool.{Frame, Thread, Pool, start_of, frames}
use Rattle.model.specs.Rules.{act}
use Rattle.model.proofs.Facts.{each_right}
use Rattle.model.specs.Valid.{IsThread, IsPool}
use Rattle.pool.specs.Frame.{Small}
use Rattle.pool.specs.Held.{FrameAt}
use Rattle.pool.specs.InPlace.{frame_at, newest_at}
use Rattle.pool.proofs.Pools.{small-thread}
use Rattle.pool.proofs.InPlace.{frame-at, frame-held, newest-held}
use Rattle.std.specs.Prelude.{Result}
use Rattle.answers.specs.declared.No.{No}
use Rattle.rules.specs.declared.Action.{Action}
use Rattle.rules.specs.Acts.{Is, next_of, arguments_of, Passes, Acts}
use Rattle.steps.specs.Choice.{Known}
use Rattle.steps.proofs.Writing.{next-thread}

module _ {s places : List ℕ} {ws : List ℤ} {i : ℕ} {P : Program} {a : Pool} {t : Thread} {b : Pool} (h : Known s places ws i P a t b) where
  is-thread : IsThread P t
  is-thread = (each_right (IsThread P) a (t ∷ b) h.valid.each).0

  pub small-frames : Each Small (frames t)
  small-frames = small-thread h.table.limits is-thread

  pub small_at : {j : ℕ} {K₁ : List Frame} {k : Frame} {K₂ : List Frame} → FrameAt t j K₁ k K₂ → Small k
  small_at {j} {K₁} {k} {K₂} e = (each_right Small K₁ (k ∷ K₂) (subst (Each Small) e.is small-frames)).0

  -- the newest frame, and any frame, where it stands
  pub newest-is : {k : ℕ} → k ≡ newest_at ws i → frame_at ws k ≡ t.newest
  newest-is e = ap (frame_at ws) e ∙ frame-at (newest-held h.thread small-frames.0)

  pub frame_is : {j : ℕ} {K₁ : List Frame} {k : Frame} {K₂ : List Frame} {p : ℕ} → p ≡ start_of i j → FrameAt t j K₁ k K₂
      → frame_at ws p ≡ k
  frame_is e x = ap (frame_at ws) e ∙ frame-at (frame-held h.thread x (small_at x))

  -- what the newest frame does
  pub acts-as : (r : Result Action No) (out₀ out : List ℤ) {k : ℕ} → k ≡ newest_at ws i → Acts s places (frame_at ws k) out₀ r out
      → Is s t.newest out r (act P t.newest)
  acts-as r out₀ out e q =
      (subst (λ (m : Frame). Passes s m (arguments_of (next_of P m)) out₀ r out (act P m)) (newest-is e) (q P h.table)).is

-- the thread directly behind
pub next_known : {s places : List ℕ} {ws : List ℤ} {i : ℕ} {P : Program} {a : Pool} {t u : Thread} {b : Pool}
    → Known s places ws i P a t (u ∷ b) → Known s places ws (i + 1) P (a ++ (t ∷ [])) u b
next_known {s} {places} {ws} {i} {P} {a} {t} {u} {b} h =
    record { table = h.table; thread = next-thread h.thread; valid = subst⁻¹ (IsPool P) (append_assoc a (t ∷ []) (u ∷ b)) h.valid }
