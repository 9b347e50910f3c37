-- A thread that the words hold: its frames where they stand, its seven numbers, and how many children it has.
use Prim.Native.Nat.{ℕ, ◌+◌, ◌≤◌}
use native.Mathlib.Omega.{arith}
use mathlib.Core.Path.{◌≡◌, refl, sym, ap, subst, ◌∙◌}
use mathlib.Core.List.{List, [], ◌∷◌, ◌++◌, append_assoc}
use lib.IntN.{ℤ}
use lib.ListN.{length, length-take, length-drop}
use Rattle.model.specs.Lists.{Each}
use Rattle.model.specs.Text.{newline, decimal, part}
use Rattle.model.specs.Pool.{Frame, Thread, temporaries, frame_words, start_of, frames, children}
use Rattle.model.proofs.Facts.{each_right}
use Rattle.pool.specs.Frame.{Small}
use Rattle.pool.specs.Held.{FrameAt}
use Rattle.pool.specs.Edits.{frames_in}
use Rattle.pool.specs.InPlace.{frame_at, newest_at}
use Rattle.pool.proofs.InPlace.{frame-at, frame-held, newest-held}
use Rattle.pool.proofs.Steps.{frames-counted}
use Rattle.puts.specs.Puts.{Puts}
use Rattle.puts.proofs.Laws.{none, then, same}
use Rattle.views.specs.Lines.{indent, position, standing, bindings, values, line}
use Rattle.listing.specs.declared.Viewer.{Viewer}
use Rattle.listing.specs.declared.Viewer.TheVariants as viewer
use Rattle.listing.specs.Shown.{viewer_of, IsThread, CountsChildren, PutsStanding, PutsLine}

module _ {ws : List ℤ} {i : ℕ} {t : Thread} (h : IsThread ws i t) where
  -- the newest frame, and any frame
  pub newest-is : {k : ℕ} → k ≡ newest_at ws i → frame_at ws k ≡ t.newest
  newest-is e = ap (frame_at ws) e ∙ frame-at (newest-held h.thread h.small.0)

  pub frame_is : {j : ℕ} (K₁ : List Frame) (k : Frame) (K₂ : List Frame) {p : ℕ} → p ≡ start_of i j → frames t ≡ K₁ ++ k ∷ K₂
      → length K₂ ≡ j → frame_at ws p ≡ k
  frame_is {j} K₁ k K₂ e f l =
      let s : Small k = (each_right Small K₁ (k ∷ K₂) (subst (Each Small) f h.small)).0 in
      let x : FrameAt t j K₁ k K₂ = record { is = f; place = l } in
      ap (frame_at ws) e ∙ frame-at (frame-held h.thread x s)

-- the sixteen values of the frame at a place
pub values_length : (ws : List ℤ) (at : ℕ) → at + frame_words ≤ length ws → length (frame_at ws at).values ≡ temporaries
unfolding frame_at
values_length ws at h = simp (length-take, length-drop) (omega arith)

-- the seven numbers, and the line
module _ {ws : List ℤ} {i : ℕ} {out : List ℕ} {at : ℕ} where
  pub standing-put : {n k₀ k₁ k₂ : ℕ} {out₁ out₂ out₃ : List ℕ} {r : ℕ} → n ≡ frames_in ws i → k₀ ≡ newest_at ws i
      → Puts out at (decimal i) k₁ out₁ → Puts out₁ k₁ (part n) k₂ out₂ → Puts out₂ k₂ (position (frame_at ws k₀)) r out₃
      → PutsStanding ws i out at r out₃
  unfolding standing
  standing-put e f p q s t h =
      then (then p (same q (ap part (e ∙ frames-counted h.thread)))) (same s (ap position (newest-is h f)))

  pub line-put : (who : Viewer) (d : ℕ) {k₀ k₁ k₂ k₃ : ℕ} {out₁ out₂ out₃ out₄ : List ℕ} {r : ℕ} → k₀ ≡ newest_at ws i
      → Puts out at (indent d) k₁ out₁ → PutsStanding ws i out₁ k₁ k₂ out₂ → Puts out₂ k₂ (values (viewer_of who) (frame_at ws k₀)) k₃ out₃
      → Puts out₃ k₃ newline r out₄ → PutsLine who ws i d out at r out₄
  unfolding line
  line-put who d f p q s u t h = then (then (then p (q t h)) (same s (ap (values (viewer_of who)) (newest-is h f)))) u

-- the values that a viewer is shown
module _ (who : Viewer) (k : Frame) {out : List ℕ} {at : ℕ} where
  pub operators-values : who ≡ viewer.Operator → Puts out at (values (viewer_of who) k) at out
  unfolding values
  operators-values e = rw e none

  pub customers-values : {r : ℕ} {out' : List ℕ} → who ≡ viewer.Customer → Puts out at (bindings k.bound 0 k.values) r out'
      → Puts out at (values (viewer_of who) k) r out'
  unfolding values
  customers-values e p = rw e p

-- promoted calls of the oldest j frames
abbrev pub Counted : List ℤ → ℕ → ℕ → ℕ → Type 0
Counted ws i sum j =
    (t : Thread) → IsThread ws i t → (K₁ K₂ : List Frame) → frames t ≡ K₁ ++ K₂ → length K₂ ≡ j → sum ≡ children K₂

pub counted_none : (ws : List ℤ) (i : ℕ) → Counted ws i 0 0
unfolding children
counted_none ws i t h K₁ [] f l = refl
counted_none ws i t h K₁ (k ∷ K₂) f l = absurd (omega (arith, l))

pub counted-one : (ws : List ℤ) (i : ℕ) {sum j k p : ℕ} → Counted ws i sum j → k ≡ start_of i j → p ≡ (frame_at ws k).promoted
    → Counted ws i (sum + p) (j + 1)
unfolding children
counted-one ws i c f g t h K₁ [] x l = absurd (omega (arith, l))
counted-one ws i {sum} {j} {k} {p} c f g t h K₁ (q ∷ K₂) x l =
    let m : length K₂ ≡ j = omega (arith, l) in
    let a : sum ≡ children K₂ = c t h (K₁ ++ (q ∷ [])) K₂ (x ∙ sym (append_assoc K₁ (q ∷ []) K₂)) m in
    let b : p ≡ q.promoted = g ∙ ap (λ (o : Frame). o.promoted) (frame_is h K₁ q K₂ f x m) in
    omega (arith, a, b)

pub counted-all : (ws : List ℤ) (i : ℕ) {sum j n : ℕ} → Counted ws i sum j → n ≡ frames_in ws i → j ≡ n → CountsChildren ws i sum
counted-all ws i c e d t h = c t h [] (frames t) refl (sym (frames-counted h.thread) ∙ sym e ∙ sym d)
