-- The frame that words say.
use Prim.Native.Nat.{ℕ, ◌+◌, ◌%◌, ◌≤◌, ◌<◌}
use mathlib.Core.Path.{◌≡◌, refl, sym, ap, ◌∙◌}
use mathlib.Core.List.{List, [], ◌∷◌, ◌++◌, map}
use native.Mathlib.Omega.{arith}
use lib.Dec.{lit≤}
use lib.IntN.{ℤ, pos}
use lib.ListN.{length, get_or, take, drop, length-drop, take-append-drop}
use lib.Seq.{get_or-take, get_or-drop, drop-drop, take-append-le, drop-append-le}
use mir.Syntax.{w32}
use mir.Val.{to_z, of_z}
use mir.Facts.{to_z_pos}
use Rattle.model.specs.Lists.{Each, pad}
use Rattle.model.specs.Pool.{Frame, temporaries, most_calls, function_at, block_at, done_at, bound_at, opened_at}
use Rattle.model.specs.Pool.{promoted_at, calls_at, values_at, frame_words, words_of_frame, frame_of}
use Rattle.model.specs.Valid.{FrameFits}
use Rattle.model.proofs.Words.{frame-length, frame_back}
use Rattle.pool.specs.Held.{bits_at, bytes_from}
use Rattle.pool.specs.Frame.{Small}
use Rattle.pool.specs.InPlace.{frame_at}

-- a number that the code writes as a word
pub word : (n : ℕ) → n < 65536 → to_z w32 n ≡ pos n
word n h = to_z_pos w32 (omega arith)

-- the word at a place of a frame's words
module _ (ws : List ℤ) (at : ℕ) (k : Frame) (e : take frame_words (drop at ws) ≡ words_of_frame k) where
  pub word_at : (j : ℕ) → j < frame_words → bits_at ws (at + j) ≡ of_z w32 (get_or (words_of_frame k) j (pos 0))
  word_at j h =
      ap (of_z w32)
      (sym (get_or-drop at ws j (pos 0)) ∙ sym (get_or-take frame_words (drop at ws) j (pos 0) h)
      ∙ ap (λ (l : List ℤ). get_or l j (pos 0)) e)

  values-at : FrameFits k → take temporaries (drop (at + values_at) ws) ≡ k.values
  unfolding frame_of
  values-at f =
      let d : List ℤ = drop at ws in
      let w : List ℤ = take frame_words d in
      ap (take temporaries) (sym (drop-drop values_at at ws))
      ∙ ap (λ (l : List ℤ). take temporaries (drop values_at l)) (sym (take-append-drop frame_words d))
      ∙ ap (take temporaries) (drop-append-le values_at w (drop frame_words d) (omega (arith, ap length e, frame-length f)))
      ∙ take-append-le temporaries (drop values_at w) (drop frame_words d) (simp length-drop (omega (arith, ap length e, frame-length f)))
      ∙ ap (λ (l : List ℤ). take temporaries (drop values_at l)) e
      ∙ ap (λ (m : Frame). m.values) (frame_back f)

-- four bytes that were calls
calls_back : (ρ : List ℕ) (v̄ : List ℤ) → length ρ ≤ most_calls → Each (λ π. π < 256) ρ → (b₀ b₁ b₂ b₃ : ℕ)
    → b₀ ≡ of_z w32 (get_or (pad most_calls (pos 0) (map pos ρ) ++ v̄) 0 (pos 0)) % 256
    → b₁ ≡ of_z w32 (get_or (pad most_calls (pos 0) (map pos ρ) ++ v̄) 1 (pos 0)) % 256
    → b₂ ≡ of_z w32 (get_or (pad most_calls (pos 0) (map pos ρ) ++ v̄) 2 (pos 0)) % 256
    → b₃ ≡ of_z w32 (get_or (pad most_calls (pos 0) (map pos ρ) ++ v̄) 3 (pos 0)) % 256
    → take (length ρ) (b₀ ∷ b₁ ∷ b₂ ∷ b₃ ∷ []) ≡ ρ
unfolding pad
calls_back [] v̄ h g b₀ b₁ b₂ b₃ e₀ e₁ e₂ e₃ = refl
calls_back (x ∷ []) v̄ h g b₀ b₁ b₂ b₃ e₀ e₁ e₂ e₃ =
    let p : b₀ ≡ x = omega (arith, g.0) in
    λ i. p i ∷ []
calls_back (x ∷ y ∷ []) v̄ h g b₀ b₁ b₂ b₃ e₀ e₁ e₂ e₃ =
    let p : b₀ ≡ x = omega (arith, g.0) in
    let q : b₁ ≡ y = omega (arith, g.1.0) in
    λ i. p i ∷ q i ∷ []
calls_back (x ∷ y ∷ z ∷ []) v̄ h g b₀ b₁ b₂ b₃ e₀ e₁ e₂ e₃ =
    let p : b₀ ≡ x = omega (arith, g.0) in
    let q : b₁ ≡ y = omega (arith, g.1.0) in
    let r : b₂ ≡ z = omega (arith, g.1.1.0) in
    λ i. p i ∷ q i ∷ r i ∷ []
calls_back (x ∷ y ∷ z ∷ w ∷ []) v̄ h g b₀ b₁ b₂ b₃ e₀ e₁ e₂ e₃ =
    let p : b₀ ≡ x = omega (arith, g.0) in
    let q : b₁ ≡ y = omega (arith, g.1.0) in
    let r : b₂ ≡ z = omega (arith, g.1.1.0) in
    let s : b₃ ≡ w = omega (arith, g.1.1.1.0) in
    λ i. p i ∷ q i ∷ r i ∷ s i ∷ []
calls_back (x ∷ y ∷ z ∷ w ∷ u ∷ ρ) v̄ h g b₀ b₁ b₂ b₃ e₀ e₁ e₂ e₃ = absurd (omega arith)

-- the frame that words say is the one whose words they are
pub frame-said : (ws : List ℤ) (at : ℕ) (k : Frame) → Small k → take frame_words (drop at ws) ≡ words_of_frame k → frame_at ws at ≡ k
unfolding frame_at words_of_frame
frame-said ws at k s e =
    let n : length k.calls ≤ most_calls = s.fits.calls in
    let byte : (j : ℕ) → j < frame_words → bits_at ws (at + j) % 256 ≡ of_z w32 (get_or (words_of_frame k) j (pos 0)) % 256 =
    λ j h. ap (λ (m : ℕ). m % 256) (word_at ws at k e j h)
    in
    let call : (j : ℕ) → calls_at + j < frame_words
    → bits_at ws (at + calls_at + j) % 256 ≡ of_z w32 (get_or (words_of_frame k) (calls_at + j) (pos 0)) % 256 =
    λ j h. ap (λ (p : ℕ). bits_at ws p % 256) (omega arith) ∙ byte (calls_at + j) h
    in
    let p₀ : bits_at ws (at + function_at) % 256 ≡ k.function = omega (arith, byte function_at (lit≤ tt), s.function) in
    let p₁ : bits_at ws (at + block_at) % 256 ≡ k.block = omega (arith, byte block_at (lit≤ tt), s.block) in
    let p₂ : bits_at ws (at + done_at) % 256 ≡ k.done = omega (arith, byte done_at (lit≤ tt), s.done) in
    let p₃ : bits_at ws (at + bound_at) % 65536 ≡ k.bound = omega (arith, word_at ws at k e bound_at (lit≤ tt), s.bound) in
    let p₄ : bits_at ws (at + opened_at) % 256 ≡ length k.calls = omega (arith, byte opened_at (lit≤ tt)) in
    let p₅ : bits_at ws (at + promoted_at) % 256 ≡ k.promoted = omega (arith, byte promoted_at (lit≤ tt), s.promoted) in
    let p₆ : take (bits_at ws (at + opened_at) % 256) (bytes_from ws (at + calls_at)) ≡ k.calls =
    rw p₄ (calls_back k.calls k.values n s.calls _ _ _ _ (byte calls_at (lit≤ tt)) (call 1 (lit≤ tt)) (call 2 (lit≤ tt))
    (call 3 (lit≤ tt)))
    in
    let p₇ : take temporaries (drop (at + values_at) ws) ≡ k.values = values-at ws at k e s.fits in
    λ i.
    record {
      function = p₀ i;
      block = p₁ i;
      done = p₂ i;
      bound = p₃ i;
      calls = p₆ i;
      promoted = p₅ i;
      values = p₇ i;
    }
