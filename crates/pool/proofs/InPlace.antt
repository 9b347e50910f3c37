-- A frame in place: the frame that its words say, what a change of it leaves, and its place in the pool.
use Prim.Native.Nat.{ℕ, ◌+◌, ◌≤◌}
use mathlib.Core.Path.{◌≡◌, refl, sym, ap, subst⁻¹, ◌∙◌}
use mathlib.Core.List.{List, [], ◌∷◌, ◌++◌, append_assoc}
use native.Mathlib.Omega.{arith}
use lib.IntN.{ℤ}
use lib.ListN.{length, take, drop}
use lib.Seq.{length-take-le}
use Rattle.model.specs.Pool.{Frame, Thread, Pool, frame_words, start_of, restacked, words_of_frame}
use Rattle.model.proofs.Words.{frame-length}
use Rattle.words.specs.Runs.{pasted}
use Rattle.pool.specs.Held.{ThreadAt, FrameAt}
use Rattle.pool.specs.Frame.{Small}
use Rattle.pool.specs.InPlace.{frame_at, newest_at, FrameHeld, Became}
use Rattle.pool.proofs.Parts.{parts, middle, paste-again}
use Rattle.pool.proofs.Words.{frame-said}
use Rattle.pool.proofs.Edits.{frame-read, frame-replaced}
use Rattle.pool.proofs.Steps.{frames-counted}

pub frame-at : {ws : List ℤ} {at : ℕ} {k : Frame} → FrameHeld ws at k → frame_at ws at ≡ k
frame-at {ws} {at} {k} h = frame-said ws at k h.small h.words

-- the words at a place are its own, and what was put there stands there
pub held-pasted : {ws : List ℤ} {at : ℕ} {k : Frame} → FrameHeld ws at k → ws ≡ pasted ws at (words_of_frame k)
unfolding pasted
held-pasted {ws} {at} {k} h =
    let n : frame_words ≡ length (words_of_frame k) = sym (frame-length h.small.fits) in
    parts ws at frame_words
    ∙ ap (λ (w : List ℤ). take at ws ++ (w ++ drop (at + frame_words) ws)) h.words
    ∙ ap (λ (m : ℕ). take at ws ++ (words_of_frame k ++ drop (at + m) ws)) n
    ∙ sym (append_assoc (take at ws) (words_of_frame k) (drop (at + length (words_of_frame k)) ws))

pub held-became : {ws : List ℤ} {at : ℕ} {k : Frame} → FrameHeld ws at k → Became ws at k ws
held-became h = record { small = h.small; words = held-pasted h }

pub became-held : {ws ws' : List ℤ} {at : ℕ} {k : Frame} → at + frame_words ≤ length ws → Became ws at k ws' → FrameHeld ws' at k
unfolding pasted
became-held {ws} {ws'} {at} {k} l b =
    let R : List ℤ = drop (at + length (words_of_frame k)) ws in
    record {
      small = b.small;
      words =
          ap (λ (w : List ℤ). take frame_words (drop at w)) (b.words ∙ append_assoc (take at ws) (words_of_frame k) R)
          ∙ middle (take at ws) (words_of_frame k) R at frame_words (length-take-le at ws (omega arith)) (frame-length b.small.fits);
    }

-- two changes, one after the other
pub became-then : {ws ws' ws'' : List ℤ} {at : ℕ} {k m : Frame} → at + frame_words ≤ length ws → Became ws at k ws' → Became ws' at m ws''
    → Became ws at m ws''
became-then {ws} {ws'} {ws''} {at} {k} {m} l b c =
    let n : length (words_of_frame k) ≡ frame_words = frame-length b.small.fits in
    let n' : length (words_of_frame m) ≡ frame_words = frame-length c.small.fits in
    record {
      small = c.small;
      words =
          c.words
          ∙ ap (λ (w : List ℤ). pasted w at (words_of_frame m)) b.words
          ∙ paste-again ws (words_of_frame k) (words_of_frame m) at (omega arith) (omega arith);
    }

-- a frame of a thread that words hold stands at its place
pub frame-held : {ws : List ℤ} {i j : ℕ} {a b : Pool} {t : Thread} {K₁ K₂ : List Frame} {k : Frame}
    → ThreadAt ws i a t b → FrameAt t j K₁ k K₂ → Small k → FrameHeld ws (start_of i j) k
frame-held {ws} {i} {j} h e s = record { small = s; words = frame-read h e (start_of i j) refl }

newest-at : (t : Thread) → FrameAt t (length t.older) [] t.newest t.older
newest-at t = record { is = refl; place = refl }

pub newest-start : {ws : List ℤ} {i : ℕ} {a b : Pool} {t : Thread} → ThreadAt ws i a t b → newest_at ws i ≡ start_of i (length t.older)
newest-start h = omega (arith, frames-counted h)

pub newest-held : {ws : List ℤ} {i : ℕ} {a b : Pool} {t : Thread} → ThreadAt ws i a t b → Small t.newest
    → FrameHeld ws (newest_at ws i) t.newest
newest-held {ws} {i} {a} {b} {t} h s =
    subst⁻¹ (λ (p : ℕ). FrameHeld ws p t.newest) (newest-start h) (frame-held h (newest-at t) s)

-- the newest frame has become another
pub newest-became : {ws ws' : List ℤ} {i : ℕ} {a b : Pool} {t : Thread} {k : Frame}
    → ThreadAt ws i a t b → Became ws (newest_at ws i) k ws' → ThreadAt ws' i a (restacked t (k ∷ t.older)) b
newest-became {ws} {ws'} {i} {a} {b} {t} {k} h c =
    subst⁻¹ (λ (l : List ℤ). ThreadAt l i a (restacked t (k ∷ t.older)) b) c.words
    (frame-replaced h (newest-at t) k c.small.fits (newest_at ws i) (newest-start h))
