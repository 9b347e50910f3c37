-- Edits of the words that hold a pool, and the pool that they hold afterwards.
use Prim.Native.Nat.{ℕ, suc, ◌+◌, ◌*◌, ◌-◌, ◌≤◌, ◌<◌}
use mathlib.Core.Path.{◌≡◌, refl, sym, ap, subst, ◌∙◌}
use mathlib.Core.List.{List, [], ◌∷◌, ◌++◌, reverse, reverse-cons, append_assoc, append-nil}
use native.Mathlib.Omega.{arith}
use lib.IntN.{ℤ, pos}
use lib.ListN.{length, take, drop, set, length-append, length-set, length-reverse, length-replicate, replicate-append-replicate}
use lib.Seq.{take_all, set-append_left}
use Rattle.model.specs.Lists.{Each, concat}
use Rattle.model.specs.Pool.{Frame, Thread, Pool, most_frames, frame_words, frame_count_at, frames_at, thread_words, thread_start}
use Rattle.model.specs.Pool.{start_of, frames}
use Rattle.model.specs.Pool.{restacked, begin, words_of_frame, thread_head, words_of_thread, words_of}
use Rattle.model.specs.Valid.{FrameFits, ThreadFits, PoolFits}
use Rattle.model.proofs.Facts.{each_right}
use Rattle.model.proofs.Valid.{restacked-frames}
use Rattle.model.proofs.Words.{each-reverse, frame-length, head-length, head-restacked, head-kept, thread-length, empty-fits, empty-words}
use Rattle.words.specs.Runs.{pasted, cleared}
use Rattle.pool.specs.Held.{ThreadAt, FrameAt}
use Rattle.pool.proofs.Parts.{zeros, paste-parts, paste_all, cleared-pasted}
use Rattle.pool.proofs.Places.{written_one, frames_words, frames-length, thread-parts, Around, around, within-fits, around-fits}
use Rattle.pool.proofs.Places.{within, pool-within, paste-in, read-in, set-in, Beside, beside, beside-fits, amid, thread-amid}
use Rattle.pool.proofs.Places.{paste-amid, read-amid}

-- one frame of a thread of a pool
pub record Slot (a b : Pool) (t : Thread) (K₁ K₂ : List Frame) (k : Frame) : Type 0 where
  pub pool : Around a b
  pub thread : Beside K₁ K₂
  pub is : frames t ≡ K₁ ++ k ∷ K₂
  pub fits : FrameFits k

module _ {a b : Pool} {t : Thread} {K₁ K₂ : List Frame} {k : Frame} where
  pub slot : {d : List ℤ} {i j : ℕ} → ThreadAt d i a t b → FrameAt t j K₁ k K₂ → Slot a b t K₁ K₂ k
  slot h e =
      let f = within-fits a b t h.held.fits in
      let g : Each FrameFits (K₁ ++ k ∷ K₂) = subst (Each FrameFits) e.is f.each in
      record {
        pool = around a b t h.held.fits;
        thread = beside t K₁ K₂ k e.is f;
        is = e.is;
        fits = (each_right FrameFits K₁ (k ∷ K₂) g).0;
      }

  pub slot-thread : Slot a b t K₁ K₂ k → ThreadFits t
  slot-thread s = beside-fits t K₁ K₂ k s.is s.thread s.fits

  pub slot-pool : Slot a b t K₁ K₂ k → PoolFits (a ++ t ∷ b)
  slot-pool s = around-fits a b t s.pool (slot-thread s)

  -- the pool's words around the frame's
  slot-words : Slot a b t K₁ K₂ k → words_of (a ++ t ∷ b) ≡ within a b (amid (thread_head t) K₁ K₂ (words_of_frame k))
  slot-words s =
      pool-within a b t s.pool (slot-thread s) ∙ ap (within a b) (thread-amid t K₁ K₂ k s.is s.thread s.fits)

  amid-length : Slot a b t K₁ K₂ k → length (amid (thread_head t) K₁ K₂ (words_of_frame k)) ≡ thread_words
  amid-length s = ap length (sym (thread-amid t K₁ K₂ k s.is s.thread s.fits)) ∙ thread-length (slot-thread s)

  pub slot_read : Slot a b t K₁ K₂ k
      → take frame_words (drop (start_of (length a) (length K₂)) (words_of (a ++ t ∷ b))) ≡ words_of_frame k
  slot_read s =
      let at : ℕ = start_of (length a) (length K₂) in
      let off : ℕ = frames_at + frame_words * length K₂ in
      let W : List ℤ = amid (thread_head t) K₁ K₂ (words_of_frame k) in
      let l : off + frame_words ≤ length W = omega (arith, amid-length s, s.thread.few) in
      let n : length (words_of_frame k) ≡ frame_words = frame-length s.fits in
      ap (λ (d : List ℤ). take frame_words (drop at d)) (slot-words s)
      ∙ read-in a b W at off s.pool (omega arith) frame_words l
      ∙ read-amid (thread_head t) K₁ K₂ (words_of_frame k) off 0 (head-length t) s.thread (omega arith) frame_words (omega arith)
      ∙ take_all frame_words (words_of_frame k) (omega arith)

  -- a paste into the frame's words
  pub slot-pasted : Slot a b t K₁ K₂ k → (ws : List ℤ) (at off : ℕ) → at ≡ start_of (length a) (length K₂) + off
      → off + length ws ≤ frame_words
      → pasted (words_of (a ++ t ∷ b)) at ws ≡ within a b (amid (thread_head t) K₁ K₂ (pasted (words_of_frame k) off ws))
  slot-pasted s ws at off e h =
      let H : List ℤ = thread_head t in
      let p : ℕ = frames_at + frame_words * length K₂ + off in
      let l : p + length ws ≤ length (amid H K₁ K₂ (words_of_frame k)) = omega (arith, amid-length s, s.thread.few) in
      ap (λ (d : List ℤ). pasted d at ws) (slot-words s)
      ∙ paste-in a b (amid H K₁ K₂ (words_of_frame k)) at p s.pool (omega arith) ws l
      ∙ ap (within a b)
      (paste-amid H K₁ K₂ (words_of_frame k) p off (head-length t) s.thread refl ws (omega (arith, frame-length s.fits)))

-- one frame's words are edited
module _ {a b : Pool} {t : Thread} {K₁ K₂ : List Frame} {k : Frame} {d : List ℤ} {i j : ℕ} (h : ThreadAt d i a t b)
    (e : FrameAt t j K₁ k K₂) (k' : Frame) (f : FrameFits k') where
  abbrev edited : Thread
  edited = restacked t (K₁ ++ k' ∷ K₂)

  edited-slot : Slot a b edited K₁ K₂ k'
  edited-slot =
      let s = slot h e in
      let e = restacked-frames t (K₁ ++ k' ∷ K₂) (omega (arith, length-append K₁ (k' ∷ K₂))) in
      record { pool = s.pool; thread = s.thread; is = e; fits = f }

  edited-head : thread_head edited ≡ thread_head t
  edited-head = head-kept t (K₁ ++ k' ∷ K₂) (length-append K₁ (k' ∷ K₂) ∙ sym (length-append K₁ (k ∷ K₂)) ∙ ap length (sym e.is))

  pub frame-edited : (ws : List ℤ) (at off : ℕ) → at ≡ start_of i j + off → off + length ws ≤ frame_words
      → pasted (words_of_frame k) off ws ≡ words_of_frame k' → ThreadAt (pasted d at ws) i a edited b
  frame-edited ws at off p l q =
      record {
        held = record {
          words =
              ap (λ (w : List ℤ). pasted w at ws) h.held.words
              ∙ slot-pasted (slot h e) ws at off (omega (arith, h.place, e.place)) l
              ∙ (λ n. within a b (amid (sym edited-head n) K₁ K₂ (q n)))
              ∙ sym (slot-words edited-slot);
          fits = slot-pool edited-slot;
        };
        place = h.place;
      }

  -- a frame in the place of another
  pub frame-replaced : (at : ℕ) → at ≡ start_of i j → ThreadAt (pasted d at (words_of_frame k')) i a edited b
  frame-replaced at p =
      frame-edited (words_of_frame k') at 0 (omega arith) (omega (arith, frame-length f))
      (paste_all (words_of_frame k) (words_of_frame k') (frame-length (slot h e).fits ∙ sym (frame-length f)))

-- what stands at a frame's start
pub frame-read : {a b : Pool} {t : Thread} {K₁ K₂ : List Frame} {k : Frame} {d : List ℤ} {i j : ℕ}
    → ThreadAt d i a t b → FrameAt t j K₁ k K₂ → (at : ℕ) → at ≡ start_of i j → take frame_words (drop at d) ≡ words_of_frame k
frame-read {a} {b} {t} {K₁} {K₂} {k} {d} {i} {j} h e at p =
    let n : at ≡ start_of (length a) (length K₂) = omega (arith, h.place, e.place) in
    let s : Slot a b t K₁ K₂ k = slot h e in
    rw (n, h.held.words) (slot_read s)

-- the room above a thread's frames K: free, or with one more frame
module _ (K : List Frame) (f : Each FrameFits K) (few : length K < most_frames) where
  abbrev above : ℕ
  above = (most_frames - suc (length K)) * frame_words

  -- the words H before the frames, and the words x of that frame
  abbrev topped : List ℤ → List ℤ → List ℤ
  topped H x = H ++ (frames_words (reverse K) ++ (x ++ zeros above))

  free-above : (t : Thread) → frames t ≡ K → words_of_thread t ≡ topped (thread_head t) (zeros frame_words)
  unfolding concat
  free-above t e =
      thread-parts t (reverse K) [] (frame_words + above) (ap reverse e ∙ sym (append-nil (reverse K)))
      (omega (arith, length-reverse K)) (each-reverse FrameFits K f) tt
      ∙ ap (λ (w : List ℤ). thread_head t ++ (frames_words (reverse K) ++ w)) (sym (replicate-append-replicate frame_words above (pos 0)))

  one-above : (t : Thread) (l : Frame) → frames t ≡ l ∷ K → FrameFits l → words_of_thread t ≡ topped (thread_head t) (words_of_frame l)
  one-above t l e g =
      thread-parts t (reverse K) (l ∷ []) above (ap reverse e ∙ reverse-cons l K)
      (omega (arith, length-reverse K)) (each-reverse FrameFits K f) (g, tt)
      ∙ ap (topped (thread_head t)) (written_one words_of_frame l)

  topped-length : (H x : List ℤ) → length H ≡ frames_at → length x ≡ frame_words → length (topped H x) ≡ thread_words
  topped-length H x e l =
      let n : length (frames_words (reverse K)) ≡ length K * frame_words =
      frames-length (reverse K) (each-reverse FrameFits K f) ∙ ap (λ (c : ℕ). c * frame_words) (length-reverse K)
      in
      simp (length-append, length-replicate) (omega arith)

  -- the count is stored
  topped-count : (H x : List ℤ) (c : ℤ) → length H ≡ frames_at → set (topped H x) frame_count_at c ≡ topped (set H frame_count_at c) x
  topped-count H x c e = set-append_left H _ frame_count_at c (omega arith)

  -- that frame's words are cleared
  topped-cleared : (H x : List ℤ) → length H ≡ frames_at → length x ≡ frame_words
      → pasted (topped H x) (frames_at + frame_words * length K) (zeros frame_words) ≡ topped H (zeros frame_words)
  topped-cleared H x e l =
      let A : List ℤ = frames_words (reverse K) in
      let at : ℕ = frames_at + frame_words * length K in
      let n : length A ≡ length K * frame_words =
      frames-length (reverse K) (each-reverse FrameFits K f) ∙ ap (λ (c : ℕ). c * frame_words) (length-reverse K)
      in
      ap (λ (w : List ℤ). pasted w at (zeros frame_words)) (sym (append_assoc H A (x ++ zeros above)))
      ∙ paste-parts (H ++ A) x (zeros above) (zeros frame_words) at (length-append H A ∙ omega arith) l
      ∙ append_assoc H A (zeros frame_words ++ zeros above)

module _ {a b : Pool} {d : List ℤ} {i : ℕ} where
  -- a call: the empty frame stands above, whose words are the free ones
  pub pushed : {t : Thread} → ThreadAt d i a t b → length (frames t) < most_frames → (at : ℕ) → at ≡ thread_start i + frame_count_at
      → ThreadAt (set d at (pos (suc (length (frames t))))) i a (restacked t (begin 0 [] ∷ frames t)) b
  pushed {t} h few at e =
      let K : List Frame = frames t in
      let c : ℤ = pos (suc (length K)) in
      let H : List ℤ = thread_head t in
      let g : ThreadFits t = within-fits a b t h.held.fits in
      let t' : Thread = restacked t (begin 0 [] ∷ K) in
      let g' : ThreadFits t' = record { few = few; each = (empty-fits, g.each) } in
      let o : Around a b = around a b t h.held.fits in
      let W : List ℤ = topped K g.each few H (zeros frame_words) in
      let l : length W ≡ thread_words = topped-length K g.each few H (zeros frame_words) (head-length t) refl in
      record {
        held = record {
          words =
              ap (λ (w : List ℤ). set w at c) (h.held.words ∙ pool-within a b t o g ∙ ap (within a b) (free-above K g.each few t refl))
              ∙ set-in a b W at frame_count_at o (omega (arith, h.place)) c (omega arith)
              ∙ ap (within a b) (topped-count K g.each few H (zeros frame_words) c (head-length t))
              ∙ (λ n. within a b (topped K g.each few (sym (head-restacked t (begin 0 []) K) n) (sym empty-words n)))
              ∙ ap (within a b) (sym (one-above K g.each few t' (begin 0 []) refl empty-fits))
              ∙ sym (pool-within a b t' o g');
          fits = around-fits a b t' o g';
        };
        place = h.place;
      }

  -- a return: the newest frame's words are free
  pub popped : (t : Thread) {l m : Frame} {K : List Frame} → ThreadAt d i a (restacked t (l ∷ m ∷ K)) b
      → (at₀ at₁ : ℕ) → at₀ ≡ thread_start i + frame_count_at → at₁ ≡ start_of i (suc (length K))
      → ThreadAt (cleared (set d at₀ (pos (suc (length K)))) at₁ frame_words) i a (restacked t (m ∷ K)) b
  popped t {l} {m} {K} h at₀ at₁ e₀ e₁ =
      let c : ℤ = pos (suc (length K)) in
      let u : Thread = restacked t (l ∷ m ∷ K) in
      let u' : Thread = restacked t (m ∷ K) in
      let f : ThreadFits u = within-fits a b u h.held.fits in
      let f' : ThreadFits u' = record { few = omega (arith, f.few); each = f.each.1 } in
      let o : Around a b = around a b u h.held.fits in
      let top = topped (m ∷ K) f.each.1 f.few in
      let H : List ℤ = thread_head u in
      let H' : List ℤ = set H frame_count_at c in
      let x : List ℤ = words_of_frame l in
      let n : length x ≡ frame_words = frame-length f.each.0 in
      let p : length H' ≡ frames_at = length-set H frame_count_at c ∙ head-length u in
      let k : length (top H x) ≡ thread_words = topped-length (m ∷ K) f.each.1 f.few H x (head-length u) n in
      let k' : length (top H' x) ≡ thread_words = topped-length (m ∷ K) f.each.1 f.few H' x p n in
      let off : ℕ = frames_at + frame_words * suc (length K) in
      record {
        held = record {
          words =
              ap (λ (v : List ℤ). cleared (set v at₀ c) at₁ frame_words)
              (h.held.words ∙ pool-within a b u o f ∙ ap (within a b) (one-above (m ∷ K) f.each.1 f.few u l refl f.each.0))
              ∙ ap (λ (v : List ℤ). cleared v at₁ frame_words)
              (set-in a b (top H x) at₀ frame_count_at o (omega (arith, h.place)) c (omega arith)
              ∙ ap (within a b) (topped-count (m ∷ K) f.each.1 f.few H x c (head-length u)))
              ∙ cleared-pasted (within a b (top H' x)) at₁ frame_words
              ∙ paste-in a b (top H' x) at₁ off o (omega (arith, h.place)) (zeros frame_words)
              (omega (arith, f.few, length-replicate frame_words (pos 0)))
              ∙ ap (within a b) (topped-cleared (m ∷ K) f.each.1 f.few H' x p n)
              ∙ ap (λ (q : List ℤ). within a b (top q (zeros frame_words))) (sym (head-restacked u m K))
              ∙ ap (within a b) (sym (free-above (m ∷ K) f.each.1 f.few u' refl))
              ∙ sym (pool-within a b u' o f');
          fits = around-fits a b u' o f';
        };
        place = h.place;
      }
