-- Where threads and frames stand in a pool's words.
use Prim.Native.Nat.{ℕ, suc, ◌+◌, ◌*◌, ◌-◌, ◌≤◌, ◌<◌}
use mathlib.Core.Path.{◌≡◌, refl, sym, ap, subst, subst⁻¹, ◌∙◌}
use mathlib.Core.List.{List, [], ◌∷◌, ◌++◌, map, reverse, reverse-cons, reverse-append, append_assoc, append-nil}
use native.Mathlib.Omega.{arith}
use lib.IntN.{ℤ, pos}
use lib.ListN.{length, take, drop, set, get_or, length-append, length-map, length-reverse, get_or-append}
use lib.Seq.{set-append_left, get_or-append-add}
use Rattle.model.specs.Lists.{Each, pad, concat}
use Rattle.model.specs.Pool.{Frame, Thread, Pool, most_frames, most_threads, frame_words, frames_at, thread_words, thread_start, frames}
use Rattle.model.specs.Pool.{words_of_frame, thread_head, words_of_thread, words_of}
use Rattle.model.proofs.Facts.{each_map, each_append, each_left, each_right}
use Rattle.model.specs.Valid.{FrameFits, ThreadFits, PoolFits}
use Rattle.model.proofs.Words.{Long, length-concat, each-reverse, frame-length, thread-length}
use Rattle.words.specs.Runs.{pasted}
use Rattle.pool.proofs.Parts.{zeros, paste-within, read-within, set-behind}

-- items written one behind the other
module _ {A : Type 0} (write : A → List ℤ) where
  abbrev pub written : List A → List ℤ
  written xs = concat (map write xs)

  pub written-append : (xs ys : List A) → written (xs ++ ys) ≡ written xs ++ written ys
  unfolding concat
  written-append [] ys = refl
  written-append (x ∷ xs) ys =
      ap (λ (l : List ℤ). write x ++ l) (written-append xs ys) ∙ sym (append_assoc (write x) (written xs) (written ys))

  pub written_one : (x : A) → written (x ∷ []) ≡ write x
  unfolding concat
  written_one x = append-nil (write x)

  long : (size : ℕ) (xs : List A) → Each (λ x. length (write x) ≡ size) xs → Long size (map write xs)
  long size [] h = tt
  long size (x ∷ xs) h = (h.0, long size xs h.1)

  pub written-length : (size : ℕ) (xs : List A) → Each (λ x. length (write x) ≡ size) xs → length (written xs) ≡ length xs * size
  written-length size xs h = length-concat size (map write xs) (long size xs h) ∙ rw length-map

padded : (n z : ℕ) (xs : List ℤ) → length xs + z ≡ n → pad n (pos 0) xs ≡ xs ++ zeros z
unfolding pad
padded n z xs e = let f : n - length xs ≡ z = omega arith in rw f

-- the words of frames, and of threads
abbrev pub frames_words : List Frame → List ℤ
frames_words K = written words_of_frame K

abbrev pub threads_words : Pool → List ℤ
threads_words p = written words_of_thread p

pub frames-length : (K : List Frame) → Each FrameFits K → length (frames_words K) ≡ length K * frame_words
frames-length K h = written-length words_of_frame frame_words K (each_map (λ k f. frame-length f) K h)

pub threads-length : (p : Pool) → Each ThreadFits p → length (threads_words p) ≡ length p * thread_words
threads-length p h = written-length words_of_thread thread_words p (each_map (λ t f. thread-length f) p h)

-- a thread's words at any two parts of its frames, and a pool's at any two parts of its threads
padded-parts : (n z : ℕ) (u v w : List ℤ) → w ≡ u ++ v → length u + length v + z ≡ n → pad n (pos 0) w ≡ u ++ (v ++ zeros z)
padded-parts n z u v w e h =
    ap (pad n (pos 0)) e ∙ padded n z (u ++ v) (simp length-append (omega arith)) ∙ append_assoc u v (zeros z)

pub thread-parts : (t : Thread) (a b : List Frame) (z : ℕ) → reverse (frames t) ≡ a ++ b
    → length a * frame_words + length b * frame_words + z ≡ most_frames * frame_words
    → Each FrameFits a → Each FrameFits b
    → words_of_thread t ≡ thread_head t ++ (frames_words a ++ (frames_words b ++ zeros z))
unfolding words_of_thread
thread-parts t a b z e n f g =
    ap (λ (l : List ℤ). thread_head t ++ l)
    (padded-parts (most_frames * frame_words) z (frames_words a) (frames_words b) _
    (ap frames_words e ∙ written-append words_of_frame a b)
    (omega (arith, frames-length a f, frames-length b g)))

pub pool-parts : (a b : Pool) (z : ℕ) → length a * thread_words + length b * thread_words + z ≡ most_threads * thread_words
    → Each ThreadFits a → Each ThreadFits b
    → words_of (a ++ b) ≡ pos (length a + length b) ∷ (threads_words a ++ (threads_words b ++ zeros z))
unfolding words_of
pool-parts a b z n f g =
    ap (λ (c : ℕ). pos c ∷ pad (most_threads * thread_words) (pos 0) (threads_words (a ++ b))) (length-append a b)
    ∙ ap {B = List ℤ} (λ l. pos (length a + length b) ∷ l)
    (padded-parts (most_threads * thread_words) z (threads_words a) (threads_words b) _
    (written-append words_of_thread a b)
    (omega (arith, threads-length a f, threads-length b g)))

-- the threads before and behind one
pub record Around (a b : Pool) : Type 0 where
  pub few : length a + length b < most_threads
  pub before : Each ThreadFits a
  pub behind : Each ThreadFits b

pub around : (a b : Pool) (t : Thread) → PoolFits (a ++ t ∷ b) → Around a b
around a b t h =
    record {
      few = omega (arith, h.few, length-append a (t ∷ b));
      before = each_left ThreadFits a (t ∷ b) h.each;
      behind = (each_right ThreadFits a (t ∷ b) h.each).1;
    }

pub within-fits : (a b : Pool) (t : Thread) → PoolFits (a ++ t ∷ b) → ThreadFits t
within-fits a b t h = (each_right ThreadFits a (t ∷ b) h.each).0

pub around-fits : (a b : Pool) (t : Thread) → Around a b → ThreadFits t → PoolFits (a ++ t ∷ b)
around-fits a b t h f =
    record {
      few = simp length-append (omega (arith, h.few));
      each = each_append ThreadFits a (t ∷ b) h.before (f, h.behind);
    }

-- the words of a pool around one thread's
abbrev front : Pool → Pool → List ℤ
front a b = pos (length a + suc (length b)) ∷ threads_words a

abbrev back : Pool → Pool → List ℤ
back a b = threads_words b ++ zeros ((most_threads - suc (length a + length b)) * thread_words)

unfoldable pub within : Pool → Pool → List ℤ → List ℤ
within a b T = front a b ++ (T ++ back a b)

pub pool-within : (a b : Pool) (t : Thread) → Around a b → ThreadFits t → words_of (a ++ t ∷ b) ≡ within a b (words_of_thread t)
unfolding within concat
pool-within a b t h f =
    pool-parts a (t ∷ b) ((most_threads - suc (length a + length b)) * thread_words) (omega (arith, h.few)) h.before (f, h.behind)
    ∙ ap (λ (l : List ℤ). front a b ++ l) (append_assoc (words_of_thread t) (threads_words b) _)

-- a paste into a thread's words, and a reading of them, in the pool
module _ (a b : Pool) (T : List ℤ) (at off : ℕ) (h : Around a b) (e : at ≡ thread_start (length a) + off) where
  front_length : length (front a b) ≡ thread_start (length a)
  front_length = omega (arith, threads-length a h.before)

  pub paste-in : (ws : List ℤ) → off + length ws ≤ length T → pasted (within a b T) at ws ≡ within a b (pasted T off ws)
  unfolding within
  paste-in ws f = rw e (paste-within (front a b) T (back a b) ws (thread_start (length a)) off front_length f)

  pub read-in : (n : ℕ) → off + n ≤ length T → take n (drop at (within a b T)) ≡ take n (drop off T)
  unfolding within
  read-in n f = rw e (read-within (front a b) T (back a b) (thread_start (length a)) off n front_length f)

  -- one word
  pub set-in : (x : ℤ) → off < length T → set (within a b T) at x ≡ within a b (set T off x)
  unfolding within
  set-in x f =
      rw e
      (set-behind (front a b) (T ++ back a b) (thread_start (length a)) off x front_length
      ∙ ap (λ (l : List ℤ). front a b ++ l) (set-append_left T (back a b) off x f))

  pub word_in : off < length T → get_or (within a b T) at (pos 0) ≡ get_or T off (pos 0)
  unfolding within
  word_in f =
      let p : at ≡ length (front a b) + off = omega (arith, front_length) in
      rw p (get_or-append-add (front a b) (T ++ back a b) off (pos 0) ∙ get_or-append T (back a b) (pos 0) off f)

-- the frames around one: the newer ones, and the older ones
pub record Beside (K₁ K₂ : List Frame) : Type 0 where
  pub few : length K₁ + length K₂ < most_frames
  pub newer : Each FrameFits K₁
  pub older : Each FrameFits K₂

pub beside : (t : Thread) (K₁ K₂ : List Frame) (k : Frame) → frames t ≡ K₁ ++ k ∷ K₂ → ThreadFits t → Beside K₁ K₂
beside t K₁ K₂ k e h =
    let f : Each FrameFits (K₁ ++ k ∷ K₂) = subst (Each FrameFits) e h.each in
    record {
      few = omega (arith, h.few, ap length e, length-append K₁ (k ∷ K₂));
      newer = each_left FrameFits K₁ (k ∷ K₂) f;
      older = (each_right FrameFits K₁ (k ∷ K₂) f).1;
    }

pub beside-fits : (t : Thread) (K₁ K₂ : List Frame) (k : Frame) → frames t ≡ K₁ ++ k ∷ K₂ → Beside K₁ K₂ → FrameFits k → ThreadFits t
beside-fits t K₁ K₂ k e h f =
    record {
      few = omega (arith, h.few, ap length e, length-append K₁ (k ∷ K₂));
      each = subst⁻¹ (Each FrameFits) e (each_append FrameFits K₁ (k ∷ K₂) h.newer (f, h.older));
    }

-- a thread's words around one frame's: H before all of them
abbrev lower : List ℤ → List Frame → List ℤ
lower H K₂ = H ++ frames_words (reverse K₂)

abbrev upper : List Frame → List Frame → List ℤ
upper K₁ K₂ = frames_words (reverse K₁) ++ zeros ((most_frames - suc (length K₁ + length K₂)) * frame_words)

unfoldable pub amid : List ℤ → List Frame → List Frame → List ℤ → List ℤ
amid H K₁ K₂ F = lower H K₂ ++ (F ++ upper K₁ K₂)

oldest-first : (t : Thread) (K₁ K₂ : List Frame) (k : Frame) → frames t ≡ K₁ ++ k ∷ K₂ → reverse (frames t) ≡ reverse K₂ ++ (k ∷ reverse K₁)
oldest-first t K₁ K₂ k e =
    ap reverse e
    ∙ reverse-append K₁ (k ∷ K₂)
    ∙ ap (λ (l : List Frame). l ++ reverse K₁) (reverse-cons k K₂)
    ∙ append_assoc (reverse K₂) (k ∷ []) (reverse K₁)

pub thread-amid : (t : Thread) (K₁ K₂ : List Frame) (k : Frame) → frames t ≡ K₁ ++ k ∷ K₂ → Beside K₁ K₂ → FrameFits k
    → words_of_thread t ≡ amid (thread_head t) K₁ K₂ (words_of_frame k)
unfolding amid concat
thread-amid t K₁ K₂ k e h f =
    let z : ℕ = (most_frames - suc (length K₁ + length K₂)) * frame_words in
    let H : List ℤ = thread_head t in
    let A : List ℤ = frames_words (reverse K₂) in
    thread-parts t (reverse K₂) (k ∷ reverse K₁) z
    (oldest-first t K₁ K₂ k e)
    (omega (arith, h.few, length-reverse K₁, length-reverse K₂))
    (each-reverse FrameFits K₂ h.older)
    (f, each-reverse FrameFits K₁ h.newer)
    ∙ ap (λ (l : List ℤ). H ++ (A ++ l)) (append_assoc (words_of_frame k) (frames_words (reverse K₁)) (zeros z))
    ∙ sym (append_assoc H A (words_of_frame k ++ upper K₁ K₂))

module _ (H : List ℤ) (K₁ K₂ : List Frame) (F : List ℤ) (at off : ℕ) (l : length H ≡ frames_at) (h : Beside K₁ K₂)
    (e : at ≡ frames_at + frame_words * length K₂ + off) where
  before-length : length (lower H K₂) ≡ frames_at + frame_words * length K₂
  before-length =
      length-append H (frames_words (reverse K₂))
      ∙ omega (arith, frames-length (reverse K₂) (each-reverse FrameFits K₂ h.older), length-reverse K₂)

  pub paste-amid : (ws : List ℤ) → off + length ws ≤ length F → pasted (amid H K₁ K₂ F) at ws ≡ amid H K₁ K₂ (pasted F off ws)
  unfolding amid
  paste-amid ws f = rw e (paste-within (lower H K₂) F (upper K₁ K₂) ws (frames_at + frame_words * length K₂) off before-length f)

  pub read-amid : (n : ℕ) → off + n ≤ length F → take n (drop at (amid H K₁ K₂ F)) ≡ take n (drop off F)
  unfolding amid
  read-amid n f = rw e (read-within (lower H K₂) F (upper K₁ K₂) (frames_at + frame_words * length K₂) off n before-length f)
