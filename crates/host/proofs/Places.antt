-- The frames among a pool's words: what stands at the places of a thread and of its frames.
use Prim.Native.Nat.{ℕ, zero, suc, ◌+◌, ◌*◌, ◌-◌}
use mathlib.Core.Path.{◌≡◌, refl, sym, ◌∙◌, ap}
use mathlib.Core.Option.{some}
use mathlib.Core.List.{List, [], ◌∷◌, ◌++◌, map, reverse, reverse-cons, append_assoc, append-nil}
use native.Mathlib.Nat.{add-zero}
use native.Mathlib.Omega.{arith}
use lib.IntN.{ℤ, pos}
use lib.ListN.{length, get_or, get_elem?, drop, replicate, length-reverse, get_or-append}
use lib.Seq.{get_or-drop, drop-drop, drop-append-add, drop_at, take_at}
use Rattle.model.specs.Answers.{Answer}
use Rattle.model.specs.Lists.{Each, pad, concat}
use Rattle.model.specs.Values.{number}
use Rattle.model.specs.Pool.{Frame, Thread, Pool, most_frames, frame_words, frame_count_at, frames_at, thread_words}
use Rattle.model.specs.Pool.{thread_start, start_of, frames, words_of_frame, thread_head, words_of_thread, words_of, word_at, children}
use Rattle.model.specs.Calls.{Lent, lent}
use Rattle.model.specs.Valid.{FrameFits, ThreadFits, PoolFits}
use Rattle.model.proofs.Facts.{none-some, some-injective, each_map, each_at, at_second}
use Rattle.model.proofs.Valid.{pool-facts}
use Rattle.model.proofs.Words.{each-reverse, frame-length, frame_back, head-length, thread-count, thread-length, lent-given, pool-fits}
use Rattle.host.specs.Roomy.{frame_count}
use Rattle.host.specs.Children.{frame_at, newest_at, promoted_in}

-- the words ws begin with xs
abbrev Begins : List ℤ → List ℤ → Type 0
Begins ws xs = (rest : List ℤ) × (ws ≡ xs ++ rest)

module _ {A : Type 0} (size : ℕ) (write : A → List ℤ) where
  abbrev Sized : A → Type 0
  Sized x = length (write x) ≡ size

  -- what is written one behind the other, each in as many words: the words of item i
  run_at : (xs : List A) (rest : List ℤ) (i : ℕ) {x : A} → Each Sized xs → get_elem? xs i ≡ some x →
      Begins (drop (size * i) (concat (map write xs) ++ rest)) (write x)
  unfolding concat
  run_at [] rest i h e = none-some e
  run_at (y ∷ xs) rest zero h e =
      let z : size * 0 ≡ 0 = omega arith in
      (concat (map write xs) ++ rest, rw (z, append_assoc, some-injective e))
  run_at (y ∷ xs) rest (suc i) h e =
      let (r, b) = run_at xs rest i h.1 e in
      let n : size * suc i ≡ length (write y) + size * i = omega arith in
      (r, rw (n, append_assoc, drop-append-add (write y) (concat (map write xs) ++ rest) (size * i)) b)

-- thread i of a pool, in its words
module _ {p : Pool} (f : PoolFits p) (i : ℕ) {t : Thread} (e : get_elem? p i ≡ some t) where
  fits : ThreadFits t
  fits = each_at ThreadFits p i f.each e

  thread-at : Begins (drop (thread_start i) (words_of p)) (words_of_thread t)
  unfolding words_of pad
  thread-at =
      let n : thread_start i ≡ suc (thread_words * i) = omega arith in
      rw n (run_at thread_words words_of_thread p _ i (each_map (λ _ h. thread-length h) p f.each) e)

  count_at : frame_count (words_of p) i ≡ length (frames t)
  unfolding word_at
  count_at =
      let (r, b) = thread-at in
      let l = thread-length fits in
      let at = ap (λ ws. get_or ws frame_count_at (pos 0)) b ∙ get_or-append (words_of_thread t) r (pos 0) frame_count_at (omega arith) in
      ap number (sym (get_or-drop (thread_start i) (words_of p) frame_count_at (pos 0)) ∙ at ∙ thread-count t)

  -- its frames, oldest first
  frame-at : (j : ℕ) {k : Frame} → get_elem? (reverse (frames t)) j ≡ some k → frame_at (words_of p) i j ≡ k
  unfolding words_of_thread pad
  frame-at j {k} g =
      let (r, b) = thread-at in
      let K = reverse (frames t) in
      let h = each-reverse FrameFits (frames t) fits.each in
      let k-fits = each_at FrameFits K j h g in
      let n : start_of i j ≡ thread_start i + (frames_at + frame_words * j) = omega arith in
      let c = concat (map words_of_frame K) in
      let z = replicate (most_frames * frame_words - length c) (pos 0) in
      let q = run_at frame_words words_of_frame K (z ++ r) j (each_map (λ _ h. frame-length h) K h) g in
      rw (
        n,
        ← drop-drop (frames_at + frame_words * j) (thread_start i) (words_of p),
        b,
        append_assoc,
        ← drop-drop (frame_words * j) frames_at,
        drop_at (thread_head t) _ frames_at (head-length t),
        append_assoc,
        q.1,
        take_at (words_of_frame k) _ frame_words (frame-length k-fits),
      )
      (frame_back k-fits)

  -- K are its oldest frames, newest first, and k is the one behind them
  oldest-at : (K : List Frame) (k : Frame) (L : List Frame) → reverse (frames t) ≡ reverse K ++ (k ∷ L) →
      frame_at (words_of p) i (length K) ≡ k
  oldest-at K k L q =
      frame-at (length K) (rw (q, ← length-reverse K, ← add-zero (length (reverse K))) (at_second (reverse K) (k ∷ L) 0))

  newest-at : newest_at (words_of p) i ≡ t.newest
  newest-at =
      let n : frame_count (words_of p) i - 1 ≡ length t.older = omega (arith, count_at) in
      rw n (oldest-at t.older t.newest [] (reverse-cons t.newest t.older))

  -- the promoted calls of its oldest frames K
  promoted-from : (K L : List Frame) → reverse (frames t) ≡ reverse K ++ L → promoted_in (words_of p) i (length K) ≡ children K
  unfolding promoted_in children
  promoted-from [] L q = refl
  promoted-from (k ∷ K) L q =
      let q' : reverse (frames t) ≡ reverse K ++ (k ∷ L) = q ∙ rw (reverse-cons, append_assoc) in
      let h = promoted-from K (k ∷ L) q' in
      let m = ap (λ (l : Frame). l.promoted) (oldest-at K k L q') in
      omega arith

  promoted-at : promoted_in (words_of p) i (frame_count (words_of p) i) ≡ children (frames t)
  promoted-at = rw count_at (promoted-from (frames t) [] (sym (append-nil (reverse (frames t)))))

-- what the words w tell of the thread t, which is thread i of them
pub record ThreadIn (w : List ℤ) (i : ℕ) (t : Thread) : Type 0 where
  pub count : frame_count w i ≡ length (frames t)
  pub newest : newest_at w i ≡ t.newest
  pub promoted : promoted_in w i (frame_count w i) ≡ children (frames t)

pub lent-thread : (s : List ℕ) (w : List ℤ) (l : Lent) → lent s w ≡ Answer.given l → (i : ℕ) (t : Thread) → get_elem? l.pool i ≡ some t →
    ThreadIn w i t
lent-thread s w l e i t g =
    let v = lent-given s w l e in
    let f = pool-fits (pool-facts l.table l.pool v.valid) in
    rw (← v.words) (record { count = count_at f i g; newest = newest-at f i g; promoted = promoted-at f i g })
