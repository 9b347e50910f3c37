-- The heads of threads among a pool's words: each word of one is what it counts of the thread, or 0 where there is no such thread.
use Prim.Native.Nat.{ℕ, zero, suc, ◌+◌, ◌*◌, ◌-◌, ◌≤◌, ◌<◌}
use mathlib.Core.Path.{◌≡◌}
use mathlib.Core.List.{[], ◌∷◌, ◌++◌, map, append_assoc}
use native.Mathlib.Omega.{arith}
use lib.Dec.{lit≤}
use lib.IntN.{pos}
use lib.ListN.{length, get_or, replicate, get_or-append}
use lib.Seq.{get_or-append-add}
use Rattle.model.specs.Lists.{Each, pad, concat}
use Rattle.model.specs.Values.{number}
use Rattle.model.specs.Pool.{Thread, Pool, most_threads, frame_count_at, thread_words, thread_start, frames}
use Rattle.model.specs.Pool.{words_of_thread, words_of, word_at}
use Rattle.model.specs.Valid.{ThreadFits}
use Rattle.model.proofs.Facts.{same_at}
use Rattle.model.proofs.Words.{thread-count, thread-length}
use Rattle.host.specs.Roomy.{frame_count}

-- word `at` of a thread's words is f of the thread
module _ (at : ℕ) (inside : at < thread_words) (f : Thread → ℕ)
    (is : (t : Thread) → get_or (words_of_thread t) at (pos 0) ≡ pos (f t)) where
  threads-at : (n : ℕ) (p : Pool) (i : ℕ) → Each ThreadFits p →
      number (get_or (concat (map words_of_thread p) ++ replicate n (pos 0)) (thread_words * i + at) (pos 0)) ≡ get_or (map f p) i 0
  unfolding concat
  threads-at n [] i h = rw (same_at n (thread_words * i + at) (pos 0))
  threads-at n (t ∷ p) zero h =
      let z = concat (map words_of_thread p) ++ replicate n (pos 0) in
      let l = thread-length h.0 in
      let e : thread_words * 0 + at ≡ at = omega arith in
      rw (e, append_assoc, get_or-append (words_of_thread t) z (pos 0) at (omega (arith, l)), is t)
  threads-at n (t ∷ p) (suc i) h =
      let z = concat (map words_of_thread p) ++ replicate n (pos 0) in
      let k : ℕ = thread_words * i + at in
      let l : thread_words * suc i + at ≡ length (words_of_thread t) + k = omega (arith, thread-length h.0) in
      rw (append_assoc, l, get_or-append-add (words_of_thread t) z k (pos 0)) (threads-at n p i h.1)

  pub head_at : (p : Pool) (i : ℕ) → Each ThreadFits p → word_at (words_of p) (thread_start i + at) ≡ get_or (map f p) i 0
  unfolding words_of word_at pad
  head_at p i h =
      let e : thread_start i + at ≡ suc (thread_words * i + at) = omega arith in
      rw e (threads-at (most_threads * thread_words - length (concat (map words_of_thread p))) p i h)

-- no frame count is above what no thread has more frames than
pub counts-few : (d : ℕ) (p : Pool) (i : ℕ) → Each ThreadFits p → Each (λ t. length (frames t) ≤ d) p → frame_count (words_of p) i ≤ d
counts-few d p i f h = rw (head_at frame_count_at (lit≤ tt) (λ t. length (frames t)) thread-count p i f) (go p i h)
  where
    go : (p : Pool) (i : ℕ) → Each (λ t. length (frames t) ≤ d) p → get_or (map (λ t. length (frames t)) p) i 0 ≤ d
    go [] i h = omega arith
    go (t ∷ p) zero h = h.0
    go (t ∷ p) (suc i) h = go p i h.1
