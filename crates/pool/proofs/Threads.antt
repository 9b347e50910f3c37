-- A thread is put into the words that hold a pool, directly behind another, and taken out.
use Prim.Native.Nat.{ℕ, suc, ◌+◌, ◌*◌, ◌-◌, ◌<◌}
use mathlib.Core.Path.{◌≡◌, sym, ap, ◌∙◌}
use mathlib.Core.List.{List, [], ◌∷◌, ◌++◌, append_assoc}
use native.Mathlib.Omega.{arith}
use lib.IntN.{ℤ, pos}
use lib.ListN.{length, set, length-append}
use Rattle.model.specs.Lists.{Each, concat}
use Rattle.model.specs.Pool.{Thread, Pool, most_threads, thread_words, thread_count_at, thread_start, words_of_thread, words_of}
use Rattle.model.proofs.Facts.{each_append}
use Rattle.model.specs.Valid.{ThreadFits}
use Rattle.model.proofs.Words.{thread-length}
use Rattle.words.specs.Runs.{pasted, moved, cleared}
use Rattle.pool.specs.Held.{ThreadAt}
use Rattle.pool.proofs.Parts.{zeros, gap-opened, gap-closed}
use Rattle.pool.proofs.Places.{threads_words, threads-length, pool-parts, Around, around, around-fits, within-fits}

module _ (a : Pool) (t : Thread) where
  -- the threads up to t
  abbrev up_to : Pool
  up_to = a ++ (t ∷ [])

  up-to-length : length up_to ≡ suc (length a)
  up-to-length = simp length-append (omega arith)

  up_to_fits : Each ThreadFits a → ThreadFits t → Each ThreadFits up_to
  up_to_fits f g = each_append ThreadFits a (t ∷ []) f (g, tt)

  -- the words of the threads up to t, of those behind it, and of none
  split-words : (b : Pool) (z : ℕ) → suc (length a + length b) * thread_words + z ≡ most_threads * thread_words → Each ThreadFits a
      → ThreadFits t → Each ThreadFits b
      → words_of (a ++ t ∷ b) ≡ pos (suc (length a + length b)) ∷ (threads_words up_to ++ (threads_words b ++ zeros z))
  split-words b z n f g h =
      let c : length up_to + length b ≡ suc (length a + length b) = omega (arith, up-to-length) in
      ap words_of (sym (append_assoc a (t ∷ []) b))
      ∙ pool-parts up_to b z (omega (arith, up-to-length)) (up_to_fits f g) h
      ∙ ap (λ (m : ℕ). pos m ∷ (threads_words up_to ++ (threads_words b ++ zeros z))) c

  front_long : (c : ℕ) → Each ThreadFits a → ThreadFits t → length (pos c ∷ threads_words up_to) ≡ thread_start (suc (length a))
  front_long c f g = omega (arith, threads-length up_to (up_to_fits f g), up-to-length)

-- the threads behind t move up, and u stands in the gap
pub added : {a b : Pool} {t : Thread} {d : List ℤ} {i : ℕ} → ThreadAt d i a t b → suc (length a + length b) < most_threads
    → (u : Thread) → ThreadFits u
    → (c at to n : ℕ) → c ≡ suc (suc (length a + length b)) → at ≡ thread_start (suc i) → to ≡ at + thread_words
    → n ≡ thread_words * length b
    → ThreadAt (pasted (moved (set d thread_count_at (pos c)) at to n) at (words_of_thread u)) i a t (u ∷ b)
unfolding concat
added {a} {b} {t} {d} {i} h few u f c at to n ec ea et en =
    let p = h.held.fits in
    let o : Around a b = around a b t p in
    let g : ThreadFits t = within-fits a b t p in
    let o' : Around a (u ∷ b) = record { few = omega arith; before = o.before; behind = (f, o.behind) } in
    let z : ℕ = (most_threads - suc (suc (length a + length b))) * thread_words in
    let m : n ≡ length (threads_words b) = omega (arith, threads-length b o.behind) in
    let k : c ≡ suc (length a + suc (length b)) = omega arith in
    let A : List ℤ = threads_words (up_to a t) in
    let B : List ℤ = threads_words b in
    let W : List ℤ = words_of_thread u in
    record {
      held = record {
        words =
            ap (λ (w : List ℤ). pasted (moved (set w thread_count_at (pos c)) at to n) at W)
            (h.held.words ∙ split-words a t b (thread_words + z) (omega arith) o.before g o.behind)
            ∙ ap (λ (k : ℕ). pasted (moved (pos c ∷ (A ++ (B ++ zeros (thread_words + z)))) at to k) at W) m
            ∙ gap-opened (pos c ∷ A) B W at to thread_words z
            (omega (arith, front_long a t c o.before g, h.place)) et (thread-length f)
            ∙ ap (λ (w : List ℤ). pos c ∷ (A ++ w)) (sym (append_assoc W B (zeros z)))
            ∙ ap (λ (k : ℕ). pos k ∷ (A ++ (W ++ B ++ zeros z))) k
            ∙ sym (split-words a t (u ∷ b) z (omega arith) o.before g (f, o.behind));
        fits = around-fits a (u ∷ b) t o' g;
      };
      place = h.place;
    }

-- the thread behind t goes: those behind it move down, and the last one's words are free
pub removed : {a b : Pool} {t u : Thread} {d : List ℤ} {i : ℕ} → ThreadAt d i a t (u ∷ b)
    → (c at from end n : ℕ) → c ≡ suc (length a + length b) → at ≡ thread_start (suc i) → from ≡ at + thread_words
    → end ≡ at + thread_words * length b → n ≡ thread_words * length b
    → ThreadAt (cleared (moved (set d thread_count_at (pos c)) from at n) end thread_words) i a t b
unfolding concat
removed {a} {b} {t} {u} {d} {i} h c at from end n ec ea ef ee en =
    let p = h.held.fits in
    let o : Around a (u ∷ b) = around a (u ∷ b) t p in
    let g : ThreadFits t = within-fits a (u ∷ b) t p in
    let o' : Around a b = record { few = omega (arith, o.few); before = o.before; behind = o.behind.1 } in
    let z : ℕ = (most_threads - suc (suc (length a + length b))) * thread_words in
    let l : length (threads_words b) ≡ length b * thread_words = threads-length b o.behind.1 in
    let m : n ≡ length (threads_words b) = omega arith in
    let A : List ℤ = threads_words (up_to a t) in
    let B : List ℤ = threads_words b in
    let W : List ℤ = words_of_thread u in
    record {
      held = record {
        words =
            ap (λ (w : List ℤ). cleared (moved (set w thread_count_at (pos c)) from at n) end thread_words)
            (h.held.words ∙ split-words a t (u ∷ b) z (omega (arith, o.few)) o.before g o.behind)
            ∙ ap (λ (w : List ℤ). cleared (moved (pos c ∷ (A ++ w)) from at n) end thread_words) (append_assoc W B (zeros z))
            ∙ ap (λ (k : ℕ). cleared (moved (pos c ∷ (A ++ (W ++ (B ++ zeros z)))) from at k) end thread_words) m
            ∙ gap-closed (pos c ∷ A) W B at from end thread_words z
            (omega (arith, front_long a t c o.before g, h.place)) (thread-length o.behind.0) ef (omega arith)
            ∙ ap (λ (k : ℕ). pos k ∷ (A ++ (B ++ zeros (thread_words + z)))) ec
            ∙ sym (split-words a t b (thread_words + z) (omega (arith, o.few)) o.before g o.behind.1);
        fits = around-fits a b t o' g;
      };
      place = h.place;
    }
