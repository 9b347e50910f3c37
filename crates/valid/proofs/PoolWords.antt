-- Words that are a pool of a table: what is looked at, thread by thread, against the definition.
use Prim.Native.Nat.{ℕ, zero, suc, ◌+◌, ◌*◌, ◌-◌, ◌≤◌}
use mathlib.Core.Path.{◌≡◌, refl, sym, ◌∙◌, ap}
use mathlib.Core.Bool.{true, false, ◌&&◌}
use mathlib.Core.List.{List, [], ◌∷◌, map}
use native.Mathlib.Nat.{min-eq_left}
use native.Mathlib.Omega.{arith}
use lib.IntN.{ℤ, pos}
use lib.ListN.{length, get_or, drop, length-map, length-drop}
use lib.Seq.{drop-cons}
use Rattle.model.specs.Lists.{all, Each, pad}
use Rattle.model.specs.Syntax.{Program}
use Rattle.model.specs.Pool.{most_threads, thread_words, thread_count_at, threads_at, pool_words, frames, words_of_thread}
use Rattle.model.specs.Pool.{words_of, runs, word_at}
use Rattle.model.specs.Pool.{count_at, thread_of, pool_of, same_words, children, trees, are_pool}
use Rattle.model.proofs.Facts.{true-false, and_left, and_right, both-and, lt-ltb, eqb-true}
use Rattle.model.specs.Valid.{IsThread}
use Rattle.model.proofs.Valid.{pool-facts, facts-pool}
use Rattle.model.proofs.Words.{same-words-refl, valid-words, valid-pool, words-length}
use Rattle.valid.specs.Judged.{num, is_zero, good_thread, forest}
use Rattle.valid.proofs.Bools.{small, small-number, plain_of}
use Rattle.valid.proofs.Runs.{Same, again, length_runs, padded-runs, runs-padded}
use Rattle.valid.proofs.ThreadWords.{good-thread-same, good-thread, thread-good, thread-sized}

-- threads that are d trees, as facts
pub record Trees (P : Program) (d : ℕ) (ts : List (List ℤ)) : Type 0 where
  pub same : Each (Same words_of_thread thread_of) ts
  pub each : Each (IsThread P) (map thread_of ts)
  pub tree : trees d (map thread_of ts) ≡ true

module _ (P : Program) where
  forest-goes : (t : List ℤ) (ts : List (List ℤ)) (d : ℕ)
      → forest P (suc d) (t ∷ ts) ≡ (good_thread P t && forest P (children (frames (thread_of t)) + d) ts)
  unfolding forest
  forest-goes t ts d =
      let e : suc d - 1 ≡ d = omega arith in
      rw (lt-ltb 0 (suc d) (omega arith), e)

  forest-trees : (ts : List (List ℤ)) (d : ℕ) → forest P d ts ≡ true → Trees P d ts
  unfolding forest trees
  forest-trees [] zero e = record { same = tt; each = tt; tree = refl }
  forest-trees [] (suc d) e = absurd (let z : suc d ≡ 0 = eqb-true (suc d) 0 e in omega arith)
  forest-trees (t ∷ ts) zero e = true-false false e refl
  forest-trees (t ∷ ts) (suc d) e =
      let g = sym (forest-goes t ts d) ∙ e in
      let good : good_thread P t ≡ true = and_left (good_thread P t) _ g in
      let r = forest-trees ts (children (frames (thread_of t)) + d) (and_right (good_thread P t) _ g) in
      record { same = (good-thread-same P t good, r.same); each = (good-thread P t good, r.each); tree = r.tree }

  trees-forest : (ts : List (List ℤ)) (d : ℕ) → Trees P d ts → forest P d ts ≡ true
  unfolding forest trees
  trees-forest [] zero h = refl
  trees-forest [] (suc d) h = true-false false h.tree refl
  trees-forest (t ∷ ts) zero h = true-false false h.tree refl
  trees-forest (t ∷ ts) (suc d) h =
      forest-goes t ts d ∙
      both-and (good_thread P t) _ (thread-good P t h.same.0 h.each.0)
      (trees-forest ts (children (frames (thread_of t)) + d) (record { same = h.same.1; each = h.each.1; tree = h.tree }))

-- what is looked at
pub record PoolTests (P : Program) (ws : List ℤ) : Type 0 where
  pub few : num ws thread_count_at ≤ most_threads
  pub behind : all is_zero (drop (num ws thread_count_at * thread_words) (drop threads_at ws)) ≡ true
  pub threads : forest P 1 (runs thread_words (num ws thread_count_at) (drop threads_at ws)) ≡ true

-- how many words a pool has
pub pool-long : (P : Program) (ws : List ℤ) → are_pool P ws ≡ true → length ws ≡ pool_words
pool-long P ws e = ap length (sym (valid-words P ws e)) ∙ words-length P (pool_of ws) (valid-pool P ws e)

module _ (ws : List ℤ) (l : length ws ≡ pool_words) where
  body-long : length (drop threads_at ws) ≡ most_threads * thread_words
  body-long = simp length-drop (omega arith)

  words_are : (n : ℕ) → count_at most_threads ws thread_count_at ≡ n
      → words_of (pool_of ws)
      ≡ pos n ∷ pad (most_threads * thread_words) (pos 0) (again words_of_thread thread_of thread_words n (drop threads_at ws))
  unfolding words_of pool_of
  words_are n e =
      let m : length (map thread_of (runs thread_words n (drop threads_at ws))) ≡ n =
      length-map (runs thread_words n (drop threads_at ws)) thread_of ∙ length_runs thread_words n (drop threads_at ws)
      in
      rw (e, m)

module _ (P : Program) (ws : List ℤ) (l : length ws ≡ pool_words) where
  pub pool-tests : are_pool P ws ≡ true → PoolTests P ws
  unfolding pool_of count_at
  pool-tests a =
      let n : ℕ = count_at most_threads ws thread_count_at in
      let few : n ≤ most_threads = omega arith in
      let w = sym (words_are ws l n refl) ∙ valid-words P ws a in
      let h = pool-facts P (pool_of ws) (valid-pool P ws a) in
      let c : num ws thread_count_at ≡ n = plain_of (ap (λ (r : List ℤ). get_or r thread_count_at (pos 0)) w) in
      let r =
      padded-runs thread_words words_of_thread thread_of thread-sized most_threads n (drop threads_at ws) few (body-long ws l)
      (ap (drop threads_at) w)
      in
      record {
        few = omega arith;
        behind = rw c r.behind;
        threads =
            rw c (trees-forest P (runs thread_words n (drop threads_at ws)) 1 (record { same = r.each; each = h.each; tree = h.tree }));
      }

  pub tests-pool : PoolTests P ws → are_pool P ws ≡ true
  unfolding are_pool pool_of count_at word_at
  tests-pool h =
      let n : ℕ = num ws thread_count_at in
      let e : count_at most_threads ws thread_count_at ≡ n =
      rw (small-number (get_or ws thread_count_at (pos 0)) (omega (arith, h.few)), min-eq_left h.few)
      in
      let t = forest-trees P (runs thread_words n (drop threads_at ws)) 1 h.threads in
      let r =
      runs-padded thread_words words_of_thread thread_of thread-sized most_threads n (drop threads_at ws) h.few (body-long ws l)
      (record { each = t.same; behind = h.behind })
      in
      let c : pos n ≡ get_or ws thread_count_at (pos 0) = sym (small (get_or ws thread_count_at (pos 0)) (omega (arith, h.few))) in
      let w : words_of (pool_of ws) ≡ ws =
      words_are ws l n e ∙ (λ i. c i ∷ r i) ∙ sym (drop-cons ws thread_count_at (pos 0) (omega arith)) in
      let p : pool_of ws ≡ map thread_of (runs thread_words n (drop threads_at ws)) =
      ap (λ (m : ℕ). map thread_of (runs thread_words m (drop threads_at ws))) e
      in
      let m : length (pool_of ws) ≤ most_threads = rw (p, length-map, length_runs) h.few in
      both-and (same_words (words_of (pool_of ws)) ws) _
      (rw w (same-words-refl ws))
      (facts-pool P (pool_of ws) (rw p (record { few = rw p at m; each = t.each; tree = t.tree })))
