-- What a turn of the loops over frames and over threads leaves, and what the functions around them answer.
use Prim.Native.Nat.{ℕ, zero, suc, ◌+◌, ◌*◌, ◌-◌, ◌≤◌, ◌<◌}
use mathlib.Core.Path.{◌≡◌, refl, sym, ◌∙◌, ap, subst}
use mathlib.Core.Bool.{Bool, true, false, not, ◌&&◌, ◌||◌}
use mathlib.Core.List.{List, ◌∷◌}
use native.Mathlib.Nat.{mul_comm, mul-suc}
use native.Mathlib.Numerals.{add-one}
use native.Mathlib.Omega.{arith}
use lib.Dec.{eqb, leb, ltb}
use lib.IntN.{ℤ}
use lib.ListN.{length, take, drop, length-drop}
use lib.Seq.{take_all, drop-drop}
use Rattle.model.specs.Lists.{all}
use Rattle.model.specs.Syntax.{Program}
use Rattle.model.specs.Pool.{most_frames, most_threads, most_work, most_tokens, done_at, opened_at, promoted_at, frame_words}
use Rattle.model.specs.Pool.{frame_count_at}
use Rattle.model.specs.Pool.{work_at, tokens_at, frames_at, thread_words, thread_count_at, threads_at, pool_words, frames, runs, thread_of}
use Rattle.model.specs.Pool.{children, are_pool}
use Rattle.model.proofs.Facts.{true-false, lt-ltb, le-ltb, leb-true, le-leb, and_left, and_right, both-and, not-true, not-false}
use Rattle.std.specs.Prelude.{Option, Some, None}
use Rattle.valid.specs.Judged.{beyond, num, is_zero, good_frame, good_thread, lasts, fine, promotions, good_purse, forest, follows}
use Rattle.valid.specs.Judged.{Answers, Few}
use Rattle.valid.proofs.Bools.{same_test, fails}
use Rattle.valid.proofs.ThreadWords.{ThreadTests, good-thread-tests, tests-good-thread, child-count}
use Rattle.valid.proofs.PoolWords.{PoolTests, pool-tests, tests-pool, pool-long}

-- the words of a slice, by its start and its end; run j of one size; and all from a start on, as a slice to the end
abbrev piece : ℕ → ℕ → List ℤ → List ℤ
piece at end ws = take (end - at) (drop at ws)

abbrev run : ℕ → ℕ → List ℤ → List ℤ
run size j ws = piece (size * j) (size * j + size) ws

to_end : (at end : ℕ) (ws : List ℤ) → length ws ≡ end → piece at end ws ≡ drop at ws
to_end at end ws l = take_all (end - at) (drop at ws) (simp length-drop (omega arith))

behind-runs : (before size n end : ℕ) (ws : List ℤ) → length ws ≡ end → piece (before + size * n) end ws ≡ drop (n * size) (drop before ws)
behind-runs before size n end ws l =
    let e : before + size * n ≡ before + n * size = ap (λ (m : ℕ). before + m) (mul_comm size n) in
    to_end (before + size * n) end ws l ∙ ap (λ (i : ℕ). drop i ws) e ∙ sym (drop-drop (n * size) before ws)

-- the last of some runs
lasts-down : (size n : ℕ) (ws : List ℤ) → 0 < n → lasts size n ws ≡ run size (n - 1) ws ∷ lasts size (n - 1) ws
unfolding lasts
lasts-down size zero ws h = absurd (omega arith)
lasts-down size (suc n) ws h =
    let e : suc n - 1 ≡ n = omega arith in
    let m : size * (suc n - 1) + size - size * (suc n - 1) ≡ size = omega arith in
    rw (m, e)

-- of four tests in a row the two in the middle, told together
middle-fails : (a b c d : Bool) → (b && c) ≡ false → (a && b && c && d) ≡ false
middle-fails true true c d e = rw e refl
middle-fails true false c d e = refl
middle-fails false b c d e = refl

three-hold : (a b c d : Bool) → a ≡ true → (b && c) ≡ true → (a && b && c && d) ≡ d
three-hold true true c d p q = rw q refl
three-hold true false c d p q = true-false false q refl
three-hold false b c d p q = true-false false p refl

-- the frames of a thread, from the last: the frame w comes next, with `left - 1` behind it
module _ (P : Program) (ws : List ℤ) (n left : ℕ) (newest free : Bool) (some : 0 < left)
    (h : fine P true true (lasts frame_words n ws) ≡ fine P newest free (lasts frame_words left ws)) where
  abbrev next : List ℤ
  next = run frame_words (left - 1) ws

  abbrev rest : ℕ → Bool
  rest p = fine P false (free && eqb p 0) (lasts frame_words (left - 1) ws)

  frames-step : fine P true true (lasts frame_words n ws) ≡
      (good_frame P next && (newest || eqb (num next done_at) 0) && (free || eqb (num next promoted_at) (num next opened_at)) &&
      rest (num next promoted_at))
  unfolding fine
  frames-step = h ∙ ap (fine P newest free) (lasts-down frame_words left ws some)

  pub frame-bad : (r : Bool) → r ≡ good_frame P next → not r ≡ true → fine P true true (lasts frame_words n ws) ≡ false
  frame-bad r e b = frames-step ∙ rw (sym e ∙ not-true r b) refl

  pub follow-bad : (r : Bool) → r ≡ follows newest free next → not r ≡ true → fine P true true (lasts frame_words n ws) ≡ false
  follow-bad r e b = frames-step ∙ middle-fails (good_frame P next) _ _ (rest (num next promoted_at)) (sym e ∙ not-true r b)

  pub frame-fine : (r q : Bool) (p : ℕ) → r ≡ good_frame P next → not r ≡ false → q ≡ follows newest free next → not q ≡ false
      → p ≡ num next promoted_at → fine P true true (lasts frame_words n ws) ≡ rest p
  frame-fine r q p e b f d m =
      frames-step
      ∙ three-hold (good_frame P next) _ _ (rest (num next promoted_at)) (sym e ∙ not-false r b) (sym f ∙ not-false q d)
      ∙ ap rest (sym m)

pub one_more : (ws : List ℤ) (n left sum p : ℕ) → 0 < left
    → promotions (lasts frame_words n ws) ≡ sum + promotions (lasts frame_words left ws)
    → p ≡ num (run frame_words (left - 1) ws) promoted_at
    → promotions (lasts frame_words n ws) ≡ sum + p + promotions (lasts frame_words (left - 1) ws)
unfolding promotions
one_more ws n left sum p some h m =
    let e : promotions (lasts frame_words left ws) ≡
    num (run frame_words (left - 1) ws) promoted_at + promotions (lasts frame_words (left - 1) ws) =
    ap promotions (lasts-down frame_words left ws some)
    in
    omega arith

-- no frame left
pub frames-end : (P : Program) (ws : List ℤ) (n left sum : ℕ) (newest free : Bool) → left ≤ 0
    → fine P true true (lasts frame_words n ws) ≡ fine P newest free (lasts frame_words left ws)
    → promotions (lasts frame_words n ws) ≡ sum + promotions (lasts frame_words left ws)
    → Answers (fine P true true (lasts frame_words n ws)) (promotions (lasts frame_words n ws)) (Some sum)
unfolding lasts fine promotions
frames-end P ws n zero sum newest free l h e = (h, omega arith)
frames-end P ws n (suc left) sum newest free l h e = absurd (omega arith)

-- a thread's words
module _ (P : Program) (t : List ℤ) (l : length t ≡ thread_words) where
  pub not-thread : (ThreadTests P t → ⊥) → good_thread P t ≡ false
  not-thread h = fails (good_thread P t) (λ e. h (good-thread-tests P t l e))

  pub not-purse : (r : Bool) → r ≡ good_purse t → not r ≡ true → good_thread P t ≡ false
  not-purse r e b =
      not-thread (λ h.
      true-false r
      (e ∙ both-and (leb (num t work_at) most_work) _ (le-leb (num t work_at) most_work h.work)
      (le-leb (num t tokens_at) most_tokens h.tokens))
      (not-true r b))

  module _ (n : ℕ) (r : Bool) (e : n ≡ num t frame_count_at)
      (z : r ≡ all is_zero (piece (frames_at + frame_words * n) thread_words t)) where
    zeros-are : r ≡ all is_zero (drop (n * frame_words) (drop frames_at t))
    zeros-are = z ∙ ap (all is_zero) (behind-runs frames_at frame_words n thread_words t l)

    pub not_behind : not r ≡ true → good_thread P t ≡ false
    not_behind b = not-thread (λ h. true-false r (zeros-are ∙ rw e h.behind) (not-true r b))

    -- the frames' words, as they are looked at
    abbrev Told : List ℤ → Option ℕ → Type 0
    Told ws a = Answers (fine P true true (lasts frame_words n ws)) (promotions (lasts frame_words n ws)) a

    pub thread-answer : (a : Option ℕ) → (n ≡ 0 → ⊥) → n ≤ most_frames → (q : Bool) → q ≡ good_purse t → not q ≡ false → not r ≡ false
        → Told (piece frames_at thread_words t) a
        → Answers (good_thread P t) (children (frames (thread_of t))) a
    thread-answer a some few q u v b h = go a (subst (λ (q : List ℤ). Told q a) (to_end frames_at thread_words t l) h)
      where
        purse : good_purse t ≡ true
        purse = sym u ∙ not-false q v

        go : (a : Option ℕ) → Told (drop frames_at t) a → Answers (good_thread P t) (children (frames (thread_of t))) a
        go (Some m) g =
            let tests : ThreadTests P t =
            record {
              some = omega arith;
              few = omega arith;
              behind = rw (← e) (sym zeros-are ∙ not-false r b);
              frames = rw (← e) g.0;
              work = leb-true (num t work_at) most_work (and_left (leb (num t work_at) most_work) _ purse);
              tokens = leb-true (num t tokens_at) most_tokens (and_right (leb (num t work_at) most_work) _ purse);
            } in
            (tests-good-thread P t l tests, g.1 ∙ rw e (child-count P t l tests))
        go None g = not-thread (λ h. true-false (fine P true true (lasts frame_words n (drop frames_at t))) (rw e h.frames) g)

-- what an answer tells
pub few-are : {m : ℕ} (r : Option ℕ) → r ≡ Some m → Few r → m ≤ most_frames * beyond
few-are r e h = subst Few e h

pub are-answers : (b : Bool) (n m : ℕ) (r : Option ℕ) → r ≡ Some m → Answers b n r → (b ≡ true) × (m ≡ n)
are-answers b n m r e h = subst (Answers b n) e h

pub bad-answers : (b : Bool) (n : ℕ) (r : Option ℕ) → r ≡ None → Answers b n r → b ≡ false
bad-answers b n r e h = subst (Answers b n) e h

-- threads, from thread i on
runs-goes : (size n i : ℕ) (ws : List ℤ) → i < n
    → runs size (n - i) (drop (size * i) ws) ≡ run size i ws ∷ runs size (n - (i + 1)) (drop (size * (i + 1)) ws)
unfolding runs
runs-goes size n i ws h =
    let e : n - i ≡ suc (n - (i + 1)) = omega arith in
    let m : size * i + size - size * i ≡ size = omega arith in
    let k : size * i + size ≡ size * (i + 1) = omega (arith, mul-suc size i, add-one i) in
    rw (e, m, ← k, ← drop-drop size (size * i) ws)

-- d trees are to come from thread i on
abbrev pub from : Program → List ℤ → ℕ → ℕ → ℕ → Bool
from P ws n i d = forest P d (runs thread_words (n - i) (drop (thread_words * i) ws))

module _ (P : Program) (ws : List ℤ) (n i d : ℕ) (h : forest P 1 (runs thread_words n ws) ≡ from P ws n i d) where
  abbrev thread : List ℤ
  thread = run thread_words i ws

  trees-step : i < n → forest P 1 (runs thread_words n ws) ≡
      (ltb 0 d && good_thread P thread && from P ws n (i + 1) (children (frames (thread_of thread)) + (d - 1)))
  unfolding forest
  trees-step l = h ∙ ap (forest P d) (runs-goes thread_words n i ws l)

  pub no-demand : i < n → d ≡ 0 → false ≡ forest P 1 (runs thread_words n ws)
  no-demand l e = sym (trees-step l ∙ rw (le-ltb 0 d (omega arith)) refl)

  pub no-thread : i < n → good_thread P thread ≡ false → false ≡ forest P 1 (runs thread_words n ws)
  no-thread l e = sym (trees-step l ∙ and-false (ltb 0 d) _ _ e)
    where
      and-false : (a b c : Bool) → b ≡ false → (a && b && c) ≡ false
      and-false true b c q = rw q refl
      and-false false b c q = refl

  pub thread-goes : i < n → (d ≡ 0 → ⊥) → (m : ℕ) → (good_thread P thread ≡ true) × (m ≡ children (frames (thread_of thread)))
      → forest P 1 (runs thread_words n ws) ≡ from P ws n (i + 1) (m + (d - 1))
  thread-goes l z m g = trees-step l ∙ rw (lt-ltb 0 d (omega arith), g.0, g.1) refl

  pub trees-end : n ≤ i → eqb d 0 ≡ forest P 1 (runs thread_words n ws)
  unfolding forest runs
  trees-end l =
      let e : n - i ≡ 0 = omega arith in
      sym (h ∙ ap (λ (k : ℕ). forest P d (runs thread_words k (drop (thread_words * i) ws))) e)

-- a pool's words
module _ (P : Program) (ws : List ℤ) where
  pub not-pool : (length ws ≡ pool_words → PoolTests P ws → ⊥) → false ≡ are_pool P ws
  not-pool h = sym (fails (are_pool P ws) (λ e. h (pool-long P ws e) (pool-tests P ws (pool-long P ws e) e)))

  module _ (l : length ws ≡ pool_words) (n : ℕ) (e : n ≡ num ws thread_count_at) (few : n ≤ most_threads) (r : Bool)
      (z : r ≡ all is_zero (piece (threads_at + thread_words * n) pool_words ws)) where
    free-are : r ≡ all is_zero (drop (n * thread_words) (drop threads_at ws))
    free-are = z ∙ ap (all is_zero) (behind-runs threads_at thread_words n pool_words ws l)

    pub not-pool-behind : not r ≡ true → false ≡ are_pool P ws
    not-pool-behind b = not-pool (λ _ h. true-false r (free-are ∙ rw e h.behind) (not-true r b))

    pub pool-answer : (q : Bool) → not r ≡ false → q ≡ forest P 1 (runs thread_words n (piece threads_at pool_words ws)) → q ≡ are_pool P ws
    pool-answer q b f =
        let g : q ≡ forest P 1 (runs thread_words n (drop threads_at ws)) =
        f ∙ ap (λ (x : List ℤ). forest P 1 (runs thread_words n x)) (to_end threads_at pool_words ws l)
        in
        same_test q (are_pool P ws)
        (λ t.
        tests-pool P ws l
        (record {
          few = omega arith;
          behind = rw (← e) (sym free-are ∙ not-false r b);
          threads = rw (← e) (sym g ∙ t);
        }))
        (λ t. g ∙ rw e (pool-tests P ws l t).threads)
