-- How many promotions there are: each makes one thread, and a step frees at most one, by a join. So a beat makes fewer promotions than
-- there can be threads.
use Prim.Native.Nat.{ℕ, zero, suc, ◌+◌, ◌≤◌, ◌<◌}
use mathlib.Core.Path.{◌≡◌, refl, ◌∙◌, ap, subst}
use mathlib.Core.Bool.{Bool, true, false, cond}
use mathlib.Core.List.{List, [], ◌∷◌, ◌++◌}
use native.Mathlib.Omega.{arith}
use lib.Dec.{eqb, ltb}
use lib.IntN.{ℤ}
use lib.ListN.{length, take, drop, length-append, length-take, length-drop, length-map}
use Rattle.model.specs.Numbers as No
use Rattle.model.specs.Answers.{Answer}
use Rattle.model.specs.Syntax.{Program}
use Rattle.model.specs.Limits.{Limits}
use Rattle.model.specs.Pool.{Purse, Pool, most_threads, empty, is_pool}
use Rattle.model.specs.Rules.{Result, choice}
use Rattle.model.specs.Calls.{Lent}
use Rattle.model.proofs.Valid.{pool-facts, some-thread}
use Rattle.model.proofs.Guarantees.{read-limits}
use Rattle.model.proofs.Words.{lent-given}
use Rattle.model.proofs.Kept.{choice-kept}
use Rattle.tokens.specs.Purses.{purse_at, earned, shared}
use Rattle.tokens.specs.Beats.{Spent, paying, spend, Beaten, stepped, beaten, Ran, go_on, runs, most_n, lent_at, Beat, beat}
use Rattle.tokens.specs.Beats.{reported, run}
use Rattle.tokens.specs.Means.{purses, surviving}
use Rattle.tokens.proofs.Purses.{earned-length, shared-length, earned-valid}
use Rattle.tokens.proofs.Kept.{beaten-valid, runs-valid}
use Rattle.tokens.proofs.Words.{pace-facts, lent-at-given, beat-made, run_lent, run-refused}
use Rattle.tokens.proofs.Survivors.{choice-survivors}
use Rattle.tokens.proofs.Sums.{promoted-purses}

-- a choice frees at most one thread
chosen-length : (i rule : ℕ) (es : List Purse) → length es ≤ length (surviving rule i es) + 1
unfolding surviving
chosen-length i rule es = go (eqb rule No.prom) (eqb rule No.promote)
  where
    go : (b c : Bool) → length es ≤
        length (cond b (take (i + 1) es ++ drop (i + 2) es) (cond c (take (i + 1) es ++ (empty ∷ drop (i + 1) es)) es)) + 1
    go true c = simp (length-append, length-take, length-drop) (omega arith)
    go false true = simp (length-append, length-take, length-drop) (omega arith)
    go false false = omega arith

module _ (P : Program) (L : Limits P) where
  chosen-threads : (p p' : Pool) (kind i rule : ℕ) → choice P p kind i ≡ Result.made rule p' → length p ≤ length p' + 1
  chosen-threads p p' kind i rule e =
      let h : length (purses p') ≡ length (surviving rule i (purses p)) = ap length (choice-survivors P L p p' kind i rule e) in
      omega (arith, h, chosen-length i rule (purses p), length-map p (λ t. t.purse), length-map p' (λ t. t.purse))

  -- a promotion makes one
  pub promoted-threads : (p p' : Pool) (i rule : ℕ) → choice P p 1 i ≡ Result.made rule p' → length p' ≡ suc (length p)
  promoted-threads p p' i rule e =
      let h : length (purses p') ≡ suc (length (purses p)) =
      ap length (promoted-purses P L p p' i rule e) ∙ simp (length-append, length-take, length-drop) (omega arith)
      in
      omega (arith, length-map p (λ t. t.purse), length-map p' (λ t. t.purse))

  spend-threads : (most i : ℕ) (p : Pool) → length (spend most P i p).from + length p ≡ length (spend most P i p).pool
  unfolding spend paying
  spend-threads zero i p = omega arith
  spend-threads (suc most) i p = tokens (ltb 0 (purse_at p i).tokens) (λ q. spend-threads most i q)
    where
      Makes : Spent → Type 0
      Makes x = length x.from + length p ≡ length x.pool

      promoted : (r : Result) → choice P p 1 i ≡ r →
          ((q : Pool) → length (spend most P i q).from + length q ≡ length (spend most P i q).pool) →
          Makes (paying p r (λ p'. spend most P i (shared i p')))
      promoted (Result.refused n) e k = omega arith
      promoted (Result.made rule p') e k = omega (arith, k (shared i p'), shared-length i p', promoted-threads p p' i rule e)

      tokens : (b : Bool) → ((q : Pool) → length (spend most P i q).from + length q ≡ length (spend most P i q).pool) →
          Makes (cond b (paying p (choice P p 1 i) (λ p'. spend most P i (shared i p'))) (record { from = []; pool = p }))
      tokens true k = promoted (choice P p 1 i) refl k
      tokens false k = omega arith

  -- a beat, and a run
  Frees : Pool → Beaten → Type 0
  Frees p (Beaten.made rule x) = length x.from + length p ≤ length x.pool + 1
  Frees p (Beaten.refused n) = Unit {0}

  beaten-threads : (N C : ℕ) (p : Pool) (i : ℕ) → Frees p (beaten N C P p i)
  unfolding Frees beaten stepped
  beaten-threads N C p i = go (choice P p 0 i) refl
    where
      go : (r : Result) → choice P p 0 i ≡ r → Frees p (stepped N C P p i r)
      go (Result.refused n) e = tt
      go (Result.made rule p') e =
          omega (
            arith,
            spend-threads most_threads i (earned N C rule p i p'),
            earned-length N C rule p i p',
            chosen-threads p p' 0 i rule e,
          )

  pub runs-threads : (N C : ℕ) (p : Pool) (is : List ℕ) →
      (runs N C P p is).promotions + length p ≤ (runs N C P p is).steps + length (runs N C P p is).pool
  unfolding runs go_on Frees
  runs-threads N C p [] = omega arith
  runs-threads N C p (i ∷ is) = go (beaten N C P p i) (beaten-threads N C p i) (λ q. runs-threads N C q is)
    where
      Counts : Pool → Ran → Type 0
      Counts q r = r.promotions + length q ≤ r.steps + length r.pool

      go : (b : Beaten) → Frees p b → ((q : Pool) → Counts q (runs N C P q is)) → Counts p (go_on p b (λ q. runs N C P q is))
      go (Beaten.refused n) h k = omega arith
      go (Beaten.made rule x) h k = omega (arith, h, k x.pool)

  -- of a valid pool
  pub beaten-few : (N C : ℕ) (p : Pool) (i rule : ℕ) (x : Spent) → N ≤ most_n → is_pool P p ≡ true →
      beaten N C P p i ≡ Beaten.made rule x → length x.from < most_threads
  unfolding beaten stepped
  beaten-few N C p i rule x n v e = go (choice P p 0 i) refl e
    where
      go : (r : Result) → choice P p 0 i ≡ r → stepped N C P p i r ≡ Beaten.made rule x → length x.from < most_threads
      go (Result.refused m) c q = let z : ◌≡◌ {A = ℕ} 0 1 = cc in absurd (omega arith)
      go (Result.made m p') c q =
          let y : Pool = earned N C m p i p' in
          let w = earned-valid P N C m p i p' n (choice-kept P L p p' 0 i m v c) in
          let z : spend most_threads P i y ≡ x = cc in
          let f = (pool-facts P x.pool (beaten-valid P L N C p i rule x n v e)).few in
          omega (
            arith,
            subst (λ (o : Spent). length o.from + length y ≡ length o.pool) z (spend-threads most_threads i y),
            some-thread P y w,
            f,
          )

  pub runs-few : (N C : ℕ) (p : Pool) (is : List ℕ) → N ≤ most_n → is_pool P p ≡ true →
      (runs N C P p is).promotions < (runs N C P p is).steps + most_threads
  runs-few N C p is n v =
      omega (arith, runs-threads N C p is, some-thread P p v, (pool-facts P (runs N C P p is).pool (runs-valid P L N C p is n v)).few)

-- the same on bytes and words
pub beat-few : (s : List ℕ) (ws : List ℤ) (i N C : ℕ) (b : Beat) → (beat s ws i N C).answer ≡ Answer.given b → b.promotions < most_threads
beat-few s ws i N C b e =
    let m = beat-made s ws i N C b e in
    let g = lent-given s ws m.lends m.lent-to.lends in
    let P : Program = m.lends.table in
    let n = (pace-facts N C m.lent-to.pace).few in
    rw m.promotions
    (beaten-few P (read-limits s P g.reads) N C m.lends.pool i b.rule m.spent n g.valid m.made)

pub run-few : (s : List ℕ) (ws : List ℤ) (N C : ℕ) (is : List ℕ) → (run s ws N C is).promotions < (run s ws N C is).steps + most_threads
unfolding reported
run-few s ws N C is = go (lent_at s ws N C) refl
  where
    go : (a : Answer Lent) → lent_at s ws N C ≡ a → (run s ws N C is).promotions < (run s ws N C is).steps + most_threads
    go (Answer.refused r) e = rw (run-refused s ws N C is r e) (omega arith)
    go (Answer.given l) e =
        let h = lent-at-given s ws N C l e in
        let g = lent-given s ws l h.lends in
        rw (run_lent s ws N C is l h.lends h.pace)
        (runs-few l.table (read-limits s l.table g.reads) N C l.pool is (pace-facts N C h.pace).few g.valid)
