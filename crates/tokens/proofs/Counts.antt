-- What the purses of a pool are worth, in each part of a run: a step puts C in, a promotion takes N out, and what is lost is counted.
use Prim.Native.Nat.{ℕ, zero, suc, ◌+◌, ◌-◌, ◌*◌, ◌/◌, ◌≤◌, ◌<◌, min}
use mathlib.Core.Path.{◌≡◌, refl, ◌∙◌, ap}
use mathlib.Core.Bool.{Bool, true, false, cond}
use mathlib.Core.List.{List, [], ◌∷◌}
use native.Mathlib.Nat.{mul-zero, zero-mul, mul-one, mul-add, add-mul, suc-mul, mul_comm}
use native.Mathlib.Omega.{arith}
use lib.Dec.{eqb, ltb}
use lib.ListN.{length}
use Rattle.model.specs.Numbers as No
use Rattle.model.specs.Syntax.{Program}
use Rattle.model.specs.Limits.{Limits}
use Rattle.model.specs.Pool.{Purse, Pool, most_threads, most_tokens, empty}
use Rattle.model.specs.Rules.{Result, choice}
use Rattle.model.proofs.Facts.{ltb-true, ltb-false}
use Rattle.tokens.specs.Purses.{arrive, worked, handed, kept, purse_at, brought, earned, shared}
use Rattle.tokens.specs.Beats.{Spent, paying, spend, stepped, beaten, Ran, go_on, runs}
use Rattle.tokens.specs.Means.{worth}
use Rattle.tokens.specs.Account.{over, Lost, lost_at, losing, lost}
use Rattle.tokens.proofs.Sums.{sum, total, thread-stays, endow-total, promoted-total, chosen-total}

module _ (N C : ℕ) where
  -- what one purse is worth; and what of that its work above N - 1 is, which is wasted when tokens come for it
  unfoldable pub value : Purse → ℕ
  value e = N * e.tokens + C * e.work

  unfoldable pub surplus : Purse → ℕ
  surplus e = C * ((e.work + 1) - N)

  pub worth-total : (p : Pool) → worth N C p ≡ total value p
  unfolding worth total sum value
  worth-total [] = refl
  worth-total (t ∷ ts) = ap (λ (n : ℕ). N * t.purse.tokens + C * t.purse.work + n) (worth-total ts)

  empty-value : value empty ≡ 0
  unfolding value
  empty-value = rw (mul-zero N, mul-zero C)

  pub empty-surplus : 0 < N → surplus empty ≡ 0
  unfolding surplus
  empty-surplus l = let z : (0 + 1) - N ≡ 0 = omega arith in rw (z, mul-zero C)

  -- tokens that come, and work
  arrive-value : (m : ℕ) (e : Purse) → value (arrive m e) + N * over m e ≡ value e + N * m
  unfolding value arrive over
  arrive-value m e =
      let a : ℕ = min (e.tokens + m) most_tokens in
      let b : ℕ = (e.tokens + m) - most_tokens in
      let h : a + b ≡ e.tokens + m = omega arith in
      omega (arith, ap (λ n. N * n) h, mul-add N a b, mul-add N e.tokens m)

  -- what is dropped when work is added
  dropped : Purse → ℕ
  dropped e = cond (ltb (e.work + 1) N) 0 (over C e)

  worked-value : (e : Purse) → value (worked N C e) + N * dropped e + surplus e ≡ value e + C
  unfolding worked value surplus dropped over
  worked-value e = go (ltb (e.work + 1) N) refl
    where
      go : (b : Bool) → ltb (e.work + 1) N ≡ b →
          value (cond b (record { work = e.work + 1; tokens = e.tokens }) (arrive C (record { work = 0; tokens = e.tokens })))
          + N * cond b 0 (over C e) + C * ((e.work + 1) - N) ≡ value e + C
      go true q =
          let z : (e.work + 1) - N ≡ 0 = omega (arith, ltb-true (e.work + 1) N q) in
          rw z (omega (arith, mul-zero N, mul-zero C, mul-add C e.work 1, mul-one C))
      go false q =
          let k : ℕ = (e.work + 1) - N in
          let h : N + k ≡ e.work + 1 = omega (arith, ltb-false (e.work + 1) N q) in
          omega (
            arith,
            arrive-value C (record { work = 0; tokens = e.tokens }),
            ap (λ n. C * n) h,
            mul-add C N k,
            mul-add C e.work 1,
            mul-one C,
            mul-zero C,
            mul_comm N C,
          )

  worked-surplus : 0 < N → (e : Purse) → surplus (worked N C e) ≡ 0
  unfolding worked surplus arrive
  worked-surplus l e = go (ltb (e.work + 1) N) refl
    where
      go : (b : Bool) → ltb (e.work + 1) N ≡ b →
          surplus (cond b (record { work = e.work + 1; tokens = e.tokens }) (arrive C (record { work = 0; tokens = e.tokens }))) ≡ 0
      go true q = let z : (e.work + 1 + 1) - N ≡ 0 = omega (arith, ltb-true (e.work + 1) N q) in rw (z, mul-zero C)
      go false q = empty-surplus l

  -- a promotion's cost
  split-value : (e : Purse) → 0 < e.tokens → value (kept e) + value (handed e) + N ≡ value e
  unfolding value kept handed
  split-value e l =
      let k : ℕ = (e.tokens - 1) / 2 in
      let m : ℕ = (e.tokens - 1) - (e.tokens - 1) / 2 in
      let a : e.tokens ≡ m + k + 1 = omega arith in
      let b : N * e.tokens ≡ N * m + N * k + N * 1 = ap (λ n. N * n) a ∙ mul-add N (m + k) 1 ∙ ap (λ n. n + N * 1) (mul-add N m k) in
      omega (arith, b, mul-one N, mul-zero C)

  split-surplus : 0 < N → (e : Purse) → surplus (kept e) + surplus (handed e) ≡ surplus e
  unfolding surplus kept handed
  split-surplus l e = omega (arith, empty-surplus l)

module _ (N C : ℕ) (some : 0 < N) (P : Program) (L : Limits P) where
  abbrev values : Pool → ℕ
  values p = total (value N C) p

  abbrev surpluses : Pool → ℕ
  surpluses p = total (surplus N C) p

  -- a step, with what it earns: C comes in
  chosen-value : (p p' : Pool) (i rule : ℕ) → choice P p 0 i ≡ Result.made rule p' →
      values p' + N * brought rule p i + C * (lost_at N C rule p i p').work ≡ values p
  unfolding brought lost_at value
  chosen-value p p' i rule e = go (eqb rule No.prom) (chosen-total (value N C) (empty-value N C) P L p p' 0 i rule e)
    where
      d : Purse
      d = purse_at p (i + 1)

      go : (b : Bool) → values p' + cond b (N * d.tokens + C * d.work) 0 ≡ values p →
          values p' + N * cond b d.tokens 0 + C * cond b d.work 0 ≡ values p
      go true h = omega arith
      go false h = omega (arith, mul-zero N, mul-zero C)

  step_value : (p p' : Pool) (i rule : ℕ) → choice P p 0 i ≡ Result.made rule p' →
      let x = lost_at N C rule p i p' in
      values (earned N C rule p i p') + N * x.tokens + C * x.work + surplus N C (purse_at p' i) ≡ values p + C
  unfolding earned lost_at dropped arrive surplus
  step_value p p' i rule c =
      let m : ℕ = brought rule p i in
      let e : Purse = purse_at p' i in
      omega (
        arith,
        endow-total (value N C) i (worked N C (arrive m e)) p' (thread-stays P L p p' 0 i rule c),
        worked-value N C (arrive m e),
        arrive-value N C m e,
        chosen-value p p' i rule c,
        mul-add N (over m e) (dropped N C (arrive m e)),
      )

  step-surplus : (p p' : Pool) (i rule : ℕ) → choice P p 0 i ≡ Result.made rule p' →
      surpluses (earned N C rule p i p') + surplus N C (purse_at p' i) ≤ surpluses p
  unfolding earned
  step-surplus p p' i rule c =
      let e : Purse = arrive (brought rule p i) (purse_at p' i) in
      omega (
        arith,
        endow-total (surplus N C) i (worked N C e) p' (thread-stays P L p p' 0 i rule c),
        worked-surplus N C some e,
        chosen-total (surplus N C) (empty-surplus N C some) P L p p' 0 i rule c,
      )

  -- promotions: each takes N out
  record Spends (p : Pool) (x : Spent) : Type 0 where
    cost : length x.from * N + values x.pool ≡ values p
    same : surpluses x.pool ≡ surpluses p

  spend-value : (most i : ℕ) (p : Pool) → Spends p (spend most P i p)
  unfolding spend paying
  spend-value zero i p = record { cost = omega (arith, zero-mul N); same = refl }
  spend-value (suc most) i p = tokens (ltb 0 (purse_at p i).tokens) refl (λ q. spend-value most i q)
    where
      promoted : 0 < (purse_at p i).tokens → (r : Result) → choice P p 1 i ≡ r → ((q : Pool) → Spends q (spend most P i q)) →
          Spends p (paying p r (λ p'. spend most P i (shared i p')))
      promoted l (Result.refused n) e k = record { cost = omega (arith, zero-mul N); same = refl }
      promoted l (Result.made rule p') e k =
          let x : Spent = spend most P i (shared i p') in
          let h = k (shared i p') in
          record {
            cost =
                omega (
                  arith,
                  promoted-total (value N C) P L p p' i rule e,
                  split-value N C (purse_at p i) l,
                  suc-mul (length x.from) N,
                );
            same = omega (arith, promoted-total (surplus N C) P L p p' i rule e, split-surplus N C some (purse_at p i));
          }

      tokens : (b : Bool) → ltb 0 (purse_at p i).tokens ≡ b → ((q : Pool) → Spends q (spend most P i q)) →
          Spends p (cond b (paying p (choice P p 1 i) (λ p'. spend most P i (shared i p'))) (record { from = []; pool = p }))
      tokens true e k = promoted (ltb-true 0 (purse_at p i).tokens e) (choice P p 1 i) refl k
      tokens false e k = record { cost = omega (arith, zero-mul N); same = refl }

  -- a run: all that it had and that its steps brought in is spent, held or lost; and of work above N - 1 no more is lost than there was
  pub record Counts (p : Pool) (r : Ran) (x : Lost) : Type 0 where
    pub wasted : ℕ
    pub balance : r.promotions * N + values r.pool + N * x.tokens + C * x.work + wasted ≡ C * r.steps + values p
    pub little : surpluses r.pool + wasted ≤ surpluses p

  pub runs-count : (p : Pool) (is : List ℕ) → Counts p (runs N C P p is) (lost N C P p is)
  unfolding runs beaten stepped go_on lost losing
  runs-count p [] = record { wasted = 0; balance = omega (arith, zero-mul N, mul-zero N, mul-zero C); little = omega arith }
  runs-count p (i ∷ is) = go (choice P p 0 i) refl (λ q. runs-count q is)
    where
      go : (r : Result) → choice P p 0 i ≡ r → ((q : Pool) → Counts q (runs N C P q is) (lost N C P q is)) →
          Counts p (go_on p (stepped N C P p i r) (λ q. runs N C P q is)) (losing N C P p i r (λ q. lost N C P q is))
      go (Result.refused n) e k =
          record { wasted = 0; balance = omega (arith, zero-mul N, mul-zero N, mul-zero C); little = omega arith }
      go (Result.made rule p') e k =
          let x : Spent = spend most_threads P i (earned N C rule p i p') in
          let r : Ran = runs N C P x.pool is in
          let y : Lost = lost_at N C rule p i p' in
          let z : Lost = lost N C P x.pool is in
          let h = k x.pool in
          let spends = spend-value most_threads i (earned N C rule p i p') in
          record {
            wasted = surplus N C (purse_at p' i) + h.wasted;
            balance =
                omega (
                  arith,
                  step_value p p' i rule e,
                  add-mul r.promotions (length x.from) N,
                  mul-add C r.steps 1,
                  mul-one C,
                  mul-add N y.tokens z.tokens,
                  mul-add C y.work z.work,
                );
            little = omega (arith, step-surplus p p' i rule e);
          }
