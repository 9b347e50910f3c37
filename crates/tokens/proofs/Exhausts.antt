-- A beat promotes as long as it can pay: it leaves its thread without a token, or with a promotion that is refused.
use Prim.Native.Nat.{ℕ, zero, suc, ◌+◌, ◌≤◌, ◌<◌}
use mathlib.Core.Path.{◌≡◌, refl, ◌∙◌, ap}
use mathlib.Core.Logic.{◌⊎◌, inl, inr}
use mathlib.Core.Bool.{Bool, true, false, cond}
use mathlib.Core.List.{List, []}
use native.Mathlib.Omega.{arith}
use lib.Dec.{ltb}
use lib.IntN.{ℤ}
use lib.ListN.{length}
use Rattle.model.specs.Answers.{Refusal, Answer}
use Rattle.model.specs.Syntax.{Program}
use Rattle.model.specs.Limits.{Limits}
use Rattle.model.specs.Pool.{Pool, most_threads, is_pool}
use Rattle.model.specs.Rules.{Result, choice}
use Rattle.model.specs.Calls as Calls
use Rattle.model.specs.Calls.{Called, Lent, lent}
use Rattle.model.proofs.Facts.{ltb-false}
use Rattle.model.proofs.Valid.{pool-facts, some-thread}
use Rattle.model.proofs.Guarantees.{read-limits}
use Rattle.model.proofs.Words.{lent-given}
use Rattle.model.proofs.Kept.{choice-kept, choose-lent}
use Rattle.tokens.specs.Purses.{purse_at, earned, shared}
use Rattle.tokens.specs.Beats.{Spent, paying, spend, Beaten, stepped, beaten, most_n, beat}
use Rattle.tokens.specs.Means.{Exhausted, Exhausts}
use Rattle.tokens.proofs.Purses.{shared-length, earned-valid, shared-valid}
use Rattle.tokens.proofs.Words.{pace-facts, beat-made}
use Rattle.tokens.proofs.Few.{promoted-threads}

module _ (P : Program) (L : Limits P) (i : ℕ) where
  -- no token, or a refused promotion
  Ends : Pool → Type 0
  Ends p = ((purse_at p i).tokens ≡ 0) ⊎ ((n : ℕ) × (choice P p 1 i ≡ Result.refused n))

  -- with more tries than the pool has room for threads, the tries never run out
  spend-ends : (most : ℕ) (p : Pool) → is_pool P p ≡ true → most_threads < most + length p → Ends (spend most P i p).pool
  unfolding Ends spend paying
  spend-ends zero p v l = absurd (omega (arith, (pool-facts P p v).few))
  spend-ends (suc most) p v l = tokens (ltb 0 (purse_at p i).tokens) refl (λ q w h. spend-ends most q w h)
    where
      Rest : Type 0
      Rest = (q : Pool) → is_pool P q ≡ true → most_threads < most + length q → Ends (spend most P i q).pool

      promoted : (r : Result) → choice P p 1 i ≡ r → Rest → Ends (paying p r (λ p'. spend most P i (shared i p'))).pool
      promoted (Result.refused n) e k = inr (n, e)
      promoted (Result.made rule p') e k =
          k (shared i p') (shared-valid P i p' (choice-kept P L p p' 1 i rule v e))
          (omega (arith, shared-length i p', promoted-threads P L p p' i rule e))

      tokens : (b : Bool) → ltb 0 (purse_at p i).tokens ≡ b → Rest →
          Ends (cond b (paying p (choice P p 1 i) (λ p'. spend most P i (shared i p'))) (record { from = []; pool = p })).pool
      tokens true e k = promoted (choice P p 1 i) refl k
      tokens false e k = inl (omega (arith, ltb-false 0 (purse_at p i).tokens e))

  beaten-ends : (N C : ℕ) (p : Pool) (rule : ℕ) (x : Spent) → N ≤ most_n → is_pool P p ≡ true → beaten N C P p i ≡ Beaten.made rule x →
      Ends x.pool
  unfolding beaten stepped
  beaten-ends N C p rule x n v e = go (choice P p 0 i) refl e
    where
      go : (r : Result) → choice P p 0 i ≡ r → stepped N C P p i r ≡ Beaten.made rule x → Ends x.pool
      go (Result.refused m) c q = let z : ◌≡◌ {A = ℕ} 0 1 = cc in absurd (omega arith)
      go (Result.made m p') c q =
          let y : Pool = earned N C m p i p' in
          let w = earned-valid P N C m p i p' n (choice-kept P L p p' 0 i m v c) in
          let z : spend most_threads P i y ≡ x = cc in
          rw (← z) (spend-ends most_threads y w (omega (arith, some-thread P y w)))

-- on bytes and words
ends-lent : (s : List ℕ) (ws : List ℤ) (i : ℕ) (l : Lent) (L : Limits l.table) → lent s ws ≡ Answer.given l →
    Ends l.table L i l.pool → Exhausted s ws i
unfolding Ends Calls.made
ends-lent s ws i l L e (inl z) = record { lends = l; pool = e; exhausted = inl z }
ends-lent s ws i l L e (inr (n, r)) =
    record {
      lends = l;
      pool = e;
      exhausted = inr (Refusal.plain n, ap (λ (d : Called ℕ). d.answer) (choose-lent s ws 1 i e ∙ ap (Calls.made ws) r));
    }

pub exhausts : Exhausts
exhausts s ws i N C b e =
    let m = beat-made s ws i N C b e in
    let g = lent-given s ws m.lends m.lent-to.lends in
    let P : Program = m.lends.table in
    let L : Limits P = read-limits s P g.reads in
    let n = (pace-facts N C m.lent-to.pace).few in
    ends-lent s (beat s ws i N C).after i (record { table = P; pool = m.spent.pool }) L m.left
    (beaten-ends P L i N C m.lends.pool b.rule m.spent n g.valid m.made)
