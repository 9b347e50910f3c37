-- Promotions of a thread: one that is paid, and as many as it can pay.
use Prim.Native.Nat.{ℕ, zero, suc, ◌+◌, ◌-◌, ◌<◌}
use mathlib.Core.Path.{◌≡◌, refl, sym, ap, subst, ◌∙◌}
use mathlib.Core.Bool.{Bool, true, false, cond}
use mathlib.Core.List.{List}
use native.Mathlib.Nat.{zero-add, add-zero}
use native.Mathlib.Omega.{arith}
use lib.Dec.{ltb}
use lib.IntN.{ℤ}
use lib.ListN.{length}
use Rattle.model.specs.Syntax.{Program}
use Rattle.model.specs.Pool.{Purse, Pool, most_threads}
use Rattle.model.specs.Rules.{Result, choice}
use Rattle.model.proofs.Facts.{lt-ltb, le-ltb, true-false}
use Rattle.places.specs.Places.{Places}
use Rattle.std.specs.Prelude.{Ok, Err, is_err}
use Rattle.answers.specs.declared.No.{No}
use Rattle.answers.specs.declared.Rule.{Rule}
use Rattle.steps.specs.Choice.{Made, Chooses}
use Rattle.steps.proofs.Choosing.{chose-made, chose-refused}
use Rattle.tokens.specs.Purses.{purse_at, shared}
use Rattle.tokens.specs.Beats.{Spent, paying, spend}
use Rattle.beats.specs.declared.purse.Purse.{Purse as Lent}
use Rattle.beats.specs.Purses.{Holds, Finds, Shares}
use Rattle.beats.specs.Beating.{unspent, spent_more, Paid, Unpaid, PaidOr, Pays, Spends}

-- one promotion more to try
module _ (P : Program) (p : Pool) (i : ℕ) where
  spend-poor : (purse_at p i).tokens ≡ 0 → (most : ℕ) → spend most P i p ≡ unspent p
  unfolding spend
  spend-poor h zero = refl
  spend-poor h (suc most) = rw (le-ltb 0 (purse_at p i).tokens (omega arith)) refl

  spend-refused : {n : ℕ} → choice P p 1 i ≡ Result.refused n → (most : ℕ) → spend most P i p ≡ unspent p
  unfolding spend paying
  spend-refused h zero = refl
  spend-refused h (suc most) = rw h (go (ltb 0 (purse_at p i).tokens))
    where
      go : (b : Bool) → cond b (unspent p) (unspent p) ≡ unspent p
      go true = refl
      go false = refl

  spend-made : {rule : ℕ} {p' : Pool} → 0 < (purse_at p i).tokens → choice P p 1 i ≡ Result.made rule p' → (most : ℕ)
      → spend (suc most) P i p ≡ spent_more p (spend most P i (shared i p'))
  unfolding spend paying
  spend-made l h most = rw (lt-ltb 0 (purse_at p i).tokens l, h) refl

tokens-found : {ws : List ℤ} (i : ℕ) (e : Lent) → Finds ws i e → (P : Program) (p : Pool) → Holds P ws p → e.tokens ≡ (purse_at p i).tokens
tokens-found i e f P p h = ap (λ (x : Purse). x.tokens) (f P p h)

module _ {s places : List ℕ} {ws : List ℤ} (i : ℕ) (e : Lent) (f : Finds ws i e) where
  pub pays-poor : e.tokens ≡ 0 → Pays s places ws i false ws
  pays-poor z P p q h = record { holds = h; is = spend-poor P p i (sym (tokens-found i e f P p h) ∙ z) }

  module _ {r : Made} {ws' : List ℤ} (c : Chooses s places ws 1 i r ws') where
    pub pays-refused : {b : Bool} → b ≡ is_err r → b ≡ true → Pays s places ws i false ws'
    pays-refused {b} d z P p q h = go r (sym d ∙ z) c
      where
        go : (m : Made) → is_err {T = Rule} {E = No} m ≡ true → Chooses s places ws 1 i m ws' → Unpaid P p i ws'
        go (Ok rule) y c = true-false (is_err {T = Rule} {E = No} (Ok rule)) y refl
        go (Err n) y c =
            let x = chose-refused P p ws 1 i ws' n.0 (c P p q h.words h.valid) in
            record { holds = record { words = x.1 ∙ h.words; valid = h.valid }; is = spend-refused P p i x.0 }

    pub pays-made : {b : Bool} {ws'' : List ℤ} → (e.tokens ≡ 0 → ⊥) → b ≡ is_err r → b ≡ false → Shares ws' i ws''
        → Pays s places ws i true ws''
    pays-made {b} {ws''} t d z g P p q h = go r (sym d ∙ z) c
      where
        go : (m : Made) → is_err {T = Rule} {E = No} m ≡ false → Chooses s places ws 1 i m ws' → Paid P p i ws''
        go (Err n) y c = true-false (is_err {T = Rule} {E = No} (Err n)) refl y
        go (Ok rule) y c =
            let x = chose-made P p ws 1 i ws' rule.0 q.limits h.valid (c P p q h.words h.valid) in
            record {
              pool = shared i x.pool;
              holds = g P x.pool (record { words = x.words; valid = x.valid });
              is = spend-made P p i (omega (arith, t, tokens-found i e f P p h)) x.is;
            }

-- made of them: so many are made, and the rest is that of another pool, with as many fewer to try
pub record SpentBy (P : Program) (p : Pool) (i n : ℕ) (ws : List ℤ) : Type 0 where
  pub pool : Pool
  pub holds : Holds P ws pool
  pub count : length (spend most_threads P i p).from ≡ n + length (spend (most_threads - n) P i pool).from
  pub left : (spend most_threads P i p).pool ≡ (spend (most_threads - n) P i pool).pool

pub record Spending (s places : List ℕ) (ws₀ ws : List ℤ) (i n : ℕ) : Type 0 where
  pub at : (P : Program) (p : Pool) → Places s P places → Holds P ws₀ p → SpentBy P p i n ws

pub spending-none : (s places : List ℕ) (ws : List ℤ) (i : ℕ) → Spending s places ws ws i 0
spending-none s places ws i =
    record { at = λ P p q h. record { pool = p; holds = h; count = sym (zero-add _); left = refl } }

module _ {s places : List ℕ} {ws₀ ws : List ℤ} {i n : ℕ} (g : Spending s places ws₀ ws i n) where
  pub spending-more : {ws' : List ℤ} (r : Bool) → r ≡ true → n < most_threads → Pays s places ws i r ws'
      → Spending s places ws₀ ws' i (n + 1)
  spending-more {ws'} r e few f =
      record { at = λ P p q h. one P p (g.at P p q h) (λ p' h'. subst (λ (b : Bool). PaidOr b P p' i ws') e (f P p' q h')) }
    where
      one : (P : Program) (p : Pool) → SpentBy P p i n ws → ((p' : Pool) → Holds P ws p' → Paid P p' i ws') → SpentBy P p i (n + 1) ws'
      one P p x k =
          let y = k x.pool x.holds in
          let m : most_threads - n ≡ suc (most_threads - (n + 1)) = omega arith in
          let z : spend (most_threads - n) P i x.pool ≡ spent_more x.pool (spend (most_threads - (n + 1)) P i y.pool) =
          ap (λ (j : ℕ). spend j P i x.pool) m ∙ y.is (most_threads - (n + 1)) in
          let c : length (spend (most_threads - n) P i x.pool).from ≡ suc (length (spend (most_threads - (n + 1)) P i y.pool).from) =
          ap (λ (w : Spent). length w.from) z in
          record {
            pool = y.pool;
            holds = y.holds;
            count = omega (arith, x.count, c);
            left = x.left ∙ ap (λ (w : Spent). w.pool) z;
          }

  pub spending-stops : {ws' : List ℤ} (r : Bool) → r ≡ false → Pays s places ws i r ws' → Spends s places ws₀ i n ws'
  spending-stops {ws'} r e f P p q h =
      let x = g.at P p q h in
      let y : Unpaid P x.pool i ws' = subst (λ (b : Bool). PaidOr b P x.pool i ws') e (f P x.pool q x.holds) in
      let z = y.is (most_threads - n) in
      record {
        count = sym (x.count ∙ ap (λ (w : Spent). n + length w.from) z ∙ add-zero n);
        holds = subst (Holds P ws') (sym (x.left ∙ ap (λ (w : Spent). w.pool) z)) y.holds;
      }

  pub spending-all : most_threads ≡ n → Spends s places ws₀ i most_threads ws
  unfolding spend
  spending-all l P p q h =
      let x = g.at P p q h in
      let m : most_threads - n ≡ 0 = omega arith in
      let z : spend (most_threads - n) P i x.pool ≡ unspent x.pool = ap (λ (j : ℕ). spend j P i x.pool) m in
      record {
        count = l ∙ sym (x.count ∙ ap (λ (w : Spent). n + length w.from) z ∙ add-zero n);
        holds = subst (Holds P ws) (sym (x.left ∙ ap (λ (w : Spent). w.pool) z)) x.holds;
      }
