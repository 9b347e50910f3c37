-- How large a set of temporaries is, and what is in `below n`. Each law goes by halves: bit suc x of Γ is bit x of Γ / 2.
use Prim.Native.Nat.{ℕ, zero, suc, ◌+◌, ◌-◌, ◌^◌, ◌/◌, ◌%◌, ◌≤◌, ◌<◌}
use mathlib.Core.Path.{◌≡◌, refl, sym, ◌∙◌}
use mathlib.Core.Logic.{◌≢◌}
use mathlib.Core.Bool.{Bool, true, false, cond}
use native.Mathlib.Nat.{pow-suc, pow-succ', div-div-eq-div-mul, div-one}
use native.Mathlib.Omega.{arith}
use lib.Dec.{eqb}
use lib.Pow.{pow_pos, pow_mono}
use Rattle.model.specs.Sets.{has, with, below}
use Rattle.model.proofs.Facts.{eqb-false, eq-eqb}

pub has-zero : (Γ : ℕ) → has Γ zero ≡ eqb (Γ % 2) 1
unfolding has
has-zero Γ = rw div-one

pub has-suc : (Γ x : ℕ) → has Γ (suc x) ≡ has (Γ / 2) x
unfolding has
has-suc Γ x = rw (div-div-eq-div-mul, ← pow-succ')

even : (Γ : ℕ) → has Γ zero ≡ false → Γ % 2 ≡ 0
even Γ e = let h : Γ % 2 ≢ 1 = eqb-false (Γ % 2) 1 (sym (has-zero Γ) ∙ e) in omega arith

added-lt : (Γ x n : ℕ) → x < n → Γ < 2 ^ n → has Γ x ≡ false → Γ + 2 ^ x < 2 ^ n
added-lt Γ x zero h g e = absurd (omega arith)
added-lt Γ zero (suc n) h g e = omega (arith, even Γ e, pow-suc 2 n)
added-lt Γ (suc x) (suc n) h g e =
    omega (arith, pow-suc 2 n, pow-suc 2 x, added-lt (Γ / 2) x n (omega arith) (omega (arith, pow-suc 2 n)) (sym (has-suc Γ x) ∙ e))

-- Γ ∪ {x}
pub with-lt : (Γ x n : ℕ) → x < n → Γ < 2 ^ n → with Γ x < 2 ^ n
unfolding with
with-lt Γ x n h g = go (has Γ x) refl
  where
    go : (b : Bool) → has Γ x ≡ b → cond b Γ (Γ + 2 ^ x) < 2 ^ n
    go true e = g
    go false e = added-lt Γ x n h g e

-- the temporaries 0 to n - 1
pub has-below : (n x : ℕ) → x < n → has (below n) x ≡ true
unfolding below
has-below zero x h = absurd (omega arith)
has-below (suc n) zero h = has-zero (2 ^ suc n - 1) ∙ eq-eqb ((2 ^ suc n - 1) % 2) 1 (omega (arith, pow-suc 2 n, pow_pos n))
has-below (suc n) (suc x) h =
    let e : (2 ^ suc n - 1) / 2 ≡ 2 ^ n - 1 = omega (arith, pow-suc 2 n, pow_pos n) in
    rw (has-suc, e) (has-below n x (omega arith))

pub below-lt : (n m : ℕ) → n ≤ m → below n < 2 ^ m
unfolding below
below-lt n m h = omega (arith, pow_pos n, pow_mono h)
