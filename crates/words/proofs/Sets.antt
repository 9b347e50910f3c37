-- A set with one more temporary, as the code makes it: the bit is put in.
use Prim.Native.Nat.{ℕ, zero, suc, ◌+◌, ◌*◌, ◌≤◌, ◌<◌, ◌^◌, ◌/◌, ◌%◌, max}
use mathlib.Core.Path.{◌≡◌, refl, ◌∙◌, ap}
use mathlib.Core.Logic.{◌≢◌}
use mathlib.Core.Bool.{Bool, true, false, cond}
use native.Mathlib.Nat.{pow-suc, mod-eq_of_lt, pow-le-pow_right}
use native.Mathlib.Omega.{arith}
use lib.Bits.{bit_or, or_step, or_zero_r}
use Rattle.model.specs.Sets.{has, with}
use Rattle.model.proofs.Facts.{eqb-true, eqb-false}
use Rattle.model.proofs.Sets.{shift}

step : (n m q : ℕ) → m / 2 ≡ q → bit_or n m ≡ bit_or (n / 2) q * 2 + max (n % 2) (m % 2)
step n m q e = or_step n m ∙ ap (λ (k : ℕ). bit_or (n / 2) k * 2 + max (n % 2) (m % 2)) e

digit : (n x : ℕ) → bit_or n (2 ^ suc x) ≡ bit_or (n / 2) (2 ^ x) * 2 + max (n % 2) (2 ^ suc x % 2)
digit n x = step n (2 ^ suc x) (2 ^ x) (omega (arith, pow-suc 2 x))

-- the bit is put in where it was not, and changes nothing where it was
put : (Γ x : ℕ) → bit_or Γ (2 ^ x) ≡ with Γ x
unfolding with has
put Γ zero = step Γ 1 0 refl ∙ ap (λ (k : ℕ). k * 2 + max (Γ % 2) 1) (or_zero_r (Γ / 2)) ∙ go (has Γ zero) refl
  where
    go : (b : Bool) → has Γ zero ≡ b → Γ / 2 * 2 + max (Γ % 2) 1 ≡ cond b Γ (Γ + 1)
    go true e = omega (arith, eqb-true (Γ / 1 % 2) 1 e)
    go false e = let h : Γ / 1 % 2 ≢ 1 = eqb-false _ _ e in omega arith
put Γ (suc x) =
    digit Γ x ∙ ap (λ (k : ℕ). k * 2 + max (Γ % 2) (2 ^ suc x % 2)) (put (Γ / 2) x) ∙ rw shift (go (has (Γ / 2) x))
  where
    go : (b : Bool) → cond b (Γ / 2) (Γ / 2 + 2 ^ x) * 2 + max (Γ % 2) (2 ^ suc x % 2) ≡ cond b Γ (Γ + 2 ^ suc x)
    go true = omega (arith, pow-suc 2 x)
    go false = omega (arith, pow-suc 2 x)

pub low : (x : ℕ) → x < 16 → 1 * 2 ^ x % 65536 ≡ 2 ^ x
low x h =
    let l : 2 ^ x ≤ 2 ^ 15 = pow-le-pow_right {n = 2} (omega arith) {i = x} {j = 15} (omega arith) in
    let e : 1 * 2 ^ x ≡ 2 ^ x = omega arith in
    ap (λ (k : ℕ). k % 65536) e ∙ mod-eq_of_lt (omega arith)

pub bind-with : (Γ x : ℕ) → x < 16 → bit_or Γ (1 * 2 ^ x % 65536) ≡ with Γ x
bind-with Γ x h = ap (bit_or Γ) (low x h) ∙ put Γ x
