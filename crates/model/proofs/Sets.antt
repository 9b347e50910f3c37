-- Laws of sets of temporaries: what is in a set with one more, in all of a list more, and in a part.
use Prim.Native.Nat.{ℕ, zero, suc, ◌+◌, ◌^◌, ◌/◌, ◌%◌}
use mathlib.Core.Path.{◌≡◌, refl, sym, ◌∙◌, ap}
use mathlib.Core.Logic.{◌≢◌}
use mathlib.Core.Bool.{Bool, true, false, cond}
use mathlib.Core.List.{List, [], ◌∷◌}
use native.Mathlib.Nat.{pow-suc, div-div-eq-div-mul, mul_comm}
use native.Mathlib.Omega.{arith}
use native.Mathlib.Decide.{ℕ_discrete}
use lib.Dec.{eqb}
use lib.Bits.{bit_and, and_shr, and_step}
use Rattle.model.specs.Lists.{Each}
use Rattle.model.specs.Sets.{has, with, with_all, within, ◌∈◌, ◌⊆◌}
use Rattle.model.proofs.Facts.{eqb-true, eqb-false, eq-eqb, each_map}

-- one binary digit less
pub shift : (n k : ℕ) → n / 2 ^ suc k ≡ n / 2 / 2 ^ k
shift n k = ap (λ (m : ℕ). n / m) (pow-suc 2 k ∙ mul_comm (2 ^ k) 2) ∙ sym (div-div-eq-div-mul n 2 (2 ^ k))

half-more : (n k : ℕ) → (n + 2 ^ suc k) / 2 ≡ n / 2 + 2 ^ k
half-more n k = omega (arith, pow-suc 2 k)

-- digit y of n with digit x added, where it was 0
other : (n x y : ℕ) → n / 2 ^ x % 2 ≢ 1 → y ≢ x → (n + 2 ^ x) / 2 ^ y % 2 ≡ n / 2 ^ y % 2
other n zero zero h d = absurd (d refl)
other n zero (suc y) h d =
    let e : (n + 1) / 2 ≡ n / 2 = omega arith in
    ap (λ (m : ℕ). m % 2) (shift (n + 1) y ∙ ap (λ (m : ℕ). m / 2 ^ y) e ∙ sym (shift n y))
other n (suc x) zero h d = omega (arith, pow-suc 2 x)
other n (suc x) (suc y) h d =
    let h' : n / 2 / 2 ^ x % 2 ≢ 1 = λ e. h (rw shift e) in
    let d' : y ≢ x = λ e. d (ap suc e) in
    rw (shift (n + 2 ^ suc x) y, half-more, shift n y) (other (n / 2) x y h' d')

same : (n x : ℕ) → n / 2 ^ x % 2 ≢ 1 → (n + 2 ^ x) / 2 ^ x % 2 ≡ 1
same n zero h = omega arith
same n (suc x) h =
    let h' : n / 2 / 2 ^ x % 2 ≢ 1 = λ e. h (rw shift e) in
    rw (shift, half-more) (same (n / 2) x h')

-- Γ ∪ {x}
pub with-same : (Γ x : ℕ) → x ∈ with Γ x
unfolding with has
with-same Γ x = go (has Γ x) refl
  where
    go : (b : Bool) → has Γ x ≡ b → x ∈ cond b Γ (Γ + 2 ^ x)
    go true e = e
    go false e = eq-eqb ((Γ + 2 ^ x) / 2 ^ x % 2) 1 (same Γ x (eqb-false _ _ e))

pub with-other : (Γ x y : ℕ) → y ≢ x → has (with Γ x) y ≡ has Γ y
unfolding with has
with-other Γ x y d = go (has Γ x) refl
  where
    go : (b : Bool) → has Γ x ≡ b → has (cond b Γ (Γ + 2 ^ x)) y ≡ has Γ y
    go true e = refl
    go false e = ap (λ (n : ℕ). eqb n 1) (other Γ x y (eqb-false _ _ e) d)

pub with-more : (Γ x y : ℕ) → y ∈ Γ → y ∈ with Γ x
with-more Γ x y h = go (ℕ_discrete y x)
  where
    go : Dec (y ≡ x) → y ∈ with Γ x
    go (yes e) = rw e (with-same Γ x)
    go (no d) = rw (with-other Γ x y d) h

-- a part of a set
pub within_has : (Γ Δ x : ℕ) → Γ ⊆ Δ → x ∈ Γ → x ∈ Δ
unfolding within has
within_has Γ Δ x w h =
    let e : bit_and Γ Δ ≡ Γ = eqb-true _ _ w in
    let f : bit_and (Γ / 2 ^ x) (Δ / 2 ^ x) ≡ Γ / 2 ^ x = sym (and_shr Γ Δ x) ∙ ap (λ (n : ℕ). n / 2 ^ x) e in
    let g : Γ / 2 ^ x % 2 ≡ 1 = eqb-true _ _ h in
    eq-eqb (Δ / 2 ^ x % 2) 1 (omega (arith, f, g, and_step (Γ / 2 ^ x) (Δ / 2 ^ x)))

-- Γ is a part of Δ, as what that says of each temporary
pub record Part (Γ Δ : ℕ) : Type 0 where
  pub each : (x : ℕ) → x ∈ Γ → x ∈ Δ

pub part-refl : (Γ : ℕ) → Part Γ Γ
part-refl Γ = record { each = λ x h. h }

pub part-trans : {Γ Δ Θ : ℕ} → Part Γ Δ → Part Δ Θ → Part Γ Θ
part-trans p q = record { each = λ x h. q.each x (p.each x h) }

pub part-within : {Γ Δ : ℕ} → Γ ⊆ Δ → Part Γ Δ
part-within {Γ} {Δ} w = record { each = λ x h. within_has Γ Δ x w h }

pub part-more : (Γ x : ℕ) → Part Γ (with Γ x)
part-more Γ x = record { each = λ y h. with-more Γ x y h }

pub part-with : {Γ Δ : ℕ} (x : ℕ) → Part Γ Δ → Part (with Γ x) (with Δ x)
part-with {Γ} {Δ} x p = record { each = λ y h. go y h (ℕ_discrete y x) }
  where
    go : (y : ℕ) → y ∈ with Γ x → Dec (y ≡ x) → y ∈ with Δ x
    go y h (yes e) = rw e (with-same Δ x)
    go y h (no d) = rw (with-other Δ x y d) (p.each y (rw (with-other Γ x y d) at h))

pub part-with_all : {Γ Δ : ℕ} (x̄ : List ℕ) → Part Γ Δ → Part (with_all Γ x̄) (with_all Δ x̄)
unfolding with_all
part-with_all [] p = p
part-with_all {Γ = Γ} {Δ = Δ} (x ∷ x̄) p = part-with_all {Γ = with Γ x} {Δ = with Δ x} x̄ (part-with x p)

pub part-all : (Γ : ℕ) (x̄ : List ℕ) → Part Γ (with_all Γ x̄)
unfolding with_all
part-all Γ [] = part-refl Γ
part-all Γ (x ∷ x̄) = part-trans (part-more Γ x) (part-all (with Γ x) x̄)

pub part-each : {Γ Δ : ℕ} (x̄ : List ℕ) → Part Γ Δ → Each (λ x. x ∈ Γ) x̄ → Each (λ x. x ∈ Δ) x̄
part-each x̄ p h = each_map p.each x̄ h
