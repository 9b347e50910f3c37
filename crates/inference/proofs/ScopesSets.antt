-- Laws of sets of temporaries that grow: parts both ways, what is joined to a set, how many are in it, and lists of sets.
use Prim.Native.Nat.{ℕ, zero, suc, ◌+◌, ◌-◌, ◌*◌, ◌^◌, ◌/◌, ◌%◌, ◌≤◌, ◌<◌, min, max}
use mathlib.Core.Path.{◌≡◌, refl, sym, ◌∙◌, ap}
use mathlib.Core.Logic.{◌⊎◌, inl, inr, ◌≢◌}
use mathlib.Core.Bool.{Bool, true, false}
use mathlib.Core.List.{List, [], ◌∷◌}
use native.Mathlib.Nat.{zero-div, div-one, div-eq_of_lt, pow-suc}
use native.Mathlib.Omega.{arith}
use native.Mathlib.Decide.{ℕ_discrete, dec_le}
use lib.Arith.{bin_ind}
use lib.Bits.{bit_and, and_step, and_le_l, and_le_r, and_comm, or_shr, or_step}
use lib.Dec.{eqb}
use lib.ListN.{length, get_or, set}
use lib.Pow.{pow_mono}
use Rattle.model.specs.Pool.{temporaries}
use Rattle.model.specs.Sets.{has, with, within, below, ◌∈◌, ◌∉◌, ◌⊆◌}
use Rattle.model.proofs.Facts.{true-false, eqb-true, eqb-false, eq-eqb}
use Rattle.model.proofs.Sets.{Part, shift, with-other}
use Rattle.model.proofs.Members.{has-zero, has-suc, has-below, below-lt}
use Rattle.inference.specs.Infer.{joined}

-- by halves: the lowest temporary, and the others
part-half : {Γ Δ : ℕ} → Part Γ Δ → Part (Γ / 2) (Δ / 2)
part-half {Γ} {Δ} p = record { each = λ x h. rw (← has-suc Δ x) (p.each (suc x) (rw (has-suc Γ x) h)) }

part-lowest : {Γ Δ : ℕ} → Part Γ Δ → Γ % 2 ≤ Δ % 2
part-lowest {Γ} {Δ} p = go (eqb (Γ % 2) 1) refl
  where
    go : (b : Bool) → eqb (Γ % 2) 1 ≡ b → Γ % 2 ≤ Δ % 2
    go true e = let d : Δ % 2 ≡ 1 = eqb-true (Δ % 2) 1 (sym (has-zero Δ) ∙ p.each 0 (has-zero Γ ∙ e)) in omega arith
    go false e = let d : Γ % 2 ≢ 1 = eqb-false (Γ % 2) 1 e in omega arith

-- a part as the test says it
part-and : (Γ Δ : ℕ) → Part Γ Δ → bit_and Γ Δ ≡ Γ
part-and =
    bin_ind (λ (n : ℕ). (Δ : ℕ) → Part n Δ → bit_and n Δ ≡ n) (λ Δ p. refl)
    (λ n on Δ p. omega (arith, and_step n Δ, on (Δ / 2) (part-half p), part-lowest p))

pub within-part : {Γ Δ : ℕ} → Part Γ Δ → Γ ⊆ Δ
unfolding within
within-part {Γ} {Δ} p = eq-eqb (bit_and Γ Δ) Γ (part-and Γ Δ p)

-- sets that are parts of one another are the same
pub part_same : {Γ Δ : ℕ} → Part Γ Δ → Part Δ Γ → Γ ≡ Δ
part_same {Γ} {Δ} p q = sym (part-and Γ Δ p) ∙ and_comm Γ Δ ∙ part-and Δ Γ q

-- what is not in a set is in no part of it
pub part-absent : {Γ Δ : ℕ} (x : ℕ) → Part Γ Δ → x ∉ Δ → x ∉ Γ
part-absent {Γ} {Δ} x p d = go (has Γ x) refl
  where
    go : (b : Bool) → has Γ x ≡ b → x ∉ Γ
    go true e = true-false (has Δ x) (p.each x e) d
    go false e = e

-- nothing is in 0
pub part_none : (Δ : ℕ) → Part 0 Δ
unfolding has
part_none Δ = record { each = λ x h. let e : 0 / 2 ^ x % 2 ≡ 1 = eqb-true _ _ h in absurd (omega (arith, zero-div (2 ^ x))) }

-- a part, with one more that is in the set
pub part-add : {Γ Δ : ℕ} (x : ℕ) → Part Γ Δ → x ∈ Δ → Part (with Γ x) Δ
part-add {Γ} {Δ} x p h = record { each = λ y m. go y m (ℕ_discrete y x) }
  where
    go : (y : ℕ) → y ∈ with Γ x → Dec (y ≡ x) → y ∈ Δ
    go y m (yes e) = rw e h
    go y m (no d) = p.each y (rw (with-other Γ x y d) at m)

-- a number of n digits is a set of temporaries below n, and the other way round
pub below-part : (n : ℕ) {Γ : ℕ} → Γ < 2 ^ n → Part Γ (below n)
unfolding has
below-part n {Γ} l = record { each = λ x h. go x (eqb-true (Γ / 2 ^ x % 2) 1 h) (dec_le n x) }
  where
    go : (x : ℕ) → Γ / 2 ^ x % 2 ≡ 1 → Dec (n ≤ x) → x ∈ below n
    go x e (yes g) =
        let m : 2 ^ n ≤ 2 ^ x = pow_mono g in
        let z : Γ / 2 ^ x ≡ 0 = div-eq_of_lt (omega arith) in
        absurd (omega arith)
    go x e (no g) = has-below n x (omega arith)

pub part-below : (n : ℕ) {Γ : ℕ} → Part Γ (below n) → Γ < 2 ^ n
part-below n {Γ} p = omega (arith, part-and Γ (below n) p, and_le_r Γ (below n), below-lt n n (omega arith))

-- x is in Γ or in Θ
abbrev pub Among : ℕ → ℕ → ℕ → Type 0
Among Γ Θ x = (x ∈ Γ) ⊎ (x ∈ Θ)

-- what of Θ is not in Γ: digit by digit
less-digit : (Θ Γ x : ℕ) → (Θ - bit_and Θ Γ) / 2 ^ x % 2 ≡ Θ / 2 ^ x % 2 - min (Θ / 2 ^ x % 2) (Γ / 2 ^ x % 2)
less-digit Θ Γ zero = rw (div-one (Θ - bit_and Θ Γ), div-one Θ, div-one Γ) (omega (arith, and_step Θ Γ, and_le_l (Θ / 2) (Γ / 2)))
less-digit Θ Γ (suc x) =
    let e : (Θ - bit_and Θ Γ) / 2 ≡ Θ / 2 - bit_and (Θ / 2) (Γ / 2) = omega (arith, and_step Θ Γ, and_le_l (Θ / 2) (Γ / 2)) in
    rw (shift (Θ - bit_and Θ Γ) x, shift Θ x, shift Γ x, e) (less-digit (Θ / 2) (Γ / 2) x)

joined-digit : (Γ Δ Θ x : ℕ) →
    joined Γ Δ Θ / 2 ^ x % 2 ≡ max (Δ / 2 ^ x % 2) (Θ / 2 ^ x % 2 - min (Θ / 2 ^ x % 2) (Γ / 2 ^ x % 2))
unfolding joined
joined-digit Γ Δ Θ x =
    let D : ℕ = Θ - bit_and Θ Γ in
    rw (or_shr Δ D x) (omega (arith, or_step (Δ / 2 ^ x) (D / 2 ^ x), less-digit Θ Γ x))

-- joined: Δ is a part of it; what is in Θ is in Γ or in it; and it is a part of what has Δ, and what of Θ is not in Γ
pub joined-more : (Γ Δ Θ : ℕ) → Part Δ (joined Γ Δ Θ)
unfolding has
joined-more Γ Δ Θ =
    record { each = λ x h. eq-eqb (joined Γ Δ Θ / 2 ^ x % 2) 1 (omega (arith, eqb-true (Δ / 2 ^ x % 2) 1 h, joined-digit Γ Δ Θ x)) }

pub joined-has : (Γ Δ Θ x : ℕ) → x ∈ Θ → Among Γ (joined Γ Δ Θ) x
unfolding has
joined-has Γ Δ Θ x h = go (has Γ x) refl
  where
    go : (b : Bool) → has Γ x ≡ b → Among Γ (joined Γ Δ Θ) x
    go true e = inl e
    go false e =
        let d : Γ / 2 ^ x % 2 ≢ 1 = eqb-false (Γ / 2 ^ x % 2) 1 e in
        inr (eq-eqb (joined Γ Δ Θ / 2 ^ x % 2) 1 (omega (arith, eqb-true (Θ / 2 ^ x % 2) 1 h, joined-digit Γ Δ Θ x)))

pub joined-least : (Γ Θ : ℕ) {Δ Λ : ℕ} → Part Δ Λ → ((x : ℕ) → x ∈ Θ → Among Γ Λ x) → Part (joined Γ Δ Θ) Λ
unfolding has
joined-least Γ Θ {Δ} {Λ} p q = record { each = λ x h. go x (eqb-true (joined Γ Δ Θ / 2 ^ x % 2) 1 h) (has Δ x) refl }
  where
    from : (x : ℕ) → joined Γ Δ Θ / 2 ^ x % 2 ≡ 1 → Δ / 2 ^ x % 2 ≢ 1 → Among Γ Λ x → x ∈ Λ
    from x e d (inl g) = absurd (omega (arith, eqb-true (Γ / 2 ^ x % 2) 1 g, joined-digit Γ Δ Θ x))
    from x e d (inr g) = g

    go : (x : ℕ) → joined Γ Δ Θ / 2 ^ x % 2 ≡ 1 → (b : Bool) → has Δ x ≡ b → x ∈ Λ
    go x e true g = p.each x g
    go x e false g =
        let d : Δ / 2 ^ x % 2 ≢ 1 = eqb-false (Δ / 2 ^ x % 2) 1 g in
        from x e d (q x (eq-eqb (Θ / 2 ^ x % 2) 1 (omega (arith, joined-digit Γ Δ Θ x))))

-- how many of the first k temporaries are in a set
unfoldable pub count : ℕ → ℕ → ℕ
count zero Γ = 0
count (suc k) Γ = count k (Γ / 2) + Γ % 2

count_most : (k Γ : ℕ) → count k Γ ≤ k
unfolding count
count_most zero Γ = omega arith
count_most (suc k) Γ = omega (arith, count_most k (Γ / 2))

-- more than in a part of it, or it is that part
count-climbs : (k Γ Δ : ℕ) → Part Γ Δ → Γ < 2 ^ k → Δ < 2 ^ k → (Δ ≡ Γ) ⊎ (count k Γ < count k Δ)
unfolding count
count-climbs zero Γ Δ p g d = inl (omega arith)
count-climbs (suc k) Γ Δ p g d =
    go (ℕ_discrete Γ Δ) (count-climbs k (Γ / 2) (Δ / 2) (part-half p) (omega (arith, pow-suc 2 k)) (omega (arith, pow-suc 2 k)))
  where
    go : Dec (Γ ≡ Δ) → (Δ / 2 ≡ Γ / 2) ⊎ (count k (Γ / 2) < count k (Δ / 2)) →
        (Δ ≡ Γ) ⊎ (count k (Γ / 2) + Γ % 2 < count k (Δ / 2) + Δ % 2)
    go (yes e) s = inl (sym e)
    go (no n) (inl e) = let c : count k (Δ / 2) ≡ count k (Γ / 2) = ap (count k) e in inr (omega (arith, part-lowest p))
    go (no n) (inr l) = inr (omega (arith, part-lowest p))

-- and in all sets of a list
unfoldable pub total : List ℕ → ℕ
total [] = 0
total (Γ ∷ Γs) = count temporaries Γ + total Γs

pub total-most : (Γs : List ℕ) → total Γs ≤ 16 * length Γs
unfolding total
total-most [] = omega arith
total-most (Γ ∷ Γs) = omega (arith, count_most temporaries Γ, total-most Γs)

-- a set that grows in place leaves the list, or raises the number
pub total-climbs : (Γs : List ℕ) (b Δ : ℕ) → Part (get_or Γs b 0) Δ → get_or Γs b 0 < 2 ^ temporaries → Δ < 2 ^ temporaries →
    (set Γs b Δ ≡ Γs) ⊎ (total Γs < total (set Γs b Δ))
unfolding total
total-climbs [] b Δ p g d = inl refl
total-climbs (Γ ∷ Γs) zero Δ p g d = go (count-climbs temporaries Γ Δ p g d)
  where
    go : (Δ ≡ Γ) ⊎ (count temporaries Γ < count temporaries Δ) →
        (◌≡◌ {A = List ℕ} (Δ ∷ Γs) (Γ ∷ Γs)) ⊎ (count temporaries Γ + total Γs < count temporaries Δ + total Γs)
    go (inl e) = inl (ap {B = List ℕ} (λ Θ. Θ ∷ Γs) e)
    go (inr l) = inr (omega arith)
total-climbs (Γ ∷ Γs) (suc b) Δ p g d = go (total-climbs Γs b Δ p g d)
  where
    go : (set Γs b Δ ≡ Γs) ⊎ (total Γs < total (set Γs b Δ)) →
        (◌≡◌ {A = List ℕ} (Γ ∷ set Γs b Δ) (Γ ∷ Γs)) ⊎ (count temporaries Γ + total Γs < count temporaries Γ + total (set Γs b Δ))
    go (inl e) = inl (ap {B = List ℕ} (λ l. Γ ∷ l) e)
    go (inr l) = inr (omega arith)
