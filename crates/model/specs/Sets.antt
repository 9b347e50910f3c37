-- Sets of temporaries: a number, bit k for temporary k.
use Rattle.std.specs.Prelude.{ℕ, ◌+◌, ◌-◌, ◌^◌, ◌/◌, ◌%◌, ◌≡◌, Bool, true, false, cond, List, [], ◌∷◌, eqb}
use Rattle.std.specs.Int.Bits.{bit_and}

-- is x in Γ?
unfoldable pub has : ℕ → ℕ → Bool
has Γ x = eqb (Γ / 2 ^ x % 2) 1

-- Γ ∪ {x}
unfoldable pub with : ℕ → ℕ → ℕ
with Γ x = cond (has Γ x) Γ (Γ + 2 ^ x)

-- Γ ∪ x̄
unfoldable pub with_all : ℕ → List ℕ → ℕ
with_all Γ [] = Γ
with_all Γ (x ∷ x̄) = with_all (with Γ x) x̄

-- is Γ a part of Δ?
unfoldable pub within : ℕ → ℕ → Bool
within Γ Δ = eqb (bit_and Γ Δ) Γ

-- the temporaries 0 to n - 1
unfoldable pub below : ℕ → ℕ
below n = 2 ^ n - 1

infix 40 ◌∈◌
abbrev pub ◌∈◌ : ℕ → ℕ → Type 0
x ∈ Γ = has Γ x ≡ true

infix 40 ◌∉◌
abbrev pub ◌∉◌ : ℕ → ℕ → Type 0
x ∉ Γ = has Γ x ≡ false

infix 40 ◌⊆◌
abbrev pub ◌⊆◌ : ℕ → ℕ → Type 0
Γ ⊆ Δ = within Γ Δ ≡ true
