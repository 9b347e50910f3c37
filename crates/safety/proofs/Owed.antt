-- The first items of a list, and what promoted calls promise as calls are promoted and closed.
use Prim.Native.Nat.{ℕ, zero, suc, ◌+◌, ◌-◌, ◌≤◌}
use mathlib.Core.Path.{◌≡◌, refl, ◌∙◌, ap}
use mathlib.Core.Option.{Option, some}
use mathlib.Core.List.{List, [], ◌∷◌, ◌++◌, map-append, reverse-append}
use native.Mathlib.Numerals.{add-one}
use native.Mathlib.Omega.{arith}
use lib.ListN.{length, get_elem?, take, length-append}
use lib.Seq.{take-nil, take-append-le}
use Rattle.model.proofs.Facts.{none-some, some-injective}
use Rattle.model.specs.Syntax.{SpawnCall, Function, Program}
use Rattle.safety.proofs.Typing.{promise, owed}

-- the n first of a list, and one more
module _ {A : Type 0} where
  take-suc : (xs : List A) (n : ℕ) {x : A} → get_elem? xs n ≡ some x → take (suc n) xs ≡ take n xs ++ (x ∷ [])
  take-suc [] n e = none-some e
  take-suc (x ∷ xs) zero e = rw (some-injective e)
  take-suc (x ∷ xs) (suc n) e = ap {B = List A} (λ l. x ∷ l) (take-suc xs n e)

  pub take-some : (xs : List A) (n : ℕ) {x : A} → get_elem? xs n ≡ some x → take (n + 1) xs ≡ take n xs ++ (x ∷ [])
  take-some xs n e = rw (add-one n) (take-suc xs n e)

  pub last-at : (xs : List A) (x : A) → get_elem? (xs ++ (x ∷ [])) (length xs) ≡ some x
  last-at [] x = refl
  last-at (y ∷ xs) x = last-at xs x

-- one more promoted call, calls behind the promoted ones, and none
pub owed_more : (f : ℕ → ℕ) (n : ℕ) (ρ : List ℕ) {π : ℕ} → get_elem? ρ n ≡ some π → owed f (n + 1) ρ ≡ f π ∷ owed f n ρ
unfolding owed
owed_more f n ρ {π} e = rw (take-some ρ n e, map-append, reverse-append)

pub owed-append : (f : ℕ → ℕ) (n : ℕ) (ρ σ : List ℕ) → n ≤ length ρ → owed f n (ρ ++ σ) ≡ owed f n ρ
unfolding owed
owed-append f n ρ σ h = rw (take-append-le n ρ σ h)

pub owed-nil : (f : ℕ → ℕ) (n : ℕ) → owed f n [] ≡ []
unfolding owed
owed-nil f n = rw (take-nil {A = ℕ} n)

pub owed-last : (f : ℕ → ℕ) (n : ℕ) (ρ : List ℕ) (π : ℕ) → n ≡ length (ρ ++ (π ∷ [])) →
    owed f n (ρ ++ (π ∷ [])) ≡ f π ∷ owed f (n - 1) ρ
owed-last f n ρ π e =
    let m : n ≡ length ρ + 1 = e ∙ length-append ρ (π ∷ []) in
    let d : n - 1 ≡ length ρ = omega arith in
    rw (d, m, owed_more f (length ρ) (ρ ++ (π ∷ [])) (last-at ρ π), owed-append f (length ρ) ρ (π ∷ []) (omega arith))

-- what a spawn call that is there promises
pub promise-is : (P : Program) (o : Option Function) (π : ℕ) {F G : Function} {S : SpawnCall} → o ≡ some F →
    get_elem? F.spawns π ≡ some S → get_elem? P S.function ≡ some G → promise P o π ≡ G.signature.returns
promise-is P o π f s g = rw (f, s, g)
