-- Tests in order, each with the number that it gives where it fails: the check is such a tree.
use Rattle.std.specs.Prelude.{ℕ, Bool, true, false, List, [], ◌∷◌}
use Rattle.std.proofs.Math.Option.{Option, none, some}

infixr 30 ◌then◌
pub data Tests : Type 1 where
  fine : Tests  -- no test
  need : ℕ → Bool → Tests  -- a test, and its number
  ◌then◌ : Tests → Tests → Tests  -- the first, and where it holds the second
  given : {A : Type 0} → ℕ → Option A → (A → Tests) → Tests  -- a thing that has to be there, and the tests of it
  each : {A : Type 0} → (A → Tests) → List A → Tests  -- a test of each, in order

unfoldable pub or : Option ℕ → Option ℕ → Option ℕ
or none o = o
or (some n) o = some n

abbrev pub failed : Bool → ℕ → Option ℕ
failed true n = none
failed false n = some n

unfoldable pub of_given : {A : Type 0} → ℕ → Option A → (A → Option ℕ) → Option ℕ
of_given n none k = some n
of_given n (some a) k = k a

unfoldable pub of_each : {A : Type 0} → (A → Option ℕ) → List A → Option ℕ
of_each t [] = none
of_each t (a ∷ as') = or (t a) (of_each t as')

-- the number of the first test that fails
unfoldable pub fault : Tests → Option ℕ
fault Tests.fine = none
fault (Tests.need n b) = failed b n
fault (Tests.◌then◌ t u) = or (fault t) (fault u)
fault (Tests.given n o k) = of_given n o (λ a. fault (k a))
fault (Tests.each t l) = of_each (λ a. fault (t a)) l
