-- How the first fault of tests goes: a test that fails or holds, one after another, and a thing that has to be there.
use Prim.Native.Nat.{ℕ}
use mathlib.Core.Path.{◌≡◌, refl, ◌∙◌, ap}
use mathlib.Core.Bool.{Bool, true, false}
use mathlib.Core.Option.{Option, none, some}
use mathlib.Core.List.{List, [], ◌∷◌}
use Rattle.model.specs.Tests.{Tests, ◌then◌, or, failed, of_given, of_each, fault}

pub need-fails : (n : ℕ) (b : Bool) → b ≡ false → fault (Tests.need n b) ≡ some n
unfolding fault
need-fails n b e = ap (λ (c : Bool). failed c n) e

pub need-holds : (n : ℕ) (b : Bool) → b ≡ true → fault (Tests.need n b) ≡ none
unfolding fault
need-holds n b e = ap (λ (c : Bool). failed c n) e

pub then-first : (t u : Tests) {n : ℕ} → fault t ≡ some n → fault (t then u) ≡ some n
unfolding fault or
then-first t u e = ap (λ (o : Option ℕ). or o (fault u)) e

pub then-second : (t u : Tests) {o : Option ℕ} → fault t ≡ none → fault u ≡ o → fault (t then u) ≡ o
unfolding fault or
then-second t u e d = ap (λ (o : Option ℕ). or o (fault u)) e ∙ d

module _ {A : Type 0} (n : ℕ) (o : Option A) (k : A → Tests) where
  pub given-fails : o ≡ none → fault (Tests.given n o k) ≡ some n
  unfolding fault of_given
  given-fails e = ap (λ (p : Option A). of_given n p (λ a. fault (k a))) e

  pub given-goes : {a : A} {p : Option ℕ} → o ≡ some a → fault (k a) ≡ p → fault (Tests.given n o k) ≡ p
  unfolding fault of_given
  given-goes e d = ap (λ (p : Option A). of_given n p (λ a. fault (k a))) e ∙ d

module _ {A : Type 0} (t : A → Tests) where
  pub each-ends : fault (Tests.each t []) ≡ none
  unfolding fault of_each
  each-ends = refl

  pub each_first : (a : A) (as' : List A) {n : ℕ} → fault (t a) ≡ some n → fault (Tests.each t (a ∷ as')) ≡ some n
  unfolding fault of_each or
  each_first a as' e = ap (λ (o : Option ℕ). or o (of_each (λ b. fault (t b)) as')) e

  pub each-second : (a : A) (as' : List A) → fault (t a) ≡ none → fault (Tests.each t (a ∷ as')) ≡ fault (Tests.each t as')
  unfolding fault of_each or
  each-second a as' e = ap (λ (o : Option ℕ). or o (of_each (λ b. fault (t b)) as')) e
