-- The lowest number that passes a test: it passes and none before it does, and no other answer is such.
use Prim.Native.Nat.{ℕ, zero, suc, ◌+◌, ◌≤◌, ◌<◌}
use mathlib.Core.Path.{◌≡◌, refl, ap, subst}
use mathlib.Core.Bool.{Bool, true, false, cond}
use mathlib.Core.Option.{Option, none, some}
use native.Mathlib.Omega.{arith}
use lib.Dec.{ltb}
use Rattle.model.specs.Calls.{lowest}
use Rattle.model.proofs.Facts.{true-false, ltb-true, ltb-false}

-- j is the lowest of the n numbers from i on that passes
pub record Lowest (t : ℕ → Bool) (n i j : ℕ) : Type 0 where
  pub from : i ≤ j
  pub below : j < i + n
  pub passes : t j ≡ true
  pub least : (k : ℕ) → i ≤ k → k < j → t k ≡ false

module _ (t : ℕ → Bool) where
  -- what is told of these numbers: the lowest that passes, or that none does
  abbrev pub Found : ℕ → ℕ → Option ℕ → Type 0
  Found n i (some j) = Lowest t n i j
  Found n i none = (k : ℕ) → i ≤ k → k < i + n → t k ≡ false

  -- a number is the first one, or behind it
  onward : {i k : ℕ} → i ≤ k → t i ≡ false → (i + 1 ≤ k → t k ≡ false) → t k ≡ false
  onward {i} {k} a e h = go (ltb i k) refl
    where
      go : (b : Bool) → ltb i k ≡ b → t k ≡ false
      go true l = h (omega (arith, ltb-true i k l))
      go false l = let z : i ≡ k = omega (arith, ltb-false i k l) in subst (λ (x : ℕ). t x ≡ false) z e

  found-more : (n i : ℕ) (o : Option ℕ) → t i ≡ false → Found n (i + 1) o → Found (suc n) i o
  found-more n i none e h = λ k a b. onward a e (λ c. h k c (omega arith))
  found-more n i (some j) e h =
      record {
        from = omega (arith, h.from);
        below = omega (arith, h.below);
        passes = h.passes;
        least = λ k a b. onward a e (λ c. h.least k c b);
      }

  pub lowest-found : (n i : ℕ) → Found n i (lowest t n i)
  unfolding lowest
  lowest-found zero i = λ k a b. absurd (omega arith)
  lowest-found (suc n) i = go (t i) refl (lowest-found n (i + 1))
    where
      go : (b : Bool) → t i ≡ b → Found n (i + 1) (lowest t n (i + 1)) → Found (suc n) i (cond b (some i) (lowest t n (i + 1)))
      go true e h = record { from = omega arith; below = omega arith; passes = e; least = λ k a b. absurd (omega arith) }
      go false e h = found-more n i (lowest t n (i + 1)) e h

  -- it is the one such answer
  pub found-one : (n i : ℕ) (o o' : Option ℕ) → Found n i o → Found n i o' → o ≡ o'
  found-one n i none none g h = refl
  found-one n i none (some k) g h = true-false (t k) h.passes (g k h.from h.below)
  found-one n i (some j) none g h = true-false (t j) g.passes (h j g.from g.below)
  found-one n i (some j) (some k) g h = go (ltb j k) (ltb k j) refl refl
    where
      go : (b c : Bool) → ltb j k ≡ b → ltb k j ≡ c → ◌≡◌ {A = Option ℕ} (some j) (some k)
      go true c e f = true-false (t j) g.passes (h.least j g.from (ltb-true j k e))
      go false true e f = true-false (t k) h.passes (g.least k h.from (ltb-true k j f))
      go false false e f = let z : j ≡ k = omega (arith, ltb-false j k e, ltb-false k j f) in ap some z

-- tests that agree
pub lowest-alike : (t u : ℕ → Bool) → ((k : ℕ) → t k ≡ u k) → (n i : ℕ) → lowest t n i ≡ lowest u n i
unfolding lowest
lowest-alike t u h zero i = refl
lowest-alike t u h (suc n) i = rw (h i, lowest-alike t u h n (i + 1))
