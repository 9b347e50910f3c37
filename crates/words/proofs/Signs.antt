-- The 32 bits of a signed word.
use Prim.Native.Nat.{ℕ, ◌^◌, ◌<◌}
use native.Mathlib.Omega.{arith}
use mathlib.Core.Path.{◌≡◌, refl}
use mathlib.Core.Bool.{Bool, true, false}
use borrow.Author.Tests.{ne_eqb}
use lib.Dec.{eqb}
use lib.IntN.{ℤ, pos, negsuc}
use lib.Signed.{lt_z}
use mir.Syntax.{w32}
use mir.Val.{to_z, of_z, SFits}
use mir.Facts.{to_z-of_z, to_z_pos}
use Rattle.model.specs.Values.{same}

-- what is known of a word that is not negative: it is the number n, which is its bits
pub record Positive (x : ℤ) : Type 0 where
  pub n : ℕ
  pub value : of_z w32 x ≡ n
  pub small : n < 2 ^ 31
  pub back : to_z w32 (of_z w32 x) ≡ pos n

pub positive : (x : ℤ) → SFits w32 x → lt_z (to_z w32 (of_z w32 x)) (pos 0) ≡ false → Positive x
positive x f t = go x f (rw (to_z-of_z f) at t)
  where
    go : (x : ℤ) → SFits w32 x → lt_z x (pos 0) ≡ false → Positive x
    go (pos n) f t = record { n = n; value = refl; small = f.sfits; back = to_z_pos w32 f.sfits }
    go (negsuc n) f t = absurd (let z : ◌≡◌ {A = Bool} true false = t in let o : ◌≡◌ {A = ℕ} 0 1 = cc in omega arith)

-- a word's bits are 0 where it is
not-zero : (n : ℕ) → SFits w32 (negsuc n) → of_z w32 (negsuc n) ≡ 0 → ⊥
not-zero n f e = let h : n < 2 ^ 31 = f.sfits in omega arith

pub zero_test : (w : ℤ) → SFits w32 w → eqb (of_z w32 w) 0 ≡ same w (pos 0)
zero_test (pos n) f = refl
zero_test (negsuc n) f = ne_eqb (of_z w32 (negsuc n)) 0 (not-zero n f)
