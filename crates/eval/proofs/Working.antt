-- Arithmetic on values: a sum or a negation that 32 bits hold is a value, and any other an overflow.
use Prim.Native.Nat.{ℕ, zero, suc, ◌^◌, ◌<◌}
use mathlib.Core.Path.{◌≡◌, refl, ap, ◌∙◌}
use mathlib.Core.Bool.{Bool, true, false, cond}
use mathlib.Core.Option.{some}
use Rattle.std.specs.Prelude.{Option, Some, None}
use Rattle.std.specs.Option.{SomeIff}
use borrow.Author.Tests.{ltb-true, lt-ltb}
use lib.Dec.{ltb}
use lib.IntN.{ℤ, pos, negsuc, ◌+ℤ◌, neg_ℤ}
use lib.Signed.{lt_z}
use mir.Syntax.{w32}
use mir.Val.{SFits, to_z, of_z, bool_byte}
use mir.Facts.{to_z-of_z}
use Rattle.model.specs.Values as Values
use Rattle.model.specs.Values.{Worked}
use Rattle.eval.specs.declared.Evaluated.{Evaluated}
use Rattle.eval.specs.declared.Evaluated.TheVariants.{Value, Overflow}
use Rattle.eval.specs.Given.{evaluated_as, worked_as, applied}

abbrev comes : Worked → Evaluated
comes w = evaluated_as (some w)

-- a number that fits, and one that does not
fitting : (z : ℤ) → SFits w32 z → Values.worked z ≡ Worked.value z
unfolding Values.worked Values.fits
fitting (pos n) f = let h : n < 2 ^ 31 = f.sfits in rw (lt-ltb n (2 ^ 31) h)
fitting (negsuc n) f = let h : n < 2 ^ 31 = f.sfits in rw (lt-ltb n (2 ^ 31) h)

overflowing : (z : ℤ) → (SFits w32 z → ⊥) → Values.worked z ≡ Worked.overflow
unfolding Values.worked Values.fits
overflowing (pos n) f = go (ltb n (2 ^ 31)) refl
  where
    go : (t : Bool) → ltb n (2 ^ 31) ≡ t → cond t (Worked.value (pos n)) Worked.overflow ≡ Worked.overflow
    go true e = absurd (f (record { sfits = ltb-true n (2 ^ 31) e }))
    go false e = refl
overflowing (negsuc n) f = go (ltb n (2 ^ 31)) refl
  where
    go : (t : Bool) → ltb n (2 ^ 31) ≡ t → cond t (Worked.value (negsuc n)) Worked.overflow ≡ Worked.overflow
    go true e = absurd (f (record { sfits = ltb-true n (2 ^ 31) e }))
    go false e = refl

-- what is worked out in 32 bits, as the code has it
pub worked-some : {v : ℤ} (o : Option ℤ) → SFits w32 v → o ≡ Some v → Value (to_z w32 (of_z w32 v)) ≡ worked_as o
unfolding worked_as
worked-some o f e = rw (e, to_z-of_z f)

pub worked-none : (o : Option ℤ) → o ≡ None → Overflow ≡ worked_as o
unfolding worked_as
worked-none o e = rw e

worked-is : (o : Option ℤ) (z : ℤ) → SomeIff o (SFits w32 z) z → worked_as o ≡ comes (Values.worked z)
unfolding evaluated_as worked_as
worked-is None z f = rw (overflowing z f)
worked-is (Some v) z f = rw (fitting z f.0, f.1)

-- what an expression of each kind comes to
module _ (kind : ℕ) {m : ℤ} (n : ℤ) (f : SFits w32 m) where
  pub apply-atom : kind ≡ 0 → Value (to_z w32 (of_z w32 m)) ≡ comes (applied kind m n)
  unfolding applied evaluated_as
  apply-atom e = rw (e, to_z-of_z f)

  pub apply-minus : (r : Evaluated) (o : Option ℤ) → kind ≡ 1 → SomeIff o (SFits w32 (neg_ℤ (to_z w32 (of_z w32 m)))) (neg_ℤ (to_z w32 (of_z w32 m)))
      → r ≡ worked_as o → r ≡ comes (applied kind m n)
  unfolding applied Values.minus
  apply-minus r o e h d = d ∙ worked-is o _ h ∙ rw (e, to_z-of_z f)

  module _ (g : SFits w32 n) where
    pub apply-plus : (r : Evaluated) (o : Option ℤ) → kind ≡ 2
        → SomeIff o (SFits w32 (to_z w32 (of_z w32 m) +ℤ to_z w32 (of_z w32 n))) (to_z w32 (of_z w32 m) +ℤ to_z w32 (of_z w32 n))
        → r ≡ worked_as o → r ≡ comes (applied kind m n)
    unfolding applied Values.plus
    apply-plus r o e h d = d ∙ worked-is o _ h ∙ rw (e, to_z-of_z f, to_z-of_z g)

    less-is : (r : ℤ) (t : Bool) → r ≡ pos (bool_byte t) → to_z w32 (of_z w32 r) ≡ cond t (pos 1) (pos 0)
    less-is r true e = rw e
    less-is r false e = rw e

    pub apply-less : (r : ℤ) → (kind ≡ 0 → ⊥) → (kind ≡ 1 → ⊥) → (kind ≡ 2 → ⊥)
        → r ≡ pos (bool_byte (lt_z (to_z w32 (of_z w32 m)) (to_z w32 (of_z w32 n))))
        → Value (to_z w32 (of_z w32 r)) ≡ comes (applied kind m n)
    unfolding evaluated_as applied Values.less
    apply-less r a b c e =
        let h : r ≡ pos (bool_byte (lt_z m n)) = rw (to_z-of_z f, to_z-of_z g) at e in
        rw (last kind a b c) (ap Value (less-is r (lt_z m n) h))
      where
        last : (k : ℕ) → (k ≡ 0 → ⊥) → (k ≡ 1 → ⊥) → (k ≡ 2 → ⊥) → applied k m n ≡ Worked.value (Values.less m n)
        last zero a b c = absurd (a refl)
        last (suc zero) a b c = absurd (b refl)
        last (suc (suc zero)) a b c = absurd (c refl)
        last (suc (suc (suc k))) a b c = refl
