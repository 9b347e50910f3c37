-- What each rule makes of the lists of threads, rule by rule.
use Prim.Native.Nat.{ℕ}
use mathlib.Core.Path.{◌≡◌, refl}
use mathlib.Core.Logic.{◌≢◌}
use mathlib.Core.Bool.{Bool, true, false}
use mathlib.Core.List.{List, [], ◌∷◌, ◌++◌}
use lib.Dec.{eqb}
use lib.ListN.{drop}
use Rattle.model.specs.Numbers as No
use Rattle.model.proofs.Facts.{eqb-true, eqb-false, ne_eqb}
use Rattle.sporks.specs.Openers.{front, turn}

module _ {A : Type 0} (a : A) (xs : List A) (xss : List (List A)) where
  pub turn-spork : turn a No.spork xs xss ≡ (xs ++ (a ∷ [])) ∷ xss
  unfolding turn
  turn-spork = refl

  pub turn-unpr : turn a No.unpr xs xss ≡ front xs ∷ xss
  unfolding turn
  turn-unpr = refl

  pub turn-prom : turn a No.prom xs xss ≡ front xs ∷ drop 1 xss
  unfolding turn
  turn-prom = refl

  pub turn-promote : turn a No.promote xs xss ≡ xs ∷ [] ∷ xss
  unfolding turn
  turn-promote = refl

  pub turn-other : (rule : ℕ) → rule ≢ No.spork → rule ≢ No.unpr → rule ≢ No.prom → rule ≢ No.promote → turn a rule xs xss ≡ xs ∷ xss
  unfolding turn
  turn-other rule s u p m =
      rw (ne_eqb rule No.spork s, ne_eqb rule No.unpr u, ne_eqb rule No.prom p, ne_eqb rule No.promote m) refl

-- the rules that open or close a call or bring a child, and the others
pub data Kind (rule : ℕ) : Type 0 where
  spork : rule ≡ No.spork → Kind rule
  unpr : rule ≡ No.unpr → Kind rule
  prom : rule ≡ No.prom → Kind rule
  promote : rule ≡ No.promote → Kind rule
  other : rule ≢ No.spork → rule ≢ No.unpr → rule ≢ No.prom → rule ≢ No.promote → Kind rule

pub kind : (rule : ℕ) → Kind rule
kind rule = go (eqb rule No.spork) (eqb rule No.unpr) (eqb rule No.prom) (eqb rule No.promote) refl refl refl refl
  where
    go : (s u p m : Bool) → eqb rule No.spork ≡ s → eqb rule No.unpr ≡ u → eqb rule No.prom ≡ p → eqb rule No.promote ≡ m → Kind rule
    go true u p m e f g h = Kind.spork (eqb-true rule No.spork e)
    go false true p m e f g h = Kind.unpr (eqb-true rule No.unpr f)
    go false false true m e f g h = Kind.prom (eqb-true rule No.prom g)
    go false false false true e f g h = Kind.promote (eqb-true rule No.promote h)
    go false false false false e f g h =
        Kind.other (eqb-false rule No.spork e) (eqb-false rule No.unpr f) (eqb-false rule No.prom g) (eqb-false rule No.promote h)
