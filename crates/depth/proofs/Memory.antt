-- The depths that are known: none at first; what one that is known answers; and one more.
use Prim.Native.Nat.{ℕ, zero, suc}
use mathlib.Core.Path.{◌≡◌, refl, sym, ◌∙◌, ap}
use mathlib.Core.Logic.{◌⊎◌, inl, inr}
use mathlib.Core.Bool.{cond}
use mathlib.Core.Option.{none, some}
use mathlib.Core.List.{List, [], ◌∷◌}
use native.Mathlib.Omega.{arith}
use lib.Dec.{leb}
use lib.ListN.{get_or, set, replicate}
use Rattle.model.specs.Syntax.{Program}
use Rattle.model.proofs.Facts.{same_at}
use Rattle.chains.specs.Depth.{frames_from}
use Rattle.chains.proofs.Worked.{frames-known}
use Rattle.depth.specs.Works.{Chain, chain_of, Knows, Works}

pub knows-nothing : (P : Program) (n : ℕ) → Knows P (replicate n 0)
knows-nothing P n f d e = absurd (omega (arith, same_at {A = ℕ} n f 0))

-- a depth that is known, and not 0
pub known-works : (s places known : List ℕ) (left f d : ℕ) (r : Chain) → d ≡ get_or known f 0 → (d ≡ 0 → ⊥)
    → chain_of r ≡ cond (leb d left) (some d) none → Works s places known left f r known
known-works s places known left f zero r e h c = absurd (h refl)
known-works s places known left f (suc d) r e h c =
    λ P p k. let (n, w) = k f d (sym e) in (c ∙ sym (frames-known P n f (suc d) w left), k)

-- what stands in a list of which one element is set
either : (l : List ℕ) (i j v : ℕ) → (get_or (set l i v) j 0 ≡ get_or l j 0) ⊎ ((j ≡ i) × (get_or (set l i v) j 0 ≡ v))
either [] i j v = inl refl
either (x ∷ l) zero zero v = inr (refl, refl)
either (x ∷ l) zero (suc j) v = inl refl
either (x ∷ l) (suc i) zero v = inl refl
either (x ∷ l) (suc i) (suc j) v = go (either l i j v)
  where
    go : (get_or (set l i v) j 0 ≡ get_or l j 0) ⊎ ((j ≡ i) × (get_or (set l i v) j 0 ≡ v))
        → (get_or (set l i v) j 0 ≡ get_or l j 0) ⊎ ((suc j ≡ suc i) × (get_or (set l i v) j 0 ≡ v))
    go (inl e) = inl e
    go (inr (e, w)) = inr (ap suc e, w)

pub knows_more : (P : Program) (known : List ℕ) (left f d : ℕ) → Knows P known → frames_from P left f ≡ some d → Knows P (set known f d)
knows_more P known left f d k e g m w = go (either known f g d)
  where
    go : (get_or (set known f d) g 0 ≡ get_or known g 0) ⊎ ((g ≡ f) × (get_or (set known f d) g 0 ≡ d))
        → (n : ℕ) × (frames_from P n g ≡ some (suc m))
    go (inl z) = k g m (sym z ∙ w)
    go (inr (z, v)) = (left, rw z (e ∙ ap some (sym v ∙ w)))
