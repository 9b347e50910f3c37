-- Lists that grow while they are gone through: what is left to go through decides.
use Prim.Native.Nat.{ℕ, zero, suc, ◌+◌, ◌-◌, ◌≤◌, ◌<◌}
use mathlib.Core.Path.{◌≡◌, refl, sym, ◌∙◌, subst}
use mathlib.Core.Option.{none, some}
use mathlib.Core.List.{List, [], ◌∷◌}
use native.Mathlib.Omega.{arith}
use lib.ListN.{get_elem?}
use Rattle.model.specs.Lists.{Each}
use Rattle.model.proofs.Facts.{each_map, each_at, past-at}
use Rattle.code.specs.Bytes.{byte_at}
use Rattle.numbering.specs.Tidy.{member, mention, mentions, onward, grown}
use Rattle.numbering.proofs.Lists.{mentions-each}
use Rattle.kept.specs.declared.Kept.{Kept}
use Rattle.kept.specs.Kept.{most, nothing, Lists, Adds}
use Rattle.kept.proofs.Arrays.{lists-nothing, lists_at}

-- a list that grows ends where there is no number; one step of it
grown-none : (next : ℕ → List ℕ) (left i : ℕ) (xs : List ℕ) → get_elem? xs i ≡ none → grown next left i xs ≡ xs
unfolding grown onward
grown-none next zero i xs e = refl
grown-none next (suc left) i xs e = rw e

grown-some : (next : ℕ → List ℕ) (fuel i : ℕ) (xs : List ℕ) {x : ℕ} → i < fuel → get_elem? xs i ≡ some x
    → grown next (fuel - i) i xs ≡ grown next (fuel - (i + 1)) (i + 1) (mentions xs (next x))
unfolding grown onward
grown-some next fuel i xs h e = let z : fuel - i ≡ suc (fuel - (i + 1)) = omega arith in rw (z, e)

-- the first of them alone
pub first_alone : {before list : Kept} → before ≡ nothing → Adds before (0 ∷ []) list → Lists list (0 ∷ [])
unfolding mentions mention member
first_alone e p = p.is [] (rw e lists-nothing) (omega arith, tt)

-- so many steps left from index i on, with numbers below k
pub record Grows (next : ℕ → List ℕ) (fuel k : ℕ) (list : Kept) (i : ℕ) (all : List ℕ) : Type 0 where
  pub xs : List ℕ
  pub lists : Lists list xs
  pub below : Each (λ x. x < k) xs
  pub is : all ≡ grown next (fuel - i) i xs

module _ {next : ℕ → List ℕ} {fuel k : ℕ} {list : Kept} where
  -- from its start on
  pub grows-first : 0 < k → Lists list (0 ∷ []) → Grows next fuel k list 0 (grown next fuel 0 (0 ∷ []))
  grows-first h l = let z : fuel - 0 ≡ fuel = omega arith in record { xs = 0 ∷ []; lists = l; below = (h, tt); is = rw z }

  module _ {i : ℕ} {all : List ℕ} (g : Grows next fuel k list i all) where
    -- it ends where there is no number, or no step
    pub grows-stop : list.count ≤ i → Lists list all
    grows-stop h =
        let z : get_elem? g.xs i ≡ none = past-at g.xs i (omega (arith, g.lists.count)) in
        subst (Lists list) (sym (g.is ∙ grown-none next (fuel - i) i g.xs z)) g.lists

    pub grows_end : fuel ≤ i → Lists list all
    unfolding grown
    grows_end h = let z : fuel - i ≡ 0 = omega arith in subst (Lists list) (sym (g.is ∙ rw z)) g.lists

    -- the number at index i is below k
    pub grows_at : {x : ℕ} → i < list.count → x ≡ byte_at list.order i → x < k
    grows_at h e = each_at (λ x. x < k) g.xs i g.below (lists_at g.lists h e)

    -- its mentions come
    pub grows-next : {x : ℕ} {list' : Kept} → k ≤ most → i < fuel → i < list.count → x ≡ byte_at list.order i → Each (λ y. y < k) (next x)
        → Adds list (next x) list' → Grows next fuel k list' (i + 1) all
    grows-next {x} l f h e b p =
        record {
          xs = mentions g.xs (next x);
          lists = p.is g.xs g.lists (each_map (λ y q. omega arith) (next x) b);
          below = mentions-each (λ y. y < k) g.xs (next x) g.below b;
          is = g.is ∙ grown-some next fuel i g.xs f (lists_at g.lists h e);
        }
