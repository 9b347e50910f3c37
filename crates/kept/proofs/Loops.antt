-- Loops over names: what is left to be mentioned decides. Over names at an offset, and over the kept blocks of a function.
use Prim.Native.Nat.{ℕ, ◌+◌, ◌-◌, ◌≤◌, ◌<◌}
use mathlib.Core.Path.{◌≡◌, sym, ◌∙◌}
use mathlib.Core.Option.{some}
use mathlib.Core.List.{List, [], ◌∷◌, ◌++◌, map}
use native.Mathlib.Omega.{arith}
use lib.ListN.{get_elem?, drop}
use Rattle.model.specs.Lists.{concat}
use Rattle.model.specs.Syntax.{Function, Program}
use Rattle.code.specs.Bytes.{byte_at, past}
use Rattle.code.specs.Code.{run}
use Rattle.code.proofs.Ends.{run-goes, run_none}
use Rattle.numbering.specs.Mentions.{ClosedIn}
use Rattle.numbering.specs.Tidy.{kept_blocks}
use Rattle.kept.specs.declared.Kept.{Kept}
use Rattle.kept.specs.Kept.{Lists, Adds, AddsIn, spawned_of, spawned_from}
use Rattle.kept.proofs.Arrays.{lists-from, lists-past, no_names, then, same}

-- whatever comes of the rest from here on comes of all from the beginning on
pub record Rest (list : Kept) (all : List ℕ) (list' : Kept) (rest : List ℕ) : Type 0 where
  pub is : (end : Kept) → Adds list' rest end → Adds list all end

module _ {l : Kept} {all : List ℕ} where
  module _ {a : Kept} {rest : List ℕ} (t : Rest l all a rest) where
    -- some of the rest is mentioned
    pub rest-next : {xs ys : List ℕ} {a' : Kept} → rest ≡ xs ++ ys → Adds a xs a' → Rest l all a' ys
    rest-next e p = record { is = λ end q. t.is end (same (then p q) (sym e)) }

    -- nothing is left
    pub rest-none : rest ≡ [] → Adds l all a
    rest-none e = t.is a (same no_names (sym e))

-- names at an offset, from the one with index i on
pub run-on : (s : List ℕ) (at count i : ℕ) → i < count → run s at (count - i) ≡ byte_at s at ∷ run s (past at 1) (count - (i + 1))
run-on s at count i h =
    let e : count - i - 1 ≡ count - (i + 1) = omega arith in run-goes s at (count - i) (omega arith) ∙ rw e

module _ (s : List ℕ) (at count i : ℕ) {l : Kept} {all : List ℕ} {a : Kept} (t : Rest l all a (run s at (count - i))) where
  pub names-next : {x k : ℕ} {a' : Kept} → i < count → x ≡ byte_at s at → Adds a (x ∷ []) a' → k ≡ past at 1
      → Rest l all a' (run s k (count - (i + 1)))
  names-next h e p f = rest-next t (run-on s at count i h ∙ rw (e, f)) p

  pub names-end : count ≤ i → Adds l all a
  names-end h = rest-none t (run_none s at (count - i) (omega arith))

-- the same of names that function f has, in every program of which so much is known
pub record RestIn (Given : Program → Type 0) (f : ℕ) (list : Kept) (all : Function → List ℕ) (list' : Kept)
    (rest : Function → List ℕ) : Type 0 where
  pub is : (P : Program) (F : Function) → Given P → get_elem? P f ≡ some F → ClosedIn P F → Rest list (all F) list' (rest F)

module _ {Given : Program → Type 0} {f : ℕ} {l : Kept} {all : Function → List ℕ} where
  module _ (s : List ℕ) (at count i : ℕ) {a : Kept} (t : RestIn Given f l all a (spawned_from s at (count - i))) where
    pub spawned-next : {x k : ℕ} {a' : Kept} → i < count → x ≡ byte_at s at → AddsIn Given f (spawned_of x) a a' → k ≡ past at 1
        → RestIn Given f l all a' (spawned_from s k (count - (i + 1)))
    unfolding concat
    spawned-next h e p d =
        record { is = λ P F q g c. rest-next (t.is P F q g c) (rw (run-on s at count i h, e, d)) (p.is P F q g c) }

    pub spawned-end : count ≤ i → AddsIn Given f all l a
    unfolding concat
    spawned-end h = record { is = λ P F q g c. rest-none (t.is P F q g c) (rw (run_none s at (count - i) (omega arith))) }

-- the kept blocks of function f, from index i on
pub record Blocks (Given : Program → Type 0) (f : ℕ) (blocks : Kept) (names : Function → ℕ → List ℕ) (list list' : Kept)
    (i : ℕ) : Type 0 where
  pub is : (P : Program) (F : Function) → Given P → get_elem? P f ≡ some F → ClosedIn P F → Lists blocks (kept_blocks F) →
      Rest list (concat (map (names F) (kept_blocks F))) list' (concat (map (names F) (drop i (kept_blocks F))))

module _ {Given : Program → Type 0} {f : ℕ} {blocks : Kept} {names : Function → ℕ → List ℕ} {l : Kept} where
  module _ {a : Kept} {i : ℕ} (t : Blocks Given f blocks names l a i) where
    pub kept_next : {b : ℕ} {a' : Kept} → i < blocks.count → b ≡ byte_at blocks.order i → AddsIn Given f (λ F. names F b) a a'
        → Blocks Given f blocks names l a' (i + 1)
    unfolding concat
    kept_next h e p =
        record {
          is = λ P F q g c k.
              rest-next (t.is P F q g c k)
              (rw (lists-from k h e))
              (p.is P F q g c);
        }

    pub kept-end : blocks.count ≤ i → (P : Program) (F : Function) → Given P → get_elem? P f ≡ some F → ClosedIn P F
        → Lists blocks (kept_blocks F) → Adds l (concat (map (names F) (kept_blocks F))) a
    unfolding concat
    kept-end h P F q g c k =
        rest-none (t.is P F q g c k) (rw (lists-past k h))
