-- What the walks over temporaries find, from what their parts find: each law has the shape of one of their returns.
use Prim.Native.Nat.{ℕ, zero, suc, ◌-◌, ◌≤◌, ◌<◌}
use mathlib.Core.Path.{◌≡◌, refl, sym, ◌∙◌, ap}
use mathlib.Core.Bool.{Bool, true, false, ◌&&◌}
use mathlib.Core.List.{List, [], ◌∷◌, ◌++◌}
use native.Mathlib.Nat.{mod-eq_of_lt}
use native.Mathlib.Omega.{arith}
use native.Mathlib.Decide.{ℕ_discrete}
use lib.IntN.{ℤ}
use Rattle.model.specs.Lists.{all, equal}
use Rattle.model.specs.Sets.{has, with}
use Rattle.model.specs.Limits.{Temporaries}
use Rattle.model.specs.Syntax.{Atom, uses_atom, uses}
use Rattle.model.proofs.Facts.{eq-eqb, ne_eqb}
use Rattle.code.specs.Bytes.{byte_at, past, operands}
use Rattle.code.specs.Code.{run, atom_of, atom_at, atom_end, expression_of, second_at, expression_at, expression_end}
use Rattle.code.proofs.Ends.{atom-end-value, atom-end-temporary, end-two, end-one, run-goes, run_none}
use Rattle.std.specs.Prelude.{Option, Some, None}
use Rattle.std.specs.Bool.{then_some}
use Rattle.bound.specs.Walks.{holds, binding, seen_as}

-- of a temporary, the sets are asked as they are
pub holds_has : (Γ x : ℕ) → x < 16 → holds Γ x ≡ has Γ x
unfolding holds
holds_has Γ x h = ap (has Γ) (mod-eq_of_lt h)

pub binding-with : (Γ x : ℕ) → x < 16 → binding Γ x ≡ with Γ x
unfolding binding
binding-with Γ x h = ap (with Γ) (mod-eq_of_lt h)

pub all-has : (Γ : ℕ) (x̄ : List ℕ) → Temporaries x̄ → all (holds Γ) x̄ ≡ all (has Γ) x̄
unfolding all
all-has Γ [] h = refl
all-has Γ (x ∷ x̄) (h, t) = rw (holds_has Γ x h, all-has Γ x̄ t)

-- all of two lists
all_append : (f : ℕ → Bool) (xs ys : List ℕ) → all f (xs ++ ys) ≡ (all f xs && all f ys)
unfolding all
all_append f [] ys = refl
all_append f (x ∷ xs) ys = go (f x) (all_append f xs ys)
  where
    go : (b : Bool) → all f (xs ++ ys) ≡ (all f xs && all f ys) → (b && all f (xs ++ ys)) ≡ ((b && all f xs) && all f ys)
    go true i = i
    go false i = refl

-- what an answer says
pub seen-in : {r : Option ℕ} {k : ℕ} (b : Bool) (e : ℕ) → r ≡ seen_as b e → r ≡ Some k → (b ≡ true) × (k ≡ e)
seen-in true e h z = (refl, cc)
seen-in false e h z = let y : ◌≡◌ {A = ℕ} 0 1 = cc in absurd (omega arith)

pub seen-out : {r : Option ℕ} (b : Bool) (e : ℕ) → r ≡ seen_as b e → r ≡ None → b ≡ false
seen-out true e h z = let y : ◌≡◌ {A = ℕ} 0 1 = cc in absurd (omega arith)
seen-out false e h z = refl

-- atoms
pub value-uses : (s : List ℕ) (at : ℕ) → byte_at s at ≡ 0 → uses_atom (atom_at s at) ≡ []
unfolding atom_at atom_of uses_atom
value-uses s at h = rw h

by_kind : (k : ℕ) (v : ℤ) (x : ℕ) → (k ≡ 0 → ⊥) → uses_atom (atom_of k v x) ≡ x ∷ []
unfolding atom_of uses_atom
by_kind zero v x h = absurd (h refl)
by_kind (suc k) v x h = refl

pub temporary-uses : (s : List ℕ) (at : ℕ) → (byte_at s at ≡ 0 → ⊥) → uses_atom (atom_at s at) ≡ byte_at s (past at 1) ∷ []
unfolding atom_at
temporary-uses s at h = by_kind (byte_at s at) _ (byte_at s (past at 1)) h

module _ (s : List ℕ) (at Γ : ℕ) {b f : ℕ} (q : f ≡ past at 1) (e : b ≡ byte_at s at) where
  pub atom-free : {r : ℕ} → b ≡ 0 → r ≡ past f 4 → Some r ≡ seen_as (all (holds Γ) (uses_atom (atom_at s at))) (atom_end s at)
  unfolding all
  atom-free h d = rw (value-uses s at (sym e ∙ h), ← atom-end-value s at q e h d)

  module _ {x : ℕ} {t : Bool} (z : b ≡ 0 → ⊥) (y : x ≡ byte_at s f) (h : t ≡ holds Γ x) where
    single : all (holds Γ) (uses_atom (atom_at s at)) ≡ (t && true)
    unfolding all
    single = rw (temporary-uses s at (λ w. z (e ∙ w)), ← q, ← y, ← h)

    pub atom_as : {r : ℕ} → r ≡ past f 1 → then_some t r ≡ seen_as (all (holds Γ) (uses_atom (atom_at s at))) (atom_end s at)
    atom_as {r} d = rw (single, ← atom-end-temporary s at q e z d) (go t)
      where
        go : (t : Bool) → then_some t r ≡ seen_as (t && true) r
        go true = refl
        go false = refl

-- expressions: by their number of operands
pub uses-one : (k : ℕ) (m n : Atom) → (operands k ≡ 2 → ⊥) → uses (expression_of k m n) ≡ uses_atom m
unfolding operands expression_of uses
uses-one zero m n h = refl
uses-one (suc zero) m n h = refl
uses-one (suc (suc zero)) m n h = absurd (h refl)
uses-one (suc (suc (suc k))) m n h = absurd (h refl)

pub uses-two : (k : ℕ) (m n : Atom) → operands k ≡ 2 → uses (expression_of k m n) ≡ uses_atom m ++ uses_atom n
unfolding operands expression_of uses
uses-two zero m n h = absurd (omega arith)
uses-two (suc zero) m n h = absurd (omega arith)
uses-two (suc (suc zero)) m n h = refl
uses-two (suc (suc (suc k))) m n h = refl

-- what the first atom says, and then the second
module _ (s : List ℕ) (at Γ : ℕ) {f : ℕ} {r : Option ℕ} (q : f ≡ past at 1)
    (a : r ≡ seen_as (all (holds Γ) (uses_atom (atom_at s f))) (atom_end s f)) where
  one_of : (operands (byte_at s at) ≡ 2 → ⊥) → uses (expression_at s at) ≡ uses_atom (atom_at s f)
  unfolding expression_at
  one_of h = uses-one (byte_at s at) _ _ h ∙ rw (← q)

  two-of : operands (byte_at s at) ≡ 2 → uses (expression_at s at) ≡ uses_atom (atom_at s f) ++ uses_atom (atom_at s (atom_end s f))
  unfolding expression_at second_at
  two-of h = uses-two (byte_at s at) _ _ h ∙ rw (← q)

  abbrev inside : Bool
  inside = all (holds Γ) (uses_atom (atom_at s f))

  pub expression-out : r ≡ None → None ≡ seen_as (all (holds Γ) (uses (expression_at s at))) (expression_end s at)
  expression-out z = go (ℕ_discrete (operands (byte_at s at)) 2)
    where
      lacks : all (holds Γ) (uses_atom (atom_at s f)) ≡ false
      lacks = seen-out inside (atom_end s f) a z

      go : Dec (operands (byte_at s at) ≡ 2) → None ≡ seen_as (all (holds Γ) (uses (expression_at s at))) (expression_end s at)
      go (yes h) = rw (two-of h, all_append, lacks)
      go (no h) = rw (one_of h, lacks)

  module _ {k b o : ℕ} (z : r ≡ Some k) (e : b ≡ byte_at s at) (d : o ≡ operands b) where
    pub expression-one : (o ≡ 2 → ⊥) → Some k ≡ seen_as (all (holds Γ) (uses (expression_at s at))) (expression_end s at)
    expression-one h =
        let (t, j) = seen-in inside (atom_end s f) a z in
        rw (one_of (λ w. h (d ∙ ap operands e ∙ w)), t, ← end-one s at q j e d h)

    pub expression-two : {t : Option ℕ} → o ≡ 2 → t ≡ seen_as (all (holds Γ) (uses_atom (atom_at s k))) (atom_end s k)
        → t ≡ seen_as (all (holds Γ) (uses (expression_at s at))) (expression_end s at)
    expression-two h w =
        let (t, j) = seen-in inside (atom_end s f) a z in
        let u : atom_end s k ≡ expression_end s at = end-two s at q j e d h refl in
        rw (two-of (sym (ap operands e) ∙ sym d ∙ h), all_append, t, ← j, ← u) w

-- lists of temporaries: what is left of n decides
module _ (s : List ℕ) (Γ k n : ℕ) {v : Bool} (i : v ≡ all (holds Γ) (run s k n)) where
  pub all_end : n ≤ 0 → true ≡ v
  unfolding all
  all_end h = sym (i ∙ rw (run_none s k n h))

  module _ {x : ℕ} {b : Bool} (h : 0 < n) (e : x ≡ byte_at s k) (d : b ≡ holds Γ x) where
    pub all-out : b ≡ false → false ≡ v
    unfolding all
    all-out z = sym (i ∙ rw (run-goes s k n h, ← e, ← d, z))

    pub all_in : {j m : ℕ} → b ≡ true → j ≡ past k 1 → m ≡ n - 1 → v ≡ all (holds Γ) (run s j m)
    unfolding all
    all_in z q l = i ∙ rw (run-goes s k n h, ← e, ← d, z, q, l)

-- names side by side
module _ (s : List ℕ) (i j n : ℕ) {v : Bool} (w : v ≡ equal (run s i n) (run s j n)) where
  pub same_end : n ≤ 0 → true ≡ v
  unfolding equal
  same_end h = sym (w ∙ rw (run_none s i n h, run_none s j n h))

  module _ {x y : ℕ} (h : 0 < n) (e : x ≡ byte_at s i) (d : y ≡ byte_at s j) where
    pub same-differ : (x ≡ y → ⊥) → false ≡ v
    unfolding equal
    same-differ z = sym (w ∙ rw (run-goes s i n h, run-goes s j n h, ← e, ← d, ne_eqb x y z))

    pub same-on : {a b m : ℕ} → x ≡ y → a ≡ past i 1 → b ≡ past j 1 → m ≡ n - 1 → v ≡ equal (run s a m) (run s b m)
    unfolding equal
    same-on z p q l = w ∙ rw (run-goes s i n h, run-goes s j n h, ← e, ← d, eq-eqb x y z, p, q, l)
