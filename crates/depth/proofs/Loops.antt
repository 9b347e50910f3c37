-- The greatest so far, and what is left: over the blocks of a function, and over the functions.
use Prim.Native.Nat.{ℕ, zero, suc, ◌+◌, ◌-◌, ◌≤◌, ◌<◌, max}
use mathlib.Core.Path.{◌≡◌, refl, sym, ◌∙◌, ap}
use mathlib.Core.Option.{Option, none, some, map}
use mathlib.Core.List.{List, [], ◌∷◌, ◌++◌}
use native.Mathlib.Nat.{zero-max}
use native.Mathlib.Omega.{arith}
use Rattle.std.specs.Prelude.{Some, None}
use lib.ListN.{length, get_elem?, drop, set, replicate}
use Rattle.model.specs.Syntax.{Block, Function, Program}
use Rattle.model.specs.Pool.{block_in}
use Rattle.model.specs.Limits.{InFunction}
use Rattle.model.proofs.Facts.{none-some, some-injective, each_at, past-at, drop-some, drop-none}
use Rattle.places.specs.Layout as Layout
use Rattle.places.specs.Places.{Places}
use Rattle.chains.specs.Depth.{called_in, callees_of, callees, greater, greatest, frames_from, numbers, deepest}
use Rattle.depth.specs.Works.{Called, Chain, called_of, calls_in, FindsCall, chain_of, Knows, Works, WorksAll}
use Rattle.depth.proofs.Memory.{knows-nothing, knows_more}

-- what the blocks of a function call, from number b on
unfoldable pub called_from : Option Function → ℕ → List ℕ
called_from none b = []
called_from (some F) b = called_in (drop b F.blocks)

from_first : (o : Option Function) → callees_of o ≡ called_from o 0
unfolding callees_of called_from
from_first none = refl
from_first (some F) = refl

module _ (b : ℕ) where
  from-none : (o : Option Function) → calls_in (block_in o b) ≡ none → called_from o b ≡ []
  unfolding called_from called_in block_in
  from-none none e = refl
  from-none (some F) e = rw (drop-none F.blocks b (gone (get_elem? F.blocks b) e))
    where
      gone : (o : Option Block) → calls_in o ≡ none → o ≡ none
      gone none e = refl
      gone (some B) e = none-some (sym e)

  from_some : (o : Option Function) (x̄ : List ℕ) → calls_in (block_in o b) ≡ some x̄ → called_from o b ≡ x̄ ++ called_from o (b + 1)
  unfolding called_from called_in block_in
  from_some none x̄ e = none-some e
  from_some (some F) x̄ e = go (get_elem? F.blocks b) refl e
    where
      go : (o : Option Block) → get_elem? F.blocks b ≡ o → calls_in o ≡ some x̄
          → called_in (drop b F.blocks) ≡ x̄ ++ called_in (drop (b + 1) F.blocks)
      go none w e = none-some e
      go (some B) w e = rw (drop-some F.blocks b w, some-injective e)

-- the greater of three
greater-zero : (o : Option ℕ) → greater (some 0) o ≡ o
unfolding greater
greater-zero none = refl
greater-zero (some a) = ap some (zero-max a)

greater-more : (m n : ℕ) (o : Option ℕ) → greater (some m) (greater (some n) o) ≡ greater (some (max m n)) o
unfolding greater
greater-more m n none = refl
greater-more m n (some a) = let e : max m (max n a) ≡ max (max m n) a = omega arith in ap some e

-- with a function's own frame
abbrev own : Option ℕ → Option ℕ
own o = map (λ d. d + 1) o

own-least : (o : Option ℕ) → greater (some 1) (own o) ≡ own o
unfolding greater
own-least none = refl
own-least (some a) = let e : max 1 (a + 1) ≡ a + 1 = omega arith in ap some e

own-greater : (n : ℕ) (o : Option ℕ) → own (greater (some n) o) ≡ greater (some (n + 1)) (own o)
unfolding greater
own-greater n none = refl
own-greater n (some a) = let e : max n a + 1 ≡ max (n + 1) (a + 1) = omega arith in ap some e

frames-own : (P : Program) (left f : ℕ) → (left ≡ 0 → ⊥) → frames_from P left f ≡ own (greatest (frames_from P (left - 1)) (callees P f))
unfolding frames_from
frames-own P zero f h = absurd (h refl)
frames-own P (suc left) f h = let e : suc left - 1 ≡ left = omega arith in rw e

-- with no functions left
pub spent : (s places known : List ℕ) (left f : ℕ) → left ≡ 0 → Works s places known left f None known
unfolding frames_from
spent s places known left f e P p k = (rw e, k)

-- the blocks of a function: those from number b on decide, with the greatest so far; and the depths known are right
abbrev pub Left : List ℕ → List ℕ → List ℕ → ℕ → ℕ → List ℕ → ℕ → ℕ → Type 0
Left s places known₀ left f known most b =
    (P : Program) → Places s P places → Knows P known₀ →
    (frames_from P left f ≡ greater (some most) (own (greatest (frames_from P (left - 1)) (called_from (get_elem? P f) b)))) × Knows P known

pub left-first : (s places known : List ℕ) (left f : ℕ) → (left ≡ 0 → ⊥) → Left s places known left f known 1 0
left-first s places known left f h P p k = (frames-own P left f h ∙ rw (own-least, ← from_first (get_elem? P f)), k)

module _ (s places known₀ : List ℕ) (left f : ℕ) (known : List ℕ) (most b : ℕ) (i : Left s places known₀ left f known most b) where
  left_over : (known' : List ℕ) (P : Program) → Places s P places → Knows P known₀ → called_from (get_elem? P f) b ≡ [] → 0 < most
      → known' ≡ set known f most → (some most ≡ frames_from P left f) × Knows P known'
  unfolding greatest greater
  left_over known' P p k₀ e g w =
      let (j, k) = i P p k₀ in
      let z : max most 1 ≡ most = omega arith in
      let h : frames_from P left f ≡ some most = j ∙ rw (e, z) in
      (sym h, rw w (knows_more P known left f most k h))

  pub left_end : (known' : List ℕ) → Layout.blocks ≤ b → 0 < most → known' ≡ set known f most
      → Works s places known₀ left f (Some most) known'
  unfolding called_from called_in
  left_end known' l g w P p k₀ = left_over known' P p k₀ (go (get_elem? P f) refl) g w
    where
      go : (o : Option Function) → get_elem? P f ≡ o → called_from o b ≡ []
      go none e = refl
      go (some F) e =
          let few = (each_at InFunction P f p.limits.functions e).few_blocks in
          rw (drop-none F.blocks b (past-at F.blocks b (omega arith)))

  module _ {q : Called} (find : FindsCall s places f b q) where
    pub left-none : (known' : List ℕ) → q ≡ None → 0 < most → known' ≡ set known f most → Works s places known₀ left f (Some most) known'
    left-none known' e g w P p k₀ = left_over known' P p k₀ (from-none b (get_elem? P f) (sym (find P p) ∙ ap called_of e)) g w

    pub left-on : q ≡ Some None → Left s places known₀ left f known most (b + 1)
    left-on e P p k₀ =
        let (j, k) = i P p k₀ in
        (j ∙ rw (from_some b (get_elem? P f) [] (sym (find P p) ∙ ap called_of e)), k)

    module _ {g : ℕ} (known' : List ℕ) (r : Chain) (e : q ≡ Some (Some g)) (works : Works s places known (left - 1) g r known') where
      callee : (P : Program) → Places s P places → called_from (get_elem? P f) b ≡ g ∷ called_from (get_elem? P f) (b + 1)
      callee P p = from_some b (get_elem? P f) (g ∷ []) (sym (find P p) ∙ ap called_of e)

      pub left-endless : r ≡ None → Works s places known₀ left f None known'
      unfolding greatest greater
      left-endless z P p k₀ =
          let (j, k) = i P p k₀ in
          let (w, k') = works P p k in
          let h : frames_from P (left - 1) g ≡ none = sym w ∙ ap chain_of z in
          (sym (j ∙ rw (callee P p, h)), k')

      pub left-call : (n m : ℕ) → r ≡ Some n → m ≡ max most (n + 1) → Left s places known₀ left f known' m (b + 1)
      unfolding greatest
      left-call n m z d P p k₀ =
          let (j, k) = i P p k₀ in
          let (w, k') = works P p k in
          let h : frames_from P (left - 1) g ≡ some n = sym w ∙ ap chain_of z in
          (j ∙ rw (callee P p, h, own-greater n, greater-more most (n + 1), ← d), k')

-- the functions: those below f decide, with the greatest so far; and the depths known are right
abbrev pub AllLeft : List ℕ → List ℕ → ℕ → List ℕ → ℕ → ℕ → Type 0
AllLeft s places n known most f =
    (P : Program) → Places s P places → length P ≡ n →
    (deepest P ≡ greater (some most) (greatest (frames_from P n) (numbers f))) × Knows P known

pub all_first : (s places : List ℕ) (n k : ℕ) → AllLeft s places n (replicate k 0) 0 n
unfolding deepest
all_first s places n k P p e = (rw (greater-zero, e), knows-nothing P k)

numbers-next : (f : ℕ) {k : ℕ} → k < f → numbers f ≡ (f - 1) ∷ numbers (f - 1)
unfolding numbers
numbers-next zero h = absurd (omega arith)
numbers-next (suc f) h = let e : suc f - 1 ≡ f = omega arith in rw e

module _ (s places : List ℕ) (n : ℕ) (known : List ℕ) (most f : ℕ) (i : AllLeft s places n known most f) where
  pub all_end : f ≤ 0 → WorksAll s places n (Some most)
  unfolding numbers greatest greater
  all_end h P p e =
      let f0 : f ≡ 0 = omega arith in
      let z : max most 0 ≡ most = omega arith in
      sym ((i P p e).0 ∙ rw (f0, z))

  module _ {k : ℕ} (known' : List ℕ) (r : Chain) (h : k < f) (works : Works s places known n (f - 1) r known') where
    pub all-endless : r ≡ None → WorksAll s places n None
    unfolding greatest greater
    all-endless z P p e =
        let (j, known-right) = i P p e in
        let w : frames_from P n (f - 1) ≡ none = sym (works P p known-right).0 ∙ ap chain_of z in
        sym (j ∙ rw (numbers-next f h, w))

    pub all-on : (d m : ℕ) → r ≡ Some d → m ≡ max most d → AllLeft s places n known' m (f - 1)
    unfolding greatest
    all-on d m z q P p e =
        let (j, known-right) = i P p e in
        let (v, right) = works P p known-right in
        let w : frames_from P n (f - 1) ≡ some d = sym v ∙ ap chain_of z in
        (j ∙ rw (numbers-next f h, w, greater-more most d, ← q), right)
