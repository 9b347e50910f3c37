-- The places that the walk keeps are those of the program: reading at each gives exactly that function, spawn call or
-- block. For any head.
use Prim.Native.Nat.{ℕ, zero, suc, ◌+◌, ◌-◌, ◌*◌, ◌/◌, ◌%◌, ◌≤◌, ◌<◌}
use native.Mathlib.Omega.{arith}
use mathlib.Core.Path.{◌≡◌, refl, sym, ap, ◌∙◌, subst, subst₂, subst₃}
use mathlib.Core.Bool.{Bool, true, false, cond}
use mathlib.Core.Logic.{◌≢◌}
use mathlib.Core.Option.{Option, none, some}
use mathlib.Core.List.{List, [], ◌∷◌}
use lib.Dec.{eqb}
use lib.ListN.{length, get_or, get_elem?, length-set, length-replicate}
use lib.Seq.{get_or-set_same, get_or-set_other}
use borrow.Author.Tests.{eq-eqb, ne_eqb, eqb-true, eqb-false}
use Rattle.model.specs.Read.{Parsed, Parser, next, byte, many, counted, spawn_call, block_by, function_by, program_by}
use Rattle.model.specs.Read as Read
use Rattle.model.specs.Syntax.{Head, Block, Function, Program}
use Rattle.model.specs.Pool.{block_in}
use Rattle.model.specs.Limits.{InHead, Limits}
use Rattle.model.proofs.Facts.{same_at}
use Rattle.model.proofs.Reading.{ok-value, ok-offset, Both, next-ok, byte-ok, many-uncons, counted-ok}
use Rattle.model.proofs.Guarantees as Guarantees
use Rattle.model.proofs.Guarantees.{Gives}
use Rattle.code.proofs.Numbers.{half-ok}
use Rattle.places.specs.Layout as Layout
use Rattle.places.specs.Layout.{absent, function_index, spawn_index, block_index, length_index}
use Rattle.places.specs.Marks.{short, put, nowhere, mark_function, mark_spawn, mark_block, mark_head, paired, length_of}
use Rattle.places.specs.Places as Places
use Rattle.places.specs.Places.{spawn_in, Entry, PlacesBy}
use Rattle.table.specs.declared.Version.{Version}
use Rattle.table.specs.declared.Version.TheVariants.{One, Two}
use Rattle.table.specs.Versions.{head_of}
use Rattle.table.specs.Skips.{skip_of}
use Rattle.std.specs.Prelude.{Ok}
use Rattle.table.specs.Marks.{onward, marked, Along, along, block_marks_by, Many, sizes, function_marks_by, program_marks_by}
use Rattle.table.proofs.Marks.{few-of}

none_left : {A : Type 0} (p : Parser A) (s : List ℕ) (at : ℕ) (xs : List A) (e : ℕ) → many p zero s at ≡ Parsed.ok xs e → xs ≡ []
unfolding many
none_left p s at xs e h = sym (ok-value h)

-- the marks after one good item
marked-suc : {A S : Type 0} (p : Parser A) (mark : ℕ → ℕ → S → S) (n : ℕ) (s : List ℕ) (at i : ℕ) (l : S) (x : A) (m : ℕ)
    → p s at ≡ Parsed.ok x m → marked p mark (suc n) s at i l ≡ marked p mark n s m (i + 1) (mark i at l)
unfolding marked onward
marked-suc p mark n s at i l x m e = rw e refl

-- what holds of both ways holds onward
either-ok : {A B : Type 0} (P : B → Type 0) (q : Parsed A) (k : A → ℕ → B) (b : B)
    → ((a : A) (m : ℕ) → q ≡ Parsed.ok a m → P (k a m)) → P b → P (onward q k b)
unfolding onward
either-ok P (Parsed.ok a m) k b h g = h a m refl
either-ok P (Parsed.bad x) k b h g = g

-- marks keep the number of places, and what stands at other indices; the places stand in what is kept
module _ {A S : Type 0} (p : Parser A) (mark : ℕ → ℕ → S → S) (s : List ℕ) (in-it : S → List ℕ) where
  marked-long : ((i at : ℕ) (σ : S) → length (in-it (mark i at σ)) ≡ length (in-it σ))
      → (n at i : ℕ) (σ : S) → length (in-it (marked p mark n s at i σ)) ≡ length (in-it σ)
  unfolding marked
  marked-long h zero at i σ = refl
  marked-long h (suc n) at i σ =
      either-ok (λ (x : S). length (in-it x) ≡ length (in-it σ)) (p s at) _ σ
      (λ a m _. marked-long h n m (i + 1) (mark i at σ) ∙ h i at σ) refl

  marked_other : (k : ℕ) (Away : ℕ → Type 0)
      → ((i at : ℕ) (σ : S) → Away i → get_or (in-it (mark i at σ)) k absent ≡ get_or (in-it σ) k absent)
      → (n at i : ℕ) (σ : S) → ((j : ℕ) → j < n → Away (i + j))
      → get_or (in-it (marked p mark n s at i σ)) k absent ≡ get_or (in-it σ) k absent
  unfolding marked
  marked_other k Away h zero at i σ o = refl
  marked_other k Away h (suc n) at i σ o =
      let o₀ : Away i = subst (λ (x : ℕ). Away x) (omega arith) (o 0 (omega arith)) in
      either-ok (λ (x : S). get_or (in-it x) k absent ≡ get_or (in-it σ) k absent) (p s at) _ σ
      (λ a m _.
      marked_other k Away h n m (i + 1) (mark i at σ) (λ j g. subst (λ (x : ℕ). Away x) (omega arith) (o (j + 1) (omega arith)))
      ∙ h i at σ o₀)
      refl

-- the places themselves
abbrev plain : List ℕ → List ℕ
plain l = l

put-long : (i at : ℕ) (l : List ℕ) → length (put i at l) ≡ length l
put-long i at l = length-set l i (short at)

put_other : (k i at : ℕ) (l : List ℕ) → ¬ (k ≡ i) → get_or (put i at l) k absent ≡ get_or l k absent
put_other k i at l h = get_or-set_other l i k (short at) absent h

-- no item begins behind the largest table
Begins : {A : Type 0} → Parser A → List ℕ → Type 0
Begins {A} p s = (at : ℕ) (a : A) (m : ℕ) → p s at ≡ Parsed.ok a m → at < absent

kept : {A : Type 0} (p : Parser A) (s : List ℕ) → Begins p s → (at : ℕ) (a : A) (m : ℕ) → p s at ≡ Parsed.ok a m → short at ≡ at
unfolding Begins
kept p s b at a m e = let h : at < absent = b at a m e in omega arith

-- an entry, by equal offsets and equal things
entry-by : {A : Type 0} (p : Parser A) (s : List ℕ) {x y : ℕ} {o o' : Option A} → x ≡ y → o ≡ o' → Entry p s y o' → Entry p s x o
entry-by {A} p s e f h = subst₂ (λ (x : ℕ) (o : Option A). Entry p s x o) (sym e) (sym f) h

-- what was read stands there
there : {A : Type 0} (p : Parser A) (s : List ℕ) → Begins p s → (at : ℕ) (a : A) (m : ℕ) → p s at ≡ Parsed.ok a m
    → Entry p s at (some a)
unfolding Begins
there p s b at a m e = (b at a m e, record { behind = m; is = e })

-- a way of marking what p reads: item j is kept at its index, and the entry of no other item is touched
record Marking {A S : Type 0} (p : Parser A) (s : List ℕ) (mark : ℕ → ℕ → S → S) (in-it : S → List ℕ) (index : ℕ → ℕ)
    (top : ℕ) : Type 0 where
  long : (j at : ℕ) (σ : S) → length (in-it (mark j at σ)) ≡ length (in-it σ)
  here : (j at : ℕ) (σ : S) (a : A) (m : ℕ) → p s at ≡ Parsed.ok a m → j < top → index j < length (in-it σ)
      → get_or (in-it (mark j at σ)) (index j) absent ≡ short at
  apart : (j k at : ℕ) (σ : S) → k < top → ¬ (k ≡ j) → get_or (in-it (mark j at σ)) (index k) absent ≡ get_or (in-it σ) (index k) absent

-- items that were read one after another stand where they are kept, and none behind them
module _ {A S : Type 0} (p : Parser A) (s : List ℕ) (mark : ℕ → ℕ → S → S) (in-it : S → List ℕ) (index : ℕ → ℕ) (top : ℕ)
    (M : Marking p s mark in-it index top) (b : Begins p s) where
  items : (n at i : ℕ) (σ : S) (xs : List A) (e : ℕ) → many p n s at ≡ Parsed.ok xs e
      → ((j : ℕ) → j < n → index (i + j) < length (in-it σ)) → (j : ℕ) → i + j < top
      → (n ≤ j → get_or (in-it σ) (index (i + j)) absent ≡ absent)
      → Entry p s (get_or (in-it (marked p mark n s at i σ)) (index (i + j)) absent) (get_elem? xs j)
  unfolding marked
  items zero at i σ xs e h g j w f =
      entry-by p s (f (omega arith)) (ap (λ (ys : List A). get_elem? ys j) (none_left p s at xs e h)) refl
  items (suc n) at i σ xs e h g zero w f =
      let c = many-uncons p n s at h in
      let σ₁ : S = mark i at σ in
      let o : i + 0 ≡ i = omega arith in
      let z : get_or (in-it (marked p mark n s c.between (i + 1) σ₁)) (index (i + 0)) absent ≡ at =
      marked_other p mark s in-it (index (i + 0)) (λ (x : ℕ). ¬ (i + 0 ≡ x)) (λ j at σ o. M.apart j (i + 0) at σ w o)
      n c.between (i + 1) σ₁ (λ j h q. omega arith)
      ∙ ap (λ (x : ℕ). get_or (in-it σ₁) (index x) absent) o
      ∙ M.here i at σ c.item c.between c.first (omega arith) (subst (λ (x : ℕ). index x < length (in-it σ)) o (g 0 (omega arith)))
      ∙ kept p s b at c.item c.between c.first in
      entry-by p s
      (ap (λ (x : S). get_or (in-it x) (index (i + 0)) absent) (marked-suc p mark n s at i σ c.item c.between c.first) ∙ z)
      (ap (λ (ys : List A). get_elem? ys zero) c.is)
      (there p s b at c.item c.between c.first)
  items (suc n) at i σ xs e h g (suc j) w f =
      let c = many-uncons p n s at h in
      let σ₁ : S = mark i at σ in
      let q : i + suc j ≡ i + 1 + j = omega arith in
      entry-by p s
      (ap (λ (x : S). get_or (in-it x) (index (i + suc j)) absent) (marked-suc p mark n s at i σ c.item c.between c.first)
      ∙ ap (λ (x : ℕ). get_or (in-it (marked p mark n s c.between (i + 1) σ₁)) (index x) absent) q)
      (ap (λ (ys : List A). get_elem? ys (suc j)) c.is)
      (items n c.between (i + 1) σ₁ c.rest e c.then
      (λ k l.
      let v : i + suc k ≡ i + 1 + k = omega arith in
      rw (M.long i at σ) (subst (λ (x : ℕ). index x < length (in-it σ)) v (g (suc k) (omega arith))))
      j (omega arith)
      (λ o. ap (λ (x : ℕ). get_or (in-it σ₁) (index x) absent) (sym q) ∙ M.apart i (i + suc j) at σ w (λ u. omega arith) ∙ f (omega arith)))

spawn-marks : (s : List ℕ) (f : ℕ) → Marking spawn_call s (mark_spawn f) plain (spawn_index f) Layout.spawns
spawn-marks s f =
    record {
      long = λ j at l. put-long (spawn_index f j) at l;
      here = λ j at l a m e w h. get_or-set_same l (spawn_index f j) (short at) absent h;
      apart = λ j k at l w h. put_other (spawn_index f k) (spawn_index f j) at l (λ u. h (omega arith));
    }

-- a function's parts, as they were read
record Parts (p : Parser Head) (s : List ℕ) (at : ℕ) (F : Function) (e : ℕ) : Type 0 where
  numbers : Many
  from : ℕ
  until : ℕ
  sized : sizes s at ≡ Parsed.ok numbers from
  spawns : many spawn_call numbers.spawns s from ≡ Parsed.ok F.spawns until
  blocks : many (block_by p) numbers.blocks s until ≡ Parsed.ok F.blocks e
  few-blocks : numbers.blocks ≤ Layout.blocks
  few-spawns : numbers.spawns ≤ Layout.spawns

sized-is : (s : List ℕ) (at n r b c k l m e : ℕ) → byte 0 8 s at ≡ Parsed.ok n k → byte 0 4 s k ≡ Parsed.ok r l
    → byte 1 32 s l ≡ Parsed.ok b m → byte 0 8 s m ≡ Parsed.ok c e → sizes s at ≡ Parsed.ok (record { blocks = b; spawns = c }) e
unfolding sizes next
sized-is s at n r b c k l m e p q u v = rw (p, q, u, v)

parts : (p : Parser Head) (s : List ℕ) (at : ℕ) (F : Function) (e : ℕ) → function_by p s at ≡ Parsed.ok F e → Parts p s at F e
unfolding function_by
parts p s at F e h =
    let g₁ = next-ok _ _ h in
    let g₂ = next-ok _ _ g₁.then in
    let g₃ = next-ok _ _ g₂.then in
    let g₄ = next-ok _ _ g₃.then in
    let g₅ = next-ok _ _ g₄.then in
    let g₆ = next-ok _ _ g₅.then in
    let is = ok-value g₆.then in
    record {
      numbers = record { blocks = g₃.value; spawns = g₄.value };
      from = g₄.between;
      until = g₅.between;
      sized = sized-is s at _ _ _ _ _ _ _ _ g₁.first g₂.first g₃.first g₄.first;
      spawns = g₅.first ∙ ap (λ (F : Function). Parsed.ok F.spawns g₅.between) is;
      blocks = g₆.first ∙ ap (Parsed.ok g₆.value) (ok-offset g₆.then) ∙ ap (λ (F : Function). Parsed.ok F.blocks e) is;
      few-blocks = (byte-ok 1 32 s _ _ _ g₃.first).high;
      few-spawns = (byte-ok 0 8 s _ _ _ g₄.first).high;
    }

-- a function's slots: its own, those of its spawn calls and of its blocks, and those of the lengths of its blocks' heads
data Slot : Type 0 where
  whole : Slot
  spawn : ℕ → Slot
  body : ℕ → Slot
  pair : ℕ → Slot

abbrev index : ℕ → Slot → ℕ
index g whole = function_index g
index g (spawn k) = spawn_index g k
index g (body b) = block_index g b
index g (pair b) = length_index g b

abbrev In : Slot → Type 0
In whole = Unit {0}
In (spawn k) = k < Layout.spawns
In (body b) = b < Layout.blocks
In (pair b) = b < Layout.blocks

-- every slot is in the array, and no two slots share an index
inside : (g : ℕ) (σ : Slot) → In σ → g < Layout.functions → index g σ < Layout.len
inside g whole i a = omega arith
inside g (spawn k) i a = omega arith
inside g (body b) i a = omega arith
inside g (pair b) i a = omega arith

from-blocks : (g h : ℕ) (σ : Slot) → In σ → h ≢ g → h < Layout.functions → g < Layout.functions → (j : ℕ) → j < Layout.blocks
    → ¬ (index h σ ≡ block_index g j)
from-blocks g h whole i a b d j c e = omega arith
from-blocks g h (spawn k) i a b d j c e = omega arith
from-blocks g h (body k) i a b d j c e = omega arith
from-blocks g h (pair k) i a b d j c e = omega arith

from-lengths : (g h : ℕ) (σ : Slot) → In σ → h ≢ g → h < Layout.functions → (j : ℕ) → j < Layout.blocks
    → ¬ (index h σ ≡ length_index g j)
from-lengths g h whole i a b j c e = omega arith
from-lengths g h (spawn k) i a b j c e = omega arith
from-lengths g h (body k) i a b j c e = omega arith
from-lengths g h (pair k) i a b j c e = omega arith

from-spawns : (g h : ℕ) (σ : Slot) → In σ → h ≢ g → h < Layout.functions → g < Layout.functions → (j : ℕ) → j < Layout.spawns
    → ¬ (index h σ ≡ spawn_index g j)
from-spawns g h whole i a b d j c e = omega arith
from-spawns g h (spawn k) i a b d j c e = omega arith
from-spawns g h (body k) i a b d j c e = omega arith
from-spawns g h (pair k) i a b d j c e = omega arith

from-whole : (g h : ℕ) (σ : Slot) → In σ → h ≢ g → g < Layout.functions → ¬ (index h σ ≡ function_index g)
from-whole g h whole i a b e = a e
from-whole g h (spawn k) i a b e = omega arith
from-whole g h (body k) i a b e = omega arith
from-whole g h (pair k) i a b e = omega arith

-- runs of marks leave an index outside them alone
beside-spawns : (s : List ℕ) (f k n at : ℕ) (l : List ℕ) → ((j : ℕ) → j < n → ¬ (k ≡ spawn_index f j))
    → get_or (marked spawn_call (mark_spawn f) n s at 0 l) k absent ≡ get_or l k absent
beside-spawns s f k n at l h =
    marked_other spawn_call (mark_spawn f) s plain k (λ (x : ℕ). ¬ (k ≡ spawn_index f x)) (λ j at l o. put_other k (spawn_index f j) at l o)
    n at 0 l (λ j q u. h j q (omega arith))

-- within a list the default is not looked at, and in a list of defaults it is what stands anywhere
get_d_any : {A : Type 0} (xs : List A) (i : ℕ) (d e : A) → i < length xs → get_or xs i d ≡ get_or xs i e
get_d_any [] i d e h = absurd (omega arith)
get_d_any (x ∷ xs) zero d e h = refl
get_d_any (x ∷ xs) (suc i) d e h = get_d_any xs i d e (omega arith)

none-there : (k : ℕ) → get_or nowhere k absent ≡ absent
unfolding nowhere
none-there k = same_at Layout.len k absent

none-long : length nowhere ≡ Layout.len
unfolding nowhere
none-long = length-replicate {A = ℕ} Layout.len absent

-- what is asked of a head's parser: its heads keep to the limits, begin within the table, and take fewer than 256 bytes
pub record Heads (p : Parser Head) : Type 0 where
  pub keeps : Gives p InHead
  pub begins : (s : List ℕ) (at : ℕ) (h : Head) (k : ℕ) → p s at ≡ Parsed.ok h k → at < length s
  pub takes : (s : List ℕ) (at : ℕ) (h : Head) (k : ℕ) → p s at ≡ Parsed.ok h k → (at ≤ k) × (k < at + 256)

run_ends : (lo hi n : ℕ) (s : List ℕ) (at : ℕ) {xs : List ℕ} {k : ℕ} → many (byte lo hi) n s at ≡ Parsed.ok xs k → k ≡ at + n
unfolding many
run_ends lo hi zero s at e = let z = ok-offset e in omega arith
run_ends lo hi (suc n) s at e =
    let u = many-uncons (byte lo hi) n s at e in
    let z = run_ends lo hi n s u.between u.then in
    omega (arith, (byte-ok lo hi s at _ _ u.first).behind)

list-ends : (most lo hi : ℕ) (s : List ℕ) (at : ℕ) {xs : List ℕ} {k : ℕ} → counted most (byte lo hi) s at ≡ Parsed.ok xs k
    → (at ≤ k) × (k ≤ at + 1 + most)
list-ends most lo hi s at e =
    let c = counted-ok most (byte lo hi) s at e in
    let z = run_ends lo hi _ s (at + 1) c.1 in
    (omega arith, omega (arith, c.0.high))

pub heads : Heads Read.head
unfolding Read.head Read.arguments Read.temporary Read.name
heads =
    record {
      keeps = Guarantees.head;
      begins = λ s at h k e. (counted-ok _ _ s at (next-ok _ _ e).first).0.inside;
      takes = λ s at h k e.
          let x̄ = next-ok _ _ e in
          let Γ = next-ok _ _ x̄.then in
          let ρ = next-ok _ _ Γ.then in
          let u = list-ends 8 0 15 s at x̄.first in
          let v = (half-ok s x̄.between Γ.first).behind in
          let w = list-ends 4 0 255 s Γ.between ρ.first in
          let z : ρ.between ≡ k = ok-offset ρ.then in
          (omega arith, omega arith);
    }

pub bare-heads : Heads Read.bare
unfolding Read.bare Read.arguments Read.temporary
bare-heads =
    record {
      keeps = Guarantees.bare;
      begins = λ s at h k e. (counted-ok _ _ s at (next-ok _ _ e).first).0.inside;
      takes = λ s at h k e.
          let x̄ = next-ok _ _ e in
          let u = list-ends 8 0 15 s at x̄.first in
          let z : x̄.between ≡ k = ok-offset x̄.then in
          (omega arith, omega arith);
    }

pub heads-of : (v : Version) → Heads (head_of v)
heads-of One = heads
heads-of Two = bare-heads

-- the same, of passing over a head
pub head-takes : (v : Version) (s : List ℕ) (at m : ℕ) → Ok m ≡ skip_of (head_of v s at) → (at ≤ m) × (m < at + 256)
unfolding skip_of
head-takes v s at m e = go (head_of v s at) refl e
  where
    go : (o : Parsed Head) → head_of v s at ≡ o → Ok m ≡ skip_of o → (at ≤ m) × (m < at + 256)
    go (Parsed.ok h k) is f = let z : k ≡ m = cc in let t = (heads-of v).takes s at h k is in (omega arith, omega arith)
    go (Parsed.bad x) is f = absurd (let z : ◌≡◌ {A = ℕ} 0 1 = cc in omega arith)

-- two lengths in an entry: a block's own, and the one before it
own-length : (b before n : ℕ) → before < 256 → n < 256 → length_of b (paired b before n) ≡ n
own-length b before n u v = go (eqb (b % 2) 0)
  where
    go : (t : Bool) → cond t (cond t n (before + 256 * n) % 256) (cond t n (before + 256 * n) / 256) ≡ n
    go true = omega arith
    go false = omega arith

even-length : (b c before n old : ℕ) → c + 1 ≡ b → b % 2 ≡ 1 → before < 256 → n < 256 → old % 256 ≡ before
    → length_of c (paired b before n) ≡ length_of c old
even-length b c before n old i o u v w =
    let odd : eqb (b % 2) 0 ≡ false = ne_eqb (b % 2) 0 (λ z. omega arith) in
    let even : eqb (c % 2) 0 ≡ true = eq-eqb (c % 2) 0 (omega arith) in
    rw (odd, even) (omega arith)

module _ (p : Parser Head) where
  -- a block's head, and what its marks are
  block-head : (s : List ℕ) (at : ℕ) (B : Block) (m : ℕ) → block_by p s at ≡ Parsed.ok B m → (e : ℕ) × (p s at ≡ Parsed.ok B.head e)
  unfolding block_by
  block-head s at B m h =
      let a = next-ok _ _ h in
      let b = next-ok _ _ a.then in
      let c = next-ok _ _ b.then in
      (a.between, a.first ∙ ap (λ (C : Block). Parsed.ok C.head a.between) (ok-value c.then))

  block-is : (s : List ℕ) (f b at : ℕ) (σ : Along) (h : Head) (e : ℕ) → p s at ≡ Parsed.ok h e
      → block_marks_by p s f b at σ ≡ along (mark_head f b σ.before (e - at) (mark_block f b at σ.places)) (e - at)
  unfolding block_marks_by onward
  block-is s f b at σ h e is = rw is

  head-other : (k f b before n : ℕ) (l : List ℕ) → ¬ (k ≡ length_index f b) → get_or (mark_head f b before n l) k absent ≡ get_or l k absent
  head-other k f b before n l h = get_or-set_other l (length_index f b) k (paired b before n) absent h

  block-other : (s : List ℕ) (k f b at : ℕ) (σ : Along) → ¬ (k ≡ block_index f b) → ¬ (k ≡ length_index f b)
      → get_or (block_marks_by p s f b at σ).places k absent ≡ get_or σ.places k absent
  unfolding block_marks_by
  block-other s k f b at σ u v =
      either-ok (λ (x : Along). get_or x.places k absent ≡ get_or σ.places k absent) (p s at) _ σ
      (λ h e _. head-other k f b σ.before (e - at) (mark_block f b at σ.places) v ∙ put_other k (block_index f b) at σ.places u)
      refl

  block-long : (s : List ℕ) (f j at : ℕ) (σ : Along) → length (block_marks_by p s f j at σ).places ≡ length σ.places
  unfolding block_marks_by
  block-long s f j at σ =
      either-ok (λ (x : Along). length x.places ≡ length σ.places) (p s at) _ σ
      (λ h e _.
      length-set (mark_block f j at σ.places) (length_index f j) (paired j σ.before (e - at))
      ∙ put-long (block_index f j) at σ.places)
      refl

  block-marks : (s : List ℕ) (f : ℕ) → f < Layout.functions →
      Marking (block_by p) s (block_marks_by p s f) (λ (σ : Along). σ.places) (block_index f) Layout.blocks
  block-marks s f w =
      record {
        long = λ j at σ. block-long s f j at σ;
        here = λ j at σ B m is o h.
            let (e, head) = block-head s at B m is in
            ap (λ (x : Along). get_or x.places (block_index f j) absent) (block-is s f j at σ B.head e head)
            ∙ head-other (block_index f j) f j σ.before (e - at) (mark_block f j at σ.places) (λ u. omega arith)
            ∙ get_or-set_same σ.places (block_index f j) (short at) absent h;
        apart = λ j k at σ o h. block-other s (block_index f k) f j at σ (λ u. h (omega arith)) (λ u. omega arith);
      }

  beside-blocks : (s : List ℕ) (f k n at : ℕ) (σ : Along) → ((j : ℕ) → j < n → ¬ (k ≡ block_index f j)) → ((j : ℕ) → j < n
      → ¬ (k ≡ length_index f j))
      → get_or (marked (block_by p) (block_marks_by p s f) n s at 0 σ).places k absent ≡ get_or σ.places k absent
  beside-blocks s f k n at σ h g =
      marked_other (block_by p) (block_marks_by p s f) s (λ (σ : Along). σ.places) k
      (λ (x : ℕ). (¬ (k ≡ block_index f x)) × (¬ (k ≡ length_index f x))) (λ j at σ o. block-other s k f j at σ o.0 o.1)
      n at 0 σ (λ j q. (λ u. h j q (omega arith), λ u. g j q (let z : 0 + j ≡ j = omega arith in u ∙ ap (length_index f) z)))

  -- what reading at a function's places must give, and how long its blocks' heads are
  abbrev Due : List ℕ → Option Function → Slot → ℕ → Type 0
  Due s F whole at = Entry (function_by p) s at F
  Due s F (spawn k) at = Entry spawn_call s at (spawn_in F k)
  Due s F (body b) at = Entry (block_by p) s at (block_in F b)
  Due s F (pair b) at = Unit {0}

  abbrev Headed : List ℕ → List ℕ → ℕ → ℕ → Option Block → Type 0
  Headed s l g b B = Places.Heads p s (get_or l (block_index g b) absent) (length_of b (get_or l (length_index g b) absent)) B

  record Right (s l : List ℕ) (g : ℕ) (F : Option Function) : Type 0 where
    due : (σ : Slot) → In σ → Due s F σ (get_or l (index g σ) absent)
    headed : (b : ℕ) → b < Layout.blocks → Headed s l g b (block_in F b)

  -- a function's marks leave the slots of the others alone
  marks-other : (s : List ℕ) (g h at : ℕ) (l : List ℕ) (σ : Slot) → In σ → h ≢ g → h < Layout.functions → g < Layout.functions
      → get_or (function_marks_by p s g at l) (index h σ) absent ≡ get_or l (index h σ) absent
  unfolding function_marks_by
  marks-other s g h at l σ i a b d =
      either-ok (λ (x : List ℕ). get_or x (index h σ) absent ≡ get_or l (index h σ) absent) (sizes s at) _ l
      (λ z m e.
      let w = few-of s at z m e in
      either-ok (λ (x : List ℕ). get_or x (index h σ) absent ≡ get_or l (index h σ) absent) (many spawn_call z.spawns s m) _ l
      (λ c̄ n f.
      beside-blocks s g (index h σ) z.blocks n _ (λ j q. from-blocks g h σ i a b d j (omega (arith, w.blocks)))
      (λ j q. from-lengths g h σ i a b j (omega (arith, w.blocks)))
      ∙ beside-spawns s g (index h σ) z.spawns m _ (λ j q. from-spawns g h σ i a b d j (omega (arith, w.spawns)))
      ∙ put_other (index h σ) (function_index g) at l (from-whole g h σ i a d))
      refl)
      refl

  marks-long : (s : List ℕ) (g at : ℕ) (l : List ℕ) → length (function_marks_by p s g at l) ≡ length l
  unfolding function_marks_by
  marks-long s g at l =
      either-ok (λ (x : List ℕ). length x ≡ length l) (sizes s at) _ l
      (λ z m _.
      either-ok (λ (x : List ℕ). length x ≡ length l) (many spawn_call z.spawns s m) _ l
      (λ c̄ n _.
      marked-long (block_by p) (block_marks_by p s g) s (λ (σ : Along). σ.places) (λ i at σ. block-long s g i at σ) z.blocks n 0 _
      ∙ marked-long spawn_call (mark_spawn g) s plain (spawn-marks s g).long z.spawns m 0 _
      ∙ put-long (function_index g) at l)
      refl)
      refl

  -- the places after one function: its own slots are right
  marks-are : (s : List ℕ) (g at : ℕ) (l : List ℕ) (F : Function) (e : ℕ) (c : Parts p s at F e) → function_marks_by p s g at l ≡
      (marked (block_by p) (block_marks_by p s g) c.numbers.blocks s c.until 0
      (along (marked spawn_call (mark_spawn g) c.numbers.spawns s c.from 0 (mark_function g at l)) 0)).places
  unfolding function_marks_by onward
  marks-are s g at l F e c = rw (c.sized, c.spawns)

  -- the same slots in two lists
  same-slots : (s l l' : List ℕ) (g : ℕ) (F : Option Function)
      → ((σ : Slot) → In σ → get_or l' (index g σ) absent ≡ get_or l (index g σ) absent) → Right s l g F → Right s l' g F
  same-slots s l l' g F h r =
      record {
        due = λ σ i. subst (Due s F σ) (sym (h σ i)) (r.due σ i);
        headed = λ b i.
            subst₂ (λ (at n : ℕ). Places.Heads p s at (length_of b n) (block_in F b)) (sym (h (body b) i)) (sym (h (pair b) i))
            (r.headed b i);
      }

  later-other : (s : List ℕ) (n at i : ℕ) (l : List ℕ) (g : ℕ) (σ : Slot) → In σ → g < i → i + n ≤ Layout.functions
      → get_or (marked (function_by p) (function_marks_by p s) n s at i l) (index g σ) absent ≡ get_or l (index g σ) absent
  later-other s n at i l g σ o a b =
      marked_other (function_by p) (function_marks_by p s) s plain (index g σ) (λ (x : ℕ). (g ≢ x) × (x < Layout.functions))
      (λ x at l w. marks-other s x g at l σ o w.0 (omega arith) w.1)
      n at i l
      (λ j q. (λ u. omega arith, omega arith))

  module _ (H : Heads p) (s : List ℕ) (small : length s ≤ 16384) where
    -- a rule that begins with a byte begins within the table
    spawn-begins : Begins spawn_call s
    unfolding Begins spawn_call Read.name
    spawn-begins at a m e = let h : at < length s = (byte-ok _ _ s at _ _ (next-ok _ _ e).first).inside in omega arith

    block-begins : Begins (block_by p) s
    unfolding Begins block_by
    block-begins at a m e = let h : at < length s = H.begins s at _ _ (next-ok _ _ e).first in omega arith

    function-begins : Begins (function_by p) s
    unfolding Begins function_by
    function-begins at a m e = let h : at < length s = (byte-ok _ _ s at _ _ (next-ok _ _ e).first).inside in omega arith

    -- along function g's blocks: the length before is that of an even block in its entry, if one is there
    record Even (g i : ℕ) (σ : Along) : Type 0 where
      fits : σ.before < 256
      long : length σ.places ≡ Layout.len
      kept : i % 2 ≡ 1 → get_or σ.places (length_index g i) absent % 256 ≡ σ.before

    module _ (g : ℕ) (d : g < Layout.functions) where
      -- one block more
      even-next : (i at : ℕ) (σ : Along) (B : Block) (m : ℕ) → i < Layout.blocks → Even g i σ → block_by p s at ≡ Parsed.ok B m
          → Even g (i + 1) (block_marks_by p s g i at σ)
      even-next i at σ B m w E h =
          let (e, is) = block-head s at B m h in
          let t = H.takes s at B.head e is in
          let l₁ : List ℕ = mark_block g i at σ.places in
          let l₂ : List ℕ = mark_head g i σ.before (e - at) l₁ in
          let long₁ : length l₁ ≡ Layout.len = put-long (block_index g i) at σ.places ∙ E.long in
          rw (block-is s g i at σ B.head e is)
          (record {
            fits = omega arith;
            long = length-set l₁ (length_index g i) (paired i σ.before (e - at)) ∙ long₁;
            kept = λ o.
                let q : length_index g (i + 1) ≡ length_index g i = omega arith in
                let even : eqb (i % 2) 0 ≡ true = eq-eqb (i % 2) 0 (omega arith) in
                let is : get_or l₂ (length_index g i) absent ≡ paired i σ.before (e - at) =
                get_or-set_same l₁ (length_index g i) (paired i σ.before (e - at)) absent (omega arith) in
                let own : paired i σ.before (e - at) ≡ e - at = rw even refl in
                ap (λ (x : ℕ). get_or l₂ x absent % 256) q ∙ ap (λ (x : ℕ). x % 256) (is ∙ own) ∙ (let z :
                (e - at) % 256 ≡ e - at = omega arith in z);
          })

      -- the length of a block before stays
      one-before : (i c at : ℕ) (σ : Along) (B : Block) (m : ℕ) → i < Layout.blocks → c < i → Even g i σ → block_by p s at ≡ Parsed.ok B m
          → length_of c (get_or (block_marks_by p s g i at σ).places (length_index g c) absent) ≡ length_of c (get_or σ.places
          (length_index g c) absent)
      one-before i c at σ B m w v E h = go (eqb (length_index g c) (length_index g i)) refl
        where
          e : ℕ
          e = (block-head s at B m h).0

          is : p s at ≡ Parsed.ok B.head e
          is = (block-head s at B m h).1

          l₁ : List ℕ
          l₁ = mark_block g i at σ.places

          same₁ : (k : ℕ) → k < Layout.blocks → get_or l₁ (length_index g k) absent ≡ get_or σ.places (length_index g k) absent
          same₁ k o = put_other (length_index g k) (block_index g i) at σ.places (λ u. omega arith)

          go : (t : Bool) → eqb (length_index g c) (length_index g i) ≡ t
              → length_of c (get_or (block_marks_by p s g i at σ).places (length_index g c) absent) ≡ length_of c (get_or σ.places
              (length_index g c) absent)
          go true q =
              let z : length_index g c ≡ length_index g i = eqb-true (length_index g c) (length_index g i) q in
              let t = H.takes s at B.head e is in
              let r : c + 1 ≡ i = omega arith in
              let o : i % 2 ≡ 1 = omega arith in
              let long₁ : length l₁ ≡ Layout.len = put-long (block_index g i) at σ.places ∙ E.long in
              ap (λ (x : Along). length_of c (get_or x.places (length_index g c) absent)) (block-is s g i at σ B.head e is)
              ∙ ap (λ (x : ℕ). length_of c (get_or (mark_head g i σ.before (e - at) l₁) x absent)) z
              ∙ ap (length_of c) (get_or-set_same l₁ (length_index g i) (paired i σ.before (e - at)) absent (omega arith))
              ∙ even-length i c σ.before (e - at) (get_or σ.places (length_index g i) absent) r o E.fits (omega arith) (E.kept o)
              ∙ ap (λ (x : ℕ). length_of c (get_or σ.places x absent)) (sym z)
          go false q =
              ap (λ (x : Along). length_of c (get_or x.places (length_index g c) absent)) (block-is s g i at σ B.head e is)
              ∙ ap (length_of c)
              (head-other (length_index g c) g i σ.before (e - at) l₁ (eqb-false (length_index g c) (length_index g i) q) ∙ same₁ c
              (omega arith))

      all-before : (n at i c : ℕ) (σ : Along) (xs : List Block) (e : ℕ) → many (block_by p) n s at ≡ Parsed.ok xs e → i + n ≤ Layout.blocks
          → c < i → Even g i σ
          → length_of c (get_or (marked (block_by p) (block_marks_by p s g) n s at i σ).places (length_index g c) absent)
          ≡ length_of c (get_or σ.places (length_index g c) absent)
      unfolding marked
      all-before zero at i c σ xs e h w v E = refl
      all-before (suc n) at i c σ xs e h w v E =
          let u = many-uncons (block_by p) n s at h in
          ap (λ (x : Along). length_of c (get_or x.places (length_index g c) absent))
          (marked-suc (block_by p) (block_marks_by p s g) n s at i σ u.item u.between u.first)
          ∙ all-before n u.between (i + 1) c (block_marks_by p s g i at σ) u.rest e u.then (omega arith) (omega arith)
          (even-next i at σ u.item u.between (omega arith) E u.first)
          ∙ one-before i c at σ u.item u.between (omega arith) v E u.first

      -- the head of each block reads at its place, and is as long as is kept
      all-headed : (n at i : ℕ) (σ : Along) (xs : List Block) (e : ℕ) → many (block_by p) n s at ≡ Parsed.ok xs e → i + n ≤ Layout.blocks
          → Even g i σ → (j : ℕ) → Headed s (marked (block_by p) (block_marks_by p s g) n s at i σ).places g (i + j) (get_elem? xs j)
      unfolding marked
      all-headed zero at i σ xs e h w E j =
          subst (λ (ys : List Block). Headed s σ.places g (i + j) (get_elem? ys j)) (sym (none_left (block_by p) s at xs e h)) tt
      all-headed (suc n) at i σ xs e h w E zero =
          let u = many-uncons (block_by p) n s at h in
          let (k, is) = block-head s at u.item u.between u.first in
          let t = H.takes s at u.item.head k is in
          let σ₁ : Along = block_marks_by p s g i at σ in
          let E₁ = even-next i at σ u.item u.between (omega arith) E u.first in
          let l₁ : List ℕ = mark_block g i at σ.places in
          let long₁ : length l₁ ≡ Layout.len = put-long (block_index g i) at σ.places ∙ E.long in
          let rest : Along = marked (block_by p) (block_marks_by p s g) n s u.between (i + 1) σ₁ in
          let place : get_or rest.places (block_index g i) absent ≡ at =
          marked_other (block_by p) (block_marks_by p s g) s (λ (σ : Along). σ.places) (block_index g i) (λ (x : ℕ). ¬ (i ≡ x))
          (λ j at σ o. (block-marks s g d).apart j i at σ (omega arith) o) n u.between (i + 1) σ₁ (λ j h q. omega arith)
          ∙ (block-marks s g d).here i at σ u.item u.between u.first (omega arith) (omega (arith, E.long))
          ∙ kept (block_by p) s block-begins at u.item u.between u.first in
          let size : length_of i (get_or rest.places (length_index g i) absent) ≡ k - at =
          all-before n u.between (i + 1) i σ₁ u.rest e u.then (omega arith) (omega arith) E₁
          ∙ ap (λ (x : Along). length_of i (get_or x.places (length_index g i) absent)) (block-is s g i at σ u.item.head k is)
          ∙ ap (length_of i) (get_or-set_same l₁ (length_index g i) (paired i σ.before (k - at)) absent (omega arith))
          ∙ own-length i σ.before (k - at) E.fits (omega arith) in
          let all : Headed s rest.places g i (some u.item) =
          rw (place, size) (is ∙ ap (Parsed.ok u.item.head) (let z : k ≡ at + (k - at) = omega arith in z)) in
          let o : i ≡ i + 0 = omega arith in
          subst₃ (λ (x : Along) (c : ℕ) (B : Option Block). Headed s x.places g c B)
          (sym (marked-suc (block_by p) (block_marks_by p s g) n s at i σ u.item u.between u.first))
          o
          (ap (λ (ys : List Block). get_elem? ys zero) (sym u.is))
          all
      all-headed (suc n) at i σ xs e h w E (suc j) =
          let u = many-uncons (block_by p) n s at h in
          let E₁ = even-next i at σ u.item u.between (omega arith) E u.first in
          let o : i + 1 + j ≡ i + suc j = omega arith in
          subst₃ (λ (x : Along) (c : ℕ) (B : Option Block). Headed s x.places g c B)
          (sym (marked-suc (block_by p) (block_marks_by p s g) n s at i σ u.item u.between u.first))
          o
          (ap (λ (ys : List Block). get_elem? ys (suc j)) (sym u.is))
          (all-headed n u.between (i + 1) (block_marks_by p s g i at σ) u.rest e u.then (omega arith) E₁ j)

    function-right : (g at : ℕ) (l : List ℕ) (F : Function) (e : ℕ) → g < Layout.functions → length l ≡ Layout.len → Right s l g none
        → function_by p s at ≡ Parsed.ok F e → Right s (function_marks_by p s g at l) g (some F)
    unfolding spawn_in block_in
    function-right g at l F e d long r h = rw (marks-are s g at l F e c) (record { due = go; headed = heads-of })
      where
        c : Parts p s at F e
        c = parts p s at F e h

        l₁ : List ℕ
        l₁ = mark_function g at l

        l₂ : List ℕ
        l₂ = marked spawn_call (mark_spawn g) c.numbers.spawns s c.from 0 l₁

        l₃ : List ℕ
        l₃ = (marked (block_by p) (block_marks_by p s g) c.numbers.blocks s c.until 0 (along l₂ 0)).places

        long₁ : length l₁ ≡ Layout.len
        long₁ = put-long (function_index g) at l ∙ long

        long₂ : length l₂ ≡ Layout.len
        long₂ = marked-long spawn_call (mark_spawn g) s plain (spawn-marks s g).long c.numbers.spawns c.from 0 l₁ ∙ long₁

        -- an index counted from 0 on
        from_zero : {A : Type 0} (q : Parser A) (ix : ℕ → ℕ) (l : List ℕ) (j : ℕ) (o : Option A)
            → Entry q s (get_or l (ix (0 + j)) absent) o → Entry q s (get_or l (ix j) absent) o
        from_zero q ix l j o e = let z : 0 + j ≡ j = omega arith in subst (λ (x : ℕ). Entry q s (get_or l (ix x) absent) o) z e

        heads-of : (b : ℕ) → b < Layout.blocks → Headed s l₃ g b (get_elem? F.blocks b)
        heads-of b i =
            let z : 0 + b ≡ b = omega arith in
            let E : Even g 0 (along l₂ 0) = record { fits = omega arith; long = long₂; kept = λ o. absurd (omega arith) } in
            subst (λ (x : ℕ). Headed s l₃ g x (get_elem? F.blocks b)) z
            (all-headed g d c.numbers.blocks c.until 0 (along l₂ 0) F.blocks e c.blocks (omega (arith, c.few-blocks)) E b)

        go : (σ : Slot) → In σ → Due s (some F) σ (get_or l₃ (index g σ) absent)
        go whole i =
            let z : get_or l₃ (function_index g) absent ≡ at =
            beside-blocks s g (function_index g) c.numbers.blocks c.until (along l₂ 0) (λ j q u. omega arith) (λ j q u. omega arith)
            ∙ beside-spawns s g (function_index g) c.numbers.spawns c.from l₁ (λ j q u. omega arith)
            ∙ get_or-set_same l (function_index g) (short at) absent (omega arith)
            ∙ kept (function_by p) s function-begins at F e h in
            entry-by (function_by p) s {o = some F} z refl (there (function_by p) s function-begins at F e h)
        go (spawn k) i =
            entry-by spawn_call s {o = get_elem? F.spawns k}
            (beside-blocks s g (spawn_index g k) c.numbers.blocks c.until (along l₂ 0) (λ j q u. omega arith)
            (λ j q u. omega arith)) refl
            (from_zero spawn_call (spawn_index g) l₂ k (get_elem? F.spawns k)
            (items spawn_call s (mark_spawn g) plain (spawn_index g) Layout.spawns (spawn-marks s g) spawn-begins c.numbers.spawns
            c.from 0 l₁
            F.spawns c.until c.spawns (λ j q. omega (arith, long₁, c.few-spawns)) k (omega arith)
            (λ o.
            let z : 0 + k ≡ k = omega arith in
            ap (λ (x : ℕ). get_or l₁ (spawn_index g x) absent) z
            ∙ put_other (spawn_index g k) (function_index g) at l (λ u. omega arith)
            ∙ r.due (spawn k) i)))
        go (body b) i =
            from_zero (block_by p) (block_index g) l₃ b (get_elem? F.blocks b)
            (items (block_by p) s (block_marks_by p s g) (λ (σ : Along). σ.places) (block_index g) Layout.blocks
            (block-marks s g d) block-begins
            c.numbers.blocks c.until 0 (along l₂ 0) F.blocks e c.blocks (λ j q. omega (arith, long₂, c.few-blocks)) b
            (omega arith)
            (λ o.
            let z : 0 + b ≡ b = omega arith in
            ap (λ (x : ℕ). get_or l₂ (block_index g x) absent) z
            ∙ beside-spawns s g (block_index g b) c.numbers.spawns c.from l₁ (λ j q u. omega (arith, c.few-spawns))
            ∙ put_other (block_index g b) (function_index g) at l (λ u. omega arith)
            ∙ r.due (body b) i))
        go (pair b) i = tt

    -- the places after n functions: the slots of each are right, and those behind them empty
    functions-right : (n at i : ℕ) (l : List ℕ) (Fs : List Function) (e : ℕ) → many (function_by p) n s at ≡ Parsed.ok Fs e
        → i + n ≤ Layout.functions → length l ≡ Layout.len → ((g : ℕ) → i ≤ g → g < Layout.functions → Right s l g none)
        → (j : ℕ) → i + j < Layout.functions
        → Right s (marked (function_by p) (function_marks_by p s) n s at i l) (i + j) (get_elem? Fs j)
    unfolding marked
    functions-right zero at i l Fs e h a long r j b =
        subst (λ (x : List Function). Right s l (i + j) (get_elem? x j)) (sym (none_left (function_by p) s at Fs e h))
        (r (i + j) (omega arith) b)
    functions-right (suc n) at i l Fs e h a long r zero b =
        let c = many-uncons (function_by p) n s at h in
        let l₁ : List ℕ = function_marks_by p s i at l in
        let z : i ≡ i + 0 = omega arith in
        let own : Right s l₁ i (some c.item) =
        function-right i at l c.item c.between (omega arith) long (r i (omega arith) (omega arith)) c.first in
        let all : Right s (marked (function_by p) (function_marks_by p s) n s c.between (i + 1) l₁) i (some c.item) =
        same-slots s l₁ _ i _ (λ σ o. later-other s n c.between (i + 1) l₁ i σ o (omega arith) (omega arith)) own in
        subst₃ (λ (x : List ℕ) (g : ℕ) (F : Option Function). Right s x g F)
        (sym (marked-suc (function_by p) (function_marks_by p s) n s at i l c.item c.between c.first))
        z
        (ap (λ (x : List Function). get_elem? x zero) (sym c.is))
        all
    functions-right (suc n) at i l Fs e h a long r (suc j) b =
        let c = many-uncons (function_by p) n s at h in
        let l₁ : List ℕ = function_marks_by p s i at l in
        let z : i + 1 + j ≡ i + suc j = omega arith in
        let free : (g : ℕ) → i + 1 ≤ g → g < Layout.functions → Right s l₁ g none =
        λ g o q. same-slots s l l₁ g none (λ σ w. marks-other s i g at l σ w (λ u. omega arith) q (omega arith)) (r g (omega arith) q) in
        let all : Right s (marked (function_by p) (function_marks_by p s) n s c.between (i + 1) l₁) (i + 1 + j) (get_elem? c.rest j) =
        functions-right n c.between (i + 1) l₁ c.rest e c.then (omega arith) (marks-long s i at l ∙ long) free j (omega arith) in
        subst₃ (λ (x : List ℕ) (g : ℕ) (F : Option Function). Right s x g F)
        (sym (marked-suc (function_by p) (function_marks_by p s) n s at i l c.item c.between c.first))
        z
        (ap (λ (x : List Function). get_elem? x (suc j)) (sym c.is))
        all

    -- at first all is empty
    empty_right : (g : ℕ) → Right s nowhere g none
    unfolding spawn_in block_in
    empty_right g =
        record { due = λ σ i. subst (Due s none σ) (sym (none-there (index g σ))) (none-due σ); headed = λ b i. tt }
      where
        none-due : (σ : Slot) → Due s none σ absent
        none-due whole = refl
        none-due (spawn k) = refl
        none-due (body b) = refl
        none-due (pair b) = tt

    -- the places of the whole program
    pub placed : (at : ℕ) (P : Program) (e : ℕ) → program_by p s at ≡ Parsed.ok P e → PlacesBy p s P (program_marks_by p s at nowhere)
    unfolding program_by program_marks_by onward
    placed at P e h = rw g.first (of ((Guarantees.program_by H.keeps).gives s at P e h))
      where
        g : Both (byte 1 16 s at) (λ n m. many (function_by p) n s m) P e
        g = next-ok (byte 1 16 s at) _ h

        n : ℕ
        n = g.value

        k : ℕ
        k = g.between

        few : n ≤ Layout.functions
        few = (byte-ok 1 16 s at _ _ g.first).high

        places : List ℕ
        places = marked (function_by p) (function_marks_by p s) n s k 0 nowhere

        right : (f : ℕ) → f < Layout.functions → Right s places f (get_elem? P f)
        right f b =
            let z : 0 + f ≡ f = omega arith in
            subst (λ (x : ℕ). Right s places x (get_elem? P f)) z
            (functions-right n k 0 nowhere P e g.then (omega (arith, few)) none-long (λ x o q. empty_right x) f (omega arith))

        long : length places ≡ Layout.len
        long = marked-long (function_by p) (function_marks_by p s) s plain (λ i at l. marks-long s i at l) n k 0 nowhere ∙ none-long

        -- an entry is there whatever is read past the end
        any : (f : ℕ) (σ : Slot) → In σ → f < Layout.functions → get_or places (index f σ) 0 ≡ get_or places (index f σ) absent
        any f σ i b = let w : index f σ < Layout.len = inside f σ i b in get_d_any places (index f σ) 0 absent (omega (arith, long))

        of : Limits P → PlacesBy p s P places
        of L =
            record {
              short = omega arith;
              limits = L;
              functions = λ f b. entry-by (function_by p) s {o = get_elem? P f} (any f whole tt b) refl ((right f b).due whole tt);
              spawns = λ f π b c.
                  entry-by spawn_call s {o = spawn_in (get_elem? P f) π} (any f (spawn π) c b) refl ((right f b).due (spawn π) c);
              blocks = λ f x b c.
                  entry-by (block_by p) s {o = block_in (get_elem? P f) x} (any f (body x) c b) refl ((right f b).due (body x) c);
              heads = λ f x b c.
                  subst₂ (λ (at n : ℕ). Places.Heads p s at (length_of x n) (block_in (get_elem? P f) x)) (sym (any f (body x) c b))
                  (sym (any f (pair x) c b)) ((right f b).headed x c);
            }
