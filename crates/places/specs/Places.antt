-- The places of a table: where each function, block and spawn call begins, as one array of offsets in which everything is looked
-- up by number. The head's parser is a parameter, as it is of the grammar.
use Rattle.std.specs.Prelude.{ℕ, ◌+◌, ◌^◌, ◌<◌, ◌≡◌, cond, List, eqb, length, get_or, Option as Optional, Some, None}
use Rattle.std.proofs.Math.Option.{Option, none, some}
use Rattle.std.proofs.Math.ListN.{get_elem?}
use Rattle.model.specs.Syntax.{Head, Block, SpawnCall, Function, Program}
use Rattle.model.specs.Read as Read
use Rattle.model.specs.Read.{Parsed, Parser, block_by, function_by, spawn_call}
use Rattle.model.specs.Pool.{block_in}
use Rattle.model.specs.Limits.{Limits}
use Rattle.places.specs.Layout as Layout
use Rattle.places.specs.Marks.{length_of}

-- where a thing begins, or that there is none
abbrev pub Place : Type 0
Place = Optional ℕ

-- the place that an entry stands for
abbrev pub place_of : ℕ → Place
place_of at = cond (eqb at Layout.absent) None (Some at)

-- the place behind a block's head, by the block's entry and that of the length
abbrev pub code_of : ℕ → ℕ → ℕ → Place
code_of at b both = cond (eqb at Layout.absent) None (Some (at + length_of b both))

-- the spawn call numbered π of a function
unfoldable pub spawn_in : Option Function → ℕ → Option SpawnCall
spawn_in none π = none
spawn_in (some F) π = get_elem? F.spawns π

-- reading by p at the offset gives a
pub record Reads {A : Type 0} (p : Parser A) (s : List ℕ) (at : ℕ) (a : A) : Type 0 where
  pub behind : ℕ
  pub is : p s at ≡ Parsed.ok a behind

-- an entry: the offset at which p reads what is there, or absent
abbrev pub Entry : {A : Type 0} → Parser A → List ℕ → ℕ → Option A → Type 0
Entry p s at none = at ≡ Layout.absent
Entry p s at (some a) = (at < Layout.absent) × Reads p s at a

-- how many bytes the head of block b of function f takes
abbrev pub head_length : List ℕ → ℕ → ℕ → ℕ
head_length places f b = length_of b (get_or places (Layout.length_index f b) 0)

-- a block's head reads where the block stands, and takes as many bytes
abbrev pub Heads : Parser Head → List ℕ → ℕ → ℕ → Option Block → Type 0
Heads p s at n none = Unit {0}
Heads p s at n (some B) = p s at ≡ Parsed.ok B.head (at + n)

-- the places of the program P that the table s reads to, heads by p; the table is no longer than a machine's numbers go
pub record PlacesBy (p : Parser Head) (s : List ℕ) (P : Program) (places : List ℕ) : Type 0 where
  pub short : length s < 2 ^ 64
  pub limits : Limits P
  pub functions : (f : ℕ) → f < Layout.functions → Entry (function_by p) s (get_or places (Layout.function_index f) 0) (get_elem? P f)
  pub blocks : (f b : ℕ) → f < Layout.functions → b < Layout.blocks
      → Entry (block_by p) s (get_or places (Layout.block_index f b) 0) (block_in (get_elem? P f) b)
  pub spawns : (f π : ℕ) → f < Layout.functions → π < Layout.spawns
      → Entry spawn_call s (get_or places (Layout.spawn_index f π) 0) (spawn_in (get_elem? P f) π)
  pub heads : (f b : ℕ) → f < Layout.functions → b < Layout.blocks
      → Heads p s (get_or places (Layout.block_index f b) 0) (head_length places f b) (block_in (get_elem? P f) b)

abbrev pub Places : List ℕ → Program → List ℕ → Type 0
Places s P places = PlacesBy Read.head s P places

-- what a lookup finds: the place at which p reads what is there, or that there is nothing
abbrev pub Found : {A : Type 0} → Parser A → List ℕ → Place → Option A → Type 0
Found {A} p s (Some at) o = (a : A) × (o ≡ some a) × Reads p s at a
Found p s None o = o ≡ none

-- where a block's code begins: behind its head, wherever the block stands
pub record CodeAt (p : Parser Head) (s : List ℕ) (e : ℕ) (B : Block) : Type 0 where
  pub at : ℕ
  pub block : Reads (block_by p) s at B
  pub head : p s at ≡ Parsed.ok B.head e

abbrev pub FoundCode : Parser Head → List ℕ → Place → Option Block → Type 0
FoundCode p s (Some e) o = (B : Block) × (o ≡ some B) × CodeAt p s e B
FoundCode p s None o = o ≡ none

-- the contracts of the lookups, for every table and program that the array has the places of, whatever its heads are read by
abbrev pub FindsFunction : List ℕ → ℕ → Place → Type 0
FindsFunction places f r =
    (s : List ℕ) (P : Program) (p : Parser Head) → PlacesBy p s P places → Found (function_by p) s r (get_elem? P f)

abbrev pub FindsBlock : List ℕ → ℕ → ℕ → Place → Type 0
FindsBlock places f b r =
    (s : List ℕ) (P : Program) (p : Parser Head) → PlacesBy p s P places → Found (block_by p) s r (block_in (get_elem? P f) b)

abbrev pub FindsSpawn : List ℕ → ℕ → ℕ → Place → Type 0
FindsSpawn places f π r =
    (s : List ℕ) (P : Program) (p : Parser Head) → PlacesBy p s P places → Found spawn_call s r (spawn_in (get_elem? P f) π)

abbrev pub FindsCode : List ℕ → ℕ → ℕ → Place → Type 0
FindsCode places f b r =
    (s : List ℕ) (P : Program) (p : Parser Head) → PlacesBy p s P places → FoundCode p s r (block_in (get_elem? P f) b)
