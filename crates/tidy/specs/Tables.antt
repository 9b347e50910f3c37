-- What the writers of functions and of the table put: the definition's bytes, for every program that the places are those of.
use Rattle.std.specs.Prelude.{ℕ, ◌^◌, ◌≤◌, ◌<◌, ◌≡◌, Bool, true, List, [], ◌∷◌, ◌++◌, map, leb, length, drop}
use denote.Ref.{MutBor}
use Rattle.std.proofs.Math.Option.{some}
use Rattle.std.proofs.Math.ListN.{get_elem?}
use Rattle.model.specs.Answers.{Answer}
use Rattle.model.specs.Lists.{concat}
use Rattle.model.specs.Syntax.{Block, SpawnCall, Function, Program}
use Rattle.model.specs.Calls.{read}
use Rattle.model.specs.Write as Write
use Rattle.puts.specs.Puts.{Puts}
use Rattle.places.specs.Places.{Places}
use Rattle.transfers.specs.Transfers.{Transfers}
use Rattle.numbering.specs.Renamed as Renamed
use Rattle.numbering.specs.Renamed.{Names}
use Rattle.numbering.specs.Mentions.{of, Closed}
use Rattle.numbering.specs.Tidy.{member, kept_functions, tidy_function, tidied}
use Rattle.kept.specs.declared.Kept.{Kept}
use Rattle.kept.specs.Kept.{Lists}
use Rattle.tidy.specs.declared.Numbering.{Numbering}
use Rattle.tidy.specs.Writes.{names_by}

-- bytes of function f
pub record PutsIn (s places : List ℕ) (f : ℕ) (bytes : Function → List ℕ) (out : List ℕ) (k r : ℕ) (out' : List ℕ) : Type 0 where
  pub is : (P : Program) (F : Function) → Places s P places → get_elem? P f ≡ some F → Puts out k (bytes F) r out'

-- bytes of function f, for each number of a list
pub record PutsEach (s places : List ℕ) (f : ℕ) (list : Kept) (bytes : Function → ℕ → List ℕ) (out : List ℕ) (k r : ℕ)
    (out' : List ℕ) : Type 0 where
  pub is : (P : Program) (F : Function) (xs : List ℕ) → Places s P places → get_elem? P f ≡ some F → Lists list xs →
      Puts out k (concat (map (bytes F) xs)) r out'

-- calls put the bytes of a number of a list that they are called at
abbrev pub PutsOne : (ℕ → MutBor (List ℕ) → ℕ → ℕ → MutBor (List ℕ) → Type 0) → (ℕ → List ℕ) → List ℕ → Type 0
PutsOne post bytes xs =
    (x : ℕ) (d : MutBor (List ℕ)) (k r : ℕ) (d' : MutBor (List ℕ)) → member x xs ≡ true → post x d k r d' →
    Puts d.now k (bytes x) r d'.now

-- and so for each number of the list, whatever the bytes of one are
pub record PutsList (post : ℕ → MutBor (List ℕ) → ℕ → ℕ → MutBor (List ℕ) → Type 0) (list : Kept) (out : List ℕ) (k r : ℕ)
    (out' : List ℕ) : Type 0 where
  pub is : (bytes : ℕ → List ℕ) (xs : List ℕ) → PutsOne post bytes xs → Lists list xs → Puts out k (concat (map bytes xs)) r out'

-- such bytes: a function's numbers of parameters and of returned values, with two more
abbrev pub counts_of : ℕ → ℕ → Function → List ℕ
counts_of blocks spawns F = F.signature.parameters ∷ F.signature.returns ∷ blocks ∷ spawns ∷ []

-- spawn call π, if there is one, under the new numbers of functions; and block b under new numbers
unfoldable pub spawn_bytes : Names → SpawnCall → List ℕ
spawn_bytes N S = Write.spawn_call (Renamed.spawn_call N S)

unfoldable pub block_bytes : Names → Block → List ℕ
block_bytes N B = Write.block (Renamed.block N B)

abbrev pub spawn_in : Names → Function → ℕ → List ℕ
spawn_in N F π = of (spawn_bytes N) (get_elem? F.spawns π)

abbrev pub block_in : Names → Function → ℕ → List ℕ
block_in N F b = of (block_bytes N) (get_elem? F.blocks b)

-- the same as the lists have the numbers: of one, and for each
abbrev pub spawn_of : Numbering → ℕ → Function → List ℕ
spawn_of numbers π F = spawn_in (names_by numbers) F π

abbrev pub each_spawn : Numbering → Function → ℕ → List ℕ
each_spawn numbers F π = spawn_in (names_by numbers) F π

abbrev pub block_of : Numbering → ℕ → Function → List ℕ
block_of numbers b F = block_in (names_by numbers) F b

abbrev pub each_block : Numbering → Function → ℕ → List ℕ
each_block numbers F b = block_in (names_by numbers) F b

-- a kept function, with what is kept of it
pub record PutsFunction (s places transfers : List ℕ) (functions : Kept) (f : ℕ) (out : List ℕ) (k r : ℕ) (out' : List ℕ) : Type 0 where
  pub is : (P : Program) (F : Function) → Places s P places → Transfers s P transfers → get_elem? P f ≡ some F → Closed P →
      Lists functions (kept_functions P) → member f (kept_functions P) ≡ true →
      Puts out k (Write.function (tidy_function (kept_functions P) F)) r out'

-- the tidy program
pub record PutsProgram (s places transfers : List ℕ) (functions : Kept) (out : List ℕ) (k r : ℕ) (out' : List ℕ) : Type 0 where
  pub is : (P : Program) → Places s P places → Transfers s P transfers → Closed P → Lists functions (kept_functions P) →
      Puts out k (Write.program (tidied P)) r out'

-- whether the tidy table has room in so many bytes
pub record Fits (s places transfers : List ℕ) (functions : Kept) (room : ℕ) (r : Bool) : Type 0 where
  pub is : (P : Program) → read s ≡ Answer.given P → Places s P places → Transfers s P transfers → Closed P →
      Lists functions (kept_functions P) → r ≡ leb (length (Write.table (tidied P))) room

-- the tidy table at the start of an output that has room for it: its length; and the bytes behind it stay
pub record PutsTable (s places transfers : List ℕ) (functions : Kept) (out : List ℕ) (r : ℕ) (out' : List ℕ) : Type 0 where
  pub is : (P : Program) → read s ≡ Answer.given P → Places s P places → Transfers s P transfers → Closed P →
      Lists functions (kept_functions P) → length (Write.table (tidied P)) ≤ length out → length out < 2 ^ 63 →
      (r ≡ length (Write.table (tidied P))) × (out' ≡ Write.table (tidied P) ++ drop (length (Write.table (tidied P))) out)
