-- What the writers of a completed table put, and what the call leaves: the definition's bytes, for every program of version 2 that places
-- and transfers are those of.
use Rattle.std.specs.Prelude.{ℕ, ◌-◌, ◌%◌, ◌^◌, ◌≤◌, ◌<◌, ◌≡◌, List, [], ◌++◌, map, length, drop, replicate, Result, Ok, Err}
use denote.Ref.{MutBor}
use Rattle.std.proofs.Math.Option.{Option, none, some}
use Rattle.std.proofs.Math.ListN.{get_elem?, get_or}
use Rattle.std.proofs.lemmas.List.Edits.{sets}
use Rattle.model.specs.Answers.{Answer}
use Rattle.model.specs.Lists.{concat, pad}
use Rattle.model.specs.Syntax.{Block, Function, Program}
use Rattle.model.specs.Read as Read
use Rattle.model.specs.Read.{Parsed, read_brief}
use Rattle.model.specs.Write as Write
use Rattle.answers.specs.declared.Refusal.{Refusal}
use Rattle.answers.specs.Answers.{answer_of, written_of}
use Rattle.puts.specs.Puts.{Puts}
use Rattle.places.specs.Places.{PlacesBy}
use Rattle.transfers.specs.Transfers.{Transfers}
use Rattle.numbering.specs.Mentions.{of}
use Rattle.inference.specs.Filled.{Scoping, put, filled}
use Rattle.inference.specs.Infer.{marks, completed}
use Rattle.inference.specs.Complete as Model
use Rattle.inference.specs.Complete.{unmarked, reached_or, output_bytes, Completed}
use Rattle.scopings.specs.Words.{len, digits, scope_in}
use Rattle.scopings.specs.Changes.{level_in, names_in}

-- the scope and the nesting that the words have for block b, whatever they are
unfoldable pub scoping_in : List ℕ → ℕ → Scoping
scoping_in words b = record { scope = scope_in words b; nesting = digits (level_in words b % 256 - 1) (names_in words b) }

-- what version 1 writes of them
unfoldable pub scoping_bytes : Scoping → List ℕ
scoping_bytes g = Write.half g.scope ++ Write.arguments g.nesting

-- where a block of version 2 reads at an offset: it is put with a scope and a nesting
pub record PutsBlock (s : List ℕ) (at : ℕ) (g : Scoping) (out : List ℕ) (k r : ℕ) (out' : List ℕ) : Type 0 where
  pub is : (B : Block) (e : ℕ) → Read.block_by Read.bare s at ≡ Parsed.ok B e → length s < 2 ^ 64 →
      Puts out k (Write.block (put g B)) r out'

-- bytes of function f
pub record PutsIn (s places : List ℕ) (f : ℕ) (bytes : Function → List ℕ) (out : List ℕ) (k r : ℕ) (out' : List ℕ) : Type 0 where
  pub is : (P : Program) (F : Function) → PlacesBy Read.bare s P places → get_elem? P f ≡ some F → Puts out k (bytes F) r out'

-- such bytes: spawn call π, if there is one, and all of them; block b with what the words have for it, if there is one, and all of them
abbrev pub spawn_of : ℕ → Function → List ℕ
spawn_of π F = of Write.spawn_call (get_elem? F.spawns π)

abbrev pub spawns_of : Function → List ℕ
spawns_of F = concat (map Write.spawn_call F.spawns)

abbrev pub filled_by : List ℕ → Function → List Block
filled_by words F = (filled (scoping_in words) F).blocks

abbrev pub block_of : List ℕ → ℕ → Function → List ℕ
block_of words b F = of Write.block (get_elem? (filled_by words F) b)

abbrev pub blocks_of : List ℕ → Function → List ℕ
blocks_of words F = concat (map Write.block (filled_by words F))

-- calls at numbers below n put what a list has there, and nothing where it has nothing
abbrev pub PutsOne : (ℕ → MutBor (List ℕ) → ℕ → ℕ → MutBor (List ℕ) → Type 0) → ℕ → List (List ℕ) → Type 0
PutsOne post n xs =
    (i : ℕ) (d : MutBor (List ℕ)) (k r : ℕ) (d' : MutBor (List ℕ)) → i < n → post i d k r d' → Puts d.now k (get_or xs i []) r d'.now

-- and so each of the numbers below n: all of a list of n at most
pub record PutsEach (post : ℕ → MutBor (List ℕ) → ℕ → ℕ → MutBor (List ℕ) → Type 0) (n : ℕ) (out : List ℕ) (k r : ℕ)
    (out' : List ℕ) : Type 0 where
  pub is : (xs : List (List ℕ)) → PutsOne post n xs → length xs ≤ n → Puts out k (concat xs) r out'

-- P is the program of which places and transfers are those, and the words are as many as the inference takes
pub record Given (s places transfers words : List ℕ) (P : Program) : Type 0 where
  pub placed : PlacesBy Read.bare s P places
  pub ended : Transfers s P transfers
  pub long : length words ≡ len

-- function f of the completed program, if there is one, and all functions
pub record PutsFunction (s places transfers : List ℕ) (f : ℕ) (words out : List ℕ) (k r : ℕ) (out' : List ℕ) : Type 0 where
  pub is : (P : Program) → Given s places transfers words P → Puts out k (of Write.function (get_elem? (completed P) f)) r out'

pub record PutsFunctions (s places transfers words out : List ℕ) (k r : ℕ) (out' : List ℕ) : Type 0 where
  pub is : (P : Program) → Given s places transfers words P → Puts out k (concat (map Write.function (completed P))) r out'

-- the completed table at the start of an output of as many bytes as are lent: its length; and the bytes behind it stay
pub record PutsTable (s places transfers words out : List ℕ) (r : ℕ) (out' : List ℕ) : Type 0 where
  pub is : (P : Program) → read_brief s ≡ Answer.given P → Given s places transfers words P → length out ≡ output_bytes →
      (r ≡ length (Write.table (completed P))) ×
      (out' ≡ Write.table (completed P) ++ drop (length (Write.table (completed P))) out)

-- 25 of a function, if there is one
unfoldable pub reached_one : ℕ → Option Function → Answer (Unit {0})
reached_one f none = Answer.given tt
reached_one f (some F) = reached_or f (unmarked 0 (marks F)) (Answer.given tt)

pub record ReachesOne (s places transfers : List ℕ) (f : ℕ) (words : List ℕ) (r : Result (Unit {0}) Refusal) : Type 0 where
  pub is : (P : Program) → Given s places transfers words P → answer_of r ≡ reached_one f (get_elem? P f)

-- and of all functions
pub record ReachesAll (s places transfers words : List ℕ) (r : Result (Unit {0}) Refusal) : Type 0 where
  pub is : (P : Program) → Given s places transfers words P → answer_of r ≡ Model.reached 0 P

-- as many zeros as bytes are lent
unfoldable pub blank : List ℕ
blank = replicate output_bytes 0

-- a refusal; or a table's length, and the table with 0 behind it, in as many bytes as are lent
abbrev pub Tells : Answer Program → Result ℕ Refusal → List ℕ → Type 0
Tells (Answer.given Q) r buffer =
    (written_of r ≡ Answer.given (length (Write.table Q))) × (buffer ≡ pad output_bytes 0 (Write.table Q)) × (length buffer ≡ output_bytes)
Tells (Answer.refused x) r buffer = written_of r ≡ Answer.refused x

-- what is inferred of a table that reads, in a buffer of zeros
pub record InfersAll (s places transfers words buffer : List ℕ) (r : Result ℕ Refusal) (buffer' : List ℕ) : Type 0 where
  pub is : (P : Program) → read_brief s ≡ Answer.given P → Given s places transfers words P → buffer ≡ blank →
      Tells (Model.inferred P) r buffer'

-- a table that is given goes from a buffer to the output, of which it takes the front; a refusal leaves it
abbrev pub handed : Result ℕ Refusal → List ℕ → List ℕ → List ℕ
handed (Ok n) buffer out = sets out 0 buffer
handed (Err why) buffer out = out

pub record HandsOver (r : Result ℕ Refusal) (buffer out : List ℕ) (r' : Result ℕ Refusal) (out' : List ℕ) : Type 0 where
  pub answer : r' ≡ r
  pub after : length out < 2 ^ 63 → out' ≡ handed r buffer out

-- an answer, and the output and the scratch afterwards
pub record Writes (w : Completed) (r : Result ℕ Refusal) (out' words' : List ℕ) : Type 0 where
  pub answer : written_of r ≡ w.answer
  pub out : out' ≡ w.out
  pub words : words' ≡ w.words

-- of a table that reads, where enough is lent
pub record Finishes (s places out words : List ℕ) (r : Result ℕ Refusal) (out' words' : List ℕ) : Type 0 where
  pub is : (P : Program) → read_brief s ≡ Answer.given P → PlacesBy Read.bare s P places →
      Writes (Model.finish out words (Model.inferred P)) r out' words'
