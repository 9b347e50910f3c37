-- The lent memory at a stage, and the contracts: for every stage at which the memory stands.
use Rattle.std.specs.Prelude.{◌≡◌, ℕ, ◌+◌, ◌*◌, ◌^◌, ◌<◌, ◌≤◌, Bool, true, false, List, length, take, drop, ℤ, Option as Optional, Some, None}
use Rattle.std.proofs.Math.Option.{Option, none, some}
use Rattle.model.specs.Syntax.{Program}
use Rattle.model.specs.Pool.{Pool, words_of, is_pool}
use Rattle.model.specs.Rules.{choice}
use Rattle.model.specs.Output.{answered, choice_line}
use Rattle.model.specs.Calls.{accepted}
use Rattle.places.specs.Marks.{nowhere}
use Rattle.places.specs.Places.{Places}
use Rattle.puts.specs.Puts.{Puts}
use Rattle.flow.specs.declared.Phase.{Phase}
use Rattle.flow.specs.declared.Phase.TheVariants.{Taking, Choosing, Stopped, Over}
use Rattle.flow.specs.declared.Run.{Run}
use Rattle.flow.specs.Stages.{Stage, whole, opened, opening, chosen, next, says, after, said, ends}

-- how many bytes a piece of the input has at most, and its text
abbrev pub piece_bytes : ℕ
piece_bytes = 4096

abbrev pub text_bytes : ℕ
text_bytes = 96 * piece_bytes

-- a run before a byte of the table or a choice's kind, and one that has the kind
abbrev pub run_at : Phase → ℕ → ℕ → ℕ → Run
run_at p taken index said = record { phase = p; taken = taken; index = index; kind = None; said = said }

abbrev pub half_run : Run → ℕ → Run
half_run r kind = record { phase = Choosing; taken = r.taken; index = r.index; kind = Some kind; said = r.said }

-- a run at the start of a piece's text
abbrev pub restart : Run → Run
restart r = record { phase = r.phase; taken = r.taken; index = r.index; kind = r.kind; said = 0 }

-- the kind of the next choice, if it has come
abbrev pub kept : Optional ℕ → Option ℕ
kept (Some kind) = some kind
kept None = none

-- what is lent from piece to piece
pub record Memory : Type 0 where
  pub table : List ℕ
  pub places : List ℕ
  pub words : List ℤ

abbrev pub memory : List ℕ → List ℕ → List ℤ → Memory
memory table places ws = record { table = table; places = places; words = ws }

-- the bytes t have come, and are no whole table
pub record Takes (t places : List ℕ) (r : Run) (s : List ℕ) : Type 0 where
  pub phase : r.phase ≡ Taking
  pub bytes : t ≡ s
  pub lacks : whole s ≡ false
  pub none : places ≡ nowhere

-- the bytes t are the table of the program, by its places, and the words hold a pool of it
pub record Holds (t places : List ℕ) (ws : List ℤ) (P : Program) (p : Pool) : Type 0 where
  pub table : Places t P places
  pub words : ws ≡ words_of p
  pub valid : is_pool P p ≡ true

pub record Chooses (t places : List ℕ) (ws : List ℤ) (r : Run) (P : Program) (p : Pool) (i : ℕ) (k : Option ℕ) : Type 0 where
  pub phase : r.phase ≡ Choosing
  pub holds : Holds t places ws P p
  pub index : r.index ≡ i
  pub kind : kept r.kind ≡ k

pub record Stops (t places : List ℕ) (ws : List ℤ) (r : Run) (P : Program) (p : Pool) : Type 0 where
  pub phase : r.phase ≡ Stopped
  pub holds : Holds t places ws P p

-- the bytes t have come, and the rest of the memory stands at a stage
abbrev pub StandsBy : List ℕ → List ℕ → List ℤ → Run → Stage → Type 0
StandsBy t places ws r (Stage.taking s) = Takes t places r s
StandsBy t places ws r (Stage.choosing P p i k) = Chooses t places ws r P p i k
StandsBy t places ws r (Stage.stopped P p) = Stops t places ws r P p
StandsBy t places ws r Stage.over = r.phase ≡ Over

-- the memory stands at a stage
pub record Stands (m : Memory) (r : Run) (st : Stage) : Type 0 where
  pub taken : r.taken ≤ length m.table
  pub by : StandsBy (take r.taken m.table) m.places m.words r st

-- the index of the next choice
abbrev pub index_of : Stage → ℕ
index_of (Stage.taking s) = 0
index_of (Stage.choosing P p i k) = i
index_of (Stage.stopped P p) = 0
index_of Stage.over = 0

-- whether the first n bytes are a whole table
abbrev pub Looks : List ℕ → ℕ → Bool → Type 0
Looks table n r = n ≤ length table → r ≡ whole (take n table)

-- a whole table is opened: the stage, and the text
pub record Opens (t places places' : List ℕ) (ws' : List ℤ) (out : List ℕ) (at : ℕ) (r : Run) (out' : List ℕ) : Type 0 where
  pub taken : r.taken ≡ length t
  pub stage : places ≡ nowhere → StandsBy t places' ws' r (opened (accepted t))
  pub text : places ≡ nowhere → Puts out at (opening (accepted t)) r.said out'

-- a choice is made or refused: the stage, and its line
pub record Chosen (t places : List ℕ) (ws : List ℤ) (out : List ℕ) (run : Run) (kind thread : ℕ) (r : Run) (ws' : List ℤ) (out' : List ℕ)
    : Type 0 where
  pub taken : r.taken ≡ run.taken
  pub stage : (P : Program) (p : Pool) → Holds t places ws P p → run.index + 1 < 2 ^ 64
      → StandsBy t places ws' r (chosen P p run.index (choice P p kind thread))
  pub text : (P : Program) (p : Pool) → Holds t places ws P p
      → Puts out run.said (choice_line run.index kind thread (answered (choice P p kind thread))) r.said out'

-- a byte: the next stage, and what it says
pub record Steps (m : Memory) (out : List ℕ) (run : Run) (b : ℕ) (r : Run) (m' : Memory) (out' : List ℕ) (st : Stage) : Type 0 where
  pub stage : Stands m' r (next st b)
  pub text : Puts out run.said (says st b) r.said out'

pub record TakesByte (m : Memory) (out : List ℕ) (run : Run) (b : ℕ) (r : Run) (m' : Memory) (out' : List ℕ) : Type 0 where
  pub is : (s : List ℕ) → Stands m run (Stage.taking s) → Steps m out run b r m' out' (Stage.taking s)

pub record TakesAny (m : Memory) (out : List ℕ) (run : Run) (b : ℕ) (r : Run) (m' : Memory) (out' : List ℕ) : Type 0 where
  pub is : (st : Stage) → Stands m run st → index_of st + 1 < 2 ^ 64 → Steps m out run b r m' out' st

-- a text of n bytes is put at the start of out, and what stands behind it stays
pub record Text (xs out : List ℕ) (n : ℕ) (out' : List ℕ) : Type 0 where
  pub length : n ≡ length xs
  pub bytes : take n out' ≡ xs
  pub behind : drop n out' ≡ drop n out

-- a piece of the input: the stage after it, and what it says
pub record Fed (out s : List ℕ) (r : Run) (m' : Memory) (out' : List ℕ) (st : Stage) : Type 0 where
  pub stage : Stands m' r (after st s)
  pub text : Text (said st s) out r.said out'

pub record Feeds (m : Memory) (out : List ℕ) (run : Run) (s : List ℕ) (r : Run) (m' : Memory) (out' : List ℕ) : Type 0 where
  pub is : (st : Stage) → Stands m run st → length s ≤ piece_bytes → index_of st + length s < 2 ^ 64 → Fed out s r m' out' st

-- the end of the input: the last text
pub record Ends (m : Memory) (out : List ℕ) (run : Run) (n : ℕ) (out' : List ℕ) : Type 0 where
  pub is : (st : Stage) → Stands m run st → Text (ends st) out n out'

-- whether the run is closed to further bytes, and whether everything was accepted and made
pub record Tells (f : Stage → Bool) (run : Run) (r : Bool) : Type 0 where
  pub is : (m : Memory) (st : Stage) → Stands m run st → r ≡ f st
