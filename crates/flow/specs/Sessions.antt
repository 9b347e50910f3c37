-- The program's whole output, from the contracts of its parts alone: whatever the pieces in which the input comes, what is written of
-- each and at the end is what the definition prints of the whole input.
use Rattle.std.specs.Prelude.{◌≡◌, ℕ, ◌^◌, ◌<◌, ◌≤◌, Bool, true, List, [], ◌∷◌, ◌++◌, map, length, take, ℤ}
use Rattle.model.specs.Lists.{concat}
use Rattle.model.specs.Output.{output, verdict}
use Rattle.places.specs.Marks.{nowhere}
use Rattle.flow.specs.declared.Phase.TheVariants.{Taking}
use Rattle.flow.specs.declared.Run.{Run}
use Rattle.flow.specs.Stages.{closed, fine}
use Rattle.flow.specs.Stands.{piece_bytes, Memory, memory, run_at, Feeds, Ends, Tells}

-- a piece of the input and the buffer lent for its text, and what feeding it answers and leaves
pub record Turn : Type 0 where
  pub piece : List ℕ
  pub lent : List ℕ
  pub run : Run
  pub memory : Memory
  pub out : List ℕ

-- turns one after another, each as feed's contract says, of no more bytes than a piece has
abbrev pub Turns : Memory → Run → List Turn → Type 0
Turns m r [] = Unit {0}
Turns m r (t ∷ ts) =
    Feeds m t.lent r t.piece t.run t.memory t.out × (length t.piece ≤ piece_bytes) × Turns t.memory t.run ts

-- what is left behind the last turn
abbrev pub last_memory : Memory → List Turn → Memory
last_memory m [] = m
last_memory m (t ∷ ts) = last_memory t.memory ts

abbrev pub last_run : Run → List Turn → Run
last_run r [] = r
last_run r (t ∷ ts) = last_run t.run ts

-- the input that has come, and the text that was written of it
abbrev pub came : List Turn → List ℕ
came ts = concat (map (λ t. t.piece) ts)

abbrev pub written : List Turn → List ℕ
written ts = concat (map (λ t. take t.run.said t.out) ts)

-- the memory at the start, which may hold anything but for the places, of which there are none; and the run at the start
abbrev pub fresh : List ℕ → List ℤ → Memory
fresh table ws = memory table nowhere ws

abbrev pub begun : Run
begun = run_at Taking 0 0 0

-- of an input of fewer than 2 ^ 64 bytes: at its end the whole output has been written
unfoldable pub Prints : Type 0
Prints =
    (table : List ℕ) (ws : List ℤ) (ts : List Turn) → Turns (fresh table ws) begun ts → length (came ts) < 2 ^ 64
    → (lent : List ℕ) (n : ℕ) (out : List ℕ) → Ends (last_memory (fresh table ws) ts) lent (last_run begun ts) n out
    → written ts ++ take n out ≡ output (came ts)

-- where the run is closed to further bytes, output and verdict are the same whatever they are
unfoldable pub Stops : Type 0
Stops =
    (table : List ℕ) (ws : List ℤ) (ts : List Turn) → Turns (fresh table ws) begun ts → length (came ts) < 2 ^ 64
    → (lent : List ℕ) (n : ℕ) (out : List ℕ) → Ends (last_memory (fresh table ws) ts) lent (last_run begun ts) n out
    → Tells closed (last_run begun ts) true → (more : List ℕ)
    → (written ts ++ take n out ≡ output (came ts ++ more))
    × ((v : Bool) → Tells fine (last_run begun ts) v → v ≡ verdict (came ts ++ more))

-- the verdict: whether the table was accepted and every choice made
unfoldable pub Judges : Type 0
Judges =
    (table : List ℕ) (ws : List ℤ) (ts : List Turn) → Turns (fresh table ws) begun ts → length (came ts) < 2 ^ 64
    → (v : Bool) → Tells fine (last_run begun ts) v → v ≡ verdict (came ts)
