-- What the code says of nestings and marks: for every nesting that a pair of numbers stands for, for all marks and scopes that the words
-- hold, and for every program of which the transfers are those.
use Rattle.std.specs.Prelude.{ℕ, ◌^◌, ◌≤◌, ◌<◌, ◌≡◌, Bool, false, List, Option, length, replicate}
use Rattle.std.proofs.Math.Option.{some}
use Rattle.std.proofs.Math.ListN.{get_elem?}
use Rattle.model.specs.Syntax.{Function, Program}
use Rattle.model.specs.Read as Read
use Rattle.code.specs.Code.{transfer_at}
use Rattle.places.specs.Places.{PlacesBy}
use Rattle.transfers.specs.Transfers.{Transfers}
use Rattle.inference.specs.Infer.{Mark, opened, under, mark_all, lead, upward, sweep, rounds, entered}
use Rattle.inference.specs.Complete.{unmarked}
use Rattle.scopings.specs.Words.{len, blocks, mark_of, Held}
use Rattle.scopings.specs.Changes.{Whole}
use Rattle.infer.specs.declared.Nesting.{Nesting}
use Rattle.infer.specs.Infers.{lowest_of}

-- the mark that a pair of numbers stands for
abbrev pub mark_by : Nesting → Mark
mark_by n = mark_of n.level n.names

-- a nesting becomes another
pub record Turns (n : Nesting) (g : List ℕ → List ℕ) (r : Nesting) : Type 0 where
  pub is : (ρ : List ℕ) → mark_by n ≡ some ρ → mark_by r ≡ some (g ρ)

-- with the spawn call x opened; under the transfer at an offset
abbrev pub opened_by : ℕ → List ℕ → List ℕ
opened_by x ρ = opened ρ x

abbrev pub under_at : List ℕ → ℕ → List ℕ → List ℕ
under_at s at ρ = under ρ (transfer_at s at)

-- the blocks b̄ are marked with a nesting; and where nothing is said to have changed, nothing has
pub record Follows (n : Nesting) (b̄ words : List ℕ) (r : Bool) (words' : List ℕ) : Type 0 where
  pub is : (ρ : List ℕ) (ms : List Mark) (Γs : List ℕ) → mark_by n ≡ some ρ → Whole words ms Γs → Whole words' (mark_all ρ ms b̄) Γs
  pub same : r ≡ false → words' ≡ words

-- F is function f of a program of which the transfers are those; or the places
pub record Ended (s transfers : List ℕ) (f : ℕ) (P : Program) (F : Function) : Type 0 where
  pub short : length s < 2 ^ 64
  pub ends : Transfers s P transfers
  pub there : get_elem? P f ≡ some F

pub record Placed (s places : List ℕ) (f : ℕ) (P : Program) (F : Function) : Type 0 where
  pub placed : PlacesBy Read.bare s P places
  pub there : get_elem? P f ≡ some F

-- block b leads to its targets; every block does, in a round; and in as many rounds as there are blocks
pub record Leads (s transfers : List ℕ) (f b : ℕ) (words : List ℕ) (r : Bool) (words' : List ℕ) : Type 0 where
  pub is : (P : Program) (F : Function) → Ended s transfers f P F → (ms : List Mark) (Γs : List ℕ) → b < length Γs → Whole words ms Γs →
      Whole words' (lead F b ms) Γs
  pub same : r ≡ false → words' ≡ words

pub record LeadsAll (s transfers : List ℕ) (f n : ℕ) (words : List ℕ) (r : Bool) (words' : List ℕ) : Type 0 where
  pub is : (P : Program) (F : Function) → Ended s transfers f P F → (ms : List Mark) (Γs : List ℕ) → n ≡ length Γs → Whole words ms Γs →
      Whole words' (sweep (lead F) (upward 0 n) ms) Γs
  pub same : r ≡ false → words' ≡ words

pub record Reached (s transfers : List ℕ) (f n : ℕ) (words words' : List ℕ) : Type 0 where
  pub is : (P : Program) (F : Function) → Ended s transfers f P F → (ms : List Mark) (Γs : List ℕ) → n ≡ length Γs → Whole words ms Γs →
      Whole words' (rounds (sweep (lead F) (upward 0 n)) n ms) Γs

-- at first the entry alone is reached, of so many blocks as there is room for
pub record Begun (words words' : List ℕ) : Type 0 where
  pub is : (n : ℕ) → length words ≡ len → n ≤ blocks → Whole words' (entered n) (replicate n 0)

-- how many blocks a function has
pub record Counts (s places : List ℕ) (f r : ℕ) : Type 0 where
  pub is : (P : Program) (F : Function) → Placed s places f P F → r ≡ length F.blocks

-- the lowest of n blocks that has no mark
pub record Lows (words : List ℕ) (n : ℕ) (r : Option ℕ) : Type 0 where
  pub is : (ms : List Mark) (Γs : List ℕ) → n ≡ length ms → Held words ms Γs → lowest_of r ≡ unmarked 0 ms
