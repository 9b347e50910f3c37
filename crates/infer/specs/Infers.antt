-- What the inference of a function's scopes and nestings leaves in the words, for every program of version 2 that places and transfers
-- are those of.
use Rattle.std.specs.Prelude.{ℕ, ◌≡◌, List, Option, Some, None, length}
use Rattle.std.proofs.Math.Option.{Option as Maybe, none, some}
use Rattle.std.proofs.Math.ListN.{get_elem?}
use Rattle.model.specs.Syntax.{Function, Program}
use Rattle.model.specs.Read as Read
use Rattle.places.specs.Places.{PlacesBy}
use Rattle.transfers.specs.Transfers.{Transfers}
use Rattle.inference.specs.Infer.{marks, scopes}
use Rattle.inference.specs.Complete.{unmarked}
use Rattle.scopings.specs.Words.{len, Held}

-- F is function f of a program of which places and transfers are those
pub record Known (s places transfers : List ℕ) (f : ℕ) (P : Program) (F : Function) : Type 0 where
  pub placed : PlacesBy Read.bare s P places
  pub ended : Transfers s P transfers
  pub there : get_elem? P f ≡ some F

-- the lowest block of a function that is not reached
abbrev pub lowest_of : Option ℕ → Maybe ℕ
lowest_of (Some b) = some b
lowest_of None = none

-- all marks of function f; and the lowest block without one
pub record Reaches (s places transfers : List ℕ) (f : ℕ) (words : List ℕ) (r : Option ℕ) (words' : List ℕ) : Type 0 where
  pub is : (P : Program) (F : Function) → Known s places transfers f P F → length words ≡ len →
      (lowest_of r ≡ unmarked 0 (marks F)) × (length words' ≡ len)

-- its marks and its scopes
pub record Infers (s places transfers : List ℕ) (f : ℕ) (words words' : List ℕ) : Type 0 where
  pub is : (P : Program) (F : Function) → Known s places transfers f P F → length words ≡ len → Held words' (marks F) (scopes F)
