-- What the code of the depth says, for every program that the places are those of: the definition's own frames.
use Rattle.std.specs.Prelude.{ℕ, suc, ◌≤◌, ◌≡◌, List, [], ◌∷◌, length, get_or, Option as Optional, Some, None, Result, Ok, Err}
use Rattle.std.proofs.Math.Option.{Option, none, some}
use Rattle.std.proofs.Math.ListN.{get_elem?}
use Rattle.model.specs.Answers.{Answer}
use Rattle.model.specs.Syntax.{Block, Program, called_by}
use Rattle.model.specs.Pool.{block_in}
use Rattle.answers.specs.declared.Refusal.{Refusal}
use Rattle.answers.specs.Answers.{refusal_of}
use Rattle.places.specs.Places.{Places}
use Rattle.chains.specs.Depth.{frames_from, deepest}

-- what a block's transfer calls, if there is the block
abbrev pub Called : Type 0
Called = Optional (Optional ℕ)

abbrev pub called_of : Called → Option (List ℕ)
called_of None = none
called_of (Some None) = some []
called_of (Some (Some g)) = some (g ∷ [])

abbrev pub calls_in : Option Block → Option (List ℕ)
calls_in none = none
calls_in (some B) = some (called_by B.transfer)

abbrev pub FindsCall : List ℕ → List ℕ → ℕ → ℕ → Called → Type 0
FindsCall s places f b r = (P : Program) → Places s P places → called_of r ≡ calls_in (block_in (get_elem? P f) b)

-- the frames of a longest chain, or that there is none
abbrev pub Chain : Type 0
Chain = Optional ℕ

abbrev pub chain_of : Chain → Option ℕ
chain_of (Some d) = some d
chain_of None = none

-- at most so many, whatever the bytes are
abbrev pub AtMost : ℕ → Chain → Type 0
AtMost n (Some d) = d ≤ n
AtMost n None = Unit {0}

-- each depth that is known, not 0, is the definition's, for some number of functions left
abbrev pub Knows : Program → List ℕ → Type 0
Knows P known = (f d : ℕ) → get_or known f 0 ≡ suc d → (left : ℕ) × (frames_from P left f ≡ some (suc d))

-- the frames of the longest chain from f, with the depths known before and afterwards
abbrev pub Works : List ℕ → List ℕ → List ℕ → ℕ → ℕ → Chain → List ℕ → Type 0
Works s places known left f r known' =
    (P : Program) → Places s P places → Knows P known → (chain_of r ≡ frames_from P left f) × Knows P known'

-- over every function as the first, of n
abbrev pub WorksAll : List ℕ → List ℕ → ℕ → Chain → Type 0
WorksAll s places n r = (P : Program) → Places s P places → length P ≡ n → chain_of r ≡ deepest P

-- the answer of the call, with document 01's number and place
abbrev pub needed_of : Result ℕ Refusal → Answer ℕ
needed_of (Ok d) = Answer.given d
needed_of (Err why) = Answer.refused (refusal_of why)
