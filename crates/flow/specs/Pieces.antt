-- What the stages come to: for an input that comes in any pieces, the whole output of the definition, and its verdict.
use Rattle.std.specs.Prelude.{◌≡◌, ℕ, true, List, [], ◌∷◌, ◌++◌}
use Rattle.model.specs.Lists.{concat}
use Rattle.model.specs.Output.{output, verdict}
use Rattle.flow.specs.Stages.{Stage, beginning, after, said, ends, closed, fine}

-- what is printed of pieces that come one after another, and of the end
unfoldable pub printed_of : Stage → List (List ℕ) → List ℕ
printed_of st [] = ends st
printed_of st (c ∷ cs) = said st c ++ printed_of (after st c) cs

-- an input in pieces: what is printed of each, and at the end, is the output
unfoldable pub InPieces : Type 0
InPieces = (cs : List (List ℕ)) → printed_of beginning cs ≡ output (concat cs)

-- its verdict
unfoldable pub Judged : Type 0
Judged = (s : List ℕ) → fine (after beginning s) ≡ verdict s

-- where nothing more is printed of further bytes, they need not be read
unfoldable pub Deaf : Type 0
Deaf = (st : Stage) → closed st ≡ true → (s : List ℕ) → (said st s ≡ []) × (after st s ≡ st)
