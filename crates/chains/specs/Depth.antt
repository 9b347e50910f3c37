-- The depth of a table, worked out: the longest chain from a function by those from its callees, with the number of functions left
-- as the falling measure.
use Rattle.std.specs.Prelude.{ℕ, zero, suc, ◌+◌, max, List, [], ◌∷◌, ◌++◌, length}
use Rattle.std.proofs.Math.Option.{Option, none, some, map}
use Rattle.std.proofs.Math.ListN.{get_elem?}
use Rattle.model.specs.Numbers as No
use Rattle.model.specs.Answers.{Refusal, Answer, with}
use Rattle.model.specs.Syntax.{Block, Function, Program, called_by}
use Rattle.model.specs.Calls.{accepted}

-- the callees of blocks, and of function f
unfoldable pub called_in : List Block → List ℕ
called_in [] = []
called_in (B ∷ B̄) = called_by B.transfer ++ called_in B̄

unfoldable pub callees_of : Option Function → List ℕ
callees_of none = []
callees_of (some F) = called_in F.blocks

abbrev pub callees : Program → ℕ → List ℕ
callees P f = callees_of (get_elem? P f)

-- the greater of two numbers; none where one of them is none
unfoldable pub greater : Option ℕ → Option ℕ → Option ℕ
greater none o = none
greater (some a) none = none
greater (some a) (some b) = some (max a b)

-- the greatest of what a function says of the numbers of a list, or 0
unfoldable pub greatest : (ℕ → Option ℕ) → List ℕ → Option ℕ
greatest h [] = some 0
greatest h (x ∷ x̄) = greater (h x) (greatest h x̄)

-- the frames of the longest chain from f: its own, and those of its deepest callee. None where the functions left do not suffice
unfoldable pub frames_from : Program → ℕ → ℕ → Option ℕ
frames_from P zero f = none
frames_from P (suc left) f = map (λ d. d + 1) (greatest (λ g. frames_from P left g) (callees P f))

-- the numbers below n, the greatest first
unfoldable pub numbers : ℕ → List ℕ
numbers zero = []
numbers (suc n) = n ∷ numbers n

-- over every function as the first
unfoldable pub deepest : Program → Option ℕ
deepest P = greatest (frames_from P (length P)) (numbers (length P))

-- depth: 1 to 11, then 22, or the frames
unfoldable pub deep : Option ℕ → Answer ℕ
deep none = Answer.refused (Refusal.plain No.cycle)
deep (some d) = Answer.given d

unfoldable pub depth : List ℕ → Answer ℕ
depth s = with (accepted s) λ P. deep (deepest P)
