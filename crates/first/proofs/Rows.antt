-- Steps by the first by computation: the threads and rules, in order.
use Prim.Native.Nat.{ℕ}
use mathlib.Core.Path.{◌≡◌, refl}
use mathlib.Core.List.{List, [], ◌∷◌, ◌++◌, map}
use lib.IntN.{ℤ}
use lib.ListN.{set, take, drop}
use Rattle.model.specs.Numbers as No
use Rattle.model.specs.Answers.{Answer}
use Rattle.model.specs.Calls.{choose}
use Rattle.model.proofs.Runs.{all, begun, A, B, recursive, tree}
use Rattle.first.specs.Runs.{Step, named, stepped, by_first}

-- every definition that a row computes with
unfoldable every : Type 0
unfolding all named stepped by_first
every = Unit {0}

-- a step's thread and rule
pub record Made : Type 0 where
  pub thread : ℕ
  pub rule : ℕ

abbrev by : ℕ → ℕ → Made
by i rule = record { thread = i; rule = rule }

abbrev of : ℕ → List ℕ → List Made
of i rules = map (by i) rules

-- what is put: at most so many steps by the first; or a promotion of a thread
pub data Move : Type 0 where
  runs : ℕ → Move
  promotion : ℕ → Move

-- the words after steps
abbrev finally : List ℤ → List Step → List ℤ
finally ws [] = ws
finally ws (t ∷ ts) = finally t.words ts

abbrev promoted : ℕ → Answer ℕ → List Made
promoted i (Answer.given rule) = by i rule ∷ []
promoted i (Answer.refused r) = []

abbrev play : List ℕ → List ℤ → List Move → List (List Made)
play s ws [] = []
play s ws (Move.runs n ∷ ms) = let ts = by_first n s ws in map (λ t. by t.thread t.rule) ts ∷ play s (finally ws ts) ms
play s ws (Move.promotion i ∷ ms) = let d = choose s ws 1 i in promoted i d.answer ∷ play s d.after ms

-- a row: moves put one after another, from the start of a table on, each with what it makes
pub record Turn : Type 0 where
  pub move : Move
  pub makes : List Made

pub record Row : Type 0 where
  pub table : List ℕ
  pub turns : List Turn

abbrev played : List ℕ → List Turn → Row
played s ts = record { table = s; turns = ts }

abbrev steps : ℕ → List Made → Turn
steps n ms = record { move = Move.runs n; makes = ms }

abbrev promotes : ℕ → Turn
promotes i = record { move = Move.promotion i; makes = by i No.promote ∷ [] }

-- B with a statement before its spoin; with one there that negates the least value; and with a goto to a missing block for the spoin
abbrev busy : List ℕ
busy = set (take 25 B ++ 0x01 ∷ 0x00 ∷ 0x00 ∷ 0x00 ∷ 0x00 ∷ 0x00 ∷ 0x00 ∷ 0x00 ∷ drop 26 B) 3 0x4F

abbrev bursting : List ℕ
bursting = set (set busy 27 0x01) 29 0x80

abbrev stuck : List ℕ
stuck = set (set (set B 26 0x00) 27 0x09) 28 0x00

abbrev rows : List Row
rows =
    -- no step where the words are refused
    played [] (steps 9 [] ∷ []) ∷
    played A (steps 0 [] ∷ steps 9 (of 0 (No.stmt ∷ [])) ∷ steps 9 [] ∷ []) ∷
    -- nothing is promoted
    played B (steps 9 (of 0 (No.spork ∷ No.unpr ∷ No.stmt ∷ [])) ∷ []) ∷
    -- thread 0 waits for thread 1
    played B (steps 1 (of 0 (No.spork ∷ [])) ∷ promotes 0 ∷ steps 9 (by 1 No.stmt ∷ by 0 No.prom ∷ []) ∷ []) ∷
    -- both can step
    played busy (steps 1 (of 0 (No.spork ∷ [])) ∷ promotes 0 ∷ steps 9 (by 0 No.stmt ∷ by 1 No.stmt ∷ by 0 No.prom ∷ []) ∷ []) ∷
    -- thread 0 is stuck
    played stuck (steps 9 (of 0 (No.spork ∷ [])) ∷ promotes 0 ∷ steps 9 (of 1 (No.stmt ∷ [])) ∷ []) ∷
    -- it overflows
    played bursting (steps 9 (of 0 (No.spork ∷ [])) ∷ promotes 0 ∷ steps 9 (of 1 (No.stmt ∷ [])) ∷ []) ∷
    -- it is at a call with eight frames
    played recursive (steps 9 (of 0 (No.call ∷ No.call ∷ No.call ∷ No.call ∷ No.call ∷ No.call ∷ No.call ∷ [])) ∷ []) ∷
    -- examples/first.in
    played tree
    (steps 5 (of 0 (No.stmt ∷ No.call ∷ No.else ∷ No.stmt ∷ No.spork ∷ [])) ∷
    promotes 0 ∷
    steps 4 (of 0 (No.call ∷ No.else ∷ No.stmt ∷ No.spork ∷ [])) ∷
    promotes 0 ∷
    steps 12
    (of 0 (No.call ∷ No.then ∷ No.stmt ∷ No.return ∷ []) ++ of 1 (No.then ∷ No.stmt ∷ []) ++
    of 0 (No.prom ∷ No.stmt ∷ No.return ∷ []) ++ of 1 (No.else ∷ No.stmt ∷ No.spork ∷ [])) ∷
    promotes 1 ∷
    steps 99
    (of 1 (No.call ∷ No.then ∷ No.stmt ∷ No.return ∷ []) ++ of 2 (No.then ∷ No.stmt ∷ []) ++ of 1 (No.prom ∷ No.stmt ∷ []) ++
    of 0 (No.prom ∷ No.stmt ∷ No.return ∷ [])) ∷
    []) ∷
    []

-- every row is right
pub right : map (λ r. play r.table (begun r.table) (map (λ t. t.move) r.turns)) rows ≡
    map (λ r. map (λ t. t.makes) r.turns) rows
unfolding every
right = refl
