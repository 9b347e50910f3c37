-- Depths by computation: what each reading of the request would give otherwise.
use Prim.Native.Nat.{ℕ, zero, suc, ◌+◌, ◌/◌, ◌%◌}
use mathlib.Core.Path.{◌≡◌, refl}
use mathlib.Core.List.{List, [], ◌∷◌, ◌++◌, map}
use lib.ListN.{length}
use Rattle.model.specs.Numbers as No
use Rattle.model.specs.Answers.{Refusal, Answer}
use Rattle.model.specs.Lists.{concat}
use Rattle.model.specs.Syntax.{called_by}
use Rattle.model.specs.Calls.{accepted}
use Rattle.model.proofs.Runs.{all}
use Rattle.chains.specs.Depth as Depth
use Rattle.chains.specs.Depth.{depth}

-- a block without parameters, scope and statements: its nesting and its transfer
abbrev block : List ℕ → List ℕ → List ℕ
block ρ T = 0 ∷ 0 ∷ 0 ∷ length ρ ∷ (ρ ++ (0 ∷ T))

abbrev returns : List ℕ
returns = block [] (3 ∷ 0 ∷ [])

-- a call of g, and back to block b
abbrev calls : ℕ → ℕ → List ℕ
calls g b = block [] (2 ∷ g ∷ 0 ∷ b ∷ [])

-- a function without parameters and values: its spawn calls, without arguments, and its blocks
abbrev spawn : List ℕ → List (List ℕ)
spawn [] = []
spawn (g ∷ ḡ) = (g ∷ 0 ∷ []) ∷ spawn ḡ

abbrev function : List ℕ → List (List ℕ) → List ℕ
function π̄ B̄ = 0 ∷ 0 ∷ length B̄ ∷ length π̄ ∷ (concat (spawn π̄) ++ concat B̄)

abbrev leaf : List ℕ
leaf = function [] (returns ∷ [])

-- it calls g; it returns, and a block that nothing reaches calls g; it spawns g and joins it
abbrev caller : ℕ → List ℕ
caller g = function [] (calls g 1 ∷ returns ∷ [])

abbrev dead_caller : ℕ → List ℕ
dead_caller g = function [] (returns ∷ calls g 0 ∷ [])

abbrev spawner : ℕ → List ℕ
spawner g = function (g ∷ []) (block [] (4 ∷ 1 ∷ 0 ∷ []) ∷ block (0 ∷ []) (5 ∷ 2 ∷ 2 ∷ []) ∷ returns ∷ [])

abbrev sized : List ℕ → List ℕ
sized s = 0 ∷ 0 ∷ (length s + 4) / 256 ∷ (length s + 4) % 256 ∷ s

abbrev table : List (List ℕ) → List ℕ
table F̄ = sized (1 ∷ length F̄ ∷ concat F̄)

-- n + 1 functions from f on, each calling the next
abbrev line : ℕ → ℕ → List (List ℕ)
line f zero = leaf ∷ []
line f (suc n) = caller (f + 1) ∷ line (f + 1) n

-- each of functions f to f + n calls every later one
abbrev calls_all : ℕ → ℕ → List (List ℕ)
calls_all f zero = []
calls_all f (suc n) = calls (f + 1) 0 ∷ calls_all (f + 1) n

abbrev dense : ℕ → ℕ → List (List ℕ)
dense f zero = leaf ∷ []
dense f (suc n) = function [] (returns ∷ calls_all f (suc n)) ∷ dense (f + 1) n

pub record Row : Type 0 where
  pub bytes : List ℕ
  pub answer : Answer ℕ

abbrev gives : List (List ℕ) → ℕ → Row
gives F̄ d = record { bytes = table F̄; answer = Answer.given d }

abbrev cyclic : List (List ℕ) → Row
cyclic F̄ = record { bytes = table F̄; answer = Answer.refused (Refusal.plain No.cycle) }

abbrev pub rows : List Row
rows =
    -- a function without calls
    gives (leaf ∷ []) 1 ∷
    -- frames, not calls; not cut at 8
    gives (line 0 1) 2 ∷ gives (line 0 7) 8 ∷ gives (line 0 8) 9 ∷ gives (line 0 15) 16 ∷
    -- a block that nothing reaches
    gives (dead_caller 1 ∷ leaf ∷ []) 2 ∷
    -- functions that nothing mentions, a chain that starts at the last function
    gives (leaf ∷ caller 2 ∷ leaf ∷ []) 2 ∷ gives (leaf ∷ caller 0 ∷ caller 1 ∷ []) 3 ∷
    -- a spawned function begins a chain of its own
    gives (spawner 1 ∷ line 1 8) 9 ∷ gives (caller 1 ∷ spawner 2 ∷ leaf ∷ []) 2 ∷
    -- a function that spawns itself
    gives (spawner 0 ∷ []) 1 ∷
    -- the deepest of many callees, whichever block calls it
    gives (dense 0 5) 6 ∷
    gives (function [] (calls 1 1 ∷ calls 2 2 ∷ returns ∷ []) ∷ caller 2 ∷ leaf ∷ []) 3 ∷
    gives (function [] (calls 2 1 ∷ calls 1 2 ∷ returns ∷ []) ∷ caller 2 ∷ leaf ∷ []) 3 ∷
    -- cycles: a call of itself, in a block that nothing reaches, and through another function that nothing mentions
    cyclic (caller 0 ∷ []) ∷ cyclic (dead_caller 0 ∷ []) ∷ cyclic (leaf ∷ caller 2 ∷ dead_caller 1 ∷ []) ∷
    -- the check's refusals come first: size, version, form, and a call of a missing function in a table with a cycle
    record { bytes = []; answer = Answer.refused (Refusal.plain No.size) } ∷
    record { bytes = sized (2 ∷ 1 ∷ leaf); answer = Answer.refused (Refusal.plain No.version) } ∷
    record { bytes = sized (1 ∷ 1 ∷ (leaf ++ (7 ∷ []))); answer = Answer.refused (Refusal.byte 17) } ∷
    record { bytes = table (caller 0 ∷ caller 2 ∷ []); answer = Answer.refused (Refusal.fault No.missing 1 0) } ∷
    []

-- every row is right
pub right : map (λ r. depth r.bytes) rows ≡ map (λ r. r.answer) rows
unfolding all
    accepted called_by Depth.called_in Depth.callees_of Depth.greater Depth.greatest Depth.frames_from Depth.numbers Depth.deepest
    Depth.deep depth
right = refl
