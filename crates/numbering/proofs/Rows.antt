-- Tidy tables by computation: the order of numbers, what goes, and what is written.
use Prim.Native.Nat.{ℕ, ◌+◌, ◌/◌, ◌%◌}
use mathlib.Core.Path.{◌≡◌, refl}
use mathlib.Core.List.{List, [], ◌∷◌, ◌++◌, map}
use lib.ListN.{length, replicate}
use Rattle.model.specs.Numbers as No
use Rattle.model.specs.Answers.{Refusal, Answer, Wrote, put}
use Rattle.model.specs.Lists.{concat}
use Rattle.model.specs.Syntax.{targets, sporked_by, called_by}
use Rattle.model.specs.Write as Write
use Rattle.model.specs.Calls.{accepted}
use Rattle.model.proofs.Runs.{all}
use Rattle.numbering.specs.Renamed as Renamed
use Rattle.numbering.specs.Mentions as Mentions
use Rattle.numbering.specs.Tidy as Tidy
use Rattle.numbering.specs.Tidy.{tidy}

-- a block without parameters and scope, with the one statement 0 ← k to know it by: its nesting and its transfer
abbrev block : ℕ → List ℕ → List ℕ → List ℕ
block k ρ T = 0 ∷ 0 ∷ 0 ∷ length ρ ∷ (ρ ++ (1 ∷ 0 ∷ 0 ∷ 0 ∷ 0 ∷ 0 ∷ 0 ∷ k ∷ T))

abbrev goto : ℕ → List ℕ
goto b = 0 ∷ b ∷ 0 ∷ []

abbrev if : ℕ → ℕ → List ℕ
if b c = 1 ∷ 0 ∷ 0 ∷ 0 ∷ 0 ∷ 0 ∷ 1 ∷ b ∷ c ∷ []

abbrev call : ℕ → ℕ → List ℕ
call g b = 2 ∷ g ∷ 0 ∷ b ∷ []

abbrev return : List ℕ
return = 3 ∷ 0 ∷ []

abbrev spork : ℕ → ℕ → List ℕ
spork b π = 4 ∷ b ∷ π ∷ []

abbrev spoin : ℕ → ℕ → List ℕ
spoin b c = 5 ∷ b ∷ c ∷ []

-- a function without parameters and values: the functions of its spawn calls, which have no arguments, and its blocks
abbrev spawns : List ℕ → List (List ℕ)
spawns [] = []
spawns (g ∷ ḡ) = (g ∷ 0 ∷ []) ∷ spawns ḡ

abbrev function : List ℕ → List (List ℕ) → List ℕ
function π̄ B̄ = 0 ∷ 0 ∷ length B̄ ∷ length π̄ ∷ (concat (spawns π̄) ++ concat B̄)

abbrev leaf : ℕ → List ℕ
leaf k = function [] (block k [] return ∷ [])

abbrev sized : List ℕ → List ℕ
sized s = 0 ∷ 0 ∷ (length s + 4) / 256 ∷ (length s + 4) % 256 ∷ s

abbrev table : List (List ℕ) → List ℕ
table F̄ = sized (1 ∷ length F̄ ∷ concat F̄)

-- a table, lent bytes, and what is answered and left
pub record Row : Type 0 where
  pub bytes : List ℕ
  pub out : List ℕ
  pub wrote : Wrote

-- lent two bytes more than it needs, the table of F̄ becomes that of Ḡ, and the two stay
abbrev becomes : List (List ℕ) → List (List ℕ) → Row
becomes F̄ Ḡ =
    let n = length (table Ḡ) in
    record {
      bytes = table F̄;
      out = replicate n 9 ++ (8 ∷ 7 ∷ []);
      wrote = record { answer = Answer.given n; after = table Ḡ ++ (8 ∷ 7 ∷ []) };
    }

abbrev stays : List (List ℕ) → Row
stays F̄ = becomes F̄ F̄

abbrev refused : List ℕ → List ℕ → Refusal → Row
refused s out r = record { bytes = s; out = out; wrote = record { answer = Answer.refused r; after = out } }

-- the least table, to the byte: a main that returns at once, and the same with a block that nothing reaches
abbrev least : List ℕ
least = 0 ∷ 0 ∷ 0 ∷ 17 ∷ 1 ∷ 1 ∷ 0 ∷ 0 ∷ 1 ∷ 0 ∷ 0 ∷ 0 ∷ 0 ∷ 0 ∷ 0 ∷ 3 ∷ 0 ∷ []

abbrev littered : List ℕ
littered = 0 ∷ 0 ∷ 0 ∷ 25 ∷ 1 ∷ 1 ∷ 0 ∷ 0 ∷ 2 ∷ 0 ∷ 0 ∷ 0 ∷ 0 ∷ 0 ∷ 0 ∷ 3 ∷ 0 ∷ 0 ∷ 0 ∷ 0 ∷ 0 ∷ 0 ∷ 0 ∷ 1 ∷ 0 ∷ []

abbrev pub rows : List Row
rows =
    record { bytes = littered; out = replicate 17 9; wrote = record { answer = Answer.given 17; after = least } } ∷
    -- then before else
    becomes (function [] (block 0 [] (if 2 1) ∷ block 1 [] return ∷ block 2 [] return ∷ []) ∷ [])
    (function [] (block 0 [] (if 1 2) ∷ block 2 [] return ∷ block 1 [] return ∷ []) ∷ []) ∷
    -- breadth first
    becomes
    (function []
    (block 0 [] (if 1 3) ∷ block 1 [] (goto 2) ∷ block 2 [] return ∷ block 3 [] (goto 4) ∷ block 4 [] return ∷ []) ∷ [])
    (function []
    (block 0 [] (if 1 2) ∷ block 1 [] (goto 3) ∷ block 3 [] (goto 4) ∷ block 2 [] return ∷ block 4 [] return ∷ []) ∷ []) ∷
    -- unpromoted before promoted; the block to return to
    becomes
    (function (1 ∷ [])
    (block 0 [] (spork 4 0) ∷ block 1 [] return ∷ block 2 [] (call 1 1) ∷ block 3 [] return ∷ block 4 (0 ∷ []) (spoin 3 2) ∷ [])
    ∷ leaf 5 ∷ [])
    (function (1 ∷ [])
    (block 0 [] (spork 1 0) ∷ block 4 (0 ∷ []) (spoin 2 3) ∷ block 3 [] return ∷ block 2 [] (call 1 4) ∷ block 1 [] return ∷ [])
    ∷ leaf 5 ∷ []) ∷
    -- a spawn call's function between two calls: in the order of the blocks
    becomes
    (function (2 ∷ [])
    (block 0 [] (call 3 1) ∷ block 1 [] (spork 2 0) ∷ block 2 (0 ∷ []) (spoin 3 3) ∷ block 3 [] (call 1 4) ∷ block 4 [] return ∷ [])
    ∷ leaf 1 ∷ leaf 2 ∷ leaf 3 ∷ [])
    (function (2 ∷ [])
    (block 0 [] (call 1 1) ∷ block 1 [] (spork 2 0) ∷ block 2 (0 ∷ []) (spoin 3 3) ∷ block 3 [] (call 3 4) ∷ block 4 [] return ∷ [])
    ∷ leaf 3 ∷ leaf 2 ∷ leaf 1 ∷ []) ∷
    -- functions breadth first: main's callees before theirs
    becomes
    (function [] (block 0 [] (call 1 1) ∷ block 1 [] (call 3 2) ∷ block 2 [] return ∷ [])
    ∷ function [] (block 3 [] (call 2 1) ∷ block 4 [] return ∷ []) ∷ leaf 5 ∷ leaf 6 ∷ [])
    (function [] (block 0 [] (call 1 1) ∷ block 1 [] (call 2 2) ∷ block 2 [] return ∷ [])
    ∷ function [] (block 3 [] (call 3 1) ∷ block 4 [] return ∷ []) ∷ leaf 6 ∷ leaf 5 ∷ []) ∷
    -- spawn calls by first mention, names in nestings with them; one that nothing mentions goes, and so does its function
    becomes
    (function (1 ∷ 2 ∷ 3 ∷ [])
    (block 0 [] (spork 1 2) ∷ block 1 (2 ∷ []) (spork 2 0) ∷ block 2 (2 ∷ 0 ∷ []) (spoin 3 3) ∷ block 3 (2 ∷ []) (spoin 4 4)
    ∷ block 4 [] return ∷ [])
    ∷ leaf 1 ∷ leaf 2 ∷ leaf 3 ∷ [])
    (function (1 ∷ 2 ∷ [])
    (block 0 [] (spork 1 0) ∷ block 1 (0 ∷ []) (spork 2 1) ∷ block 2 (0 ∷ 1 ∷ []) (spoin 3 3) ∷ block 3 (0 ∷ []) (spoin 4 4)
    ∷ block 4 [] return ∷ [])
    ∷ leaf 3 ∷ leaf 1 ∷ []) ∷
    -- two spawn calls that are alike stay two
    stays
    (function (1 ∷ 1 ∷ [])
    (block 0 [] (spork 1 0) ∷ block 1 (0 ∷ []) (spoin 2 2) ∷ block 2 [] (spork 3 1) ∷ block 3 (1 ∷ []) (spoin 4 4)
    ∷ block 4 [] return ∷ [])
    ∷ leaf 1 ∷ []) ∷
    -- a dead block that names a dead block, and a function that a dead block alone calls
    becomes
    (function [] (block 0 [] (goto 3) ∷ block 1 [] (goto 2) ∷ block 2 [] (call 1 1) ∷ block 3 [] (call 2 4) ∷ block 4 [] return ∷ [])
    ∷ leaf 1 ∷ leaf 2 ∷ [])
    (function [] (block 0 [] (goto 1) ∷ block 3 [] (call 1 2) ∷ block 4 [] return ∷ []) ∷ leaf 2 ∷ []) ∷
    -- a dead function that calls itself, and main, which may be called
    becomes (function [] (block 0 [] return ∷ []) ∷ function [] (block 1 [] (call 1 0) ∷ []) ∷ [])
    (function [] (block 0 [] return ∷ []) ∷ []) ∷
    stays (function [] (block 0 [] (call 0 0) ∷ []) ∷ []) ∷
    -- room: one byte less than the tidy table, which is shorter than the table; and none
    refused littered (replicate 16 9) (Refusal.plain No.room) ∷ refused littered [] (Refusal.plain No.room) ∷
    -- the check's refusals come first
    refused [] [] (Refusal.plain No.size) ∷
    refused (table (function [] (block 0 [] (goto 1) ∷ []) ∷ [])) [] (Refusal.fault No.missing 0 0) ∷
    -- what nothing mentions is checked all the same
    refused (table (leaf 0 ∷ function [] (block 0 [] (goto 1) ∷ []) ∷ [])) (replicate 99 9) (Refusal.fault No.missing 1 0) ∷
    []

-- every row is right
pub right : map (λ r. tidy r.bytes r.out) rows ≡ map (λ r. r.wrote) rows
unfolding all
    accepted targets sporked_by called_by Write.half Write.word Write.counted Write.arguments Write.atom Write.expression Write.statement
    Write.transfer Write.head Write.block_by Write.spawn_call Write.function_by Write.program_by Write.table Renamed.transfer Renamed.head
    Renamed.block Renamed.spawn_call Mentions.of Mentions.targets_of Mentions.spawns_of Mentions.spawned Mentions.functions_of Tidy.member
    Tidy.mention Tidy.mentions Tidy.onward Tidy.grown Tidy.kept_blocks Tidy.kept_spawns Tidy.mentioned_in Tidy.kept_functions Tidy.place
    Tidy.before Tidy.picked Tidy.names_in Tidy.tidy_function Tidy.tidied put Tidy.putting tidy
right = refl
