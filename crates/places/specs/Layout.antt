-- The layout of the places: how many things there are places for, where each kind of thing begins, and the entry of a thing that
-- is not there. Function f stands at f; spawn call π of function f and block b of function f behind those of the functions before.
-- Behind all places stand the lengths of the blocks' heads, two to an entry: those of blocks 2 i and 2 i + 1.
use Rattle.std.specs.Prelude.{ℕ, ◌+◌, ◌*◌, ◌/◌}

abbrev pub functions : ℕ
functions = 16

-- of one function
abbrev pub spawns : ℕ
spawns = 8

abbrev pub blocks : ℕ
blocks = 32

abbrev pub spawns_from : ℕ
spawns_from = functions

abbrev pub blocks_from : ℕ
blocks_from = spawns_from + functions * spawns

-- the entries of two lengths, of one function
abbrev pub pairs : ℕ
pairs = 16

abbrev pub lengths_from : ℕ
lengths_from = blocks_from + functions * blocks

abbrev pub len : ℕ
len = lengths_from + functions * pairs

abbrev pub absent : ℕ
absent = 65535

abbrev pub function_index : ℕ → ℕ
function_index f = f

abbrev pub spawn_index : ℕ → ℕ → ℕ
spawn_index f π = spawns_from + spawns * f + π

abbrev pub block_index : ℕ → ℕ → ℕ
block_index f b = blocks_from + blocks * f + b

abbrev pub length_index : ℕ → ℕ → ℕ
length_index f b = lengths_from + pairs * f + b / 2
