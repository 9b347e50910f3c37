-- How places are marked: an array with no places, and the array with one place more.
use Rattle.std.specs.Prelude.{ℕ, ◌+◌, ◌*◌, ◌/◌, ◌%◌, min, cond, List, eqb, set, replicate}
use Rattle.places.specs.Layout as Layout

-- no places
unfoldable pub nowhere : List ℕ
nowhere = replicate Layout.len Layout.absent

-- an offset as it is kept: none of a table comes up to the entry of a thing that is not there
abbrev pub short : ℕ → ℕ
short at = min at Layout.absent

-- the places, with the offset at kept at index i
abbrev pub put : ℕ → ℕ → List ℕ → List ℕ
put i at places = set places i (short at)

-- function f begins at the offset; its spawn call π; its block b
abbrev pub mark_function : ℕ → ℕ → List ℕ → List ℕ
mark_function f at places = put (Layout.function_index f) at places

abbrev pub mark_spawn : ℕ → ℕ → ℕ → List ℕ → List ℕ
mark_spawn f π at places = put (Layout.spawn_index f π) at places

abbrev pub mark_block : ℕ → ℕ → ℕ → List ℕ → List ℕ
mark_block f b at places = put (Layout.block_index f b) at places

-- two lengths in an entry: that of an even block alone, and that of an odd one above that of the block before
abbrev pub paired : ℕ → ℕ → ℕ → ℕ
paired b before n = cond (eqb (b % 2) 0) n (before + 256 * n)

-- the length of block b's head in such an entry
abbrev pub length_of : ℕ → ℕ → ℕ
length_of b both = cond (eqb (b % 2) 0) (both % 256) (both / 256)

-- the head of block b of function f takes n bytes, and that of the block before it `before`
abbrev pub mark_head : ℕ → ℕ → ℕ → ℕ → List ℕ → List ℕ
mark_head f b before n places = set places (Layout.length_index f b) (paired b before n)
