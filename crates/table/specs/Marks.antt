-- What the walk over a table keeps as it goes: the places of functions, spawn calls and blocks. The head's parser is a parameter,
-- as it is of the grammar.
use Rattle.std.specs.Prelude.{ℕ, zero, suc, ◌+◌, ◌-◌, ◌≡◌, List, Result, Ok, Err}
use Rattle.model.specs.Syntax.{Head}
use Rattle.model.specs.Read.{Parsed, Parser, byte, many, spawn_call, block_by, function_by}
use Rattle.model.specs.Read as Read
use Rattle.places.specs.Marks.{mark_function, mark_spawn, mark_block, mark_head}
use Rattle.table.specs.declared.walk.Sizes.{Sizes}

-- where a reading ends
unfoldable pub onward : {A B : Type 0} → Parsed A → (A → ℕ → B) → B → B
onward (Parsed.ok a at) k b = k a at
onward (Parsed.bad place) k b = b

-- what is kept after n times p from at, each kept by `mark`, numbered from i on
unfoldable pub marked : {A S : Type 0} → Parser A → (ℕ → ℕ → S → S) → ℕ → List ℕ → ℕ → ℕ → S → S
marked p mark zero s at i σ = σ
marked p mark (suc n) s at i σ = onward (p s at) (λ a m. marked p mark n s m (i + 1) (mark i at σ)) σ

-- what is kept along a function's blocks: the places, and how long the head of the block before is
pub record Along : Type 0 where
  pub places : List ℕ
  pub before : ℕ

abbrev pub along : List ℕ → ℕ → Along
along places before = record { places = places; before = before }

-- block b of function f at at: its place, and the length of its head
unfoldable pub block_marks_by : Parser Head → List ℕ → ℕ → ℕ → ℕ → Along → Along
block_marks_by p s f b at σ =
    onward (p s at) (λ h e. along (mark_head f b σ.before (e - at) (mark_block f b at σ.places)) (e - at)) σ

-- how many blocks and spawn calls a function has, which stand before them
pub record Many : Type 0 where
  pub blocks : ℕ
  pub spawns : ℕ

unfoldable pub sizes : Parser Many
sizes = Read.◌>>=◌ (byte 0 8) λ n. Read.◌>>=◌ (byte 0 4) λ r. Read.◌>>=◌ (byte 1 32) λ b. Read.◌>>=◌ (byte 0 8) λ c. Read.pure
    (record { blocks = b; spawns = c })

unfoldable pub sizes_of : Result Sizes ℕ → Parsed Many
sizes_of (Ok z) = Parsed.ok (record { blocks = z.blocks; spawns = z.spawns }) z.next
sizes_of (Err place) = Parsed.bad place

-- the places after function f at at
unfoldable pub function_marks_by : Parser Head → List ℕ → ℕ → ℕ → List ℕ → List ℕ
function_marks_by p s f at places =
    onward (sizes s at)
    (λ z m.
    onward (many spawn_call z.spawns s m)
    (λ c̄ e.
    (marked (block_by p) (block_marks_by p s f) z.blocks s e 0
    (along (marked spawn_call (mark_spawn f) z.spawns s m 0 (mark_function f at places)) 0)).places)
    places)
    places

unfoldable pub program_marks_by : Parser Head → List ℕ → ℕ → List ℕ → List ℕ
program_marks_by p s at places =
    onward (byte 1 16 s at) (λ n m. marked (function_by p) (function_marks_by p s) n s m 0 places) places

-- where all was passed over, the places are these
unfoldable pub Kept : Result ℕ ℕ → List ℕ → List ℕ → Type 0
Kept (Ok at) places due = places ≡ due
Kept (Err place) places due = Unit {0}
