-- Writing a table: a program to bytes, one function for each parser of Read. And what is meant by reading and writing undoing each
-- other, for the programs that a table can hold.
use Rattle.std.specs.Prelude.{ℕ, ◌+◌, ◌/◌, ◌%◌, ◌≤◌, ◌≡◌, List, [], ◌∷◌, ◌++◌, map, length}
use Rattle.model.specs.Answers.{Answer}
use Rattle.model.specs.Lists.{Each, concat}
use Rattle.model.specs.Values.{signed, low}
use Rattle.model.specs.Syntax.{Atom, Expression, Statement, Transfer, Head, Block, SpawnCall, Function, Program}
use Rattle.model.specs.Read.{read}
use Rattle.model.specs.Limits.{Limits}

-- numbers of two and of four bytes, big-endian
unfoldable pub half : ℕ → List ℕ
half n = n / 256 ∷ n % 256 ∷ []

unfoldable pub word : ℕ → List ℕ
word n = half (n / 65536) ++ half (n % 65536)

-- a count, and that many of what w writes
unfoldable pub counted : {A : Type 0} → (A → List ℕ) → List A → List ℕ
counted w xs = length xs ∷ concat (map w xs)

-- one byte
abbrev pub byte : ℕ → List ℕ
byte n = n ∷ []

unfoldable pub arguments : List ℕ → List ℕ
arguments x̄ = counted byte x̄

-- 0 and a value, or 1 and a temporary
unfoldable pub atom : Atom → List ℕ
atom (Atom.value v) = 0 ∷ word (low v)
atom (Atom.temporary x) = 1 ∷ x ∷ []

-- m, -m, m + n, m < n
unfoldable pub expression : Expression → List ℕ
expression (Expression.atom m) = 0 ∷ atom m
expression (Expression.minus m) = 1 ∷ atom m
expression (Expression.plus m n) = 2 ∷ atom m ++ atom n
expression (Expression.less m n) = 3 ∷ atom m ++ atom n

unfoldable pub statement : Statement → List ℕ
statement s = s.target ∷ expression s.source

unfoldable pub transfer : Transfer → List ℕ
transfer (Transfer.goto b x̄) = 0 ∷ b ∷ arguments x̄
transfer (Transfer.if e b c) = 1 ∷ expression e ++ (b ∷ c ∷ [])
transfer (Transfer.call g x̄ b) = 2 ∷ g ∷ arguments x̄ ++ (b ∷ [])
transfer (Transfer.return x̄) = 3 ∷ arguments x̄
transfer (Transfer.spork b π) = 4 ∷ b ∷ π ∷ []
transfer (Transfer.spoin b c) = 5 ∷ b ∷ c ∷ []

unfoldable pub head : Head → List ℕ
head H = arguments H.parameters ++ (half H.scope ++ arguments H.nesting)

-- a head as version 2 has it
unfoldable pub bare : Head → List ℕ
bare H = arguments H.parameters

-- what stands above a block's head takes the head's writer, as Read takes its parser
unfoldable pub block_by : (Head → List ℕ) → Block → List ℕ
block_by w B = w B.head ++ (counted statement B.code ++ transfer B.transfer)

abbrev pub block : Block → List ℕ
block B = block_by head B

unfoldable pub spawn_call : SpawnCall → List ℕ
spawn_call S = S.function ∷ arguments S.arguments

unfoldable pub function_by : (Head → List ℕ) → Function → List ℕ
function_by w F =
    F.signature.parameters ∷ F.signature.returns ∷ length F.blocks ∷ length F.spawns ∷
    (concat (map spawn_call F.spawns) ++ concat (map (block_by w) F.blocks))

abbrev pub function : Function → List ℕ
function F = function_by head F

unfoldable pub program_by : (Head → List ℕ) → Program → List ℕ
program_by w P = counted (function_by w) P

abbrev pub program : Program → List ℕ
program P = program_by head P

-- the table: its length, version 1, and the functions
unfoldable pub table : Program → List ℕ
table P = word (length (program P) + 5) ++ (1 ∷ program P)

-- what a table can hold besides the limits: names that are bytes, and values of 32 bits
abbrev pub Name : ℕ → Type 0
Name n = n ≤ 255

unfoldable pub HoldsAtom : Atom → Type 0
HoldsAtom (Atom.value v) = signed (low v) ≡ v
HoldsAtom (Atom.temporary x) = Unit {0}

unfoldable pub HoldsExpression : Expression → Type 0
HoldsExpression (Expression.atom m) = HoldsAtom m
HoldsExpression (Expression.minus m) = HoldsAtom m
HoldsExpression (Expression.plus m n) = HoldsAtom m × HoldsAtom n
HoldsExpression (Expression.less m n) = HoldsAtom m × HoldsAtom n

unfoldable pub HoldsTransfer : Transfer → Type 0
HoldsTransfer (Transfer.goto b x̄) = Name b
HoldsTransfer (Transfer.if e b c) = HoldsExpression e × Name b × Name c
HoldsTransfer (Transfer.call g x̄ b) = Name g × Name b
HoldsTransfer (Transfer.return x̄) = Unit {0}
HoldsTransfer (Transfer.spork b π) = Name b × Name π
HoldsTransfer (Transfer.spoin b c) = Name b × Name c

pub record HoldsBlock (B : Block) : Type 0 where
  pub nesting : Each Name B.head.nesting
  pub code : Each (λ s. HoldsExpression s.source) B.code
  pub transfer : HoldsTransfer B.transfer

pub record HoldsFunction (F : Function) : Type 0 where
  pub spawns : Each (λ S. Name S.function) F.spawns
  pub blocks : Each HoldsBlock F.blocks

pub record Holds (P : Program) : Type 0 where
  pub limits : Limits P
  pub functions : Each HoldsFunction P
  pub short : length (table P) ≤ 16384

-- reading and writing undo each other: a table that reads is what is written of its program, which a table can hold; and what is
-- written of such a program reads to it
pub record Inverse : Type 0 where
  pub written : (s : List ℕ) (P : Program) → read s ≡ Answer.given P → (table P ≡ s) × Holds P
  pub reads : (P : Program) → Holds P → read (table P) ≡ Answer.given P
