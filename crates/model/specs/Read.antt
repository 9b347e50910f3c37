-- The table: bytes to a program, and the refusals 1 to 3. Bytes are judged strictly one after another.
use Rattle.std.specs.Prelude.{ℕ, zero, suc, ◌+◌, ◌*◌, Bool, ◌&&◌, cond, List, [], ◌∷◌, ltb, leb, eqb, length, get_or}
use Rattle.model.specs.Numbers as No
use Rattle.model.specs.Answers.{Refusal, Answer}
use Rattle.model.specs.Values.{signed}
use Rattle.model.specs.Syntax.{Atom, Expression, Statement, Transfer, Head, Block, SpawnCall, Function, Program}

-- what reading at an offset finds: a value and the offset behind it, or the place of the first bad byte
pub data Parsed (A : Type 0) : Type 0 where
  ok : A → ℕ → Parsed A
  bad : ℕ → Parsed A

-- a parser reads the whole table at an offset
abbrev pub Parser : Type 0 → Type 0
Parser A = List ℕ → ℕ → Parsed A

unfoldable pub next : {A B : Type 0} → Parsed A → (A → ℕ → Parsed B) → Parsed B
next (Parsed.ok a at) k = k a at
next (Parsed.bad place) k = Parsed.bad place

abbrev pub ◌>>=◌ : {A B : Type 0} → Parser A → (A → Parser B) → Parser B
◌>>=◌ p k = λ s at. next (p s at) (λ a at'. k a s at')

abbrev pub pure : {A : Type 0} → A → Parser A
pure a = λ s at. Parsed.ok a at

-- a byte from lo to hi. A missing byte's place is the table's length
unfoldable pub byte : ℕ → ℕ → Parser ℕ
byte lo hi s at =
    cond (ltb at (length s))
    (cond (leb lo (get_or s at 0) && leb (get_or s at 0) hi) (Parsed.ok (get_or s at 0) (at + 1)) (Parsed.bad at))
    (Parsed.bad (length s))

-- n times p
unfoldable pub many : {A : Type 0} → Parser A → ℕ → Parser (List A)
many p zero = pure []
many p (suc n) = do
  x ← p
  xs ← many p n
  pure (x ∷ xs)

-- a count from 0 to most, and that many of p
unfoldable pub counted : {A : Type 0} → ℕ → Parser A → Parser (List A)
counted most p = do
  n ← byte 0 most
  many p n

-- one of the parsers, by its kind
unfoldable pub pick : {A : Type 0} → List (Parser A) → ℕ → Parser A
pick [] k = λ s at. Parsed.bad at
pick (p ∷ ps) zero = p
pick (p ∷ ps) (suc k) = pick ps k

-- a function, block or spawn call number may be any byte: the check judges it
unfoldable pub name : Parser ℕ
name = byte 0 255

-- numbers of two and of four bytes, big-endian
unfoldable pub half : Parser ℕ
half = do
  a ← byte 0 255
  b ← byte 0 255
  pure (a * 256 + b)

unfoldable pub word : Parser ℕ
word = do
  a ← half
  b ← half
  pure (a * 65536 + b)

unfoldable pub temporary : Parser ℕ
temporary = byte 0 15

unfoldable pub arguments : Parser (List ℕ)
arguments = counted 8 temporary

-- 0 and a value, or 1 and a temporary
unfoldable pub value : Parser Atom
value = do
  n ← word
  pure (Atom.value (signed n))

unfoldable pub variable : Parser Atom
variable = do
  x ← temporary
  pure (Atom.temporary x)

abbrev pub atoms : List (Parser Atom)
atoms = value ∷ variable ∷ []

unfoldable pub atom : Parser Atom
atom = do
  k ← byte 0 1
  pick atoms k

-- m, -m, m + n, m < n: an expression of one atom, and of two
unfoldable pub unary : (Atom → Expression) → Parser Expression
unary e = do
  m ← atom
  pure (e m)

unfoldable pub binary : (Atom → Atom → Expression) → Parser Expression
binary e = do
  m ← atom
  n ← atom
  pure (e m n)

abbrev pub expressions : List (Parser Expression)
expressions = unary Expression.atom ∷ unary Expression.minus ∷ binary Expression.plus ∷ binary Expression.less ∷ []

unfoldable pub expression : Parser Expression
expression = do
  k ← byte 0 3
  pick expressions k

unfoldable pub statement : Parser Statement
statement = do
  x ← temporary
  e ← expression
  pure (record { target = x; source = e })

unfoldable pub goto : Parser Transfer
goto = do
  b ← name
  x̄ ← arguments
  pure (Transfer.goto b x̄)

unfoldable pub if : Parser Transfer
if = do
  e ← expression
  b ← name
  c ← name
  pure (Transfer.if e b c)

unfoldable pub call : Parser Transfer
call = do
  g ← name
  x̄ ← arguments
  b ← name
  pure (Transfer.call g x̄ b)

unfoldable pub return : Parser Transfer
return = do
  x̄ ← counted 4 temporary
  pure (Transfer.return x̄)

unfoldable pub spork : Parser Transfer
spork = do
  b ← name
  π ← name
  pure (Transfer.spork b π)

unfoldable pub spoin : Parser Transfer
spoin = do
  b ← name
  c ← name
  pure (Transfer.spoin b c)

abbrev pub transfers : List (Parser Transfer)
transfers = goto ∷ if ∷ call ∷ return ∷ spork ∷ spoin ∷ []

unfoldable pub transfer : Parser Transfer
transfer = do
  k ← byte 0 5
  pick transfers k

unfoldable pub head : Parser Head
head = do
  x̄ ← arguments
  Γ ← half
  ρ ← counted 4 name
  pure (record { parameters = x̄; scope = Γ; nesting = ρ })

-- a head as version 2 of the table has it: scope and nesting are left out
unfoldable pub bare : Parser Head
bare = do
  x̄ ← arguments
  pure (record { parameters = x̄; scope = 0; nesting = [] })

-- what stands above a block's head takes the head's parser: a version of the table is an instance
unfoldable pub block_by : Parser Head → Parser Block
block_by p = do
  h ← p
  c ← counted 32 statement
  t ← transfer
  pure (record { head = h; code = c; transfer = t })

abbrev pub block : Parser Block
block = block_by head

unfoldable pub spawn_call : Parser SpawnCall
spawn_call = do
  g ← name
  x̄ ← arguments
  pure (record { function = g; arguments = x̄ })

unfoldable pub function_by : Parser Head → Parser Function
function_by p = do
  n ← byte 0 8
  r ← byte 0 4
  b ← byte 1 32
  c ← byte 0 8
  π̄ ← many spawn_call c
  B̄ ← many (block_by p) b
  pure (record { signature = record { parameters = n; returns = r }; spawns = π̄; blocks = B̄ })

abbrev pub function : Parser Function
function = function_by head

unfoldable pub program_by : Parser Head → Parser Program
program_by p = do
  n ← byte 1 16
  many (function_by p) n

abbrev pub program : Parser Program
program = program_by head

-- a version of the table: its number, how long it may be, and how it has a block's head
pub record Version : Type 0 where
  pub number : ℕ
  pub most : ℕ
  pub head : Parser Head

abbrev pub full : Version
full = record { number = 1; most = 16384; head = head }

-- version 2, which the completion takes (S-4)
abbrev pub brief : Version
brief = record { number = 2; most = 12800; head = bare }

-- the header: the total length, and the version; the functions begin at offset 5, with their number. Four numbers that are no
-- bytes count as 0, which is no table's length
unfoldable pub or_zero : Parsed ℕ → ℕ
or_zero (Parsed.ok n at) = n
or_zero (Parsed.bad place) = 0

unfoldable pub length_field : List ℕ → ℕ
length_field s = or_zero (word s 0)

unfoldable pub sized_as : Version → List ℕ → ℕ → Bool
sized_as v s field = leb 6 (length s) && leb (length s) v.most && eqb field (length s)

abbrev pub sized : List ℕ → ℕ → Bool
sized s field = sized_as full s field

-- a program that ends where the table ends: the first byte left over is bad
unfoldable pub whole : List ℕ → Parsed Program → Answer Program
whole s (Parsed.bad place) = Answer.refused (Refusal.byte place)
whole s (Parsed.ok P at) = cond (eqb at (length s)) (Answer.given P) (Answer.refused (Refusal.byte at))

-- 1, then 2, then 3: by the length field, the version, and the functions from an offset on
unfoldable pub read_as : Version → List ℕ → ℕ → ℕ → ℕ → Answer Program
read_as v s at field version =
    cond (sized_as v s field)
    (cond (eqb version v.number) (whole s (program_by v.head s at)) (Answer.refused (Refusal.plain No.version)))
    (Answer.refused (Refusal.plain No.size))

-- a table of version 1, which every call but the completion takes; and one of version 2
unfoldable pub read : List ℕ → Answer Program
read s = read_as full s 5 (length_field s) (get_or s 4 0)

unfoldable pub read_brief : List ℕ → Answer Program
read_brief s = read_as brief s 5 (length_field s) (get_or s 4 0)
