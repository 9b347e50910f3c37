-- What passing over a rule of the table answers: the rule's own reading, without its value.
use Rattle.std.specs.Prelude.{ℕ, Result, Ok, Err}
use Rattle.model.specs.Syntax.{Transfer}
use Rattle.model.specs.Read.{Parsed, Parser}
use Rattle.model.specs.Read as Read

unfoldable pub skip_of : {A : Type 0} → Parsed A → Result ℕ ℕ
skip_of (Parsed.ok a at) = Ok at
skip_of (Parsed.bad place) = Err place

unfoldable pub byte_of : Result (ℕ × ℕ) ℕ → Parsed ℕ
byte_of (Ok (b, at)) = Parsed.ok b at
byte_of (Err place) = Parsed.bad place

-- what follows a block's head: its statements, and its transfer
unfoldable pub body : Parser Transfer
body = Read.◌>>=◌ (Read.counted 32 Read.statement) λ c. Read.transfer
