-- A program under other numbers of functions, blocks and spawn calls. Temporaries stay.
use Rattle.std.specs.Prelude.{ℕ, map}
use Rattle.model.specs.Syntax.{Transfer, Head, Block, SpawnCall}

-- the new numbers, as one function of the program sees them
pub record Names : Type 0 where
  pub function : ℕ → ℕ
  pub block : ℕ → ℕ
  pub spawn : ℕ → ℕ

unfoldable pub transfer : Names → Transfer → Transfer
transfer N (Transfer.goto b x̄) = Transfer.goto (N.block b) x̄
transfer N (Transfer.if e b c) = Transfer.if e (N.block b) (N.block c)
transfer N (Transfer.call g x̄ b) = Transfer.call (N.function g) x̄ (N.block b)
transfer N (Transfer.return x̄) = Transfer.return x̄
transfer N (Transfer.spork b π) = Transfer.spork (N.block b) (N.spawn π)
transfer N (Transfer.spoin b c) = Transfer.spoin (N.block b) (N.block c)

unfoldable pub head : Names → Head → Head
head N H = record { parameters = H.parameters; scope = H.scope; nesting = map N.spawn H.nesting }

unfoldable pub block : Names → Block → Block
block N B = record { head = head N B.head; code = B.code; transfer = transfer N B.transfer }

unfoldable pub spawn_call : Names → SpawnCall → SpawnCall
spawn_call N S = record { function = N.function S.function; arguments = S.arguments }
