-- What stands at an offset of a table, and where it ends, whatever the bytes are: a definition for each rule of the table, in
-- document 01's order of need. Where the table reads at the offset, they are what is read there and where that ends
-- (`Decodes` of proofs/Decoding).
use Rattle.std.specs.Prelude.{ℕ, zero, suc, min, cond, List, [], ◌∷◌, ℤ, ◌==◌}
use Rattle.code.specs.Bytes.{byte_at, past, half_at, word_at, operands}
use Rattle.model.specs.Values.{signed}
use Rattle.model.specs.Syntax.{Atom, Expression, Statement, Transfer, Head, Block, SpawnCall, Signature}
use Rattle.code.specs.declared.Opening.{Opening}

-- n bytes from an offset on
unfoldable pub run : List ℕ → ℕ → ℕ → List ℕ
run s at zero = []
run s at (suc n) = byte_at s at ∷ run s (past at 1) n

-- an argument list, of no more than 8; where a counted list of bytes ends
abbrev pub most : ℕ
most = 8

unfoldable pub count_at : List ℕ → ℕ → ℕ
count_at s at = min (byte_at s at) most

unfoldable pub arguments_at : List ℕ → ℕ → List ℕ
arguments_at s at = run s (past at 1) (count_at s at)

unfoldable pub list_end : List ℕ → ℕ → ℕ
list_end s at = past (past at 1) (byte_at s at)

-- an atom by its kind, and where it ends
unfoldable pub atom_of : ℕ → ℤ → ℕ → Atom
atom_of zero v x = Atom.value v
atom_of (suc kind) v x = Atom.temporary x

unfoldable pub atom_at : List ℕ → ℕ → Atom
atom_at s at = atom_of (byte_at s at) (signed (word_at s (past at 1))) (byte_at s (past at 1))

unfoldable pub atom_end : List ℕ → ℕ → ℕ
atom_end s at = cond (byte_at s at == 0) (past (past at 1) 4) (past (past at 1) 1)

-- an expression by its kind, and where it ends
unfoldable pub expression_of : ℕ → Atom → Atom → Expression
expression_of zero m n = Expression.atom m
expression_of (suc zero) m n = Expression.minus m
expression_of (suc (suc zero)) m n = Expression.plus m n
expression_of (suc (suc (suc kind))) m n = Expression.less m n

unfoldable pub second_at : List ℕ → ℕ → ℕ
second_at s at = atom_end s (past at 1)

unfoldable pub expression_at : List ℕ → ℕ → Expression
expression_at s at = expression_of (byte_at s at) (atom_at s (past at 1)) (atom_at s (second_at s at))

unfoldable pub expression_end : List ℕ → ℕ → ℕ
expression_end s at = cond (operands (byte_at s at) == 2) (atom_end s (second_at s at)) (second_at s at)

-- a statement, and where it ends; n of them, and where they end
unfoldable pub statement_at : List ℕ → ℕ → Statement
statement_at s at = record { target = byte_at s at; source = expression_at s (past at 1) }

unfoldable pub statement_end : List ℕ → ℕ → ℕ
statement_end s at = expression_end s (past at 1)

unfoldable pub statements_at : List ℕ → ℕ → ℕ → List Statement
statements_at s at zero = []
statements_at s at (suc n) = statement_at s at ∷ statements_at s (statement_end s at) n

unfoldable pub statements_end : List ℕ → ℕ → ℕ → ℕ
statements_end s at zero = at
statements_end s at (suc n) = statements_end s (statement_end s at) n

-- a block's head: its parameters, two bytes of scope, its nesting; and where it ends
unfoldable pub nesting_at : List ℕ → ℕ → ℕ
nesting_at s at = past (list_end s at) 2

unfoldable pub head_at : List ℕ → ℕ → Head
head_at s at =
    record {
      parameters = arguments_at s at;
      scope = half_at s (list_end s at);
      nesting = arguments_at s (nesting_at s at);
    }

-- a block's head in version 2, which ends with its parameters
unfoldable pub bare_at : List ℕ → ℕ → Head
bare_at s at = record { parameters = arguments_at s at; scope = 0; nesting = [] }

unfoldable pub head_end : List ℕ → ℕ → ℕ
head_end s at = list_end s (nesting_at s at)

-- the same, as the code has it: the parameters and the nesting by their number and their offset; and the head that it says
unfoldable pub head_in : List ℕ → Opening → Head
head_in s h =
    record {
      parameters = run s h.parameters h.count;
      scope = h.scope;
      nesting = run s h.nesting h.depth;
    }

unfoldable pub opening_at : List ℕ → ℕ → Opening
opening_at s at =
    record {
      count = count_at s at;
      parameters = past at 1;
      scope = half_at s (list_end s at);
      depth = count_at s (nesting_at s at);
      nesting = past (nesting_at s at) 1;
      behind = head_end s at;
    }

-- a spawn call, and where it ends
unfoldable pub spawn_at : List ℕ → ℕ → SpawnCall
spawn_at s at = record { function = byte_at s at; arguments = arguments_at s (past at 1) }

unfoldable pub spawn_end : List ℕ → ℕ → ℕ
spawn_end s at = list_end s (past at 1)

-- a function's numbers of parameters and of returned values
unfoldable pub signature_at : List ℕ → ℕ → Signature
signature_at s at = record { parameters = byte_at s at; returns = byte_at s (past at 1) }

-- what follows a transfer's kind, and a transfer by its kind
abbrev pub goto_at : List ℕ → ℕ → Transfer
goto_at s at = Transfer.goto (byte_at s at) (arguments_at s (past at 1))

abbrev pub if_at : List ℕ → ℕ → Transfer
if_at s at = Transfer.if (expression_at s at) (byte_at s (expression_end s at)) (byte_at s (past (expression_end s at) 1))

abbrev pub call_at : List ℕ → ℕ → Transfer
call_at s at = Transfer.call (byte_at s at) (arguments_at s (past at 1)) (byte_at s (list_end s (past at 1)))

abbrev pub return_at : List ℕ → ℕ → Transfer
return_at s at = Transfer.return (arguments_at s at)

abbrev pub spork_at : List ℕ → ℕ → Transfer
spork_at s at = Transfer.spork (byte_at s at) (byte_at s (past at 1))

abbrev pub spoin_at : List ℕ → ℕ → Transfer
spoin_at s at = Transfer.spoin (byte_at s at) (byte_at s (past at 1))

unfoldable pub transfer_of : ℕ → List ℕ → ℕ → Transfer
transfer_of zero s at = goto_at s at
transfer_of (suc zero) s at = if_at s at
transfer_of (suc (suc zero)) s at = call_at s at
transfer_of (suc (suc (suc zero))) s at = return_at s at
transfer_of (suc (suc (suc (suc zero)))) s at = spork_at s at
transfer_of (suc (suc (suc (suc (suc kind))))) s at = spoin_at s at

unfoldable pub transfer_at : List ℕ → ℕ → Transfer
transfer_at s at = transfer_of (byte_at s at) s (past at 1)

-- where it ends, by its kind
unfoldable pub transfer_end_of : ℕ → List ℕ → ℕ → ℕ
transfer_end_of zero s at = spawn_end s at
transfer_end_of (suc zero) s at = past (past (expression_end s at) 1) 1
transfer_end_of (suc (suc zero)) s at = past (spawn_end s at) 1
transfer_end_of (suc (suc (suc zero))) s at = list_end s at
transfer_end_of (suc (suc (suc (suc kind)))) s at = past (past at 1) 1

unfoldable pub transfer_end : List ℕ → ℕ → ℕ
transfer_end s at = transfer_end_of (byte_at s at) s (past at 1)

-- what stands behind a block's head: the number of its statements, the statements, and the transfer
unfoldable pub code_at : List ℕ → ℕ → List Statement
code_at s at = statements_at s (past at 1) (byte_at s at)

unfoldable pub code_end : List ℕ → ℕ → ℕ
code_end s at = statements_end s (past at 1) (byte_at s at)

-- a block of which the head is known and the rest stands at an offset; a block, and where it ends
abbrev pub coded : Head → List ℕ → ℕ → Block
coded H s at = record { head = H; code = code_at s at; transfer = transfer_at s (code_end s at) }

unfoldable pub block_at : List ℕ → ℕ → Block
block_at s at = coded (head_at s at) s (head_end s at)

unfoldable pub block_end : List ℕ → ℕ → ℕ
block_end s at = transfer_end s (code_end s (head_end s at))
