-- `table::grammar::byte`: a byte that is missing, too low or too high, or in range.
use native.Mathlib.Omega.{arith}
use borrow.Author.Rules.{rules}
use Rattle.table.proofs.Laws.{byte-missing, byte_low, byte_high, byte-found}
use Rattle.table.proofs.grammar.byte.Goals.{then-b-lo-via-then-b-lo, then-b-lo-via-else-b-lo+then-hi-b}
use Rattle.table.proofs.grammar.byte.Goals as goal

pub returns-in_default : goal.returns-in_default
returns-in_default c = byte-missing _ _ _ _ (grind arith)

pub returns-then-b-lo : goal.returns-then-b-lo
returns-then-b-lo c =
    elim c.then-b-lo.branch [
      | then-b-lo-via-then-b-lo w ↦ byte_low _ _ _ _ _ (grind arith) (search rules) w.if-b-lo.true
      | then-b-lo-via-else-b-lo+then-hi-b w ↦ byte_high _ _ _ _ _ (grind arith) (search rules) w.if-b-lo.false w.if-hi-b.true
    ]

pub returns : goal.returns
returns c = byte-found _ _ _ _ _ (grind arith) (search rules) c.if-b-lo.false c.if-hi-b.false
