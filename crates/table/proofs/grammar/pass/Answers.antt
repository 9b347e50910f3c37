-- `table::grammar::pass`: no bytes, all there, or one missing.
use native.Mathlib.Omega.{arith}
use Rattle.table.proofs.Laws.{all_there, one-missing, many-none}
use Rattle.table.proofs.grammar.pass.Goals as goal

pub returns-then-n-eq0 : goal.returns-then-n-eq0
returns-then-n-eq0 c = many-none _ _ _ _ _ c.if-n-eq0.true

pub returns-then-n-left : goal.returns-then-n-left
returns-then-n-left c = all_there _ (λ i. grind arith) _ _ (omega arith)

pub returns-else-n-left : goal.returns-else-n-left
returns-else-n-left c = one-missing _ (λ i. grind arith) _ _ (omega arith) (omega arith)
