-- `infer::statements` meets its contract.
use mathlib.Core.Path.{◌≡◌}
use Prim.Native.Nat.{◌-◌}
use Rattle.code.specs.Code.{statements_at, statements_end}
use Rattle.infer.specs.Needs.{walked_at}
use Rattle.infer.proofs.statements.Given as goal

abbrev pub invariant-statements : goal.invariant-statements
invariant-statements l = walked_at l.fn.n (statements_at l.s l.at l.count) (statements_end l.s l.at l.count) ≡
    walked_at l.more (statements_at l.s l.next (l.count - l.counter)) (statements_end l.s l.next (l.count - l.counter))
