-- `bound::statements` meets its contract.
use native.Mathlib.Omega.{arith}
use Rattle.bound.proofs.Exits.{exits}
use Rattle.bound.proofs.Walked.{statements-end, statements-fault, statements-on}
use Rattle.bound.proofs.statements.Goals as goal

pub returns-in_err-bound : goal.returns-in_err-bound
returns-in_err-bound c =
    rw (exits c.from_residual.result c.from_residual.ensures.1)
    (statements-fault _ _ _ _ c.lines.invariant (omega arith) c.statement.ensures c.in_err-bound.was)

pub lines-preserved : goal.lines-preserved
lines-preserved c = statements-on _ _ _ _ c.lines.invariant (omega arith) c.statement.ensures c.in_ok-bound.was (omega arith)

pub returns : goal.returns
returns c = search (arith, statements-end)
