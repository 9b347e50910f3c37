-- `verifier::check` meets its contract.
use Rattle.bound.proofs.Exits.{exits}
use Rattle.verifier.proofs.Meaning.{check-refused, check-judged}
use Rattle.verifier.proofs.check.Goals as goal

pub returns-in_err-read : goal.returns-in_err-read
returns-in_err-read c =
    rw (exits c.from_residual.result c.from_residual.ensures.1)
    ((check-refused _ _ _ c.read.result c.read.ensures _ c.in_err-read.was).answer c.none-places.ensures)

pub returns : goal.returns
returns c =
    (check-judged _ _ _ c.read.result c.read.ensures c.judge.result c.in_ok-read.was c.judge.ensures).answer
    c.none-places.ensures
