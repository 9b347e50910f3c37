-- `rules::branch` meets its contract.
use Rattle.rules.proofs.Heads.{handed}
use Rattle.rules.proofs.Steps.{branch-else, branch-then, else-lost, then-lost}
use Rattle.rules.proofs.branch.Goals as goal

pub returns-in_err-enter : goal.returns-in_err-enter
returns-in_err-enter c = let h = handed _ _ c.from_residual.ensures.1 c.in_err-enter.was in search (else-lost)

pub returns-then-v-eq0 : goal.returns-then-v-eq0
returns-then-v-eq0 c = let h = c.in_ok-enter.was in search (branch-else)

pub returns-in_err-enter-2 : goal.returns-in_err-enter-2
returns-in_err-enter-2 c = let h = handed _ _ c.from_residual-in_err-enter-2.ensures.1 c.in_err-enter-2.was in search (then-lost)

pub returns : goal.returns
returns c = let h = c.in_ok-enter-2.was in search (branch-then)
