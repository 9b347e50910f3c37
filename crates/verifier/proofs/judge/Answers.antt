-- `verifier::judge` meets its contract.
use Rattle.verifier.proofs.Ranks.{judge-unknown, judge-on, judge-main}
use Rattle.verifier.proofs.judge.Goals as goal

pub returns-in_default : goal.returns-in_default
returns-in_default c = search judge-unknown

pub returns-then-n-ne0 : goal.returns-then-n-ne0
returns-then-n-ne0 c = search judge-main

pub returns : goal.returns
returns c = search judge-on
