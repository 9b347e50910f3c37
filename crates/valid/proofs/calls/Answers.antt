-- `valid::calls`: the words before i are spawn calls.
use native.Mathlib.Omega.{arith}
use Rattle.valid.specs.Judged.{is_call}
use Rattle.valid.proofs.Lookups.{call-there, call-gone}
use Rattle.valid.proofs.Steps.{all-goes, all-fails, all-ends}
use Rattle.valid.proofs.calls.Goals as goal

pub returns-in_default : goal.returns-in_default
returns-in_default c s P h =
    all-fails (is_call P _) _ _ (c.loop-i.invariant s P h) (omega arith)
    (call-gone h _ _ _ _ c.spawn.ensures c.number.ensures.is c.in_default.is)

pub loop-i-preserved : goal.loop-i-preserved
loop-i-preserved c s P h =
    all-goes (is_call P _) _ _ (c.loop-i.invariant s P h) (omega arith)
    (call-there h _ _ _ _ _ c.spawn.ensures c.number.ensures.is c.in-Some.is)

pub returns : goal.returns
returns c s P h = all-ends (is_call P _) c.args.ws.now c.loop-i.i (c.loop-i.invariant s P h) (omega arith)
