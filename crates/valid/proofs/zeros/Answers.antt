-- `valid::zeros`: the words before i are 0 where their bits are.
use native.Mathlib.Omega.{arith}
use borrow.Author.Rules.{sfits_of}
use Rattle.valid.proofs.Steps.{zeros-turn, zeros-end}
use Rattle.valid.proofs.zeros.Goals as goal

pub loop-w-preserved : goal.loop-w-preserved
loop-w-preserved c = search (zeros-turn, sfits_of)

pub returns : goal.returns
returns c = zeros-end c.args.ws.now c.loop-w.w-index c.loop-w.bits c.loop-w.invariant (omega arith)
