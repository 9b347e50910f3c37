-- `eval::begin` meets its contract.
use borrow.Author.Rules.{rules, sfits_of}
use native.Mathlib.Omega.{arith}
use mathlib.Core.Path.{refl}
use Rattle.eval.proofs.Begins.{few-le, begins-starts, begins-goes, begins-ends}
use Rattle.eval.proofs.begin.Goals as goal

pub loop-i-init : goal.loop-i-init
loop-i-init c =
    (refl, begins-starts _ _ _ _ _ (few-le _ c.few-count.ensures) (search rules) (omega (arith, c.name.auto.ws, c.requires)))

pub loop-i-preserved : goal.loop-i-preserved
loop-i-preserved c = (search rules, search (begins-goes, sfits_of))

pub returns : goal.returns
returns c =
    begins-ends c.args.n c.requires c.name.ensures c.few-count.ensures c.loop-i.invariant.1
    c.loop-i-test.false
