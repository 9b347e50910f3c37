-- `beats::beats` meets its contract.
use native.Mathlib.Omega.{arith}
use borrow.Author.Rules.{rules}
use Rattle.beats.proofs.Running.{going_start, going-made, going-refused, going-through}
use Rattle.beats.proofs.beats.Goals as goal

pub loop-steps-init : goal.loop-steps-init
loop-steps-init c = (search rules, going_start)

pub returns-in-Err : goal.returns-in-Err
returns-in-Err c =
    going-refused c.one.result c.loop-steps.invariant.1 c.loop-steps-test.true (search rules) c.one.ensures.is c.in-Err.is

pub loop-steps-preserved : goal.loop-steps-preserved
loop-steps-preserved c = (
  omega (arith, c.in-Ok.ensures.few, c.loop-steps.invariant.0),
  going-made c.one.result c.loop-steps.invariant.1 c.loop-steps-test.true (search rules) c.one.ensures.is c.in-Ok.beaten
      (search rules) c.in-Ok.is,
)

pub returns : goal.returns
returns c = going-through c.loop-steps.invariant.1 (search rules)
