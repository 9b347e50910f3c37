-- `schedule::run` meets its contract: the next choice is made or refused, or none is left.
use borrow.Author.Rules.{rules}
use Rattle.schedule.proofs.Going.{going_start, one-made, one-refused, none-left}
use Rattle.schedule.proofs.run.Goals as goal

pub loop-made-init : goal.loop-made-init
loop-made-init c = going_start

pub loop-made-preserved : goal.loop-made-preserved
loop-made-preserved c =
    one-made _ _ c.loop-made.invariant _ c.loop-made-test.true c.choice.result c.choice.ensures c.in_default.not-Err

pub returns-in-Err : goal.returns-in-Err
returns-in-Err c = one-refused _ _ c.loop-made.invariant _ c.loop-made-test.true c.choice.result c.choice.ensures c.in-Err.is

pub returns : goal.returns
returns c = none-left _ _ c.loop-made.invariant (search rules)
