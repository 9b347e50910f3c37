use borrow.Author.Rules.{rules}
use Rattle.steps.proofs.Stepping.{idle-none, idle-more, idle-all, idle-goes}
use Rattle.steps.proofs.first.Goals as goal

pub loop-i-init : goal.loop-i-init
loop-i-init c = idle-none _ _ _

pub returns-then-goes : goal.returns-then-goes
returns-then-goes c =
    idle-goes c.loop-i.invariant c.thread_count-n.ensures (search rules) _ c.goes.result c.if-goes.true c.goes.ensures

pub loop-i-preserved : goal.loop-i-preserved
loop-i-preserved c =
    idle-more c.loop-i.invariant c.thread_count-n.ensures (search rules) c.goes.result c.if-goes.false c.goes.ensures

pub returns : goal.returns
returns c = idle-all c.loop-i.invariant c.thread_count-n.ensures (search rules)
