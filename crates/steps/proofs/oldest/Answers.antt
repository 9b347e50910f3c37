use borrow.Author.Rules.{rules}
use Rattle.steps.proofs.Applying.{passed_none, passed-more, finds-holder, finds-none}
use Rattle.steps.proofs.oldest.Goals as goal

pub loop-j-init : goal.loop-j-init
loop-j-init c = passed_none _ _

pub returns-then-p-opened-clause-finds : goal.returns-then-p-opened-clause-finds
returns-then-p-opened-clause-finds c =
    finds-holder c.frame_start-k.ensures c.opened.ensures c.promoted-p.ensures c.loop-j.invariant c.call.ensures (search rules)

pub loop-j-preserved : goal.loop-j-preserved
loop-j-preserved c =
    passed-more c.frame_start-k.ensures c.opened.ensures c.promoted-p.ensures c.loop-j.invariant c.if-p-opened.false

pub returns-clause-finds : goal.returns-clause-finds
returns-clause-finds c = finds-none _ _ _ c.loop-j.invariant (search rules)
