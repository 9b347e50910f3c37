use Rattle.steps.proofs.Deciding.{brings-deep, brings-given}
use Rattle.steps.proofs.returned.Goals as goal

pub returns-then-frame_count-ne1 : goal.returns-then-frame_count-ne1
returns-then-frame_count-ne1 c = brings-deep c.frame_count.ensures _ c.if-frame_count-ne1.true

pub returns : goal.returns
returns c =
    brings-given c.frame_count.ensures _ _ c.giving.result c.if-frame_count-ne1.false
    c.frame_start.ensures c.giving.ensures
