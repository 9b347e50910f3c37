use Rattle.steps.proofs.Writing.{was-popped, not_popped}
use mathlib.Core.Path.{refl}
use Rattle.steps.proofs.pop.Goals as goal

pub returns-then-frame_count-gt1 : goal.returns-then-frame_count-gt1
returns-then-frame_count-gt1 c =
    was-popped _ c.args.entry _ c.pop_frame.ensures c.requires.1 refl
    c.arrive.ensures

pub returns-else-frame_count-gt1 : goal.returns-else-frame_count-gt1
returns-else-frame_count-gt1 c = not_popped _ c.args.entry _ c.frame_count.ensures c.if-frame_count-gt1.false
