use mathlib.Core.Path.{refl}
use Rattle.steps.proofs.Writing.{was-pushed, not-pushed}
use Rattle.steps.proofs.push.Goals as goal

pub returns-then-frame_count-lt-FRAMES : goal.returns-then-frame_count-lt-FRAMES
returns-then-frame_count-lt-FRAMES c =
    was-pushed c.args.g c.args.n c.args.b c.args.out.now c.requires.1 refl
    c.push_frame.ensures c.begin.ensures c.jump.ensures

pub returns-else-frame_count-lt-FRAMES : goal.returns-else-frame_count-lt-FRAMES
returns-else-frame_count-lt-FRAMES c =
    let s = c.args in
    not-pushed s.g s.n s.b s.out.now c.frame_count.ensures c.if-frame_count-lt-FRAMES.false
