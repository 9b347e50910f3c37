use borrow.Author.Rules.{rules}
use Rattle.steps.proofs.Deciding.{calls-room, calls-full}
use Rattle.steps.proofs.calling.Goals as goal

pub returns-then-frame_count-lt-FRAMES : goal.returns-then-frame_count-lt-FRAMES
returns-then-frame_count-lt-FRAMES c = calls-room c.frame_count.ensures (search rules)

pub returns-else-frame_count-lt-FRAMES : goal.returns-else-frame_count-lt-FRAMES
returns-else-frame_count-lt-FRAMES c = calls-full c.frame_count.ensures (search rules)
