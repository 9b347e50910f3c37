use borrow.Author.Rules.{rules}
use mathlib.Core.Path.{refl}
use Rattle.steps.proofs.Deciding.{returns-ended, returns-entered}
use Rattle.steps.proofs.returning.Goals as goal

pub returns-then-frame_count-lt2 : goal.returns-then-frame_count-lt2
returns-then-frame_count-lt2 c = returns-ended c.frame_count.ensures (search rules)

pub returns : goal.returns
returns c =
    returns-entered c.frame_count.ensures _ (search rules) c.requires.1 refl c.function.ensures c.block.ensures c.enter.ensures
