-- `starts::thread_lines`: the loop has put the lines of the frames before this one.
use native.Mathlib.Omega.{arith}
use Rattle.starts.proofs.Turns.{put-line, no-turn, one_more, all-turns}
use Rattle.starts.proofs.thread_lines.Goals as goal

pub loop-frame-init : goal.loop-frame-init
loop-frame-init c = no-turn _

pub loop-frame-preserved : goal.loop-frame-preserved
loop-frame-preserved c = one_more _ _ c.loop-frame.invariant (put-line c.frame_start.ensures c.decimal-k.ensures c.line-k.ensures)

pub returns : goal.returns
returns c = all-turns _ c.loop-frame.invariant (omega arith)
