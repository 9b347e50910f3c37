-- `starts::lines`: the loop has put the lines of the threads before this one.
use native.Mathlib.Omega.{arith}
use Rattle.puts.proofs.Laws.{same}
use Rattle.starts.proofs.Turns.{no-turn, one_more, all-turns}
use Rattle.starts.proofs.Printed.{by-threads}
use Rattle.starts.proofs.lines.Goals as goal

pub loop-thread-init : goal.loop-thread-init
loop-thread-init c = no-turn _

pub loop-thread-preserved : goal.loop-thread-preserved
loop-thread-preserved c = one_more _ _ c.loop-thread.invariant c.thread_lines-k.ensures

pub returns : goal.returns
returns c = same (all-turns _ c.loop-thread.invariant (omega arith)) by-threads
