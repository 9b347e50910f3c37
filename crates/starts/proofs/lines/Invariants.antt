-- `starts::lines`: the loop has put the lines of the threads before this one.
use Rattle.puts.specs.Puts.{Puts}
use Rattle.starts.specs.Starts.{in_turn}
use Rattle.starts.proofs.Printed.{of_thread}
use Rattle.starts.proofs.lines.Given as goal

abbrev pub invariant-loop-thread : goal.invariant-loop-thread
invariant-loop-thread l = Puts l.initial.out 0 (in_turn l.thread of_thread) l.k l.out
