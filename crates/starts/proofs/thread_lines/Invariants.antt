-- `starts::thread_lines`: the loop has put the lines of the frames before this one.
use Rattle.model.specs.Pool.{start_of}
use Rattle.puts.specs.Puts.{Puts}
use Rattle.starts.specs.Starts.{in_turn, line}
use Rattle.starts.proofs.thread_lines.Given as goal

abbrev pub invariant-loop-frame : goal.invariant-loop-frame
invariant-loop-frame l = Puts l.initial.out l.at (in_turn l.frame (λ j. line (start_of l.thread j))) l.k l.out
