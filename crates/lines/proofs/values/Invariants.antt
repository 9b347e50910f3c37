-- `lines::values`: the loop has put the values before this one.
use lib.ListN.{take}
use Rattle.puts.specs.Puts.{Puts}
use Rattle.lines.proofs.Spelt.{spelt}
use Rattle.lines.proofs.values.Given as goal

abbrev pub invariant-loop-x : goal.invariant-loop-x
invariant-loop-x l = Puts l.initial.out l.at (spelt (take l.x-index l.x-items)) l.k l.out
