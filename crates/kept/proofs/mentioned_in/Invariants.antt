-- `kept::mentioned_in` meets its contract.
use Rattle.numbering.specs.Mentions.{functions_in}
use Rattle.kept.specs.Kept.{Known}
use Rattle.kept.proofs.Loops.{Blocks}
use Rattle.kept.proofs.mentioned_in.Given as goal

abbrev pub invariant-loop-i : goal.invariant-loop-i
invariant-loop-i l = Blocks (Known l.s l.places l.transfers) l.f l.kept functions_in l.initial.list l.list l.i
