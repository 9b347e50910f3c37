-- `kept::spawns` meets its contract.
use Rattle.numbering.specs.Mentions.{spawns_in}
use Rattle.kept.specs.Kept.{Known}
use Rattle.kept.proofs.Loops.{Blocks}
use Rattle.kept.proofs.spawns.Given as goal

abbrev pub invariant-loop-i : goal.invariant-loop-i
invariant-loop-i l = Blocks (Known l.s l.places l.transfers) l.f l.blocks spawns_in l.initial.list l.list l.i
