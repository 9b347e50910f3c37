-- `kept::blocks` meets its contract.
use Rattle.kept.proofs.Ends.{BlocksLeft}
use Rattle.kept.proofs.blocks.Given as goal

abbrev pub invariant-loop-i : goal.invariant-loop-i
invariant-loop-i l = BlocksLeft l.s l.transfers l.f l.list l.i
