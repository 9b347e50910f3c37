-- `verifier::blocks_all` meets its contract.
use Rattle.verifier.proofs.Ranks.{BlocksLeft}
use Rattle.verifier.proofs.blocks_all.Given as goal

abbrev pub invariant-loop-b : goal.invariant-loop-b
invariant-loop-b l = BlocksLeft l.s l.places l.f l.b-counter
