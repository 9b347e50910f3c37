-- `verifier::spawns_all` meets its contract.
use Rattle.verifier.proofs.Ranks.{SpawnsLeft}
use Rattle.verifier.proofs.spawns_all.Given as goal

abbrev pub invariant-loop-k : goal.invariant-loop-k
invariant-loop-k l = SpawnsLeft l.s l.places l.f l.k
