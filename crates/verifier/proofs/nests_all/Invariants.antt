-- `verifier::nests_all` meets its contract.
use Prim.Native.Nat.{◌-◌}
use Rattle.verifier.proofs.Ranks.{NestsLeft}
use Rattle.verifier.proofs.nests_all.Given as goal

abbrev pub invariant-names : goal.invariant-names
invariant-names l = NestsLeft l.s l.places l.f l.at l.n l.scope l.k (l.n - l.counter)
