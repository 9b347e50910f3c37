-- `infer::grow_all` meets its contract.
use Rattle.infer.proofs.Growing.{GrowsLeft}
use Rattle.infer.proofs.grow_all.Given as goal

abbrev pub invariant-loop-b : goal.invariant-loop-b
invariant-loop-b l = GrowsLeft l.s l.transfers l.f l.n l.bounds l.initial.words l.words l.changed l.b
