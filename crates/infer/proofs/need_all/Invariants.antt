-- `infer::need_all` meets its contract.
use Rattle.infer.proofs.Owning.{NeedsLeft}
use Rattle.infer.proofs.need_all.Given as goal

abbrev pub invariant-loop-b : goal.invariant-loop-b
invariant-loop-b l = NeedsLeft l.s l.places l.f l.n l.initial.words l.initial.bounds l.words l.bounds l.b
