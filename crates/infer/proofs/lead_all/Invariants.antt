-- `infer::lead_all` meets its contract.
use Rattle.infer.proofs.Leading.{LeadsLeft}
use Rattle.infer.proofs.lead_all.Given as goal

abbrev pub invariant-loop-b : goal.invariant-loop-b
invariant-loop-b l = LeadsLeft l.s l.transfers l.f l.n l.initial.words l.words l.changed l.b
