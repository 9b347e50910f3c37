-- `infer::nesting_needs` meets its contract.
use Prim.Native.Nat.{◌-◌}
use Rattle.infer.proofs.Owning.{NestingLeft}
use Rattle.infer.proofs.nesting_needs.Given as goal

abbrev pub invariant-names : goal.invariant-names
invariant-names l = NestingLeft l.s l.places l.f l.fn.n l.initial.more (l.end - l.counter) l.names l.more
