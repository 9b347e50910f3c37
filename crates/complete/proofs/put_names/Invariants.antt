-- `complete::put_names` : what is left are the lower digits.
use Prim.Native.Nat.{◌-◌}
use Rattle.scopings.specs.Words.{digits}
use Rattle.puts.proofs.Left.{Left}
use Rattle.complete.proofs.put_names.Given as goal

abbrev pub invariant-names : goal.invariant-names
invariant-names l = Left l.initial.out l.k (digits l.count l.names) l.out l.m (digits (l.count - l.counter) l.rest)
