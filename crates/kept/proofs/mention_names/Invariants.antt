-- `kept::mention_names` meets its contract.
use Prim.Native.Nat.{◌-◌}
use Rattle.code.specs.Code.{run}
use Rattle.kept.proofs.Loops.{Rest}
use Rattle.kept.proofs.mention_names.Given as goal

abbrev pub invariant-names : goal.invariant-names
invariant-names l = Rest l.initial.list (run l.s l.at l.count) l.list (run l.s l.next (l.count - l.counter))
