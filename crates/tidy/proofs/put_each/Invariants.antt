-- `tidy::put_each` meets its contract.
use Rattle.tidy.proofs.Lists.{ListLeft}
use Rattle.tidy.proofs.put_each.Given as goal

abbrev pub invariant-loop-i : goal.invariant-loop-i
invariant-loop-i g l = ListLeft (goal.F-post g l.put) l.list l.initial.out l.k l.out l.m l.i
