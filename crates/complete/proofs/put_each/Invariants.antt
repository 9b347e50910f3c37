-- `complete::put_each` meets its contract.
use Rattle.complete.proofs.Lists.{EachLeft}
use Rattle.complete.proofs.put_each.Given as goal

abbrev pub invariant-loop-i : goal.invariant-loop-i
invariant-loop-i g l = EachLeft (goal.F-post g l.put) l.n l.initial.out l.k l.out l.m l.i
