-- `infer::follow` meets its contract.
use Prim.Native.Nat.{◌-◌}
use Rattle.infer.proofs.Marking.{FollowsLeft}
use Rattle.infer.proofs.follow.Given as goal

abbrev pub invariant-named : goal.invariant-named
invariant-named l =
    FollowsLeft l.s l.first l.count l.fn.n l.initial.words l.words l.changed l.next (l.count - l.counter)
