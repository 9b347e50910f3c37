-- `beats::beats`: the beats made so far, their promotions, the words that they leave, and the threads that are left.
use Prim.Native.Nat.{◌*◌, ◌≤◌}
use lib.ListN.{drop}
use Rattle.model.specs.Pool.{most_threads}
use Rattle.beats.proofs.Running.{Going}
use Rattle.beats.proofs.beats.Given as goal

abbrev pub invariant-loop-steps : goal.invariant-loop-steps
invariant-loop-steps l =
    (l.promotions ≤ most_threads * l.steps)
    × Going l.s l.places l.pace.n l.pace.c l.initial.ws l.threads l.steps l.promotions l.ws (drop l.steps l.threads)
