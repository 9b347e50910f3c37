use Rattle.steps.proofs.Stepping.{Idle}
use Rattle.steps.proofs.first.Given as goal

abbrev pub invariant-loop-i : goal.invariant-loop-i
invariant-loop-i l = Idle l.s l.places l.initial.ws l.ws l.i
