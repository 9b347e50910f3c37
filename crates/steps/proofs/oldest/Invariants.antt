use Rattle.steps.proofs.Applying.{Passed}
use Rattle.steps.proofs.oldest.Given as goal

abbrev pub invariant-loop-j : goal.invariant-loop-j
invariant-loop-j l = Passed l.ws l.i l.j
