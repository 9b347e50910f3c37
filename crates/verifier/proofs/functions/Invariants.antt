-- `verifier::functions` meets its contract.
use Rattle.verifier.proofs.Ranks.{FunctionsLeft}
use Rattle.verifier.proofs.functions.Given as goal

abbrev pub invariant-loop-f : goal.invariant-loop-f
invariant-loop-f l = FunctionsLeft l.s l.places l.f-counter
