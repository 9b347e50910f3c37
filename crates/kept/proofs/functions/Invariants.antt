-- `kept::functions` meets its contract.
use Rattle.kept.proofs.Ends.{FunctionsLeft}
use Rattle.kept.proofs.functions.Given as goal

abbrev pub invariant-loop-i : goal.invariant-loop-i
invariant-loop-i l = FunctionsLeft l.s l.places l.transfers l.list l.i
