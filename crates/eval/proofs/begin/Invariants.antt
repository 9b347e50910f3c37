-- `eval::begin` meets its contract.
use mathlib.Core.Path.{◌≡◌}
use lib.ListN.{length}
use Rattle.eval.proofs.Begins.{BegunAt}
use Rattle.eval.proofs.begin.Given as goal

abbrev pub invariant-loop-i : goal.invariant-loop-i
invariant-loop-i l = (length l.ws ≡ length l.initial.ws) × BegunAt l.g l.count l.values l.initial.ws l.k l.ws l.i
