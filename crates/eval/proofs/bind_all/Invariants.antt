-- `eval::bind_all` meets its contract.
use mathlib.Core.Path.{◌≡◌}
use lib.ListN.{length}
use Rattle.eval.proofs.Binds.{BindingAt}
use Rattle.eval.proofs.bind_all.Given as goal

abbrev pub invariant-loop-i : goal.invariant-loop-i
invariant-loop-i l = (length l.ws ≡ length l.initial.ws) × BindingAt l.s l.initial.p l.n l.values l.initial.ws l.k l.ws l.p l.i
