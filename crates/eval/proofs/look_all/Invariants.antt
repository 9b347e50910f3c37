-- `eval::look_all` meets its contract.
use Rattle.pool.specs.InPlace.{frame_at}
use Rattle.eval.proofs.Lists.{Read}
use Rattle.eval.proofs.look_all.Given as goal

abbrev pub invariant-loop-i : goal.invariant-loop-i
invariant-loop-i l = Read (frame_at l.ws l.k) l.s l.initial.p l.n l.initial.out l.out l.p l.i
