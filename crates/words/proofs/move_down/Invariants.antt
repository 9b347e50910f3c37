-- `words::move_down`: the loop has moved the first i words so far.
use Prim.Native.Nat.{◌≤◌}
use lib.ListN.{drop}
use Rattle.words.proofs.Moves.{Run}
use Rattle.words.proofs.move_down.Given as goal

abbrev pub invariant-loop-i : goal.invariant-loop-i
invariant-loop-i l = (l.i ≤ l.n) × Run l.initial.d l.to (drop l.from l.initial.d) l.d l.i
