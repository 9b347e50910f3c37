-- `lines::result`: main's values, or that they are open.
use Rattle.lines.proofs.Spelt.{given, left_open}
use Rattle.lines.proofs.result.Goals.{in-Some, in-None}
use Rattle.lines.proofs.result.Goals as goal

pub returns : goal.returns
returns c =
    elim c.match-main.branch [
      | in-Some w ↦
          rw w.in-Some.is
          (given _ _ _ _ _ _ _ _ w.in-Some.v c.bytes-k.ensures w.values-k.ensures (rw (w.out-is, w.k-is) at c.line.ensures))
      | in-None w ↦
          rw w.in-None.is
          (left_open _ _ _ _ _ _ _ _ c.bytes-k.ensures w.bytes-k-in-None.ensures (rw (w.out-is, w.k-is) at c.line.ensures))
    ]
