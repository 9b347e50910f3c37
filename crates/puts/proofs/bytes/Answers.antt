-- `puts::bytes`: a first part fits, or nothing does.
use Rattle.std.proofs.Common.{rules}
use Rattle.puts.proofs.Stores.{dropped, stored}
use Rattle.puts.proofs.bytes.Goals.{then-at-out, else-at-out}
use Rattle.puts.proofs.bytes.Goals as goal

pub returns : goal.returns
returns c =
    elim c.if-at-out.branch [
      | then-at-out w ↦
          rw w.out-is
          (stored _ _ _ w.min-n.result (search rules) w.min-n.ensures w.copy.ensures c.saturating_add.ensures)
      | else-at-out w ↦ rw w.out-is (dropped _ _ _ (search rules) c.saturating_add.ensures)
    ]
