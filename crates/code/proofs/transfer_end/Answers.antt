-- `code::transfer_end` meets its contract.
use Rattle.code.specs.Code.{transfer_end}
use Rattle.code.proofs.KindLaws.{end-kind}
use Rattle.code.proofs.transfer_end.Goals as goal

pub returns : goal.returns
unfolding transfer_end
returns c = rw (c.kind_end.ensures, c.kind_at.ensures, c.after.ensures) (end-kind _ _ _)
