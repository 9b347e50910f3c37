-- `words::copy` meets its contract.
use native.Mathlib.Omega.{arith}
use Rattle.words.proofs.Moves.{all-pasted}
use Rattle.words.proofs.copy.Goals as goal

pub returns : goal.returns
returns c = all-pasted _ _ _ _ _ c.copy_from_slice.ensures.after (omega arith)
