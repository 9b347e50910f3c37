-- `code::half`: the first byte is the high one.
use Rattle.code.specs.Bytes.{half_at}
use Rattle.code.proofs.half.Goals as goal

pub returns : goal.returns
unfolding half_at
returns c = cc
