-- `code::word`: the first half is the high one.
use Rattle.code.proofs.Numbers.{halves}
use Rattle.code.proofs.word.Goals as goal

pub returns : goal.returns
returns c = search halves
