-- `code::after`: the sum, as a machine's number.
use Rattle.std.proofs.Common.{rules}
use Rattle.code.specs.Bytes.{past}
use Rattle.code.proofs.after.Goals as goal

pub returns : goal.returns
unfolding past
returns c = search rules
