-- `code::statements_end`: where the statements that are passed end.
use Rattle.std.proofs.Common.{◌≡◌}
use Rattle.code.specs.Code.{statements_end}
use Rattle.code.proofs.statements_end.Given as goal

abbrev pub invariant-statements : goal.invariant-statements
invariant-statements l = l.end ≡ statements_end l.s l.at l.counter
