-- `tidy::put_spawns` meets its contract.
use Rattle.std.proofs.Common.{rules}
use Rattle.tidy.specs.Tables.{each_spawn}
use Rattle.tidy.proofs.put_spawns.Goals as goal

pub returns : goal.returns
returns c = record { is = λ P F xs w e l. c.put_each.ensures.is (each_spawn c.args.numbers.now F) xs (λ x d k r d' j p. search rules) l }
