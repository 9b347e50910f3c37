-- `tidy::put_blocks` meets its contract.
use Rattle.std.proofs.Common.{rules}
use Rattle.tidy.specs.Tables.{each_block}
use Rattle.tidy.proofs.put_blocks.Goals as goal

pub returns : goal.returns
returns c = record { is = λ P F xs w e l. c.put_each.ensures.is (each_block c.args.numbers.now F) xs (λ x d k r d' j p. search rules) l }
