-- `put_values` meets its contract.
use borrow.Author.Rules.{rules}
use Rattle.mezdaulk.proofs.Written.{puts}
use Rattle.mezdaulk.proofs.put_values.Goals as goal

pub returns : goal.returns
returns c =
    puts c.args.m.count c.args.m.values c.args.values.now (search rules) c.told-values c.min-n.ensures c.value.ensures (search rules)
