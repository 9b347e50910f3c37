-- `flow::whole`: the length field is that of the first bytes, whatever follows.
use Rattle.flow.proofs.Taking.{short, outside, between}
use Rattle.flow.proofs.whole.Goals as goal

pub returns-then-n-lt4 : goal.returns-then-n-lt4
returns-then-n-lt4 c = short c.args.table.now c.args.n c.if-n-lt4.true

pub returns-then-size-lt-LEAST : goal.returns-then-size-lt-LEAST
returns-then-size-lt-LEAST c =
    outside c.args.table.now c.args.n (λ i. (c.type_inv.table i).fits) _ c.length_field-size.ensures c.if-n-lt4.false
    c.then-size-lt-LEAST.either

pub returns : goal.returns
returns c =
    between c.args.table.now c.args.n (λ i. (c.type_inv.table i).fits) _ c.length_field-size.ensures c.if-n-lt4.false
    c.if-size-lt-LEAST.false c.if-size-gt-TABLE.false
