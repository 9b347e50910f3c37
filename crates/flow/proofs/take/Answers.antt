-- `flow::take`: the byte is stored; the table is then whole, or not yet.
use Rattle.std.proofs.Common.{rules}
use Rattle.flow.proofs.Standing.{take-full, take_open, take_more}
use Rattle.flow.proofs.take.Goals as goal

pub returns-then-n-ge-TABLE : goal.returns-then-n-ge-TABLE
returns-then-n-ge-TABLE c = take-full _ _ _ _ _ _ c.if-n-ge-TABLE.true

pub returns-then-whole : goal.returns-then-whole
returns-then-whole c =
    take_open _ _ _ _ _ _ (search rules) c.if-n-ge-TABLE.false _ _ _ _ _ _ c.whole.ensures c.if-whole.true
    c.front.ensures c.«open».ensures

pub returns : goal.returns
returns c =
    take_more _ _ _ _ _ _ (search rules) c.if-n-ge-TABLE.false _ _ c.whole.ensures c.if-whole.false
    c.run_at.ensures
