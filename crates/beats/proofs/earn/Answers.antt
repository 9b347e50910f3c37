-- `beats::earn` meets its contract.
use Rattle.beats.proofs.Purses.{earns-purse}
use Rattle.beats.proofs.earn.Goals as goal

pub returns : goal.returns
returns c =
    let a = c.args in
    earns-purse a.i a.pace.n a.pace.c a.more c.purse_at-e.result c.arrived.result c.work_more.result c.purse_at-e.ensures c.arrived.ensures
    c.work_more.ensures c.endow.ensures
