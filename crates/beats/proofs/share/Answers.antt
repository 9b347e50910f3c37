-- `beats::share` meets its contract.
use Rattle.beats.proofs.Purses.{shares-purse}
use Rattle.beats.proofs.share.Goals as goal

pub returns : goal.returns
returns c =
    shares-purse c.args.thread c.purse_at-e.result c.keep.result c.hand.result c.purse_at-e.ensures c.keep.ensures c.endow.ensures
    c.hand.ensures c.endow-2.ensures
