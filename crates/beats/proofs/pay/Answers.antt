-- `beats::pay` meets its contract.
use Rattle.beats.proofs.Paying.{pays-poor, pays-refused, pays-made}
use Rattle.beats.proofs.pay.Goals as goal

pub returns-then-purse_at-eq0 : goal.returns-then-purse_at-eq0
returns-then-purse_at-eq0 c = pays-poor c.args.thread c.purse_at.result c.purse_at.ensures c.if-purse_at-eq0.true

pub returns-then-is_err : goal.returns-then-is_err
returns-then-is_err c =
    pays-refused c.args.thread c.purse_at.result c.purse_at.ensures c.choice.ensures c.is_err.ensures.value c.if-is_err.true

pub returns : goal.returns
returns c =
    pays-made c.args.thread c.purse_at.result c.purse_at.ensures c.choice.ensures c.if-purse_at-eq0.false c.is_err.ensures.value
    c.if-is_err.false c.share.ensures
