-- `beats::purse_at` meets its contract.
use Rattle.beats.proofs.Purses.{finds-purse, finds-none}
use Rattle.beats.proofs.purse_at.Goals as goal

pub returns-then-i-thread_count : goal.returns-then-i-thread_count
returns-then-i-thread_count c =
    finds-purse c.args.ws.now c.args.i c.thread_count.ensures c.if-i-thread_count.true c.work.ensures c.tokens.ensures

pub returns : goal.returns
returns c = finds-none c.args.ws.now c.args.i c.thread_count.ensures c.if-i-thread_count.false
