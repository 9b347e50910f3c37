-- `beats::endow` meets its contract.
use Rattle.beats.proofs.Purses.{endows-purse, endows-none}
use Rattle.beats.proofs.endow.Goals as goal

pub returns-then-i-thread_count : goal.returns-then-i-thread_count
returns-then-i-thread_count c =
    endows-purse c.args.ws.now c.args.i c.thread_count.ensures c.args.e c.if-i-thread_count.true c.set_purse.ensures

pub returns-else-i-thread_count : goal.returns-else-i-thread_count
returns-else-i-thread_count c = endows-none c.args.ws.now c.args.i c.thread_count.ensures c.args.e c.if-i-thread_count.false
