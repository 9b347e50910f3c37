use borrow.Author.Rules.{rules}
use Rattle.steps.proofs.Writing.{was-united, not-united}
use Rattle.steps.proofs.unite.Goals as goal

pub returns-then-i-thread_count : goal.returns-then-i-thread_count
returns-then-i-thread_count c =
    was-united _ c.args.entry _ c.remove_thread.ensures
    c.requires.1 (search rules)
    c.close_last.ensures c.arrive.ensures

pub returns-else-i-thread_count : goal.returns-else-i-thread_count
returns-else-i-thread_count c = not-united _ c.args.entry _ c.thread_count.ensures c.if-i-thread_count.false
