use borrow.Author.Rules.{rules}
use Rattle.steps.proofs.Applying.{promotes-none, promotes-full, promotes-unmet, promotes-made}
use Rattle.steps.proofs.promote.Goals as goal

pub returns-in_err-o : goal.returns-in_err-o
returns-in_err-o c = promotes-none c.oldest.result c.oldest.ensures.finds c.in_err-o.ensures.ok_part (search rules)

pub returns-then-thread_count-ge-THREADS : goal.returns-then-thread_count-ge-THREADS
returns-then-thread_count-ge-THREADS c =
    promotes-full c.oldest.result c.oldest.ensures.finds c.in_ok-o.o c.in_ok-o.ensures.ok_part c.thread_count.ensures (search rules)

pub returns-in_default : goal.returns-in_default
returns-in_default c =
    promotes-unmet c.oldest.result c.oldest.ensures.finds c.in_ok-o.o c.in_ok-o.ensures.ok_part
    c.thread_count.ensures _ _ c.child.result (search rules) c.child.ensures (λ d. c.in_default.not-Ok d)

pub returns : goal.returns
returns c =
    promotes-made c.oldest.result c.oldest.ensures.finds c.in_ok-o.o c.in_ok-o.ensures.ok_part
    c.thread_count.ensures _ _ c.child.result (search rules) c.child.ensures c.in-Ok.is c.spawn.ensures
