use borrow.Author.Rules.{rules}
use Rattle.steps.proofs.Choosing.{chooses-kind, chooses_none, chooses-step, chooses-promote}
use Rattle.steps.proofs.choice.Goals as goal

pub returns-then-kind-gt1 : goal.returns-then-kind-gt1
returns-then-kind-gt1 c = chooses-kind c.if-kind-gt1.true

pub returns-then-thread_count-i : goal.returns-then-thread_count-i
returns-then-thread_count-i c = chooses_none (search rules) c.thread_count.ensures c.if-thread_count-i.true

pub returns-then-kind-eq0 : goal.returns-then-kind-eq0
returns-then-kind-eq0 c =
    chooses-step _ _ c.thread_count.ensures (search rules)
    c.if-kind-eq0.true c.step.ensures

pub returns-else-kind-eq0 : goal.returns-else-kind-eq0
returns-else-kind-eq0 c =
    chooses-promote _ _ c.thread_count.ensures (search rules) (search rules)
    c.promote.ensures
