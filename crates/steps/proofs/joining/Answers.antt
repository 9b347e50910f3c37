use borrow.Author.Rules.{rules}
use Rattle.steps.proofs.Deciding.{joins-alone, joins-waits, joins-entered}
use Rattle.steps.proofs.joining.Goals as goal

pub returns-then-m-i : goal.returns-then-m-i
returns-then-m-i c = joins-alone c.thread_count-m.ensures _ (search rules)

pub returns-in_err-n : goal.returns-in_err-n
returns-in_err-n c =
    joins-waits c.thread_count-m.ensures _ _ c.returned.result (search rules) c.returned.ensures _ c.in_err-n.ensures.ok_part
    (search rules)

pub returns : goal.returns
returns c =
    joins-entered c.thread_count-m.ensures _ _ c.returned.result (search rules) c.returned.ensures _ c.in_ok-n.ensures.ok_part
    (search rules) c.enter.ensures
