use Rattle.steps.proofs.Writing.{was-opened, not_opened}
use Rattle.steps.proofs.open_one.Goals as goal

pub returns-then-n-lt-CALLS : goal.returns-then-n-lt-CALLS
returns-then-n-lt-CALLS c =
    was-opened c.requires _ _ c.opened-n.ensures
    c.open_call.ensures c.jump.ensures

pub returns-else-n-lt-CALLS : goal.returns-else-n-lt-CALLS
returns-else-n-lt-CALLS c = not_opened _ _ c.opened-n.ensures c.if-n-lt-CALLS.false
