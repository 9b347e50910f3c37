-- `flow::open`: by what the check answers.
use Rattle.std.proofs.Common.{rules}
use Rattle.flow.proofs.Opening.{opens-given, opens-refused}
use Rattle.flow.proofs.open.Goals as goal

pub returns-in-Ok : goal.returns-in-Ok
returns-in-Ok c = search (opens-given, rules)

pub returns-in-Err : goal.returns-in-Err
returns-in-Err c =
    opens-refused _ _ _ _ _ _ _ _ c.check_placed.result c.check_placed.ensures _ _ _ _ c.in-Err.is
    c.refusal-k.ensures c.line-k.ensures c.run_at-in-Err.ensures
