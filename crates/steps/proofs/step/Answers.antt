use borrow.Author.Rules.{rules}
use mir.Syntax.{w32}
use mir.Val.{SFits}
use mir.Facts.{to_z-of_z}
use Rattle.steps.proofs.Applying.{act-is, steps-refused, steps-bind, steps-enter, steps-open, steps-close, steps-full, steps-push}
use Rattle.steps.proofs.Applying.{steps-ended, steps-pop, steps-waits, steps-join}
use Rattle.steps.proofs.step.Goals as goal

pub returns-in_err-x : goal.returns-in_err-x
returns-in_err-x c = steps-refused c.newest_start-k.ensures.is _ _ c.act.result c.act.ensures c.in_err-x.was (search rules)

pub returns-in-Bind : goal.returns-in-Bind
returns-in-Bind c =
    let f : SFits w32 c.in-Bind.v = search rules in
    steps-bind c.newest_start-k.ensures.is _ _ c.act.result c.act.ensures (act-is c.in_ok-x.was c.in-Bind.is)
    (rw (← to_z-of_z f) c.set.ensures)

pub returns-in-Enter : goal.returns-in-Enter
returns-in-Enter c =
    steps-enter c.newest_start-k.ensures.is _ _ c.act.result c.act.ensures (act-is c.in_ok-x.was c.in-Enter.is)
    c.arrive.ensures

pub returns-in-Open : goal.returns-in-Open
returns-in-Open c =
    steps-open c.newest_start-k.ensures.is _ _ c.act.result c.act.ensures (act-is c.in_ok-x.was c.in-Open.is)
    c.open_one.ensures

pub returns-in-Close : goal.returns-in-Close
returns-in-Close c =
    steps-close c.newest_start-k.ensures.is _ _ c.act.result c.act.ensures (act-is c.in_ok-x.was c.in-Close.is)
    c.shut.ensures

pub returns-in_err-calling-in-Push : goal.returns-in_err-calling-in-Push
returns-in_err-calling-in-Push c =
    steps-full c.newest_start-k.ensures.is _ _ c.act.result c.act.ensures (act-is c.in_ok-x.was c.in-Push.is)
    c.calling.result c.calling.ensures c.in_err-calling-in-Push.was (search rules)

pub returns-in_ok-calling-in-Push : goal.returns-in_ok-calling-in-Push
returns-in_ok-calling-in-Push c =
    steps-push c.newest_start-k.ensures.is _ _ c.act.result c.act.ensures (act-is c.in_ok-x.was c.in-Push.is)
    c.calling.result c.calling.ensures c.in_ok-calling-in-Push.was c.push.ensures

pub returns-in_err-entry-in-Pop : goal.returns-in_err-entry-in-Pop
returns-in_err-entry-in-Pop c =
    steps-ended c.newest_start-k.ensures.is _ _ c.act.result c.act.ensures (act-is c.in_ok-x.was c.in-Pop.is)
    (search rules) c.returning.result c.returning.ensures c.in_err-entry-in-Pop.was (search rules)

pub returns-in_ok-entry-in-Pop : goal.returns-in_ok-entry-in-Pop
returns-in_ok-entry-in-Pop c =
    steps-pop c.newest_start-k.ensures.is _ _ c.act.result c.act.ensures (act-is c.in_ok-x.was c.in-Pop.is)
    (search rules) c.returning.result c.returning.ensures c.in_ok-entry-in-Pop.was c.pop.ensures

pub returns-in_err-entry-in-Join : goal.returns-in_err-entry-in-Join
returns-in_err-entry-in-Join c =
    steps-waits c.newest_start-k.ensures.is _ _ c.act.result c.act.ensures (act-is c.in_ok-x.was c.in-Join.is)
    c.function-f.ensures c.joining.result _ c.joining.ensures c.in_err-entry-in-Join.was (search rules)

pub returns-in_ok-entry-in-Join : goal.returns-in_ok-entry-in-Join
returns-in_ok-entry-in-Join c =
    steps-join c.newest_start-k.ensures.is _ _ c.act.result c.act.ensures (act-is c.in_ok-x.was c.in-Join.is)
    c.function-f.ensures c.joining.result _ c.joining.ensures c.in_ok-entry-in-Join.was c.unite.ensures
