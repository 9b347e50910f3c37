-- `schedule::schedule` meets its contract: what is not lent is refused, and else the run is reported.
use borrow.Author.Rules.{rules}
use mathlib.Core.Path.{◌≡◌}
use Rattle.lend.proofs.Lending.{given-pool}
use Rattle.schedule.proofs.Lending.{schedule-refused, schedule-run}
use Rattle.schedule.proofs.schedule.Goals as goal

pub unwrap-ws-requires : goal.unwrap-ws-requires
unwrap-ws-requires c =
    let h = (given-pool _ _ _ _ c.none-places.ensures c.in_default.ensures).long in
    search rules

pub returns-in-Err : goal.returns-in-Err
returns-in-Err c = schedule-refused _ c.none-places.ensures _ c.in-Err.ensures

pub returns : goal.returns
returns c =
    let e : c.unwrap-ws.result.now ≡ c.args.pool.now = search rules in
    schedule-run _ c.none-places.ensures c.in_default.ensures c.run.result _ (rw (← e) c.run.ensures) c.ended.ensures
