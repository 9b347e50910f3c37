-- `flow::choose`: the choice is made and the run goes on, or it is refused and stops.
use Rattle.std.proofs.Common.{refl}
use Rattle.flow.proofs.Putting.{goes_on, stops}
use Rattle.flow.proofs.choose.Goals as goal

pub returns-in-Ok : goal.returns-in-Ok
returns-in-Ok c =
    goes_on _ _ _ _ _ _ _ _ _ _ c.choice-made.result c.choice-made.ensures _ c.choice-k.ensures _ _ c.in-Ok.is
    refl c.run_at.ensures

pub returns-in-Err : goal.returns-in-Err
returns-in-Err c =
    stops _ _ _ _ _ _ _ _ _ _ c.choice-made.result c.choice-made.ensures _ c.choice-k.ensures _ c.in-Err.is
    c.run_at-in-Err.ensures
