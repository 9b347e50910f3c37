-- `beats::run` meets its contract.
use borrow.Author.Rules.{rules}
use mathlib.Core.Path.{◌≡◌}
use Rattle.beats.proofs.Lending.{refused-at, given-at, run-unlent, run_lent}
use Rattle.beats.proofs.run.Goals as goal

pub unwrap-ws-requires : goal.unwrap-ws-requires
unwrap-ws-requires c = let h = (given-at _ _ _ _ _ _ c.none-places.ensures _ c.in-Ok.ensures).lending.long in search rules

pub returns-in-Err : goal.returns-in-Err
returns-in-Err c = run-unlent _ _ _ _ _ (refused-at _ _ _ _ _ _ c.none-places.ensures _ c.in-Err.ensures) _

pub returns-in-Ok : goal.returns-in-Ok
returns-in-Ok c =
    let e : c.unwrap-ws.result.now ≡ c.args.pool.now = search rules in
    run_lent (given-at _ _ _ _ _ _ c.none-places.ensures _ c.in-Ok.ensures) c.beats.result (rw (← e) c.beats.ensures)
