-- `calls::values` meets its contract.
use borrow.Author.Rules.{rules}
use mathlib.Core.Path.{◌≡◌}
use Rattle.lend.proofs.Lending.{refused-pool, given-pool}
use Rattle.calls.proofs.Lent.{values-refused}
use Rattle.calls.proofs.Ended.{main-refused, values-open, values-given}
use Rattle.calls.proofs.values.Goals as goal

pub returns-in_err-pool : goal.returns-in_err-pool
returns-in_err-pool c =
    main-refused c.in_err-pool.field-0.0
    (values-refused _ _ c.in_err-pool.field-0.0 (refused-pool _ _ _ _ c.none-places.ensures _ c.in_err-pool.ensures))
    (search rules)

pub unwrap-ws-requires : goal.unwrap-ws-requires
unwrap-ws-requires c = let h = (given-pool _ _ _ _ c.none-places.ensures c.in_ok-pool.ensures).long in search rules

pub returns-in_default : goal.returns-in_default
returns-in_default c =
    let e : c.unwrap-ws.result.now ≡ c.args.pool.now = search rules in
    values-open (given-pool _ _ _ _ c.none-places.ensures c.in_ok-pool.ensures) c.ended.result (rw (← e) c.ended.ensures) c.in_default.is

pub returns : goal.returns
returns c =
    let e : c.unwrap-ws.result.now ≡ c.args.pool.now = search rules in
    values-given (given-pool _ _ _ _ c.none-places.ensures c.in_ok-pool.ensures) c.ended.result (rw (← e) c.ended.ensures)
    c.in-Some.v c.in-Some.is (search rules)
