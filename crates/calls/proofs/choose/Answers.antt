-- `calls::choose` meets its contract.
use borrow.Author.Rules.{rules}
use mathlib.Core.Path.{◌≡◌}
use Rattle.lend.proofs.Lending.{refused-pool, given-pool}
use Rattle.calls.proofs.Lent.{choose-refused, choose-made, choose-not}
use Rattle.calls.proofs.choose.Goals as goal

pub returns-in_err-pool : goal.returns-in_err-pool
returns-in_err-pool c =
    choose-refused _ _ c.in_err-pool.field-0.0 (refused-pool _ _ _ _ c.none-places.ensures _ c.in_err-pool.ensures)
    _ _ (search rules)

pub unwrap-ws-requires : goal.unwrap-ws-requires
unwrap-ws-requires c = let h = (given-pool _ _ _ _ c.none-places.ensures c.in_ok-pool.ensures).long in search rules

pub returns-in_err-choice : goal.returns-in_err-choice
returns-in_err-choice c =
    let e : c.unwrap-ws.result.now ≡ c.args.pool.now = search rules in
    choose-not (given-pool _ _ _ _ c.none-places.ensures c.in_ok-pool.ensures) c.choice.result (rw (← e) c.choice.ensures)
    c.in_err-choice.was (search rules)

pub returns : goal.returns
returns c =
    let e : c.unwrap-ws.result.now ≡ c.args.pool.now = search rules in
    choose-made (given-pool _ _ _ _ c.none-places.ensures c.in_ok-pool.ensures) c.choice.result (rw (← e) c.choice.ensures)
    c.in_ok-choice.was
