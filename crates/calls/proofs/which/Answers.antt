-- `calls::which` meets its contract.
use borrow.Author.Rules.{rules}
use mathlib.Core.Path.{◌≡◌}
use Rattle.lend.proofs.Lending.{refused-pool, given-pool}
use Rattle.calls.proofs.Lent.{which-refused, which-given}
use Rattle.calls.proofs.which.Goals as goal

pub returns-in_err-pool : goal.returns-in_err-pool
returns-in_err-pool c =
    which-refused _ _ c.in_err-pool.field-0.0 (refused-pool _ _ _ _ c.none-places.ensures _ c.in_err-pool.ensures)
    (search rules)

pub unwrap-ws-requires : goal.unwrap-ws-requires
unwrap-ws-requires c = let h = (given-pool _ _ _ _ c.none-places.ensures c.in_ok-pool.ensures).long in search rules

pub returns : goal.returns
returns c =
    let e : c.unwrap-ws.result.now ≡ c.args.pool.now = search rules in
    which-given (given-pool _ _ _ _ c.none-places.ensures c.in_ok-pool.ensures) c.can_step.result (rw (← e) c.can_step.ensures)
