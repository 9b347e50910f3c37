-- `beats::beat` meets its contract.
use borrow.Author.Rules.{rules}
use mathlib.Core.Path.{◌≡◌}
use Rattle.beats.proofs.Lending.{refused-at, given-at, beat-unlent, beat-lent}
use Rattle.beats.proofs.beat.Goals as goal

pub returns-in_err-pace : goal.returns-in_err-pace
returns-in_err-pace c =
    beat-unlent _ _ _ _ c.in_err-pace.field-0.0 (refused-at _ _ _ _ _ _ c.none-places.ensures _ c.in_err-pace.ensures) _ (search rules)

pub unwrap-ws-requires : goal.unwrap-ws-requires
unwrap-ws-requires c = let h = (given-at _ _ _ _ _ _ c.none-places.ensures _ c.in_ok-pace.ensures).lending.long in search rules

pub returns : goal.returns
returns c =
    let e : c.unwrap-ws.result.now ≡ c.args.pool.now = search rules in
    beat-lent (given-at _ _ _ _ _ _ c.none-places.ensures _ c.in_ok-pace.ensures) _ c.one.result (rw (← e) c.one.ensures.is)
