-- `listing::list` meets its contract.
use Prim.Native.Nat.{◌^◌, ◌<◌}
use mathlib.Core.Path.{◌≡◌, refl}
use native.Mathlib.Omega.{arith}
use borrow.Author.Rules.{rules}
use lib.ListN.{length}
use Rattle.lend.proofs.Lending.{refused-pool, given-pool}
use Rattle.views.proofs.Short.{short}
use Rattle.listing.proofs.Listings.{list-refused, list-short, list-word, list-given}
use Rattle.listing.proofs.list.Goals as goal

pub returns-in_err-pool : goal.returns-in_err-pool
returns-in_err-pool c =
    list-refused c.args.who _ _ _ _ (refused-pool _ _ _ _ c.none-places.ensures _ c.in_err-pool.ensures) (search rules)

pub unwrap-ws-requires : goal.unwrap-ws-requires
unwrap-ws-requires c = let h = (given-pool _ _ _ _ c.none-places.ensures c.in_ok-pool.ensures).long in search rules

pub returns-then-not-fits : goal.returns-then-not-fits
returns-then-not-fits c =
    let e : c.unwrap-ws.result.now ≡ c.args.pool.now = search rules in
    let l = given-pool _ _ _ _ c.none-places.ensures c.in_ok-pool.ensures in
    list-short short c.args.who l _ refl (rw (← e) c.fits.ensures) c.if-not-fits.true

pub overflow_cast-result : goal.overflow_cast-result
overflow_cast-result c =
    let e : c.unwrap-ws.result.now ≡ c.args.pool.now = search rules in
    let l = given-pool _ _ _ _ c.none-places.ensures c.in_ok-pool.ensures in
    let small : length c.args.out.now < 2 ^ 63 = omega (arith, c.well_formed) in
    let h : c.lines.result < 2 ^ 32 =
    list-word short c.args.who l c.args.out.now {out' = c.lines.new.out} small (rw (← e) c.lines.ensures) in
    search rules

pub returns : goal.returns
returns c =
    let e : c.unwrap-ws.result.now ≡ c.args.pool.now = search rules in
    let l = given-pool _ _ _ _ c.none-places.ensures c.in_ok-pool.ensures in
    let small : length c.args.out.now < 2 ^ 63 = omega (arith, c.well_formed) in
    list-given short c.args.who l _ small (rw (← e) c.fits.ensures) c.if-not-fits.false (rw (← e) c.lines.ensures)
