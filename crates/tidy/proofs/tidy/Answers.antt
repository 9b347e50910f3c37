-- `tidy::tidy` meets its contract.
use Prim.Native.Nat.{◌<◌, ◌^◌}
use native.Mathlib.Omega.{arith}
use mathlib.Core.Path.{refl}
use lib.ListN.{length}
use borrow.Author.Rules.{rules}
use Rattle.tidy.proofs.Tables.{tidy-not, tidy-room, tidy-wrote}
use Rattle.tidy.proofs.tidy.Goals as goal

pub returns-in_err-check_placed : goal.returns-in_err-check_placed
returns-in_err-check_placed c = tidy-not _ _ _ c.none-places.ensures _ c.in_err-check_placed.ensures (search rules)

pub returns-then-not-fits : goal.returns-then-not-fits
returns-then-not-fits c =
    tidy-room _ _ _ c.none-places.ensures _ c.in_ok-check_placed.ensures c.none-transfers.ensures c.find.ensures
    c.functions-functions.ensures refl c.fits.ensures c.if-not-fits.true

pub returns : goal.returns
returns c =
    let out = c.args.out.now in
    let short : length out < 2 ^ 63 = omega (arith, c.well_formed) in
    tidy-wrote _ _ _ c.none-places.ensures out c.in_ok-check_placed.ensures c.none-transfers.ensures c.find.ensures
    c.functions-functions.ensures short c.fits.ensures c.if-not-fits.false c.put_table.ensures
