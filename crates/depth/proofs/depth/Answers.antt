-- `depth::depth` meets its contract.
use Rattle.std.proofs.lemmas.Result.{err_from_is_err_and}
use Rattle.depth.proofs.Tables.{table-refused, table-answered}
use Rattle.depth.proofs.depth.Goals as goal

pub returns-in_err-check_placed : goal.returns-in_err-check_placed
returns-in_err-check_placed c =
    let (why, e, d) = err_from_is_err_and c.from_residual.result c.from_residual.ensures.1 in
    rw (e, d) (search (table-refused, c.in_err-check_placed.was))

pub returns : goal.returns
returns c =
    rw c.ok_or.ensures.value
    (table-answered _ _ _ _ c.check_placed.ensures c.none-places.ensures c.deepest.result c.in_ok-check_placed.was
    c.byte.ensures c.deepest.ensures)
