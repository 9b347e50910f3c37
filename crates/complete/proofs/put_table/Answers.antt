-- `complete::put_table` meets its contract.
use Rattle.complete.proofs.Tables.{table-put}
use Rattle.complete.proofs.put_table.Goals as goal

pub returns : goal.returns
returns c = search table-put
