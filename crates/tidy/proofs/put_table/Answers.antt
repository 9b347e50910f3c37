-- `tidy::put_table` meets its contract.
use Rattle.tidy.proofs.Tables.{table-put}
use Rattle.tidy.proofs.put_table.Goals as goal

pub returns : goal.returns
returns c = search table-put
