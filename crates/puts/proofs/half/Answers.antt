-- `puts::half` meets its contract.
use Rattle.puts.proofs.Parts.{half-put}
use Rattle.puts.proofs.half.Goals as goal

pub returns : goal.returns
returns c = half-put c.args.n c.ranges.n.fits c.to_be_bytes.ensures c.bytes.ensures
