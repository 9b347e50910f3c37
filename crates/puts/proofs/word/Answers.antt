-- `puts::word` meets its contract.
use Rattle.puts.proofs.Parts.{word-put}
use Rattle.puts.proofs.word.Goals as goal

pub returns : goal.returns
returns c = word-put c.args.n c.ranges.n.fits c.to_be_bytes.ensures c.bytes.ensures
