-- `infer::block_needs` meets its contract.
use Rattle.infer.specs.Needs.{block_needs_at}
use Rattle.infer.proofs.block_needs.Goals as goal

pub returns : goal.returns
unfolding block_needs_at
returns c = cc
