-- `verifier::blocks` meets its contract.
use Rattle.bound.proofs.Exits.{exits}
use Rattle.verifier.proofs.Ranks.{block-fresh, block-nest, block-code, block-entry}
use Rattle.verifier.proofs.blocks.Goals as goal

pub returns-then-not-enters : goal.returns-then-not-enters
returns-then-not-enters c = search block-entry

pub returns-in_err-set : goal.returns-in_err-set
returns-in_err-set c =
    rw (exits c.from_residual.result c.from_residual.ensures.1) (search (block-fresh, c.in_err-set.was))

pub returns-in_err-nests_all : goal.returns-in_err-nests_all
returns-in_err-nests_all c =
    rw (exits c.from_residual-in_err-nests_all.result c.from_residual-in_err-nests_all.ensures.1)
    (search (block-nest, c.in_ok-set.was, c.in_err-nests_all.was))

pub returns : goal.returns
returns c = search (block-code, c.in_ok-set.was, c.in_ok-nests_all.was)
