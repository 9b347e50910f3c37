-- `complete::put_blocks` meets its contract.
use Rattle.std.proofs.Common.{rules}
use Rattle.model.specs.Write as Write
use Rattle.complete.specs.Writes.{filled_by}
use Rattle.complete.proofs.Placed.{all-put, blocks-few}
use Rattle.complete.proofs.put_blocks.Goals as goal

pub returns : goal.returns
returns c =
    all-put c.args.s.now c.args.places.now c.args.f Write.block (filled_by c.args.words.now) (λ i d k r d' p. search rules)
    (blocks-few c.args.words.now) c.put_each.ensures
