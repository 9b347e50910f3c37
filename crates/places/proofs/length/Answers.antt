-- `places::length`: by the block's parity.
use borrow.Author.Rules.{rules}
use Rattle.places.proofs.Lookups.{length-shifted}
use Rattle.places.proofs.length.Goals as goal

pub returns : goal.returns
returns c = length-shifted _ _ (search rules)
