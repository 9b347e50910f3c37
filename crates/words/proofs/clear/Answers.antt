-- `words::clear` meets its contract.
use Rattle.words.proofs.Moves.{all-cleared}
use Rattle.words.proofs.clear.Goals as goal

pub returns : goal.returns
returns c = all-cleared _ _ _ _ c.requires (c.fill.ensures.after (λ y e. e))
