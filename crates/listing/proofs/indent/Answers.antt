-- `listing::indent`: so many spaces are left.
use borrow.Author.Rules.{rules}
use Rattle.puts.proofs.Left.{all_left}
use Rattle.listing.proofs.Texts.{all-spaces, one-space, no-space}
use Rattle.listing.proofs.indent.Goals as goal

pub levels-init : goal.levels-init
levels-init c = all-spaces _ all_left

pub levels-preserved : goal.levels-preserved
levels-preserved c = search (one-space, rules)

pub returns : goal.returns
returns c = search (no-space, rules)
