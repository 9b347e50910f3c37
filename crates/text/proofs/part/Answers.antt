-- `text::part`: a space, and then the decimal.
use Rattle.model.specs.Text.{part}
use Rattle.puts.proofs.Laws.{then}
use Rattle.text.proofs.part.Goals as goal

pub returns : goal.returns
unfolding part
returns c = search (then)
