-- `listing::position`: five numbers one behind the other.
use mathlib.Core.Path.{ap}
use Rattle.model.specs.Text.{part}
use Rattle.puts.proofs.Laws.{then, same}
use Rattle.listing.proofs.position.Goals as goal

pub returns : goal.returns
returns c =
    then
    (then (then (then (same c.part-k.ensures (ap part c.function.ensures))
    (same c.part-k-2.ensures (ap part c.block.ensures)))
    (same c.part-k-3.ensures (ap part c.done.ensures)))
    (same c.part-k-4.ensures (ap part c.opened.ensures)))
    (same c.part.ensures (ap part c.promoted.ensures))
