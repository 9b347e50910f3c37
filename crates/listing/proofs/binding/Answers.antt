-- `listing::binding`: a temporary that is bound, and one that is not.
use mathlib.Core.Path.{ap}
use mir.Facts.{to_z-of_z}
use Rattle.model.specs.Text.{signed_part}
use Rattle.puts.proofs.Laws.{same}
use Rattle.listing.proofs.Texts.{put-bound, put-unbound}
use Rattle.listing.proofs.binding.Goals as goal

pub returns-then-bound-x-eq1 : goal.returns-then-bound-x-eq1
returns-then-bound-x-eq1 c =
    put-bound c.args.bound c.args.x _ c.if-bound-x-eq1.true c.part-k.ensures
    (same c.signed_part.ensures (ap signed_part (to_z-of_z c.ranges.value)))

pub returns : goal.returns
returns c = put-unbound c.args.bound c.args.x _ c.if-bound-x-eq1.false
