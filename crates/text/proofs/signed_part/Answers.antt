-- `text::signed_part`: the number's sign, and its size.
use mathlib.Core.Path.{◌∙◌, ap}
use lib.IntN.{nat_abs}
use mir.Facts.{to_z-of_z}
use Rattle.puts.proofs.Laws.{same, then}
use Rattle.text.proofs.Digits.{positive, negative}
use Rattle.text.proofs.signed_part.Goals as goal

pub returns-then-x-lt0 : goal.returns-then-x-lt0
returns-then-x-lt0 c =
    let fits = to_z-of_z c.ranges.x in
    let size = c.from-n.ensures ∙ c.unsigned_abs.ensures.value ∙ ap nat_abs fits in
    same (then c.bytes-k.ensures c.decimal.ensures) (negative _ _ size (rw fits at c.if-x-lt0.true))

pub returns-else-x-lt0 : goal.returns-else-x-lt0
returns-else-x-lt0 c =
    let fits = to_z-of_z c.ranges.x in
    let size = c.from-n.ensures ∙ c.unsigned_abs.ensures.value ∙ ap nat_abs fits in
    same c.part.ensures (positive _ _ size (rw fits at c.if-x-lt0.false))
