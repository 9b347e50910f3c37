-- `table::walk::numbers`: byte by byte.
use mathlib.Core.Path.{refl}
use borrow.Author.Rules.{rules}
use Rattle.table.specs.Marks.{sizes, sizes_of}
use Rattle.table.proofs.Marks.{whole-then, lacks-else}
use Rattle.table.proofs.walk.numbers.Goals as goal

pub returns-in_err-returned : goal.returns-in_err-returned
unfolding sizes
returns-in_err-returned c = lacks-else _ _ _ _ c.in_err-returned.ensures (search rules)

pub returns-in_err-block : goal.returns-in_err-block
unfolding sizes
returns-in_err-block c =
    whole-then _ _ _ _ _ _ c.in_ok-returned.ensures (lacks-else _ _ _ _ c.in_err-block.ensures (search rules))

pub returns-in_err-blocks : goal.returns-in_err-blocks
unfolding sizes
returns-in_err-blocks c =
    whole-then _ _ _ _ _ _ c.in_ok-returned.ensures
    (whole-then _ _ _ _ _ _ c.in_ok-block.ensures (lacks-else _ _ _ _ c.in_err-blocks.ensures (search rules)))

pub returns-in_err-spawns : goal.returns-in_err-spawns
unfolding sizes
returns-in_err-spawns c =
    whole-then _ _ _ _ _ _ c.in_ok-returned.ensures
    (whole-then _ _ _ _ _ _ c.in_ok-block.ensures
    (whole-then _ _ _ _ _ _ c.in_ok-blocks.ensures (lacks-else _ _ _ _ c.in_err-spawns.ensures (search rules))))

pub returns : goal.returns
unfolding sizes sizes_of
returns c =
    whole-then _ _ _ _ _ _ c.in_ok-returned.ensures
    (whole-then _ _ _ _ _ _ c.in_ok-block.ensures
    (whole-then _ _ _ _ _ _ c.in_ok-blocks.ensures (whole-then _ _ _ _ _ _ c.in_ok-spawns.ensures refl)))
