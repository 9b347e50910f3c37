-- `words::move_down`: the loop has moved the first i words so far.
use native.Mathlib.Omega.{arith}
use mathlib.Core.Path.{◌∙◌}
use borrow.Author.Rules.{sfits_of}
use lib.ListN.{length-drop}
use mir.Facts.{to_z-of_z}
use mir.Syntax.{w32}
use Rattle.words.proofs.Moves.{none_yet, one_more, further, all_moved}
use Rattle.words.proofs.move_down.Goals as goal

pub loop-i-init : goal.loop-i-init
loop-i-init c = (omega arith, none_yet _ _ _)

pub loop-i-preserved : goal.loop-i-preserved
loop-i-preserved c = (
  omega arith,
  one_more c.loop-i.invariant.1 _ (omega arith) (simp length-drop (omega arith))
      (to_z-of_z {w = w32} (sfits_of c.d-1.given) ∙ further _ c.loop-i.invariant.1 (omega arith) (omega arith)),
)

pub returns : goal.returns
returns c = all_moved _ _ c.loop-i.invariant.1 (omega arith)
