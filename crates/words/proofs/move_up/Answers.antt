-- `words::move_up`: the loop has all but the first `left` words moved.
use native.Mathlib.Omega.{arith}
use borrow.Author.Rules.{sfits_of}
use mir.Facts.{to_z-of_z}
use mir.Syntax.{w32}
use Rattle.words.proofs.Moves.{all_left, one_less, none_left}
use Rattle.words.proofs.move_up.Goals as goal

pub loop-left-init : goal.loop-left-init
loop-left-init c = (omega arith, all_left _ _ _ _)

pub loop-left-preserved : goal.loop-left-preserved
loop-left-preserved c = (
  omega arith,
  one_less c.loop-left.invariant.1 _ (omega arith) (omega arith) (omega arith) (omega arith)
      (to_z-of_z {w = w32} (sfits_of c.d-1.given)),
)

pub returns : goal.returns
returns c = none_left c.loop-left.invariant.1 (omega arith)
