-- `valid::frames`: the frames from `left` on are right, and have `sum` promoted calls.
use native.Mathlib.Omega.{arith}
use Rattle.valid.proofs.Turns.{frame-bad, follow-bad, frame-fine, one_more, frames-end}
use mathlib.Core.Bool.{not}
use mathlib.Core.Path.{ap}
use Rattle.valid.proofs.frames.Goals as goal

pub returns-then-not-frame : goal.returns-then-not-frame
returns-then-not-frame c =
    (tt, λ P h. frame-bad P _ _ _ _ _ (omega arith) (c.loop-left.invariant.3 P h) _ (c.frame.ensures P h) (ap not c.if-not-frame.true))

pub returns-then-not-follow : goal.returns-then-not-follow
returns-then-not-follow c =
    (tt, λ P h. follow-bad P _ _ _ _ _ (omega arith) (c.loop-left.invariant.3 P h) _ c.follow.ensures (ap not c.if-not-follow.true))

pub loop-left-preserved : goal.loop-left-preserved
loop-left-preserved c = (
  omega arith,
  omega arith,
  one_more _ _ _ _ _ (omega arith) c.loop-left.invariant.2 c.number-promoted.ensures.is,
  λ P h.
      frame-fine P _ _ _ _ _ (omega arith) (c.loop-left.invariant.3 P h) _ _ _ (c.frame.ensures P h) (ap not c.if-not-frame.false)
      c.follow.ensures (ap not c.if-not-follow.false) c.number-promoted.ensures.is,
)

pub returns : goal.returns
returns c =
    (omega arith, λ P h. frames-end P _ _ _ _ _ _ (omega arith) (c.loop-left.invariant.3 P h) c.loop-left.invariant.2)
