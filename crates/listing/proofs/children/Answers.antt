-- `listing::children`: the promoted calls of the frames passed so far, from the oldest on.
use native.Mathlib.Omega.{arith}
use Rattle.listing.proofs.Frames.{counted_none, counted-one, counted-all}
use Rattle.listing.proofs.children.Goals as goal

pub loop-frame-init : goal.loop-frame-init
loop-frame-init c = (omega arith, counted_none _ _)

pub loop-frame-preserved : goal.loop-frame-preserved
loop-frame-preserved c = (omega arith, counted-one _ _ c.loop-frame.invariant.1 c.frame_start.ensures c.promoted.ensures)

pub returns : goal.returns
returns c = counted-all _ _ c.loop-frame.invariant.1 c.frame_count-frame-end.ensures (omega arith)
