-- `listing::children`: the promoted calls of the frames passed so far, from the oldest on.
use Prim.Native.Nat.{◌*◌, ◌≤◌}
use Rattle.listing.proofs.Frames.{Counted}
use Rattle.listing.proofs.children.Given as goal

abbrev pub invariant-loop-frame : goal.invariant-loop-frame
invariant-loop-frame l = (l.sum ≤ 256 * l.frame) × Counted l.ws l.thread l.sum l.frame
