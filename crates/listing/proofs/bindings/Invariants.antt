-- `listing::bindings`: the temporaries from x on are left.
use lib.ListN.{drop}
use Rattle.pool.specs.InPlace.{frame_at}
use Rattle.puts.proofs.Left.{Left}
use Rattle.views.specs.Lines.{bindings}
use Rattle.listing.proofs.bindings.Given as goal

abbrev pub invariant-loop-x : goal.invariant-loop-x
invariant-loop-x l =
    Left l.initial.out l.at (bindings (frame_at l.ws l.frame).bound 0 (frame_at l.ws l.frame).values) l.out l.k
    (bindings (frame_at l.ws l.frame).bound l.x (drop l.x (frame_at l.ws l.frame).values))
