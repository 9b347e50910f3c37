-- `flow::feed`: the loop has taken the bytes of the piece before this one.
use Rattle.flow.specs.Stands.{memory}
use Rattle.flow.proofs.Feeding.{Turned}
use Rattle.flow.proofs.feed.Given as goal

abbrev pub invariant-loop-b : goal.invariant-loop-b
invariant-loop-b l =
    Turned (memory l.initial.table l.initial.places l.initial.ws) l.initial.out l.initial.r l.piece l.b-index l.r
    (memory l.table l.places l.ws) l.out
