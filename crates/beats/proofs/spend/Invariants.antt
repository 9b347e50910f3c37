-- `beats::spend`: so many promotions are made.
use Rattle.beats.proofs.Paying.{Spending}
use Rattle.beats.proofs.spend.Given as goal

abbrev pub invariant-loop-made : goal.invariant-loop-made
invariant-loop-made l = Spending l.s l.places l.initial.ws l.ws l.thread l.made
