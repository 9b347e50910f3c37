-- `infer::rounds` meets its contract.
use Rattle.infer.proofs.Sweeps.{RoundsLeft}
use Rattle.infer.proofs.rounds.Given as goal

abbrev pub invariant-rounds : goal.invariant-rounds
invariant-rounds g l = RoundsLeft (goal.F-post g l.round) l.n l.initial.words l.words l.counter
