-- `schedule::run`: the choices made so far, the words that they leave, and the choices that are left.
use lib.ListN.{drop}
use Rattle.schedule.specs.Choices.{choices_of}
use Rattle.schedule.proofs.Going.{Going}
use Rattle.schedule.proofs.run.Given as goal

abbrev pub invariant-loop-made : goal.invariant-loop-made
invariant-loop-made l = Going l.s l.places l.initial.ws (choices_of l.choices) l.made l.ws (drop l.made (choices_of l.choices))
