-- `rules::give_back` meets its contract.
use Rattle.rules.proofs.Steps.{return-unbound, return-open, return-goes}
use Rattle.rules.proofs.give_back.Goals as goal

pub returns-then-not-look_all : goal.returns-then-not-look_all
returns-then-not-look_all c = λ places. search (return-unbound)

pub returns-then-opened-ne0 : goal.returns-then-opened-ne0
returns-then-opened-ne0 c = λ places. search (return-open)

pub returns : goal.returns
returns c = λ places. search (return-goes)
