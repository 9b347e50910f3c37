-- `rules::call` meets its contract.
use borrow.Author.Rules.{rules}
use Rattle.rules.proofs.Steps.{call-unbound, call-missing, call-goes, call-nowhere}
use Rattle.rules.proofs.call.Goals as goal

pub returns-then-not-look_all : goal.returns-then-not-look_all
returns-then-not-look_all c = search (call-unbound)

pub returns-then-not-takes : goal.returns-then-not-takes
returns-then-not-takes c = search (call-missing, rules)

pub returns-in_default : goal.returns-in_default
returns-in_default c = search (call-nowhere, rules)

pub returns : goal.returns
returns c = search (call-goes, rules)
