-- `eval::worked` meets its contract.
use borrow.Author.Rules.{sfits_of}
use Rattle.eval.proofs.Working.{worked-some, worked-none}
use Rattle.eval.proofs.worked.Goals as goal

pub returns-in-Some : goal.returns-in-Some
returns-in-Some c = search (worked-some, sfits_of)

pub returns-in-None : goal.returns-in-None
returns-in-None c = search (worked-none)
