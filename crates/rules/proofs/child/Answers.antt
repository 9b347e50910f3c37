-- `rules::child` meets its contract.
use borrow.Author.Rules.{rules}
use Rattle.rules.proofs.Heads.{not-looked, not_taken, spawns, no-spawn}
use Rattle.rules.proofs.child.Goals as goal

pub returns-in_default : goal.returns-in_default
returns-in_default c = search (no-spawn)

pub returns-then-not-look_all : goal.returns-then-not-look_all
returns-then-not-look_all c = search (not-looked)

pub returns-then-not-takes : goal.returns-then-not-takes
returns-then-not-takes c = search (not_taken, rules)

pub returns : goal.returns
returns c = search (spawns, rules)
