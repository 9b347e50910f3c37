-- `bound::fresh` meets its contract.
use Rattle.bound.proofs.Walked.{fresh-end, fresh-twice, fresh-new}
use borrow.Author.Rules.{rules}
use native.Mathlib.Omega.{arith}
use Rattle.bound.proofs.fresh.Goals as goal

pub returns-then-holds : goal.returns-then-holds
returns-then-holds c = search (arith, fresh-twice)

pub names-preserved : goal.names-preserved
names-preserved c = search (arith, rules, fresh-new)

pub returns : goal.returns
returns c = search (arith, rules, fresh-end)
