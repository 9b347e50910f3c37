-- `infer::grow` meets its contract.
use Rattle.infer.proofs.Growing.{grow-same, grow-new}
use borrow.Author.Rules.{rules}
use Rattle.infer.proofs.grow.Goals as goal

pub returns-then-scope : goal.returns-then-scope
returns-then-scope c = search grow-same

pub returns : goal.returns
returns c = search (grow-new, rules)
