-- `infer::statements` meets its contract.
use Rattle.infer.proofs.Needing.{walk-end, walk-next}
use borrow.Author.Rules.{rules}
use Rattle.infer.proofs.statements.Goals as goal

pub statements-preserved : goal.statements-preserved
statements-preserved c = search (walk-next, rules)

pub returns : goal.returns
returns c = search (walk-end, rules)
