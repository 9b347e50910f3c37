-- `infer::infer` meets its contract.
use Rattle.infer.proofs.Ends.{infers}
use borrow.Author.Rules.{rules}
use Rattle.infer.proofs.infer.Goals as goal

pub returns : goal.returns
returns c = search (infers, rules)
