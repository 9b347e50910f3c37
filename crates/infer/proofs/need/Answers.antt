-- `infer::need` meets its contract.
use Rattle.infer.proofs.Owning.{need-own}
use borrow.Author.Rules.{rules}
use Rattle.infer.proofs.need.Goals as goal

pub returns : goal.returns
returns c = search (need-own, rules)
