-- `infer::nesting_needs` meets its contract.
use Rattle.infer.proofs.Owning.{nesting-first, nesting-next, nesting-end}
use borrow.Author.Rules.{rules}
use Rattle.infer.proofs.nesting_needs.Goals as goal

pub names-init : goal.names-init
names-init c = search (nesting-first, rules)

pub names-preserved : goal.names-preserved
names-preserved c = search (nesting-next, rules)

pub returns : goal.returns
returns c = search (nesting-end, rules)
