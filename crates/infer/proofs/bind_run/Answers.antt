-- `infer::bind_run` meets its contract.
use Rattle.infer.proofs.Needing.{bind-end, bind-next}
use borrow.Author.Rules.{rules}
use Rattle.infer.proofs.bind_run.Goals as goal

pub run-preserved : goal.run-preserved
run-preserved c = search (bind-next, rules)

pub returns : goal.returns
returns c = search (bind-end, rules)
