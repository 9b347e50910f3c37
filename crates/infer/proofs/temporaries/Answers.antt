-- `infer::temporaries` meets its contract.
use Rattle.infer.proofs.Needing.{lack-end, lack-next}
use borrow.Author.Rules.{rules}
use Rattle.infer.proofs.temporaries.Goals as goal

pub run-preserved : goal.run-preserved
run-preserved c = search (lack-next, rules)

pub returns : goal.returns
returns c = search (lack-end, rules)
