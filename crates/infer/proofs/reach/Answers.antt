-- `infer::reach` meets its contract.
use Rattle.std.proofs.Common.{rules}
use Rattle.infer.proofs.Leading.{reaches}
use Rattle.infer.proofs.reach.Goals as goal

pub returns : goal.returns
returns c = reaches _ (λ p r p' h. search rules) c.rounds.ensures
