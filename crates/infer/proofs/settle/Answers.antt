-- `infer::settle` meets its contract.
use Rattle.std.proofs.Common.{rules}
use Rattle.infer.proofs.Growing.{settles}
use Rattle.infer.proofs.settle.Goals as goal

pub returns : goal.returns
returns c = settles _ (λ p r p' h. search rules) c.rounds.ensures
