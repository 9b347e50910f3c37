-- `tidy::put_functions` meets its contract.
use Rattle.std.proofs.Common.{rules}
use Rattle.tidy.proofs.Lists.{functions-put}
use Rattle.tidy.proofs.put_functions.Goals as goal

pub returns : goal.returns
returns c = functions-put _ _ _ _ _ (λ f d k r d' p. search rules) c.byte-m.ensures c.put_each.ensures
