-- `flow::end`: the last text, by the phase.
use Rattle.std.proofs.Common.{rules}
use Rattle.flow.proofs.Ending.{ends-taking, ends-told, ends-over}
use Rattle.flow.proofs.end.Goals as goal

pub returns-in-Taking : goal.returns-in-Taking
returns-in-Taking c = ends-taking _ _ _ _ _ _ _ (search rules) (search rules) c.refusal-k.ensures c.line.ensures

pub returns-in-Choosing : goal.returns-in-Choosing
returns-in-Choosing c = ends-told _ _ _ _ _ _ _ _ _ c.front.ensures c.ended.ensures (search rules) c.result.ensures c.in-Choosing.is

pub returns-in-Over : goal.returns-in-Over
returns-in-Over c = ends-over _ _ _ (search rules)
