use borrow.Author.Rules.{rules}
use Rattle.steps.proofs.Deciding.{ends-given, ends-none}
use Rattle.steps.proofs.ended.Goals as goal

pub returns-in_err-count : goal.returns-in_err-count
returns-in_err-count c = ends-none _ c.returned.result c.returned.ensures c.in_err-count.was (search rules)

pub returns : goal.returns
returns c = ends-given _ c.returned.result c.returned.ensures c.in_ok-count.was (search rules)
