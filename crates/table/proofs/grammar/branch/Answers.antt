-- `table::grammar::branch`: an expression, then two names.
use borrow.Author.Rules.{rules}
use Rattle.table.proofs.Rules.{if-then, if-else}
use Rattle.table.proofs.grammar.branch.Goals as goal

pub returns-in_err-k : goal.returns-in_err-k
returns-in_err-k c = if-else _ _ _ _ c.in_err-k.ensures (search rules)

pub returns : goal.returns
returns c = if-then _ _ _ _ c.in_ok-k.ensures c.pass.ensures
