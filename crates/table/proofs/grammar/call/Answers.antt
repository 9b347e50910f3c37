-- `table::grammar::call`: a spawn call's bytes, then a name.
use borrow.Author.Rules.{rules}
use Rattle.table.proofs.Rules.{call-then, call-else}
use Rattle.table.proofs.grammar.call.Goals as goal

pub returns-in_err-k : goal.returns-in_err-k
returns-in_err-k c = call-else _ _ _ _ c.in_err-k.ensures (search rules)

pub returns : goal.returns
returns c = call-then _ _ _ _ c.in_ok-k.ensures c.skip.ensures
