-- `eval::look_all` meets its contract.
use borrow.Author.Rules.{rules, sfits_of}
use Rattle.eval.proofs.Lists.{read-starts, read_goes, arguments-unbound, arguments-bound, count-bound}
use Rattle.eval.proofs.look_all.Goals as goal

pub loop-i-init : goal.loop-i-init
loop-i-init c = read-starts _ _ _ _ _ (count-bound _ _ c.count-n.ensures) (search rules)

pub returns-in_default : goal.returns-in_default
returns-in_default c = search (arguments-unbound)

pub loop-i-preserved : goal.loop-i-preserved
loop-i-preserved c = search (read_goes, sfits_of)

pub returns : goal.returns
returns c = search (arguments-bound)
