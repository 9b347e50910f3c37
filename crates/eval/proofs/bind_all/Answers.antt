-- `eval::bind_all` meets its contract.
use borrow.Author.Rules.{rules, sfits_of}
use mathlib.Core.Path.{refl}
use Rattle.eval.proofs.Binds.{binds-starts, binds-goes, arguments-taken}
use Rattle.eval.proofs.Lists.{count-bound}
use Rattle.eval.proofs.bind_all.Goals as goal

pub loop-i-init : goal.loop-i-init
loop-i-init c =
    (refl, binds-starts _ _ _ _ _ _ (search (count-bound _ _ c.count-n.ensures, rules)) c.requires)

pub loop-i-preserved : goal.loop-i-preserved
loop-i-preserved c = (search rules, search (binds-goes, sfits_of))

pub returns : goal.returns
returns c = search (arguments-taken)
