-- `infer::joined_all` meets its contract.
use native.Mathlib.Omega.{arith}
use borrow.Author.Rules.{rules}
use mathlib.Core.Path.{ap}
use Rattle.scopings.specs.Words.{scope_in}
use Rattle.infer.specs.Needs.{joins}
use Rattle.infer.proofs.Needing.{joins-end, joins-next}
use Rattle.infer.proofs.joined_all.Goals as goal

pub named-preserved : goal.named-preserved
named-preserved c = search (joins-next, rules)

pub returns : goal.returns
returns c =
    joins-end _ _ _ _ _ _ c.named.invariant (omega arith)
    (ap (joins c.args.n (scope_in c.args.words.now)) c.targets-first.ensures)
