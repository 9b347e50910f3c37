-- `infer::joined` meets its contract.
use mathlib.Core.Path.{refl}
use Rattle.inference.specs.Infer.{joined}
use Rattle.infer.specs.Needs.{joining}
use Rattle.infer.proofs.Needing.{without}
use borrow.Author.Rules.{rules}
use Rattle.infer.proofs.joined.Goals as goal

pub returns : goal.returns
unfolding joining joined
returns c = let e = without c.args.n.bound c.args.scope (search rules) c.ranges.scope.fits in rw e refl
