-- `bound::bind` meets its contract.
use Prim.Native.Nat.{◌%◌}
use native.Mathlib.Omega.{arith}
use Rattle.words.proofs.Sets.{bind-with}
use Rattle.bound.specs.Walks.{binding}
use Rattle.bound.proofs.bind.Goals as goal

pub returns : goal.returns
unfolding binding
returns c = bind-with c.args.set (c.args.x % 16) (omega arith)
