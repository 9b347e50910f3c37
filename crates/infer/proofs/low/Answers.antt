-- `infer::low` meets its contract.
use borrow.Author.Rules.{rules}
use native.Mathlib.Omega.{arith}
use mathlib.Core.Path.{refl}
use Rattle.std.proofs.lemmas.Iterator.{YieldsList-from_range}
use Rattle.std.proofs.lemmas.Iterator.Search.{find_from_yields_List}
use Rattle.infer.proofs.Leading.{low-is}
use Rattle.infer.proofs.low.Goals as goal

pub returns : goal.returns
returns c =
    let y = YieldsList-from_range 0 c.args.n c.args.n refl (omega arith) in
    low-is (find_from_yields_List _ _ _ _ c.find.ensures.ran y (λ x b q k. search rules))
