-- `table::grammar::many`: the loop passes over the items one by one.
use Prim.Native.Nat.{◌-◌}
use mathlib.Core.Path.{◌≡◌}
use Rattle.model.specs.Read as Read
use Rattle.table.specs.Skips.{skip_of}
use Rattle.table.proofs.grammar.many.Given as goal

abbrev pub invariant-items : goal.invariant-items
invariant-items g l =
    let p = g.I.Item.rule in
    skip_of (Read.many p l.n l.s l.at) ≡ skip_of (Read.many p (l.n - l.counter) l.s l.k)
