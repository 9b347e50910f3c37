-- `listing::indent`: so many spaces are left.
use Prim.Native.Nat.{◌-◌}
use Rattle.puts.proofs.Left.{Left}
use Rattle.views.specs.Lines.{indent}
use Rattle.listing.proofs.indent.Given as goal

abbrev pub invariant-levels : goal.invariant-levels
invariant-levels l = Left l.initial.out l.at (indent l.depth) l.out l.k (indent (l.depth - l.counter))
