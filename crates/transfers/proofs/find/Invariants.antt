-- `transfers::find` meets its contract.
use Prim.Native.Nat.{◌+◌, ◌*◌}
use Rattle.transfers.proofs.Filling.{Filling}
use Rattle.places.specs.Layout as Layout
use Rattle.transfers.proofs.find.Given as goal

abbrev pub invariant-loop-f : goal.invariant-loop-f
invariant-loop-f l = Filling l.s l.places l.fn.transfers l.transfers (Layout.blocks * l.f)

abbrev pub invariant-loop-b : goal.invariant-loop-b
invariant-loop-b l = Filling l.s l.places l.fn.transfers l.transfers (Layout.blocks * l.f + l.b)
