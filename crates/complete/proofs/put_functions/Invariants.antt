-- `complete::put_functions` meets its contract.
use Rattle.complete.proofs.Functions.{FunctionsLeft}
use mathlib.Core.Path.{◌≡◌}
use lib.ListN.{length}
use Rattle.complete.proofs.put_functions.Given as goal

abbrev pub invariant-loop-f : goal.invariant-loop-f
invariant-loop-f l = (length l.words ≡ length l.initial.words)
    × FunctionsLeft l.s l.places l.transfers l.initial.words l.initial.out l.k l.out l.m l.f
