-- `valid::calls`: the words before i are spawn calls.
use Prim.Native.Nat.{ℕ}
use mathlib.Core.Path.{◌≡◌}
use mathlib.Core.List.{List}
use lib.ListN.{drop}
use Rattle.model.specs.Lists.{all}
use Rattle.model.specs.Syntax.{Program}
use Rattle.places.specs.Places.{Places}
use Rattle.valid.specs.Judged.{is_call}
use Rattle.valid.proofs.calls.Given as goal

abbrev pub invariant-loop-i : goal.invariant-loop-i
invariant-loop-i l = (s : List ℕ) (P : Program) → Places s P l.places → all (is_call P l.f) l.ws ≡ all (is_call P l.f) (drop l.i l.ws)
