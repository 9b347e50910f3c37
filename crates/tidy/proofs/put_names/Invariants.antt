-- `tidy::put_names` meets its contract.
use Prim.Native.Nat.{◌-◌}
use mathlib.Core.List.{map}
use Rattle.code.specs.Code.{run}
use Rattle.kept.specs.Kept.{number_in}
use Rattle.puts.proofs.Left.{Left}
use Rattle.tidy.proofs.put_names.Given as goal

abbrev pub invariant-names : goal.invariant-names
invariant-names l =
    Left l.initial.out l.k (map (number_in l.list) (run l.s l.at l.count)) l.out l.m
    (map (number_in l.list) (run l.s l.next (l.count - l.counter)))
