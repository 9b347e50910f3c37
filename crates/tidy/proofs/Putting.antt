-- What the writers of names put.
use Prim.Native.Nat.{ℕ, ◌+◌, ◌-◌, ◌≤◌, ◌<◌}
use mathlib.Core.Path.{◌≡◌}
use native.Mathlib.Omega.{arith}
use mathlib.Core.List.{List, [], ◌∷◌, map}
use Rattle.code.specs.Bytes.{byte_at, past}
use Rattle.code.specs.Code.{run, expression_end, spawn_end}
use Rattle.code.proofs.Ends.{run_none}
use Rattle.puts.specs.Puts.{Puts, stretch}
use Rattle.puts.proofs.Laws.{then}
use Rattle.puts.proofs.Left.{Left, less-left, none_left}
use Rattle.kept.specs.declared.Kept.{Kept}
use Rattle.kept.specs.Kept.{number_in}
use Rattle.kept.proofs.Loops.{run-on}
use Rattle.tidy.specs.Writes.{renamed_name, renamed_two, renamed_applied, renamed_if, renamed_call}

-- a name with the arguments behind it
module _ (s : List ℕ) (list : Kept) (at : ℕ) {d : List ℕ} {k : ℕ} where
  pub applied : {m j l r : ℕ} {d' d'' : List ℕ} → Puts d k (renamed_name (number_in list) s at) m d' → j ≡ past at 1 → l ≡ spawn_end s at
      → Puts d' m (stretch s j l) r d'' → Puts d k (renamed_applied (number_in list) s at) r d''
  applied p e f q = rw (← e, ← f) (then p q)

  -- what follows the kind of an if, and of a call
  pub compared : {m l r : ℕ} {d' d'' : List ℕ} → l ≡ expression_end s at → Puts d k (stretch s at l) m d'
      → Puts d' m (renamed_two (number_in list) (number_in list) s l) r d'' → Puts d k (renamed_if (number_in list) s at) r d''
  compared e p q = rw (← e) (then p q)

  pub called : (list' : Kept) {m l r : ℕ} {d' d'' : List ℕ} → Puts d k (renamed_applied (number_in list) s at) m d' → l ≡ spawn_end s at
      → Puts d' m (renamed_name (number_in list') s l) r d'' → Puts d k (renamed_call (number_in list) (number_in list') s at) r d''
  called list' p e q = then p (rw e at q)

-- names one after another, from the one with index i on: they go on with the first, and end where none is left
module _ (d : List ℕ) (k : ℕ) (xs : List ℕ) (list : Kept) (s : List ℕ) (next count i : ℕ) {m : ℕ} {d' : List ℕ}
    (l : Left d k xs d' m (map (number_in list) (run s next (count - i)))) where
  pub names-on : {j r : ℕ} {d'' : List ℕ} → i < count → j ≡ past next 1 → Puts d' m (renamed_name (number_in list) s next) r d''
      → Left d k xs d'' r (map (number_in list) (run s j (count - (i + 1))))
  names-on h e p =
      rw e
      (less-left (number_in list (byte_at s next) ∷ []) (map (number_in list) (run s (past next 1) (count - (i + 1))))
      (rw (run-on s next count i h) at l) p)

  pub names-end : count ≤ i → Puts d k xs m d'
  names-end h = none_left (rw (run_none s next (count - i) (omega arith)) at l)
