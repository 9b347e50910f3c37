-- Text that is put in turns.
use Prim.Native.Nat.{ℕ, ◌+◌}
use native.Mathlib.Numerals.{add-one}
use mathlib.Core.Path.{◌≡◌, ap, subst⁻¹}
use mathlib.Core.List.{List}
use Rattle.model.specs.Text.{newline, decimal}
use Rattle.puts.specs.Puts.{Puts}
use Rattle.puts.proofs.Laws.{none, then, same}
use Rattle.starts.specs.Starts.{in_turn, line}

-- a number and the end of its line
pub put-line : {d d' d'' : List ℕ} {at k r : ℕ} {m n : ℕ} → m ≡ n → Puts d at (decimal m) k d' → Puts d' k newline r d''
    → Puts d at (line n) r d''
put-line e p q = then (same p (ap decimal e)) q

-- no turn, and one turn more
pub no-turn : {d : List ℕ} {at : ℕ} (f : ℕ → List ℕ) → Puts d at (in_turn 0 f) at d
unfolding in_turn
no-turn f = none

pub one_more : {d d' d'' : List ℕ} {at k r : ℕ} (f : ℕ → List ℕ) (n : ℕ) → Puts d at (in_turn n f) k d' → Puts d' k (f n) r d''
    → Puts d at (in_turn (n + 1) f) r d''
unfolding in_turn
one_more {d} {d'} {d''} {at} {k} {r} f n p q = subst⁻¹ (λ (m : ℕ). Puts d at (in_turn m f) r d'') (add-one n) (then p q)

pub all-turns : {d d' : List ℕ} {at r m n : ℕ} (f : ℕ → List ℕ) → Puts d at (in_turn m f) r d' → m ≡ n → Puts d at (in_turn n f) r d'
all-turns f p e = same p (ap (λ (k : ℕ). in_turn k f) e)
