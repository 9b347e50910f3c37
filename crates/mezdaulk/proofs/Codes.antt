-- What a beat makes, by its answer.
use Prim.Native.Nat.{ℕ, ◌<◌}
use mathlib.Core.Path.{◌≡◌, sym, ap}
use mathlib.Core.List.{List}
use lib.IntN.{ℤ}
use Rattle.std.specs.Prelude.{Ok}
use Rattle.model.specs.Pool.{most_threads}
use Rattle.model.specs.Calls.{Called}
use Rattle.tokens.specs.Beats.{beat}
use Rattle.tokens.proofs.Few.{beat-few}
use Rattle.beats.specs.declared.Beaten.{Beaten}
use Rattle.beats.specs.Beating.{called_of}

-- a beat makes fewer promotions than there can be threads
pub few-promotions : (s : List ℕ) (ws : List ℤ) (i n c : ℕ) (b : Beaten) {ws' : List ℤ} → called_of (Ok b) ws' ≡ beat s ws i n c
    → b.promotions < most_threads
few-promotions s ws i n c b e = beat-few s ws i n c _ (sym (ap (λ (x : Called _). x.answer) e))
