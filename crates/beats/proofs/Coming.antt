-- Purses by value: a step's work.
use Prim.Native.Nat.{ℕ, ◌+◌, ◌≤◌, ◌<◌}
use mathlib.Core.Path.{◌≡◌, refl}
use Rattle.model.specs.Pool.{Purse}
use Rattle.model.proofs.Facts.{lt-ltb, le-ltb}
use Rattle.tokens.specs.Purses.{arrive, worked}

abbrev purse : ℕ → ℕ → Purse
purse w k = record { work = w; tokens = k }

module _ (w k N C : ℕ) where
  pub works-below : w + 1 < N → purse (w + 1) k ≡ worked N C (purse w k)
  unfolding worked
  works-below h = rw (lt-ltb (w + 1) N h) refl

  pub works-above : {x : Purse} → N ≤ w + 1 → x ≡ arrive C (purse 0 k) → x ≡ worked N C (purse w k)
  unfolding worked
  works-above h e = rw (le-ltb (w + 1) N h) e
