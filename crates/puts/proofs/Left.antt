-- Bytes that are put in a loop: what is left of them.
use Prim.Native.Nat.{ℕ}
use mathlib.Core.List.{List, [], ◌++◌}
use Rattle.puts.specs.Puts.{Puts}
use Rattle.puts.proofs.Laws.{none, then}

-- xs is put into d once ys is put into d' from m on
pub record Left (d : List ℕ) (at : ℕ) (xs : List ℕ) (d' : List ℕ) (m : ℕ) (ys : List ℕ) : Type 0 where
  pub left : (r : ℕ) (d'' : List ℕ) → Puts d' m ys r d'' → Puts d at xs r d''

module _ {d : List ℕ} {at : ℕ} {xs : List ℕ} where
  -- at first all is left; then less; and in the end nothing
  pub all_left : Left d at xs d at xs
  all_left = record { left = λ r d'' p. p }

  pub less-left : {d' : List ℕ} {m : ℕ} (ys zs : List ℕ) {n : ℕ} {d'' : List ℕ} → Left d at xs d' m (ys ++ zs) → Puts d' m ys n d''
      → Left d at xs d'' n zs
  less-left ys zs l p = record { left = λ r e q. l.left r e (then p q) }

  pub none_left : {d' : List ℕ} {m : ℕ} → Left d at xs d' m [] → Puts d at xs m d'
  none_left {d'} {m} l = l.left m d' none
