-- What a writer of text leaves in lent bytes, and where it ends.
use Rattle.std.specs.Prelude.{ℕ, ◌+◌, ◌-◌, ◌^◌, ◌<◌, min, ◌≡◌, cond, List, [], ltb, length, take, drop}
use Rattle.std.proofs.lemmas.List.Edits.{sets}

-- xs is put into d from a place on: the place behind it, and the bytes afterwards. What does not fit is counted and not written;
-- a place that would pass the greatest number of 64 bits stays there. Lent bytes are always fewer than 2 ^ 63.
pub record Puts (d : List ℕ) (at : ℕ) (xs : List ℕ) (r : ℕ) (d' : List ℕ) : Type 0 where
  pub is : at < 2 ^ 64 → length d < 2 ^ 63 → (r ≡ min (at + length xs) (2 ^ 64 - 1)) × (d' ≡ sets d at xs)

-- the bytes of s between two offsets; none where these are not two offsets of s in their order
unfoldable pub stretch : List ℕ → ℕ → ℕ → List ℕ
stretch s from to = cond (ltb to from) [] (cond (ltb (length s) to) [] (take (to - from) (drop from s)))
