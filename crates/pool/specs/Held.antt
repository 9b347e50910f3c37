-- Words that hold a pool.
use Rattle.std.specs.Prelude.{ℕ, ◌+◌, ◌%◌, ◌≡◌, List, [], ◌∷◌, ◌++◌, ℤ, pos, length, get_or}
use Rattle.std.specs.Int.{w32}
use Rattle.std.proofs.Common.{of_z}
use Rattle.model.specs.Pool.{Frame, Thread, Pool, frames, words_of}
use Rattle.model.specs.Valid.{PoolFits}

-- the bits of the word at a place
abbrev pub bits_at : List ℤ → ℕ → ℕ
bits_at ws at = of_z w32 (get_or ws at (pos 0))

-- the low 8 bits of four words
abbrev pub bytes_from : List ℤ → ℕ → List ℕ
bytes_from ws at = bits_at ws at % 256 ∷ bits_at ws (at + 1) % 256 ∷ bits_at ws (at + 2) % 256 ∷ bits_at ws (at + 3) % 256 ∷ []

-- the words are those of a pool whose lists are of the layout's sizes
pub record Held (ws : List ℤ) (p : Pool) : Type 0 where
  pub words : ws ≡ words_of p
  pub fits : PoolFits p

-- thread i of the pool that the words hold is t, between the threads a and b
pub record ThreadAt (ws : List ℤ) (i : ℕ) (a : Pool) (t : Thread) (b : Pool) : Type 0 where
  pub held : Held ws (a ++ t ∷ b)
  pub place : length a ≡ i

-- frame j of the thread, oldest first, is k, between the newer frames K₁ and the older ones K₂
pub record FrameAt (t : Thread) (j : ℕ) (K₁ : List Frame) (k : Frame) (K₂ : List Frame) : Type 0 where
  pub is : frames t ≡ K₁ ++ k ∷ K₂
  pub place : length K₂ ≡ j
