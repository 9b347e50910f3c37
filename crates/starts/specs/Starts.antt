-- S-3: the frame starts, and what the program prints of them.
use Rattle.std.specs.Prelude.{ℕ, zero, suc, ◌+◌, ◌*◌, ◌<◌, ◌≡◌, List, [], ◌∷◌, ◌++◌, map, true, ℤ, length, take, drop}
use Rattle.std.proofs.Math.Option.{some}
use Rattle.std.proofs.Math.ListN.{get_elem?}
use Rattle.model.specs.Lists.{concat}
use Rattle.model.specs.Syntax.{Program}
use Rattle.model.specs.Text.{newline, decimal}
use Rattle.model.specs.Pool.{most_threads, most_frames, frame_words, start_of, Frame, Thread, Pool, frames, words_of_frame, pool_of, are_pool}

-- what f says of 0 to n - 1, one behind the other
unfoldable pub in_turn : ℕ → (ℕ → List ℕ) → List ℕ
in_turn zero f = []
in_turn (suc n) f = in_turn n f ++ f n

-- where the frames begin: thread by thread, oldest frame first
unfoldable pub starts : List ℕ
starts = in_turn most_threads (λ i. in_turn most_frames (λ j. start_of i j ∷ []))

-- a number in decimal, on a line of its own
abbrev pub line : ℕ → List ℕ
line n = decimal n ++ newline

-- one a line
unfoldable pub printed : List ℕ
printed = concat (map line starts)

-- the claim: the numbers are in order. There is one for each frame that a pool can have, and that of frame j of thread i stands at
-- 8 i + j
pub record InOrder (n̄ : List ℕ) : Type 0 where
  pub count : length n̄ ≡ most_threads * most_frames
  pub each : (i j : ℕ) → i < most_threads → j < most_frames → get_elem? n̄ (most_frames * i + j) ≡ some (start_of i j)

-- and frames begin there: in all words that are a pool of a table, the frame k, which has the frames K₂ below it, of the thread t,
-- which stands behind the threads a
abbrev pub Begins : Type 0
Begins =
    (P : Program) (ws : List ℤ) → are_pool P ws ≡ true → (a : Pool) (t : Thread) (b : Pool) → pool_of ws ≡ a ++ t ∷ b
    → (K₁ : List Frame) (k : Frame) (K₂ : List Frame) → frames t ≡ K₁ ++ k ∷ K₂
    → take frame_words (drop (start_of (length a) (length K₂)) ws) ≡ words_of_frame k
