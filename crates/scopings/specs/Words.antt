-- What stands for the blocks of a function in lent words, two for each: block b has its scope in the low half of word 2 b, above it
-- 0 where it is not reached and otherwise one more than the number of its nesting's names, and in word 2 b + 1 the names.
use Rattle.std.specs.Prelude.{ℕ, zero, suc, ◌+◌, ◌*◌, ◌/◌, ◌%◌, ◌≤◌, ◌<◌, ◌≡◌, List, [], ◌∷◌, length, get_or}
use Rattle.std.proofs.Math.Option.{none, some}
use Rattle.inference.specs.Infer.{Mark}

-- how many words there are, and of how many blocks
abbrev pub len : ℕ
len = 64

abbrev pub blocks : ℕ
blocks = 32

-- d names in a number: digits to base 256, the outermost in the lowest
unfoldable pub digits : ℕ → ℕ → List ℕ
digits zero names = []
digits (suc d) names = names % 256 ∷ digits d (names / 256)

unfoldable pub mark_of : ℕ → ℕ → Mark
mark_of zero names = none
mark_of (suc d) names = some (digits d names)

-- the scope and the mark of block b
unfoldable pub scope_in : List ℕ → ℕ → ℕ
scope_in words b = get_or words (2 * b) 0 % 65536

unfoldable pub mark_in : List ℕ → ℕ → Mark
mark_in words b = mark_of (get_or words (2 * b) 0 / 65536) (get_or words (2 * b + 1) 0)

-- the words hold the marks and the scopes of a function's blocks
pub record Held (words : List ℕ) (ms : List Mark) (Γs : List ℕ) : Type 0 where
  pub long : length words ≡ len
  pub few : length ms ≤ blocks
  pub same : length Γs ≡ length ms
  pub marks : (b : ℕ) → b < length ms → mark_in words b ≡ get_or ms b none
  pub scopes : (b : ℕ) → b < length ms → scope_in words b ≡ get_or Γs b 0
