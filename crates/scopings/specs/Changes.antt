-- What stands in the words besides scope and mark, and how the words change: all cleared, one block marked, one block's scope set.
use Rattle.std.specs.Prelude.{ℕ, ◌+◌, ◌*◌, ◌/◌, ◌≤◌, ◌≡◌, List, length, get_or, set}
use Rattle.inference.specs.Infer.{Mark}
use Rattle.scopings.specs.Words.{scope_in, Held}

-- the two numbers that are a block's mark: 0 or one more than the number of names, and the names
unfoldable pub level_in : List ℕ → ℕ → ℕ
level_in words b = get_or words (2 * b) 0 / 65536

unfoldable pub names_in : List ℕ → ℕ → ℕ
names_in words b = get_or words (2 * b + 1) 0

-- every word is 0
pub record Cleared (words words' : List ℕ) : Type 0 where
  pub long : length words' ≡ length words
  pub zero : (i : ℕ) → get_or words' i 0 ≡ 0

-- another mark of a block, and another scope
unfoldable pub marked : List ℕ → ℕ → ℕ → ℕ → List ℕ
marked words b level names = set (set words (2 * b) (scope_in words b + 65536 * level)) (2 * b + 1) names

unfoldable pub scoped : List ℕ → ℕ → ℕ → List ℕ
scoped words b Γ = set words (2 * b) (Γ + 65536 * level_in words b)

-- the words hold marks and scopes, and behind the blocks that there are every scope is empty
pub record Whole (words : List ℕ) (ms : List Mark) (Γs : List ℕ) : Type 0 where
  pub held : Held words ms Γs
  pub rest : (b : ℕ) → length ms ≤ b → scope_in words b ≡ 0
