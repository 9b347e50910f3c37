-- What stands at an offset of a table, whatever the bytes are.
use Rattle.std.specs.Prelude.{ℕ, zero, suc, ◌+◌, ◌*◌, ◌%◌, ◌^◌, List, slice_index}

-- the byte at an offset, and 0 past the end
abbrev pub byte_at : List ℕ → ℕ → ℕ
byte_at s at = slice_index s at

-- the offset n bytes on, as a machine's number
unfoldable pub past : ℕ → ℕ → ℕ
past at n = (at + n) % 2 ^ 64

-- numbers of two and of four bytes
unfoldable pub half_at : List ℕ → ℕ → ℕ
half_at s at = byte_at s at * 256 + byte_at s (at + 1)

unfoldable pub word_at : List ℕ → ℕ → ℕ
word_at s at = half_at s at * 65536 + half_at s (at + 2)

-- how many operands an expression of a kind has
unfoldable pub operands : ℕ → ℕ
operands zero = 1
operands (suc zero) = 1
operands (suc (suc kind)) = 2
