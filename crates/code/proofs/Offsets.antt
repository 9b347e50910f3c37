-- Bytes past the end, and offsets within the table.
use Rattle.std.proofs.Common.{◌≡◌, ℕ, ◌+◌, ◌^◌, ◌<◌, ◌≤◌, List, length, sym, mod-eq_of_lt, arith}
use lib.ListN.{get_or-eq_default}
use Rattle.code.specs.Bytes.{byte_at, past}

pub no_byte : (s : List ℕ) (at : ℕ) → length s ≤ at → 0 ≡ byte_at s at
no_byte s at h = sym (get_or-eq_default s 0 {n = at} h)

-- within a table that is no longer than a machine's numbers go, the offset n bytes on is the sum
pub past-in : (s : List ℕ) (at n : ℕ) → length s < 2 ^ 64 → at + n ≤ length s → past at n ≡ at + n
unfolding past
past-in s at n short h = mod-eq_of_lt (omega arith)
