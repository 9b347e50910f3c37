-- Values: signed 32-bit numbers. A sum or a negation that does not fit in 32 bits is an overflow.
use Rattle.std.specs.Prelude.{ℕ, suc, ◌-◌, ◌^◌, ◌%◌, Bool, false, cond, eqb, ltb, ℤ, pos, negsuc, ◌+ℤ◌, neg_ℤ}
use Rattle.std.specs.Int.Signed.{lt_z}
use Rattle.std.specs.Int.{w32}
use Rattle.std.proofs.Common.{to_z}

-- the low 32 bits of a number
unfoldable pub low : ℤ → ℕ
low (pos n) = n % 2 ^ 32
low (negsuc n) = 2 ^ 32 - suc (n % 2 ^ 32)

-- 32 bits as two's complement
abbrev pub signed : ℕ → ℤ
signed n = to_z w32 n

-- does z fit in 32 bits: is it one of -2 ^ 31 to 2 ^ 31 - 1?
unfoldable pub fits : ℤ → Bool
fits (pos n) = ltb n (2 ^ 31)
fits (negsuc n) = ltb n (2 ^ 31)

-- what working out an expression gives: a value, or an overflow
pub data Worked : Type 0 where
  value : ℤ → Worked
  overflow : Worked

unfoldable pub worked : ℤ → Worked
worked z = cond (fits z) (Worked.value z) Worked.overflow

-- m + n, -m, and m < n as 1 or 0
unfoldable pub plus : ℤ → ℤ → Worked
plus m n = worked (m +ℤ n)

unfoldable pub minus : ℤ → Worked
minus m = worked (neg_ℤ m)

unfoldable pub less : ℤ → ℤ → ℤ
less m n = cond (lt_z m n) (pos 1) (pos 0)

-- equality of two values, as a test
abbrev pub same : ℤ → ℤ → Bool
same (pos m) (pos n) = eqb m n
same (pos m) (negsuc n) = false
same (negsuc m) (pos n) = false
same (negsuc m) (negsuc n) = eqb m n

-- the number that a word stands for: a negative one stands for 0, and is then not written back as it was
abbrev pub number : ℤ → ℕ
number (pos n) = n
number (negsuc n) = 0
