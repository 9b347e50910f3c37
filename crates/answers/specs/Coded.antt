-- An answer as one number, for hosts. With bit 32 set it is given, and its value stands in the low 32 bits; otherwise it is a
-- refusal: the number in bits 0 to 7; for 3 the place in bits 8 to 31; for 4 to 11, 25 and 26 the block in bits 8 to 15 and the
-- function in bits 16 to 23.
use Rattle.std.specs.Prelude.{ℕ, ◌+◌, ◌*◌, ◌^◌, ◌%◌}
use Rattle.model.specs.Numbers as No
use Rattle.model.specs.Answers.{Refusal}

abbrev pub given : ℕ → ℕ
given v = 2 ^ 32 + v

abbrev pub code_of : Refusal → ℕ
code_of (Refusal.plain n) = n
code_of (Refusal.byte at) = No.form + 256 * (at % 2 ^ 24)
code_of (Refusal.fault n f b) = n + 256 * (b % 256) + 65536 * (f % 256)
