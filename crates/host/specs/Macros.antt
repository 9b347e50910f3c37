-- The macros of include/mezdaulk.h, as functions of the number that a call answers.
use Rattle.std.specs.Prelude.{ℕ, ◌^◌, ◌/◌, ◌%◌, Bool, eqb}
use Rattle.model.specs.Pool as Pool
use Rattle.views.specs.Means as Views

-- bit 32: the call is given; and the value of what is given, in the low 32 bits
abbrev pub is_given : ℕ → Bool
is_given r = eqb (r / 2 ^ 32 % 2) 1

abbrev pub value : ℕ → ℕ
value r = r % 2 ^ 32

-- a refusal: its number; the place of a 3; the block and the function of 4 to 11, 25 and 26
abbrev pub number : ℕ → ℕ
number r = r % 256

abbrev pub place : ℕ → ℕ
place r = r / 256 % 2 ^ 24

abbrev pub block : ℕ → ℕ
block r = r / 256 % 256

abbrev pub function : ℕ → ℕ
function r = r / 65536 % 256

-- what a beat is given: the rule of its step, and how many promotions it made
abbrev pub rule : ℕ → ℕ
rule r = r % 256

abbrev pub promotions : ℕ → ℕ
promotions r = r / 256 % 2 ^ 24

-- a pool's length in words; as many bytes as a listing has at most; the kinds of a choice
abbrev pub pool_words : ℕ
pool_words = Pool.pool_words

abbrev pub listing_bytes : ℕ
listing_bytes = Views.listing_bytes

abbrev pub step : ℕ
step = 0

abbrev pub promote : ℕ
promote = 1

-- the value of mezdaulk_which where no thread can step, and of mezdaulk_values while main's values are open
abbrev pub no_thread : ℕ
no_thread = 8

abbrev pub still_open : ℕ
still_open = 255
