-- Text as the bytes of its characters: words, decimals, and parts with a space before each.
use Rattle.std.specs.Prelude.{ℕ, zero, suc, ◌+◌, ◌/◌, ◌%◌, cond, List, [], ◌∷◌, ◌++◌, ltb, ℤ, pos, negsuc}
use Prim.Native.Char.{code}
use Prim.Native.String.{String, len, char_at}

-- n characters of a text, from place i on
abbrev pub characters : String → ℕ → ℕ → List ℕ
characters t zero i = []
characters t (suc n) i = code (char_at t i) ∷ characters t n (i + 1)

-- a text in ASCII
abbrev pub ascii : String → List ℕ
ascii t = characters t (len t) 0

-- the end of a line
abbrev pub newline : List ℕ
newline = ascii "\n"

abbrev pub digit : ℕ → ℕ
digit d = 48 + d

-- a number below 10 ^ k in decimal: the digits of its tenth, and its last one
unfoldable pub decimal_in : ℕ → ℕ → List ℕ
decimal_in zero n = []
decimal_in (suc k) n = cond (ltb n 10) (digit n ∷ []) (decimal_in k (n / 10) ++ digit (n % 10) ∷ [])

-- a number in decimal, of 64 bits: below 10 ^ 20
unfoldable pub decimal : ℕ → List ℕ
decimal n = decimal_in 20 n

-- a signed number in decimal
unfoldable pub signed_decimal : ℤ → List ℕ
signed_decimal (pos n) = decimal n
signed_decimal (negsuc n) = ascii "-" ++ decimal (n + 1)

-- a part of a line: a space, and then what it is
abbrev pub spaced : List ℕ → List ℕ
spaced xs = ascii " " ++ xs

unfoldable pub part : ℕ → List ℕ
part n = spaced (decimal n)

unfoldable pub signed_part : ℤ → List ℕ
signed_part z = spaced (signed_decimal z)
