-- Runs of words in a list.
use Rattle.std.specs.Prelude.{ℕ, ◌+◌, List, ◌++◌, ℤ, pos, length, take, drop, replicate}

-- d, with ws from place at on
unfoldable pub pasted : List ℤ → ℕ → List ℤ → List ℤ
pasted d at ws = take at d ++ ws ++ drop (at + length ws) d

-- d, with the n words at from also at to, whether the two overlap or not
unfoldable pub moved : List ℤ → ℕ → ℕ → ℕ → List ℤ
moved d from to n = take to d ++ take n (drop from d) ++ drop (to + n) d

-- d, with n words from at on 0
unfoldable pub cleared : List ℤ → ℕ → ℕ → List ℤ
cleared d at n = take at d ++ replicate n (pos 0) ++ drop (at + n) d
