-- Main's values, written over the first of four words.
use Prim.Native.Nat.{ℕ, zero, suc, min}
use mathlib.Core.Path.{◌≡◌, refl, sym, ap, ◌∙◌}
use mathlib.Core.Option.{some}
use mathlib.Core.List.{List, [], ◌∷◌, ◌++◌}
use native.Mathlib.Omega.{arith}
use lib.IntN.{ℤ}
use lib.ListN.{length, take, drop, length-take}
use Rattle.model.specs.Answers.{Answer}
use Rattle.answers.specs.Coded.{given}
use Rattle.host.specs.Exports.{counted, over, written, Values}

-- the first n values over words that are as many: so many of them, and the words behind
over-first : (n m : ℕ) (v̄ ws : List ℤ) → length v̄ ≡ length ws → m ≡ min n (length v̄) → over (take n v̄) ws ≡ take m v̄ ++ drop m ws
unfolding over
over-first zero zero v̄ ws h e = refl
over-first zero (suc m) v̄ ws h e = absurd (omega arith)
over-first (suc n) zero [] [] h e = refl
over-first (suc n) zero [] (w ∷ ws) h e = absurd (omega arith)
over-first (suc n) zero (v ∷ v̄) ws h e = absurd (omega arith)
over-first (suc n) (suc m) [] ws h e = absurd (omega arith)
over-first (suc n) (suc m) (v ∷ v̄) [] h e = absurd (omega arith)
over-first (suc n) (suc m) (v ∷ v̄) (w ∷ ws) h e = ap {A = List ℤ} (λ l. v ∷ l) (over-first n m v̄ ws (omega arith) (omega arith))

module _ (n : ℕ) (f ws : List ℤ) (h : length f ≡ 4) (k : length ws ≡ 4) where
  pub puts : {m r : ℕ} {ws' : List ℤ} → m ≡ min n 4 → r ≡ given m → ws' ≡ take m f
      → Values (Answer.given (some (take n f))) ws r (ws' ++ drop m ws)
  unfolding counted written
  puts {m} {r} {ws'} e d c =
      let l : m ≡ length (take n f) = e ∙ sym (length-take n f ∙ ap (min n) h) in
      let q : m ≡ min n (length f) = omega arith in
      record { number = d ∙ ap given l; words = rw (c, over-first n m f ws (h ∙ sym k) q) }
