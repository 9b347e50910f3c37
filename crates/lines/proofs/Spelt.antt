-- The text of values, one after another.
use Prim.Native.Nat.{ℕ, ◌+◌, ◌≤◌, ◌<◌, min}
use native.Mathlib.Omega.{arith}
use native.Mathlib.Numerals.{add-one}
use mathlib.Core.Path.{◌≡◌, refl, sym, ap, ◌∙◌}
use mathlib.Core.List.{List, [], ◌∷◌, ◌++◌, map, append-nil, append_assoc}
use mathlib.Core.Bool.{Bool, true, false}
use lib.Dec.{leb}
use borrow.Author.Tests.{leb-true, leb-false}
use lib.IntN.{ℤ, pos}
use lib.ListN.{length, take, get_or}
use lib.Seq.{take-suc, take_all}
use Rattle.model.specs.Lists.{concat}
use Rattle.model.specs.Text.{ascii, newline, signed_part}
use Rattle.model.specs.Output.{values_or_open, result_line}
use Rattle.std.specs.Prelude.{None, Some}
use Rattle.eval.specs.declared.Values.{Values}
use Rattle.eval.specs.Given.{values_of, looked_of}
use Rattle.puts.specs.Puts.{Puts}
use Rattle.puts.proofs.Laws.{none, then, same}

abbrev pub spelt : List ℤ → List ℕ
spelt v̄ = concat (map signed_part v̄)

spelt-more : (v̄ : List ℤ) (z : ℤ) → spelt (v̄ ++ z ∷ []) ≡ spelt v̄ ++ signed_part z
unfolding concat
spelt-more [] z = append-nil (signed_part z)
spelt-more (y ∷ v̄) z = ap (λ l. signed_part y ++ l) (spelt-more v̄ z) ∙ sym (append_assoc (signed_part y) (spelt v̄) (signed_part z))

-- nothing, one value more, and all of them
pub turned : {d : List ℕ} {at : ℕ} (v̄ : List ℤ) (i : ℕ) {k : ℕ} {d' : List ℕ} {r : ℕ} {d'' : List ℕ}
    → Puts d at (spelt (take i v̄)) k d' → i < length v̄ → Puts d' k (signed_part (get_or v̄ i (pos 0))) r d''
    → Puts d at (spelt (take (i + 1) v̄)) r d''
turned v̄ i p h q =
    same (then p q)
    (sym (spelt-more (take i v̄) (get_or v̄ i (pos 0))) ∙ ap spelt (sym (take-suc v̄ i (pos 0) h)
    ∙ ap (λ (n : ℕ). take n v̄) (sym (add-one i))))

pub all-turned : {d : List ℕ} {at : ℕ} (v̄ w̄ : List ℤ) (i : ℕ) {r : ℕ} {d' : List ℕ} → Puts d at (spelt (take i v̄)) r d'
    → length v̄ ≤ i → v̄ ≡ w̄ → Puts d at (spelt w̄) r d'
all-turned v̄ w̄ i p h e = same p (ap spelt (take_all i v̄ h ∙ e))

pub nothing : {d : List ℕ} {at : ℕ} (v̄ : List ℤ) → Puts d at (spelt (take 0 v̄)) at d
unfolding concat
nothing v̄ = none

-- no more values than there are
pub few : (v̄ : List ℤ) (n m : ℕ) → length v̄ ≡ m → take (min n m) v̄ ≡ take n v̄
few v̄ n m e = go (leb n m) refl
  where
    go : (b : Bool) → leb n m ≡ b → take (min n m) v̄ ≡ take n v̄
    go true t = let h : n ≤ m = leb-true n m t in ap (λ (k : ℕ). take k v̄) (omega arith)
    go false t =
        let h : m < n = leb-false n m t in
        take_all (min n m) v̄ (omega arith) ∙ sym (take_all n v̄ (omega arith))

-- the last line: main's values, or that they are open
pub given : (d d₁ d₂ d₃ : List ℕ) (at k m r : ℕ) (v : Values) → Puts d at (ascii "result") k d₁
    → Puts d₁ k (spelt (values_of v)) m d₂ → Puts d₂ m newline r d₃ → Puts d at (result_line (looked_of (Some v))) r d₃
unfolding result_line values_or_open
given d d₁ d₂ d₃ at k m r v p q s = then (then p q) s

pub left_open : (d d₁ d₂ d₃ : List ℕ) (at k m r : ℕ) → Puts d at (ascii "result") k d₁
    → Puts d₁ k (ascii " open") m d₂ → Puts d₂ m newline r d₃ → Puts d at (result_line (looked_of None)) r d₃
unfolding result_line values_or_open
left_open d d₁ d₂ d₃ at k m r p q s = then (then p q) s
