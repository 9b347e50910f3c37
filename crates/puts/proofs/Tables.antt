-- A table that is put in two parts: its functions, which tell its length, and then the length and the version before them.
use Prim.Native.Nat.{ℕ, ◌+◌, ◌%◌, ◌^◌, ◌≤◌, ◌<◌}
use mathlib.Core.Path.{◌≡◌, refl, sym, ◌∙◌, ap, ap₂}
use mathlib.Core.List.{List, [], ◌∷◌, ◌++◌, append_assoc}
use native.Mathlib.Nat.{zero-add}
use native.Mathlib.Omega.{arith}
use lib.ListN.{length, take, drop}
use lib.Seq.{sets, sets-eq, length-sets, length-take-le, drop_at}
use Rattle.model.specs.Syntax.{Program}
use Rattle.model.specs.Write as Write
use Rattle.model.proofs.Writing.{table-length}
use Rattle.puts.specs.Puts.{Puts}
use Rattle.puts.proofs.Laws.{then}

-- what stands before the functions: the length and the version
abbrev head : ℕ → List ℕ
head n = Write.word n ++ (1 ∷ [])

head-length : (n : ℕ) → length (head n) ≡ 5
unfolding Write.word Write.half
head-length n = refl

-- a table, by its length
table_is : (Q : Program) (n : ℕ) → n ≡ length (Write.table Q) → head n ++ Write.program Q ≡ Write.table Q
unfolding Write.table
table_is Q n e =
    let z : n ≡ length (Write.program Q) + 5 = omega (arith, table-length Q) in
    rw z (append_assoc (Write.word (length (Write.program Q) + 5)) (1 ∷ []) (Write.program Q))

-- bytes put behind room for others, and the others put before them
before-put : (d hs xs : List ℕ) (n : ℕ) → length hs ≡ n → n + length xs ≤ length d →
    sets (sets d n xs) 0 hs ≡ (hs ++ xs) ++ drop (n + length xs) d
before-put d hs xs n e h =
    let first : sets d n xs ≡ (take n d ++ xs) ++ drop (n + length xs) d = sets-eq xs d n h in
    let l : length (take n d) ≡ n = length-take-le n d (omega arith) in
    let second = sets-eq hs (sets d n xs) 0 (omega (arith, length-sets d n xs)) in
    let behind : drop (0 + length hs) (sets d n xs) ≡ xs ++ drop (n + length xs) d =
    ap (λ (k : ℕ). drop k (sets d n xs)) (zero-add (length hs) ∙ e)
    ∙ ap (drop n) (first ∙ append_assoc (take n d) xs (drop (n + length xs) d))
    ∙ drop_at (take n d) (xs ++ drop (n + length xs) d) n l in
    second ∙ ap (λ (r : List ℕ). hs ++ r) behind ∙ sym (append_assoc hs xs (drop (n + length xs) d))

-- where there is room for it: its length, and the table with what stood behind it
pub table-written : (Q : Program) {d d₁ d₂ d₃ : List ℕ} {end k m : ℕ} → Puts d 5 (Write.program Q) end d₁
    → Puts d₁ 0 (Write.word (end % 4294967296)) k d₂ → Puts d₂ k (1 ∷ []) m d₃ → length (Write.table Q) ≤ 16384
    → length (Write.table Q) ≤ length d → length d < 2 ^ 63
    → (end % 4294967296 ≡ length (Write.table Q)) × (d₃ ≡ Write.table Q ++ drop (length (Write.table Q)) d)
table-written Q {d} {d₁} {d₂} {d₃} {end} u p q most fit short =
    let body = u.is (omega arith) short in
    let z : end % 4294967296 ≡ length (Write.table Q) = omega (arith, body.0, table-length Q) in
    let same : length d₁ ≡ length d = ap length body.1 ∙ length-sets d 5 (Write.program Q) in
    let top = (then p q).is (omega arith) (omega (arith, same)) in (
      z,
      top.1
          ∙ ap (λ (x : List ℕ). sets x 0 (head (end % 4294967296))) body.1
          ∙ before-put d (head (end % 4294967296)) (Write.program Q) 5 (head-length (end % 4294967296)) (omega (arith, table-length Q))
          ∙ ap₂ {C = List ℕ} ◌++◌ (table_is Q (end % 4294967296) z) (ap (λ (k : ℕ). drop k d) (sym (table-length Q))),
    )
