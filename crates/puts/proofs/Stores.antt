-- What is put of bytes of which the first n fit, and of bytes of which none does.
use Prim.Native.Nat.{ℕ, ◌+◌, ◌-◌, ◌^◌, ◌≤◌, ◌<◌, min}
use native.Mathlib.Omega.{arith}
use mathlib.Core.Path.{◌≡◌, refl, sym, ap, ◌∙◌}
use mathlib.Core.List.{List, [], ◌∷◌, ◌++◌}
use native.Mathlib.Numerals.{add-one}
use lib.ListN.{length, take, drop, set, get_or, length-drop}
use lib.Seq.{sets, length-sets, take-suc, take-length, length-take-le}
use Rattle.std.proofs.lemmas.List.{take-append-drop}
use Rattle.puts.specs.Puts.{Puts}
use Rattle.puts.proofs.Laws.{sets-append, sets-past}

-- bytes of which none fits
lost : (d : List ℕ) (at : ℕ) (xs : List ℕ) → (0 < length xs → length d ≤ at) → sets d at xs ≡ d
lost d at [] h = refl
lost d at (x ∷ xs) h = sets-past d at (x ∷ xs) (h (omega arith))

pub dropped : (d : List ℕ) (at : ℕ) (s : List ℕ) {r : ℕ} → length d ≤ at → r ≡ min (at + length s) (2 ^ 64 - 1) → Puts d at s r d
dropped d at s h e = record { is = λ k l. (e, sym (sets-past d at s h)) }

-- one byte more, stored, and all of them
pub one_more : (d : List ℕ) (at : ℕ) (s : List ℕ) (i : ℕ) {d' : List ℕ} → d' ≡ sets d at (take i s) → i < length s →
    set d' (at + i) (get_or s i 0) ≡ sets d at (take (i + 1) s)
one_more d at s i {d'} e h =
    let l : length (take i s) ≡ i = length-take-le i s (omega arith) in
    let t : take (i + 1) s ≡ take i s ++ (get_or s i 0 ∷ []) = ap (λ (n : ℕ). take n s) (add-one i) ∙ take-suc s i 0 h in
    rw (e, t, sets-append d at (take i s) (get_or s i 0 ∷ []), l) refl

pub all-put : (d : List ℕ) (at : ℕ) (s : List ℕ) (i : ℕ) {d' : List ℕ} → d' ≡ sets d at (take i s) → i ≡ length s → d' ≡ sets d at s
all-put d at s i e h = e ∙ ap (λ (xs : List ℕ). sets d at xs) (ap (λ (n : ℕ). take n s) h ∙ take-length s)

-- bytes of which the first n fit
pub stored : (d : List ℕ) (at : ℕ) (s : List ℕ) (n : ℕ) {r : ℕ} {d' : List ℕ} → at < length d → n ≡ min (length s) (length d - at)
    → d' ≡ sets d at (take n s) → r ≡ min (at + length s) (2 ^ 64 - 1) → Puts d at s r d'
stored d at s n h m p u =
    let xs : List ℕ = take n s in
    let l : length xs ≡ n = length-take-le n s (omega arith) in
    let f : 0 < length (drop n s) → length (sets d at xs) ≤ at + length xs =
    λ o. omega (arith, length-sets d at xs, length-drop n s) in
    let w : sets d at s ≡ sets d at xs =
    ap (sets d at) (sym (take-append-drop n s)) ∙ sets-append d at xs (drop n s) ∙ lost (sets d at xs) (at + length xs) (drop n s) f in
    record { is = λ k l. (u, p ∙ sym w) }
