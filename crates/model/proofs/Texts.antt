-- How long texts are at most, and of which bytes numbers are.
use Prim.Native.Nat.{ℕ, zero, suc, ◌+◌, ◌^◌, ◌/◌, ◌%◌, ◌≤◌, ◌<◌}
use mathlib.Core.Bool.{Bool, true, false, cond}
use mathlib.Core.List.{List, [], ◌∷◌, ◌++◌}
use native.Mathlib.Omega.{arith}
use lib.Dec.{ltb}
use lib.IntN.{ℤ, pos, negsuc}
use lib.ListN.{length, length-append}
use Rattle.model.specs.Lists.{Each}
use Rattle.model.specs.Text.{digit, decimal_in, decimal, signed_decimal, part}
use Rattle.model.proofs.Facts.{lt-ltb, each_append}

-- one text or another, and one behind another
pub either : (Q : List ℕ → Type 0) (b : Bool) (xs ys : List ℕ) → Q xs → Q ys → Q (cond b xs ys)
either Q true xs ys h k = h
either Q false xs ys h k = k

pub either-most : (b : Bool) (xs ys : List ℕ) (n : ℕ) → length xs ≤ n → length ys ≤ n → length (cond b xs ys) ≤ n
either-most b xs ys n h k = either (λ t. length t ≤ n) b xs ys h k

pub both_most : (xs ys : List ℕ) (m n : ℕ) → length xs ≤ m → length ys ≤ n → length (xs ++ ys) ≤ m + n
both_most xs ys m n a b = let e = length-append xs ys in omega arith

-- a decimal: no more digits than are asked for; and of a number below 10 ^ k no more than k
digits-most : (k n : ℕ) → length (decimal_in k n) ≤ k
unfolding decimal_in
digits-most zero n = omega arith
digits-most (suc k) n =
    let e = length-append (decimal_in k (n / 10)) (digit (n % 10) ∷ []) in
    let h = digits-most k (n / 10) in either-most (ltb n 10) _ _ (suc k) (omega arith) (omega arith)

pub decimal-most : (n : ℕ) → length (decimal n) ≤ 20
unfolding decimal
decimal-most n = digits-most 20 n

pub part-most : (n : ℕ) → length (part n) ≤ 21
unfolding part
part-most n = let h = decimal-most n in omega arith

digits-below : (j k n : ℕ) → n < 10 ^ suc k → length (decimal_in j n) ≤ suc k
unfolding decimal_in
digits-below zero k n h = omega arith
digits-below (suc j) zero n h = rw (lt-ltb n 10 h) (omega arith)
digits-below (suc j) (suc k) n h =
    let e = length-append (decimal_in j (n / 10)) (digit (n % 10) ∷ []) in
    let d = digits-below j k (n / 10) (omega arith) in either-most (ltb n 10) _ _ (suc (suc k)) (omega arith) (omega arith)

pub decimal-below : (k n : ℕ) → n < 10 ^ suc k → length (decimal n) ≤ suc k
unfolding decimal
decimal-below k n h = digits-below 20 k n h

pub part-below : (k n : ℕ) → n < 10 ^ suc k → length (part n) ≤ suc (suc k)
unfolding part
part-below k n h = let d = decimal-below k n h in omega arith

-- a number's bytes are above the space, and there is one
abbrev pub Solid : List ℕ → Type 0
Solid xs = Each (λ b. 32 < b) xs

digits-solid : (k n : ℕ) → Solid (decimal_in k n)
unfolding decimal_in
digits-solid zero n = tt
digits-solid (suc k) n =
    either Solid (ltb n 10) (digit n ∷ []) (decimal_in k (n / 10) ++ digit (n % 10) ∷ []) (omega arith, tt)
    (each_append (λ b. 32 < b) (decimal_in k (n / 10)) (digit (n % 10) ∷ []) (digits-solid k (n / 10)) (omega arith, tt))

pub decimal-solid : (n : ℕ) → Solid (decimal n)
unfolding decimal
decimal-solid n = digits-solid 20 n

pub signed-solid : (z : ℤ) → Solid (signed_decimal z)
unfolding signed_decimal
signed-solid (pos n) = decimal-solid n
signed-solid (negsuc n) = (omega arith, decimal-solid (n + 1))

pub decimal-some : (n : ℕ) → 0 < length (decimal n)
unfolding decimal decimal_in
decimal-some n =
    either (λ xs. 0 < length xs) (ltb n 10) (digit n ∷ []) (decimal_in 19 (n / 10) ++ digit (n % 10) ∷ []) (omega arith)
    (omega (arith, length-append (decimal_in 19 (n / 10)) (digit (n % 10) ∷ [])))
