-- Decimals: the fewest digits of a number are its decimal, and a signed number by its size.
use Prim.Native.Nat.{ℕ, zero, suc, ◌+◌, ◌-◌, ◌/◌, ◌%◌, ◌^◌, ◌≤◌, ◌<◌}
use native.Mathlib.Omega.{arith}
use native.Mathlib.Nat.{pow-suc, pow-le-pow_right}
use mathlib.Core.Path.{◌≡◌, refl, ap}
use mathlib.Core.Bool.{Bool, true, false}
use mathlib.Core.List.{[], ◌∷◌, ◌++◌}
use lib.Dec.{leb}
use lib.IntN.{ℤ, pos, negsuc, nat_abs}
use lib.Signed.{lt_z}
use borrow.Author.Tests.{lt-ltb, ltb-true, le-ltb, leb-true, leb-false}
use Rattle.io.specs.Digits.{hex_digit_ascii, last_digits, IsDigitCount}
use Rattle.model.specs.Text.{ascii, digit, decimal_in, decimal, part, signed_decimal, signed_part}

last : (n : ℕ) → hex_digit_ascii (n % 10) ≡ digit (n % 10)
last n = let h : n % 10 < 10 = omega arith in rw (lt-ltb (n % 10) 10 h)

above : (r : ℕ) → 0 < 10 ^ r
above zero = omega arith
above (suc r) = omega (arith, above r, pow-suc 10 r)

less : (r : ℕ) → suc r - 1 ≡ r
less r = omega arith

-- up to k digits, by the last one
fewest : (k r n : ℕ) → r ≤ k → IsDigitCount 10 1 n r → last_digits 10 r n ≡ decimal_in k n
unfolding decimal_in
fewest k zero n l f = absurd (omega (arith, f.0))
fewest zero (suc r) n l f = absurd (omega arith)
fewest (suc k) (suc zero) n l f =
    let h : n < 10 = omega (arith, f.1) in
    let e : n % 10 ≡ n = omega arith in
    rw (lt-ltb n 10 h, last n, e)
fewest (suc k) (suc (suc r)) n l f =
    let m : 10 ^ suc r ≤ n = rw (less (suc r)) at (f.2 (omega arith)) in
    let h : 10 ≤ n = omega (arith, pow-suc 10 r, above r) in
    let g : IsDigitCount 10 1 (n / 10) (suc r) = (
      omega arith,
      omega (arith, f.1, pow-suc 10 (suc r)),
      λ _. rw (less r) (omega (arith, pow-suc 10 r)),
    ) in
    rw (le-ltb n 10 h, ← fewest k (suc r) (n / 10) (omega arith) g, last n)

-- a number of 64 bits has 20 digits at most
short : (n r : ℕ) → n < 2 ^ 64 → IsDigitCount 10 1 n r → r ≤ 20
short n r h f = go (leb r 20) refl
  where
    go : (b : Bool) → leb r 20 ≡ b → r ≤ 20
    go true t = leb-true r 20 t
    go false t =
        let l : 20 < r = leb-false r 20 t in
        let m : 10 ^ (r - 1) ≤ n = f.2 (omega arith) in
        let p : 10 ^ 20 ≤ 10 ^ (r - 1) = pow-le-pow_right {n = 10} (omega arith) {i = 20} {j = r - 1} (omega arith) in
        absurd (omega arith)

pub tied : (n r : ℕ) → n < 2 ^ 64 → IsDigitCount 10 1 n r → last_digits 10 r n ≡ decimal n
unfolding decimal
tied n r h f = fewest 20 r n (short n r h f) f

-- a number below 10 is its digit
pub single : (n : ℕ) → n < 10 → digit n ∷ [] ≡ decimal n
unfolding decimal decimal_in
single n h = rw (lt-ltb n 10 h)

-- a signed number by its size: one that is not negative, and one that is
pub positive : (x : ℤ) (n : ℕ) → n ≡ nat_abs x → lt_z x (pos 0) ≡ false → part n ≡ signed_part x
unfolding part signed_part signed_decimal
positive (pos m) n e t = ap part e
positive (negsuc m) n e t = cc

pub negative : (x : ℤ) (n : ℕ) → n ≡ nat_abs x → lt_z x (pos 0) ≡ true → ascii " -" ++ decimal n ≡ signed_part x
unfolding signed_part signed_decimal
negative (pos m) n e t = let h : m < 0 = ltb-true m 0 t in absurd (omega arith)
negative (negsuc m) n e t = let h : n ≡ m + 1 = omega arith in ap (λ (d : ℕ). ascii " -" ++ decimal d) h
