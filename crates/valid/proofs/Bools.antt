-- Tests as facts, both ways, and lists of words taken apart.
use Prim.Native.Nat.{ℕ, zero, suc, ◌<◌}
use mathlib.Core.Path.{◌≡◌, refl, sym, ◌∙◌, ap}
use mathlib.Core.Bool.{Bool, true, false}
use mathlib.Core.List.{List, [], ◌∷◌, ◌++◌}
use native.Mathlib.Omega.{arith}
use lib.IntN.{ℤ, pos, negsuc}
use lib.ListN.{length, take, drop, replicate}
use lib.Seq.{take_at, drop_at}
use Rattle.model.specs.Lists.{all}
use Rattle.model.specs.Values.{same, number}
use Rattle.model.proofs.Facts.{and_left, and_right}
use Rattle.model.proofs.Valid.{same_true}
use Rattle.valid.specs.Judged.{beyond, plain, is_zero}

-- two tests that hold in the same cases
pub same_test : (a b : Bool) → (a ≡ true → b ≡ true) → (b ≡ true → a ≡ true) → a ≡ b
same_test true b f g = sym (f refl)
same_test false true f g = g refl
same_test false false f g = refl

pub fails : (a : Bool) → (a ≡ true → ⊥) → a ≡ false
fails true f = absurd (f refl)
fails false f = refl

-- a list by its first n and the rest
pub record Split {A : Type 0} (xs ys l : List A) (n : ℕ) : Type 0 where
  pub front : xs ≡ take n l
  pub back : ys ≡ drop n l

pub split : {A : Type 0} (xs ys l : List A) (n : ℕ) → length xs ≡ n → xs ++ ys ≡ l → Split xs ys l n
split xs ys l n h e =
    record {
      front = sym (take_at xs ys n h) ∙ ap (take n) e;
      back = sym (drop_at xs ys n h) ∙ ap (drop n) e;
    }

-- words that are 0
pub zeros-all : (n : ℕ) → all is_zero (replicate n (pos 0)) ≡ true
unfolding all is_zero
zeros-all zero = refl
zeros-all (suc n) = zeros-all n

pub all-zeros : (ws : List ℤ) → all is_zero ws ≡ true → ws ≡ replicate (length ws) (pos 0)
unfolding all is_zero
all-zeros [] e = refl
all-zeros (w ∷ ws) e =
    let p : w ≡ pos 0 = same_true w (pos 0) (and_left (same w (pos 0)) _ e) in
    let q : ws ≡ replicate (length ws) (pos 0) = all-zeros ws (and_right (same w (pos 0)) _ e) in
    λ i. p i ∷ q i

-- a small number is the word itself
pub small : (w : ℤ) → plain w < beyond → w ≡ pos (plain w)
unfolding plain
small (pos n) h = refl
small (negsuc n) h = absurd (omega arith)

pub small-number : (w : ℤ) → plain w < beyond → number w ≡ plain w
unfolding plain
small-number (pos n) h = refl
small-number (negsuc n) h = absurd (omega arith)

pub written-number : (w : ℤ) → plain w < beyond → pos (number w) ≡ w
written-number w h = ap pos (small-number w h) ∙ sym (small w h)

pub plain_of : {w : ℤ} {n : ℕ} → pos n ≡ w → plain w ≡ n
unfolding plain
plain_of e = ap plain (sym e)
