-- What a turn of each loop over words leaves, and what the tests on a word tell.
use Prim.Native.Nat.{ℕ, zero, suc, ◌+◌, ◌/◌, ◌%◌, ◌^◌, ◌≤◌, ◌<◌}
use mathlib.Core.Path.{◌≡◌, refl, sym, ap, ◌∙◌}
use mathlib.Core.Bool.{Bool, true, false, ◌&&◌, ◌||◌}
use mathlib.Core.List.{List}
use native.Mathlib.Omega.{arith}
use native.Mathlib.Numerals.{add-one}
use lib.Bits.{bit_or, or_add_and, and_le_r}
use lib.Dec.{eqb}
use lib.IntN.{ℤ, pos, negsuc, nat_abs}
use lib.ListN.{length, get_or, drop, drop_of_length-le}
use lib.Seq.{drop-cons}
use mir.Syntax.{w32}
use mir.Val.{to_z, of_z, SFits}
use mir.Facts.{to_z-of_z}
use Rattle.std.specs.Prelude.{Result, Ok, Err}
use Rattle.std.specs.Int.{FitsUnsignedBits}
use Rattle.std.specs.Result.{OkIff, result_unwrap_or}
use Rattle.model.specs.Lists.{all}
use Rattle.model.specs.Sets.{has}
use Rattle.model.specs.Pool.{blank}
use Rattle.model.proofs.Facts.{and-true, ne_eqb}
use Rattle.words.proofs.Signs.{zero_test}
use Rattle.valid.specs.Judged.{beyond, plain, is_zero, IsNumber}

-- a word as a number
pub number-read : {E : Type 0} (w : ℤ) (r : Result ℕ E) {n : ℕ} → SFits w32 w
    → OkIff r (FitsUnsignedBits 64 (to_z w32 (of_z w32 w))) (nat_abs (to_z w32 (of_z w32 w))) → n ≡ result_unwrap_or r beyond
    → IsNumber w n
unfolding plain
number-read {E} w r {n} f h e = go w r f (rw (to_z-of_z f) at h) e
  where
    go : (w : ℤ) (r : Result ℕ E) → SFits w32 w → OkIff r (FitsUnsignedBits 64 w) (nat_abs w) → n ≡ result_unwrap_or r beyond
        → IsNumber w n
    go (pos m) (Ok x) f h e = record { is = e ∙ h.1; small = omega (arith, f.sfits, e, h.1) }
    go (pos m) (Err x) f h e = absurd (h (omega (arith, f.sfits)))
    go (negsuc m) (Ok x) f h e = absurd h.0
    go (negsuc m) (Err x) f h e = record { is = e; small = omega (arith, e) }

and_assoc : (a b c : Bool) → (a && (b && c)) ≡ ((a && b) && c)
and_assoc true b c = refl
and_assoc false b c = refl

-- all of a list, from word i on
module _ (f : ℤ → Bool) (ws : List ℤ) (i : ℕ) (h : all f ws ≡ all f (drop i ws)) where
  all-step : i < length ws → all f ws ≡ (f (get_or ws i (pos 0)) && all f (drop (i + 1) ws))
  unfolding all
  all-step l = h ∙ rw (add-one, drop-cons ws i (pos 0))

  pub all-goes : i < length ws → f (get_or ws i (pos 0)) ≡ true → all f ws ≡ all f (drop (i + 1) ws)
  all-goes l e = all-step l ∙ rw e refl

  pub all-fails : i < length ws → f (get_or ws i (pos 0)) ≡ false → false ≡ all f ws
  all-fails l e = sym (all-step l ∙ rw e refl)

  pub all-ends : length ws ≤ i → true ≡ all f ws
  unfolding all
  all-ends l = sym (h ∙ rw (drop_of_length-le ws l) refl)

-- bits put together are 0 where both are
or-test : (a b : ℕ) → eqb (bit_or a b) 0 ≡ (eqb a 0 && eqb b 0)
or-test zero b = refl
or-test (suc a) b =
    ne_eqb (bit_or (suc a) b) 0 (λ e. absurd (omega (arith, or_add_and (suc a) b, and_le_r (suc a) b)))
    ∙ sym (ap (λ (t : Bool). t && eqb b 0) (ne_eqb (suc a) 0 (λ e. absurd (omega arith))))

-- all of a list: what is known of those before i, and the rest
module _ (ws : List ℤ) (i bits : ℕ) where
  pub zeros-turn : {n : ℕ} → all is_zero ws ≡ (eqb bits 0 && all is_zero (drop i ws)) → i < length ws → SFits w32 (get_or ws i (pos 0))
      → n ≡ of_z w32 (to_z w32 (of_z w32 (get_or ws i (pos 0)))) → all is_zero ws ≡ (eqb (bit_or bits n) 0 && all is_zero (drop (i + 1) ws))
  unfolding all is_zero
  zeros-turn h l f e =
      h ∙ rw (add-one, drop-cons ws i (pos 0), or-test bits _, e, to_z-of_z f, zero_test (get_or ws i (pos 0)) f)
      (and_assoc (eqb bits 0) _ _)

  pub zeros-end : all is_zero ws ≡ (eqb bits 0 && all is_zero (drop i ws)) → length ws ≤ i → eqb bits 0 ≡ all is_zero ws
  unfolding all
  zeros-end h l = sym (h ∙ rw (drop_of_length-le ws l) (and-true (eqb bits 0)))

-- and of the values
module _ (ws : List ℤ) (i : ℕ) (fine : Bool) where
  blank_step : (Γ : ℕ) → i < length ws
      → blank Γ i (drop i ws) ≡ ((has Γ i || is_zero (get_or ws i (pos 0))) && blank Γ (i + 1) (drop (i + 1) ws))
  unfolding blank is_zero
  blank_step Γ l = rw (drop-cons ws i (pos 0), add-one)

  pub blank_turn : (Γ : ℕ) → blank Γ 0 ws ≡ (fine && blank Γ i (drop i ws)) → i < length ws → SFits w32 (get_or ws i (pos 0))
      → blank Γ 0 ws ≡ ((fine && (eqb (Γ / 2 ^ i % 2) 1 || eqb (of_z w32 (get_or ws i (pos 0))) 0)) && blank Γ (i + 1) (drop (i + 1) ws))
  unfolding has is_zero
  blank_turn Γ h l f = h ∙ rw (blank_step Γ l, zero_test (get_or ws i (pos 0)) f) (and_assoc fine _ _)

  pub blank-end : (Γ : ℕ) → blank Γ 0 ws ≡ (fine && blank Γ i (drop i ws)) → length ws ≤ i → fine ≡ blank Γ 0 ws
  unfolding blank
  blank-end Γ h l = sym (h ∙ rw (drop_of_length-le ws l) (and-true fine))
