-- The numbers are in order: `InOrder`.
use Prim.Native.Nat.{ℕ, zero, suc, ◌+◌, ◌*◌, ◌<◌}
use native.Mathlib.Nat.{mul-zero, mul-suc}
use native.Mathlib.Omega.{arith}
use mathlib.Core.Path.{◌≡◌, refl, sym, ap, subst, ◌∙◌}
use mathlib.Core.Bool.{Bool, true, false}
use mathlib.Core.Option.{some}
use mathlib.Core.List.{List, [], ◌∷◌, ◌++◌}
use lib.Dec.{ltb}
use lib.ListN.{length, get_elem?, length-append}
use borrow.Author.Tests.{ltb-true, ltb-false}
use Rattle.model.specs.Pool.{most_frames, most_threads, start_of}
use Rattle.model.proofs.Facts.{at_first, at_second}
use Rattle.starts.specs.Starts.{in_turn, starts, InOrder}

-- equally long lists one behind the other: how long they are, and item j of list i
module _ (f : ℕ → List ℕ) (m : ℕ) (l : (i : ℕ) → length (f i) ≡ m) where
  long : (n : ℕ) → length (in_turn n f) ≡ m * n
  unfolding in_turn
  long zero = sym (mul-zero m)
  long (suc n) = length-append (in_turn n f) (f n) ∙ omega (arith, long n, l n, mul-suc m n)

  item : (n i j : ℕ) {x : ℕ} → i < n → get_elem? (f i) j ≡ some x → get_elem? (in_turn n f) (m * i + j) ≡ some x
  unfolding in_turn
  item zero i j h e = absurd (omega arith)
  item (suc n) i j {x} h e = go (ltb i n) refl (λ p. item n i j p e)
    where
      go : (b : Bool) → ltb i n ≡ b → (i < n → get_elem? (in_turn n f) (m * i + j) ≡ some x)
          → get_elem? (in_turn n f ++ f n) (m * i + j) ≡ some x
      go true t g = at_first (in_turn n f) (f n) (m * i + j) (g (ltb-true i n t))
      go false t g =
          let q : i ≡ n = omega (arith, ltb-false i n t) in
          let k : m * i + j ≡ length (in_turn n f) + j = ap (λ (o : ℕ). o + j) (ap (λ (o : ℕ). m * o) q ∙ sym (long n)) in
          ap (get_elem? (in_turn n f ++ f n)) k ∙ at_second (in_turn n f) (f n) j ∙ ap (λ (o : ℕ). get_elem? (f o) j) (sym q) ∙ e

-- those of thread i: there are as many as it can have frames, and the one at j is that of frame j
module _ (i : ℕ) where
  abbrev one : ℕ → List ℕ
  one j = start_of i j ∷ []

  thread-long : length (in_turn most_frames one) ≡ most_frames
  thread-long = omega (arith, long one 1 (λ j. refl) most_frames)

  thread-item : (j : ℕ) → j < most_frames → get_elem? (in_turn most_frames one) j ≡ some (start_of i j)
  thread-item j h =
      let e : 1 * j + 0 ≡ j = omega arith in
      subst (λ (k : ℕ). get_elem? (in_turn most_frames one) k ≡ some (start_of i j)) e (item one 1 (λ k. refl) most_frames j 0 h refl)

pub in_order : InOrder starts
unfolding starts
in_order =
    let all : ℕ → List ℕ = λ i. in_turn most_frames (one i) in
    record {
      count = omega (arith, long all most_frames thread-long most_threads);
      each = λ i j p q. item all most_frames thread-long most_threads i j p (thread-item i j q);
    }
