-- Nestings compared where they lie in the table, and the tests of a target.
use Prim.Native.Nat.{ℕ, zero, suc, ◌+◌, ◌%◌, ◌^◌, ◌<◌}
use mathlib.Core.Path.{◌≡◌, refl, sym, ◌∙◌, ap}
use mathlib.Core.Bool.{Bool, true, false, ◌&&◌}
use mathlib.Core.Option.{none, some}
use mathlib.Core.List.{List, [], ◌∷◌, ◌++◌}
use native.Mathlib.Omega.{arith}
use lib.Dec.{eqb}
use lib.ListN.{length, length-append}
use Rattle.model.specs.Numbers as No
use Rattle.model.specs.Lists.{equal}
use Rattle.model.specs.Sets.{within}
use Rattle.model.specs.Tests.{fault}
use Rattle.model.specs.Check as Check
use Rattle.model.proofs.Facts.{and-true, eq-eqb, ne_eqb}
use Rattle.code.specs.Bytes.{byte_at, past}
use Rattle.code.specs.Code.{run, head_in}
use Rattle.code.specs.declared.Opening.{Opening}
use Rattle.code.proofs.Ends.{run_length}
use Rattle.bound.proofs.Faults.{need-fails, need-holds, then-first, then-second}

-- lists of other lengths differ; and the last items of two lists as long as each other
equal-lengths : (xs ys : List ℕ) → (length xs ≡ length ys → ⊥) → false ≡ equal xs ys
unfolding equal
equal-lengths [] [] h = absurd (h refl)
equal-lengths [] (y ∷ ys) h = refl
equal-lengths (x ∷ xs) [] h = refl
equal-lengths (x ∷ xs) (y ∷ ys) h = go (eqb x y) (equal-lengths xs ys (λ e. h (ap suc e)))
  where
    go : (b : Bool) → false ≡ equal xs ys → false ≡ (b && equal xs ys)
    go true e = e
    go false e = refl

equal-snoc : (xs ys : List ℕ) (x y : ℕ) → length xs ≡ length ys
    → equal (xs ++ (x ∷ [])) (ys ++ (y ∷ [])) ≡ (equal xs ys && eqb x y)
unfolding equal
equal-snoc [] [] x y h = and-true (eqb x y)
equal-snoc [] (z ∷ ys) x y h = absurd (omega arith)
equal-snoc (w ∷ xs) [] x y h = absurd (omega arith)
equal-snoc (w ∷ xs) (z ∷ ys) x y h = go (eqb w z) (equal-snoc xs ys x y (omega arith))
  where
    go : (b : Bool) → equal (xs ++ (x ∷ [])) (ys ++ (y ∷ [])) ≡ (equal xs ys && eqb x y)
        → (b && equal (xs ++ (x ∷ [])) (ys ++ (y ∷ []))) ≡ ((b && equal xs ys) && eqb x y)
    go true e = e
    go false e = refl

-- a run that is not as long as a list; a run's last byte
pub runs-differ : (s : List ℕ) (at n : ℕ) (ys : List ℕ) → (n ≡ length ys → ⊥) → false ≡ equal (run s at n) ys
runs-differ s at n ys d = equal-lengths (run s at n) ys (λ e. d (sym (run_length s at n) ∙ e))

pub run-snoc : (s : List ℕ) (at n : ℕ) → at < 2 ^ 64 → run s at (n + 1) ≡ run s at n ++ (byte_at s (past at n) ∷ [])
unfolding run past
run-snoc s at zero h = let e : (at + 0) % 2 ^ 64 ≡ at = omega arith in rw e
run-snoc s at (suc n) h =
    let e : ((at + 1) % 2 ^ 64 + n) % 2 ^ 64 ≡ (at + suc n) % 2 ^ 64 = omega arith in
    let q : suc n + 1 ≡ suc (n + 1) = omega arith in
    rw q (ap {B = List ℕ} (λ xs. byte_at s at ∷ xs) (run-snoc s ((at + 1) % 2 ^ 64) n (omega arith) ∙ rw e))

-- a nesting, and one longer by x
module _ (s : List ℕ) (h : Opening) (at n : ℕ) where
  pub keeps_same : {r : Bool} → h.depth ≡ n → r ≡ equal (run s h.nesting n) (run s at n) → r ≡ equal (head_in s h).nesting (run s at n)
  unfolding head_in
  keeps_same d e = rw d e

  pub keeps-differ : (h.depth ≡ n → ⊥) → false ≡ equal (head_in s h).nesting (run s at n)
  unfolding head_in
  keeps-differ d = runs-differ s h.nesting h.depth (run s at n) (λ e. d (e ∙ run_length s at n))

  pub adds-differ : (x : ℕ) → (h.depth ≡ n + 1 → ⊥) → false ≡ equal (head_in s h).nesting (run s at n ++ (x ∷ []))
  unfolding head_in
  adds-differ x d =
      runs-differ s h.nesting h.depth (run s at n ++ (x ∷ []))
      (λ e. d (e ∙ length-append (run s at n) (x ∷ []) ∙ ap (λ (k : ℕ). k + 1) (run_length s at n)))

  module _ (x : ℕ) {b : Bool} (d : h.depth ≡ n + 1) (small : h.nesting < 2 ^ 64) (w : b ≡ equal (run s h.nesting n) (run s at n)) where
    added : equal (head_in s h).nesting (run s at n ++ (x ∷ [])) ≡ (b && eqb (byte_at s (past h.nesting n)) x)
    unfolding head_in
    added =
        rw (d, run-snoc s h.nesting n small, w)
        (equal-snoc (run s h.nesting n) (run s at n) (byte_at s (past h.nesting n)) x
        (run_length s h.nesting n ∙ sym (run_length s at n)))

    pub adds-not : b ≡ false → false ≡ equal (head_in s h).nesting (run s at n ++ (x ∷ []))
    adds-not z = sym (added ∙ rw z)

    pub adds_same : {k y : ℕ} → b ≡ true → k ≡ past h.nesting n → y ≡ byte_at s k
        → eqb y x ≡ equal (head_in s h).nesting (run s at n ++ (x ∷ []))
    adds_same z q e = sym (added ∙ rw (z, ← q, ← e))

-- a target's tests, from the code's
module _ (s : List ℕ) (h : Opening) where
  pub takes-holds : {n : ℕ} → h.count ≡ n → fault (Check.takes (head_in s h) n) ≡ none
  unfolding head_in Check.takes
  takes-holds e = need-holds No.count _ (eq-eqb _ _ (run_length s h.parameters h.count ∙ e))

  pub takes-fails : {n : ℕ} → (h.count ≡ n → ⊥) → fault (Check.takes (head_in s h) n) ≡ some No.count
  unfolding head_in Check.takes
  takes-fails d = need-fails No.count _ (ne_eqb _ _ (λ e. d (sym (run_length s h.parameters h.count) ∙ e)))

  pub scoped-holds : (Γ : ℕ) {b : Bool} → b ≡ within h.scope Γ → b ≡ true → fault (Check.scoped (head_in s h) Γ) ≡ none
  unfolding head_in Check.scoped
  scoped-holds Γ e z = need-holds No.scope _ (sym e ∙ z)

  pub scoped-fails : (Γ : ℕ) {b : Bool} → b ≡ within h.scope Γ → b ≡ false → fault (Check.scoped (head_in s h) Γ) ≡ some No.scope
  unfolding head_in Check.scoped
  scoped-fails Γ e z = need-fails No.scope _ (sym e ∙ z)

  pub nests-holds : (ρ : List ℕ) {b : Bool} → b ≡ equal (head_in s h).nesting ρ → b ≡ true → fault (Check.nests (head_in s h) ρ) ≡ none
  unfolding Check.nests
  nests-holds ρ e z = need-holds No.nesting _ (sym e ∙ z)

  pub nests-fails : (ρ : List ℕ) {b : Bool} → b ≡ equal (head_in s h).nesting ρ → b ≡ false
      → fault (Check.nests (head_in s h) ρ) ≡ some No.nesting
  unfolding Check.nests
  nests-fails ρ e z = need-fails No.nesting _ (sym e ∙ z)

pub ruleset target = (then-first, then-second, takes-holds, takes-fails, nests-holds, nests-fails, scoped-holds, scoped-fails)
