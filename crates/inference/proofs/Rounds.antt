-- A step of each block, swept over a list of blocks as often as anything can change: for any step over any state, and any number of
-- blocks. What each step keeps is kept; and where a step climbs, below a bound, no step changes anything at the end.
use Prim.Native.Nat.{ℕ, zero, suc, ◌+◌, ◌≤◌, ◌<◌}
use mathlib.Core.Path.{◌≡◌, refl, sym, ◌∙◌, ap, subst}
use mathlib.Core.Logic.{◌⊎◌, inl, inr, ◌≢◌}
use mathlib.Core.Bool.{Bool, true, false}
use mathlib.Core.List.{List, [], ◌∷◌}
use native.Mathlib.Omega.{arith}
use lib.Dec.{eqb}
use Rattle.model.specs.Lists.{Each}
use Rattle.model.proofs.Facts.{eqb-true, eqb-false}
use Rattle.inference.specs.Infer.{upward, downward, sweep, rounds}

-- what holds of each of n numbers from k on, and of each below n
pub upward-each : (Q : ℕ → Type 0) (k n : ℕ) → Each Q (upward k n) → (b : ℕ) → k ≤ b → b < k + n → Q b
unfolding upward
upward-each Q k zero h b p q = absurd (omega arith)
upward-each Q k (suc n) h b p q = go (eqb k b) refl (upward-each Q (k + 1) n h.1 b)
  where
    go : (t : Bool) → eqb k b ≡ t → (k + 1 ≤ b → b < k + 1 + n → Q b) → Q b
    go true e on = subst Q (eqb-true k b e) h.0
    go false e on = let d : k ≢ b = eqb-false k b e in on (omega arith) (omega arith)

pub downward-each : (Q : ℕ → Type 0) (n : ℕ) → Each Q (downward n) → (b : ℕ) → b < n → Q b
unfolding downward
downward-each Q zero h b p = absurd (omega arith)
downward-each Q (suc n) h b p = go (eqb n b) refl (downward-each Q n h.1 b)
  where
    go : (t : Bool) → eqb n b ≡ t → (b < n → Q b) → Q b
    go true e on = subst Q (eqb-true n b e) h.0
    go false e on = let d : n ≢ b = eqb-false n b e in on (omega arith)

-- what each step keeps is kept by a sweep, and by rounds of it
module _ {A : Type 0} (step : ℕ → A → A) (I : A → Type 0) (keeps : (b : ℕ) (σ : A) → I σ → I (step b σ)) where
  pub sweep-keep : (bs : List ℕ) (σ : A) → I σ → I (sweep step bs σ)
  unfolding sweep
  sweep-keep [] σ i = i
  sweep-keep (b ∷ bs) σ i = sweep-keep bs (step b σ) (keeps b σ i)

  pub rounds-keep : (bs : List ℕ) (n : ℕ) (σ : A) → I σ → I (rounds (sweep step bs) n σ)
  unfolding rounds
  rounds-keep bs zero σ i = i
  rounds-keep bs (suc n) σ i = rounds-keep bs n (sweep step bs σ) (sweep-keep bs σ i)

-- after a sweep Q holds of each block of its list, where the step of a block makes Q of it, in the states with I, and every step keeps both
module _ {A : Type 0} (step : ℕ → A → A) (I : A → Type 0) (Q : ℕ → A → Type 0) (keeps : (b : ℕ) (σ : A) → I σ → I (step b σ))
    (makes : (b : ℕ) (σ : A) → I σ → Q b (step b σ)) (stays : (b c : ℕ) (σ : A) → Q b σ → Q b (step c σ)) where
  sweep-makes : (bs : List ℕ) (σ : A) → I σ → Each (λ b. Q b (sweep step bs σ)) bs
  unfolding sweep
  sweep-makes [] σ i = tt
  sweep-makes (b ∷ bs) σ i = (sweep-keep step (Q b) (stays b) bs (step b σ) (makes b σ i), sweep-makes bs (step b σ) (keeps b σ i))

  pub downward-makes : (n : ℕ) (σ : A) → I σ → (b : ℕ) → b < n → Q b (sweep step (downward n) σ)
  downward-makes n σ i = downward-each (λ b. Q b (sweep step (downward n) σ)) n (sweep-makes (downward n) σ i)

-- rounds of what changes nothing change nothing
rounds-same : {A : Type 0} (f : A → A) (n : ℕ) (σ : A) → f σ ≡ σ → rounds f n σ ≡ σ
unfolding rounds
rounds-same f zero σ e = refl
rounds-same f (suc n) σ e = ap (rounds f n) e ∙ rounds-same f n σ e

-- in the states with I, which a step keeps, it changes nothing or raises their size, which is at most m
pub record Climbs {A : Type 0} (step : ℕ → A → A) (I : A → Type 0) (size : A → ℕ) (m : ℕ) : Type 0 where
  pub keeps : (b : ℕ) (σ : A) → I σ → I (step b σ)
  pub climbs : (b : ℕ) (σ : A) → I σ → (step b σ ≡ σ) ⊎ (size σ < size (step b σ))
  pub most : (σ : A) → I σ → size σ ≤ m

module _ {A : Type 0} {step : ℕ → A → A} {I : A → Type 0} {size : A → ℕ} {m : ℕ} (c : Climbs step I size m) where
  -- so does a sweep
  pub sweep-climbs : (bs : List ℕ) (σ : A) → I σ → (sweep step bs σ ≡ σ) ⊎ (size σ < size (sweep step bs σ))
  unfolding sweep
  sweep-climbs [] σ i = inl refl
  sweep-climbs (b ∷ bs) σ i = go (c.climbs b σ i) (sweep-climbs bs (step b σ) (c.keeps b σ i))
    where
      go : (step b σ ≡ σ) ⊎ (size σ < size (step b σ)) →
          (sweep step bs (step b σ) ≡ step b σ) ⊎ (size (step b σ) < size (sweep step bs (step b σ))) →
          (sweep step bs (step b σ) ≡ σ) ⊎ (size σ < size (sweep step bs (step b σ)))
      go (inl e) (inl d) = inl (d ∙ e)
      go (inl e) (inr l) = inr (subst (λ (τ : A). size τ < size (sweep step bs (step b σ))) e l)
      go (inr k) (inl d) = inr (subst (λ (τ : A). size σ < size τ) (sym d) k)
      go (inr k) (inr l) = inr (omega arith)

  -- as many rounds as the size can rise from here, and a further one changes nothing
  steady-from : (bs : List ℕ) (n : ℕ) (σ : A) → I σ → m ≤ size σ + n →
      sweep step bs (rounds (sweep step bs) n σ) ≡ rounds (sweep step bs) n σ
  unfolding rounds
  steady-from bs zero σ i h = go (sweep-climbs bs σ i)
    where
      go : (sweep step bs σ ≡ σ) ⊎ (size σ < size (sweep step bs σ)) → sweep step bs σ ≡ σ
      go (inl e) = e
      go (inr l) =
          let k : size (sweep step bs σ) ≤ m = c.most (sweep step bs σ) (sweep-keep step I c.keeps bs σ i) in
          absurd (omega arith)
  steady-from bs (suc n) σ i h =
      go (sweep-climbs bs σ i) (steady-from bs n (sweep step bs σ) (sweep-keep step I c.keeps bs σ i))
    where
      f : A → A
      f = sweep step bs

      go : (f σ ≡ σ) ⊎ (size σ < size (f σ)) → (m ≤ size (f σ) + n → f (rounds f n (f σ)) ≡ rounds f n (f σ)) →
          f (rounds f n (f σ)) ≡ rounds f n (f σ)
      go (inl e) on =
          let s : rounds f n (f σ) ≡ σ = ap (rounds f n) e ∙ rounds-same f n σ e in
          ap f s ∙ e ∙ sym s
      go (inr l) on = on (omega arith)

  pub steady : (bs : List ℕ) (σ : A) → I σ → sweep step bs (rounds (sweep step bs) m σ) ≡ rounds (sweep step bs) m σ
  steady bs σ i = steady-from bs m σ i (omega arith)

  -- a sweep that changes nothing has no step that does
  pub swept-fixed : (bs : List ℕ) (σ : A) → I σ → sweep step bs σ ≡ σ → Each (λ b. step b σ ≡ σ) bs
  unfolding sweep
  swept-fixed [] σ i e = tt
  swept-fixed (b ∷ bs) σ i e = go (c.climbs b σ i) (sweep-climbs bs (step b σ) (c.keeps b σ i)) (swept-fixed bs σ i)
    where
      go : (step b σ ≡ σ) ⊎ (size σ < size (step b σ)) →
          (sweep step bs (step b σ) ≡ step b σ) ⊎ (size (step b σ) < size (sweep step bs (step b σ))) →
          (sweep step bs σ ≡ σ → Each (λ b. step b σ ≡ σ) bs) → (step b σ ≡ σ) × Each (λ b. step b σ ≡ σ) bs
      go (inl d) s on = (d, on (ap (sweep step bs) (sym d) ∙ e))
      go (inr k) (inl d) on = let p : step b σ ≡ σ = sym d ∙ e in let z : size (step b σ) ≡ size σ = ap size p in absurd (omega arith)
      go (inr k) (inr l) on = let z : size (sweep step bs (step b σ)) ≡ size σ = ap size e in absurd (omega arith)

  pub upward-fixed : (n : ℕ) (σ : A) → I σ → sweep step (upward 0 n) σ ≡ σ → (b : ℕ) → b < n → step b σ ≡ σ
  upward-fixed n σ i e b h = upward-each (λ b. step b σ ≡ σ) 0 n (swept-fixed (upward 0 n) σ i e) b (omega arith) (omega arith)

  pub downward-fixed : (n : ℕ) (σ : A) → I σ → sweep step (downward n) σ ≡ σ → (b : ℕ) → b < n → step b σ ≡ σ
  downward-fixed n σ i e b h = downward-each (λ b. step b σ ≡ σ) n (swept-fixed (downward n) σ i e) b h

  -- at the end of m rounds no step of a block below n changes anything, in either order
  pub upward-ends : (n : ℕ) (σ : A) → I σ → (b : ℕ) → b < n →
      step b (rounds (sweep step (upward 0 n)) m σ) ≡ rounds (sweep step (upward 0 n)) m σ
  upward-ends n σ i =
      upward-fixed n (rounds (sweep step (upward 0 n)) m σ) (rounds-keep step I c.keeps (upward 0 n) m σ i)
      (steady (upward 0 n) σ i)

  pub downward-ends : (n : ℕ) (σ : A) → I σ → (b : ℕ) → b < n →
      step b (rounds (sweep step (downward n)) m σ) ≡ rounds (sweep step (downward n)) m σ
  downward-ends n σ i =
      downward-fixed n (rounds (sweep step (downward n)) m σ) (rounds-keep step I c.keeps (downward n) m σ i)
      (steady (downward n) σ i)
