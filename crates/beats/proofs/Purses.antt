-- Purses where they stand in the words: that of thread i, and another in its place.
use Prim.Native.Nat.{ℕ, zero, suc, ◌+◌, ◌≤◌, ◌<◌}
use mathlib.Core.Path.{◌≡◌, refl, sym, ap, subst, ◌∙◌}
use mathlib.Core.List.{List, [], ◌∷◌, ◌++◌}
use native.Mathlib.Nat.{add-zero}
use native.Mathlib.Omega.{arith}
use lib.IntN.{ℤ}
use lib.ListN.{length, get_elem?}
use Rattle.model.specs.Syntax.{Program}
use Rattle.model.specs.Pool.{Purse, Thread, Pool, empty, endowed, words_of}
use Rattle.model.specs.Valid.{IsPurse}
use Rattle.model.proofs.Facts.{at_second, past-at}
use Rattle.pool.specs.Held.{Held, ThreadAt}
use Rattle.pool.specs.Edits.{threads_in, work_in, tokens_in, Endowed}
use Rattle.pool.proofs.Steps.{work-said, tokens-said}
use Rattle.steps.proofs.Choosing.{Around, around, is_held, pool-counted}
use Rattle.tokens.specs.Purses.{arrive, worked, handed, kept, purse_in, purse_at, endow, shared}
use Rattle.tokens.proofs.Purses.{purse-fits, endow-valid}
use Rattle.beats.specs.declared.purse.Purse.{Purse as Lent}
use Rattle.beats.specs.Purses.{purse_of, Holds, Finds, Endows, Earns, Shares}

-- the purse of a thread, and another for it, where the thread stands between others and where there is none
purse-amid : (a : Pool) (t : Thread) (b : Pool) → purse_at (a ++ t ∷ b) (length a) ≡ t.purse
unfolding purse_in
purse-amid a t b = ap purse_in (ap (get_elem? (a ++ t ∷ b)) (sym (add-zero (length a))) ∙ at_second a (t ∷ b) 0)

purse-none : (p : Pool) (i : ℕ) → length p ≤ i → purse_at p i ≡ empty
unfolding purse_in
purse-none p i h = ap purse_in (past-at p i h)

endow-amid : (e : Purse) (a : Pool) (t : Thread) (b : Pool) → endow (length a) e (a ++ t ∷ b) ≡ a ++ endowed t e ∷ b
unfolding endow
endow-amid e [] t b = refl
endow-amid e (u ∷ a) t b = ap {B = Pool} (λ l. u ∷ l) (endow-amid e a t b)

endow-none : (e : Purse) (p : Pool) (i : ℕ) → length p ≤ i → endow i e p ≡ p
unfolding endow
endow-none e [] i h = refl
endow-none e (t ∷ p) zero h = absurd (omega arith)
endow-none e (t ∷ p) (suc i) h = ap {B = Pool} (λ l. t ∷ l) (endow-none e p i (omega arith))

-- a thread of the pool that the words hold
module _ (P : Program) (p : Pool) {ws : List ℤ} (h : Holds P ws p) {i : ℕ} (x : Around p i) where
  thread-of : ThreadAt ws i x.front x.thread x.back
  thread-of = record { held = subst (Held ws) x.is (is_held P p h.words h.valid); place = x.place }

  purse-of : purse_at p i ≡ x.thread.purse
  purse-of =
      ap (λ (q : Pool). purse_at q i) x.is
      ∙ ap (purse_at (x.front ++ x.thread ∷ x.back)) (sym x.place)
      ∙ purse-amid x.front x.thread x.back

  endow-of : (e : Purse) → endow i e p ≡ x.front ++ endowed x.thread e ∷ x.back
  endow-of e =
      ap (endow i e) x.is
      ∙ ap (λ (j : ℕ). endow j e (x.front ++ x.thread ∷ x.back)) (sym x.place)
      ∙ endow-amid e x.front x.thread x.back

good-fits : (e : Lent) → IsPurse (purse_of e)
good-fits e = record { work = e.good.0; tokens = e.good.1 }

module _ (ws : List ℤ) (i : ℕ) {n : ℕ} (c : n ≡ threads_in ws) where
  pub finds-purse : {w k : ℕ} → i < n → w ≡ work_in ws i → k ≡ tokens_in ws i → (P : Program) (p : Pool) → Holds P ws p
      → ◌≡◌ {A = Purse} (record { work = w; tokens = k }) (purse_at p i)
  finds-purse {w} {k} l e f P p h =
      let x = around p i (omega (arith, pool-counted P p h.words h.valid)) in
      let q = purse-of P p h x in
      let g : IsPurse x.thread.purse = subst IsPurse q (purse-fits P p i h.valid) in
      let ew : w ≡ x.thread.purse.work = e ∙ work-said (thread-of P p h x) g.work in
      let ek : k ≡ x.thread.purse.tokens = f ∙ tokens-said (thread-of P p h x) g.tokens in
      (λ j. record { work = ew j; tokens = ek j }) ∙ sym q

  pub finds-none : n ≤ i → (P : Program) (p : Pool) → Holds P ws p → empty ≡ purse_at p i
  finds-none l P p h = sym (purse-none p i (omega (arith, pool-counted P p h.words h.valid)))

  module _ (e : Lent) where
    pub endows-purse : {ws' : List ℤ} → i < n → Endowed ws i (purse_of e) ws' → Endows ws i e ws'
    endows-purse l f P p h =
        let x = around p i (omega (arith, pool-counted P p h.words h.valid)) in
        let t = f x.front x.thread x.back (thread-of P p h x) in
        record {
          words = t.held.words ∙ ap words_of (sym (endow-of P p h x (purse_of e)));
          valid = endow-valid P i (purse_of e) p (good-fits e) h.valid;
        }

    pub endows-none : n ≤ i → Endows ws i e ws
    endows-none l P p h =
        let m : length p ≤ i = omega (arith, pool-counted P p h.words h.valid) in
        record {
          words = h.words ∙ ap words_of (sym (endow-none (purse_of e) p i m));
          valid = endow-valid P i (purse_of e) p (good-fits e) h.valid;
        }

-- what a step earns, and what a promotion shares
pub earns-purse : {ws ws' : List ℤ} (i N C m : ℕ) (e e₁ e₂ : Lent) → Finds ws i e → purse_of e₁ ≡ arrive m (purse_of e)
    → purse_of e₂ ≡ worked N C (purse_of e₁) → Endows ws i e₂ ws' → Earns ws i N C m ws'
earns-purse {ws} {ws'} i N C m e e₁ e₂ f g h k P p q =
    subst (λ (x : Purse). Holds P ws' (endow i x p))
    (h ∙ ap (worked N C) (g ∙ ap (arrive m) (f P p q))) (k P p q)

pub shares-purse : {ws ws₁ ws₂ : List ℤ} (i : ℕ) (e e₁ e₂ : Lent) → Finds ws i e → purse_of e₁ ≡ kept (purse_of e) → Endows ws i e₁ ws₁
    → purse_of e₂ ≡ handed (purse_of e) → Endows ws₁ (i + 1) e₂ ws₂ → Shares ws i ws₂
unfolding shared
shares-purse {ws} {ws₁} {ws₂} i e e₁ e₂ f g h k l P p q =
    let x : Purse = purse_at p i in
    let one : Holds P ws₁ (endow i (kept x) p) = subst (λ (y : Purse). Holds P ws₁ (endow i y p)) (g ∙ ap kept (f P p q)) (h P p q) in
    subst (λ (y : Purse). Holds P ws₂ (endow (i + 1) y (endow i (kept x) p))) (k ∙ ap handed (f P p q)) (l P (endow i (kept x) p) one)
