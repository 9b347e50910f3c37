-- What choices keep of a pool, and another purse too, beats and runs keep: of each pool that a promotion is put to, and of the pool
-- left. So a beat keeps a valid pool valid.
use Prim.Native.Nat.{ℕ, zero, suc, ◌≤◌}
use mathlib.Core.Path.{◌≡◌, refl, sym, subst}
use mathlib.Core.Bool.{Bool, true, false, cond}
use mathlib.Core.List.{List, [], ◌∷◌}
use lib.Dec.{ltb}
use Rattle.model.specs.Lists.{Each}
use Rattle.model.specs.Syntax.{Program}
use Rattle.model.specs.Limits.{Limits}
use Rattle.model.specs.Pool.{Pool, most_threads, is_pool}
use Rattle.model.specs.Rules.{Result, choice}
use Rattle.model.proofs.Kept.{choice-kept}
use Rattle.tokens.specs.Purses.{purse_at, earned, shared, stacks}
use Rattle.tokens.specs.Beats.{Spent, paying, spend, Beaten, stepped, beaten, go_on, runs, most_n}
use Rattle.tokens.proofs.Purses.{earned-stacks, shared-stacks, earned-valid, shared-valid}

-- valid pools that have something in common
module _ (P : Program) (L : Limits P) (J : Pool → Type 0)
    (choices : (p p' : Pool) (kind i rule : ℕ) → is_pool P p ≡ true → J p → choice P p kind i ≡ Result.made rule p' → J p')
    (purses : (p p' : Pool) → is_pool P p ≡ true → is_pool P p' ≡ true → stacks p ≡ stacks p' → J p → J p') where
  abbrev pub Good : Pool → Type 0
  Good p = (is_pool P p ≡ true) × J p

  pub record Keeps (x : Spent) : Type 0 where
    pub from : Each Good x.from
    pub pool : Good x.pool

  choice-good : (p p' : Pool) (kind i rule : ℕ) → Good p → choice P p kind i ≡ Result.made rule p' → Good p'
  choice-good p p' kind i rule g e = (choice-kept P L p p' kind i rule g.0 e, choices p p' kind i rule g.0 g.1 e)

  shared-good : (i : ℕ) (p : Pool) → Good p → Good (shared i p)
  shared-good i p g =
      let v = shared-valid P i p g.0 in
      (v, purses p (shared i p) g.0 v (sym (shared-stacks i p)) g.1)

  pub earned-good : (N C rule : ℕ) (p : Pool) (i : ℕ) (p' : Pool) → N ≤ most_n → Good p' → Good (earned N C rule p i p')
  earned-good N C rule p i p' n g =
      let v = earned-valid P N C rule p i p' n g.0 in
      (v, purses p' (earned N C rule p i p') g.0 v (sym (earned-stacks N C rule p i p')) g.1)

  pub spend-keeps : (most i : ℕ) (p : Pool) → Good p → Keeps (spend most P i p)
  unfolding spend paying
  spend-keeps zero i p g = record { from = tt; pool = g }
  spend-keeps (suc most) i p g = tokens (ltb 0 (purse_at p i).tokens) (λ p' h. spend-keeps most i p' h)
    where
      promoted : (r : Result) → choice P p 1 i ≡ r → ((p' : Pool) → Good p' → Keeps (spend most P i p')) →
          Keeps (paying p r (λ p'. spend most P i (shared i p')))
      promoted (Result.refused n) e k = record { from = tt; pool = g }
      promoted (Result.made rule p') e k =
          let h = k (shared i p') (shared-good i p' (choice-good p p' 1 i rule g e)) in
          record { from = (g, h.from); pool = h.pool }

      tokens : (b : Bool) → ((p' : Pool) → Good p' → Keeps (spend most P i p')) →
          Keeps (cond b (paying p (choice P p 1 i) (λ p'. spend most P i (shared i p'))) (record { from = []; pool = p }))
      tokens true k = promoted (choice P p 1 i) refl k
      tokens false k = record { from = tt; pool = g }

  abbrev pub KeepsBeat : Beaten → Type 0
  KeepsBeat (Beaten.made rule x) = Keeps x
  KeepsBeat (Beaten.refused n) = Unit {0}

  pub beaten-keeps : (N C : ℕ) (p : Pool) (i : ℕ) → N ≤ most_n → Good p → KeepsBeat (beaten N C P p i)
  unfolding beaten stepped
  beaten-keeps N C p i n g = go (choice P p 0 i) refl
    where
      go : (r : Result) → choice P p 0 i ≡ r → KeepsBeat (stepped N C P p i r)
      go (Result.refused m) e = tt
      go (Result.made rule p') e =
          spend-keeps most_threads i (earned N C rule p i p') (earned-good N C rule p i p' n (choice-good p p' 0 i rule g e))

  pub runs-keep : (N C : ℕ) (p : Pool) (is : List ℕ) → N ≤ most_n → Good p → Good (runs N C P p is).pool
  unfolding runs go_on
  runs-keep N C p [] n g = g
  runs-keep N C p (i ∷ is) n g = go (beaten N C P p i) (beaten-keeps N C p i n g) (λ p' h. runs-keep N C p' is n h)
    where
      go : (b : Beaten) → KeepsBeat b → ((p' : Pool) → Good p' → Good (runs N C P p' is).pool) →
          Good (go_on p b (λ p'. runs N C P p' is)).pool
      go (Beaten.made rule x) h k = k x.pool h.pool
      go (Beaten.refused m) h k = g

-- a valid pool, and nothing more
module _ (P : Program) (L : Limits P) where
  abbrev Any : Pool → Type 0
  Any p = Unit {0}

  pub beaten-valid : (N C : ℕ) (p : Pool) (i rule : ℕ) (x : Spent) → N ≤ most_n → is_pool P p ≡ true →
      beaten N C P p i ≡ Beaten.made rule x → is_pool P x.pool ≡ true
  beaten-valid N C p i rule x n v e =
      let k = beaten-keeps P L Any (λ _ _ _ _ _ _ _ _. tt) (λ _ _ _ _ _ _. tt) N C p i n (v, tt) in
      (subst (KeepsBeat P L Any (λ _ _ _ _ _ _ _ _. tt) (λ _ _ _ _ _ _. tt)) e k).pool.0

  pub runs-valid : (N C : ℕ) (p : Pool) (is : List ℕ) → N ≤ most_n → is_pool P p ≡ true → is_pool P (runs N C P p is).pool ≡ true
  runs-valid N C p is n v = (runs-keep P L Any (λ _ _ _ _ _ _ _ _. tt) (λ _ _ _ _ _ _. tt) N C p is n (v, tt)).0
