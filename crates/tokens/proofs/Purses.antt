-- Laws of purses: what comes and goes keeps within the limits; another purse changes nothing else of a pool.
use Prim.Native.Nat.{ℕ, zero, suc, ◌+◌, ◌≤◌, zero-le}
use mathlib.Core.Path.{◌≡◌, refl, ap, ◌∙◌}
use mathlib.Core.Bool.{Bool, true, false, cond}
use mathlib.Core.List.{List, [], ◌∷◌}
use native.Mathlib.Omega.{arith}
use lib.Dec.{ltb}
use lib.ListN.{length}
use Rattle.model.specs.Lists.{Each}
use Rattle.model.specs.Syntax.{Program}
use Rattle.model.specs.Pool.{Frame, Purse, Thread, Pool, frames, empty, endowed, children, trees, is_pool}
use Rattle.model.specs.Valid.{IsPurse, IsThread}
use Rattle.model.proofs.Facts.{ltb-true}
use Rattle.model.proofs.Valid.{pool-facts, facts-pool}
use Rattle.tokens.specs.Purses.{arrive, worked, handed, kept, purse_in, purse_at, endow, brought, earned, shared, stacks}
use Rattle.tokens.specs.Beats.{most_n}

-- within the limits
pub empty-fits : IsPurse empty
empty-fits = record { work = zero-le; tokens = zero-le }

pub arrive-fits : (m : ℕ) (e : Purse) → IsPurse e → IsPurse (arrive m e)
unfolding arrive
arrive-fits m e h = record { work = h.work; tokens = omega arith }

pub worked-fits : (N C : ℕ) (e : Purse) → N ≤ most_n → IsPurse e → IsPurse (worked N C e)
unfolding worked
worked-fits N C e n h = go (ltb (e.work + 1) N) refl
  where
    go : (b : Bool) → ltb (e.work + 1) N ≡ b →
        IsPurse (cond b (record { work = e.work + 1; tokens = e.tokens }) (arrive C (record { work = 0; tokens = e.tokens })))
    go true q = record { work = omega (arith, ltb-true (e.work + 1) N q); tokens = h.tokens }
    go false q = arrive-fits C (record { work = 0; tokens = e.tokens }) (record { work = zero-le; tokens = h.tokens })

pub handed-fits : (e : Purse) → IsPurse e → IsPurse (handed e)
unfolding handed
handed-fits e h = record { work = zero-le; tokens = omega (arith, h.tokens) }

pub kept-fits : (e : Purse) → IsPurse e → IsPurse (kept e)
unfolding kept
kept-fits e h = record { work = h.work; tokens = omega (arith, h.tokens) }

-- another purse: the stacks and the number of threads stay, and so does a valid pool
pub endow-stacks : (i : ℕ) (e : Purse) (p : Pool) → stacks (endow i e p) ≡ stacks p
unfolding endow
endow-stacks i e [] = refl
endow-stacks zero e (t ∷ ts) = refl
endow-stacks (suc i) e (t ∷ ts) = ap {B = List (List Frame)} (λ l. frames t ∷ l) (endow-stacks i e ts)

pub endow-length : (i : ℕ) (e : Purse) (p : Pool) → length (endow i e p) ≡ length p
unfolding endow
endow-length i e [] = refl
endow-length zero e (t ∷ ts) = refl
endow-length (suc i) e (t ∷ ts) = ap suc (endow-length i e ts)

pub endowed-thread : {P : Program} {t : Thread} (e : Purse) → IsPurse e → IsThread P t → IsThread P (endowed t e)
endowed-thread e h i = record { few = i.few; newest = i.newest; older = i.older; order = i.order; purse = h }

endow-each : (P : Program) (i : ℕ) (e : Purse) (p : Pool) → IsPurse e → Each (IsThread P) p → Each (IsThread P) (endow i e p)
unfolding endow
endow-each P i e [] h each = tt
endow-each P zero e (t ∷ ts) h each = (endowed-thread e h each.0, each.1)
endow-each P (suc i) e (t ∷ ts) h each = (each.0, endow-each P i e ts h each.1)

endow-trees : (n i : ℕ) (e : Purse) (p : Pool) → trees n (endow i e p) ≡ trees n p
unfolding endow trees
endow-trees n i e [] = refl
endow-trees zero zero e (t ∷ ts) = refl
endow-trees (suc n) zero e (t ∷ ts) = refl
endow-trees zero (suc i) e (t ∷ ts) = refl
endow-trees (suc n) (suc i) e (t ∷ ts) = endow-trees (children (frames t) + n) i e ts

pub endow-valid : (P : Program) (i : ℕ) (e : Purse) (p : Pool) → IsPurse e → is_pool P p ≡ true → is_pool P (endow i e p) ≡ true
endow-valid P i e p h v =
    let f = pool-facts P p v in
    facts-pool P (endow i e p)
    (record {
      few = rw (endow-length i e p) f.few;
      each = endow-each P i e p h f.each;
      tree = endow-trees 1 i e p ∙ f.tree;
    })

-- the purse of a thread of a valid pool
purses-fit : (P : Program) (p : Pool) (i : ℕ) → Each (IsThread P) p → IsPurse (purse_at p i)
unfolding purse_in
purses-fit P [] i h = empty-fits
purses-fit P (t ∷ ts) zero h = h.0.purse
purses-fit P (t ∷ ts) (suc i) h = purses-fit P ts i h.1

pub purse-fits : (P : Program) (p : Pool) (i : ℕ) → is_pool P p ≡ true → IsPurse (purse_at p i)
purse-fits P p i v = purses-fit P p i (pool-facts P p v).each

-- what a step earns, and what a promotion shares
pub earned-stacks : (N C rule : ℕ) (p : Pool) (i : ℕ) (p' : Pool) → stacks (earned N C rule p i p') ≡ stacks p'
unfolding earned
earned-stacks N C rule p i p' = endow-stacks i _ p'

pub shared-stacks : (i : ℕ) (p : Pool) → stacks (shared i p) ≡ stacks p
unfolding shared
shared-stacks i p = endow-stacks (i + 1) (handed (purse_at p i)) (endow i (kept (purse_at p i)) p) ∙ endow-stacks i (kept (purse_at p i)) p

pub earned-length : (N C rule : ℕ) (p : Pool) (i : ℕ) (p' : Pool) → length (earned N C rule p i p') ≡ length p'
unfolding earned
earned-length N C rule p i p' = endow-length i _ p'

pub shared-length : (i : ℕ) (p : Pool) → length (shared i p) ≡ length p
unfolding shared
shared-length i p = endow-length (i + 1) (handed (purse_at p i)) (endow i (kept (purse_at p i)) p) ∙ endow-length i (kept (purse_at p i)) p

pub earned-valid : (P : Program) (N C rule : ℕ) (p : Pool) (i : ℕ) (p' : Pool) → N ≤ most_n → is_pool P p' ≡ true →
    is_pool P (earned N C rule p i p') ≡ true
unfolding earned
earned-valid P N C rule p i p' n v =
    let e = arrive (brought rule p i) (purse_at p' i) in
    endow-valid P i (worked N C e) p' (worked-fits N C e n (arrive-fits (brought rule p i) (purse_at p' i) (purse-fits P p' i v))) v

pub shared-valid : (P : Program) (i : ℕ) (p : Pool) → is_pool P p ≡ true → is_pool P (shared i p) ≡ true
unfolding shared
shared-valid P i p v =
    let e = purse_at p i in
    let h = purse-fits P p i v in
    endow-valid P (i + 1) (handed e) (endow i (kept e) p) (handed-fits e h) (endow-valid P i (kept e) p (kept-fits e h) v)
