-- Beats and runs, under two numberings. Purses have no numbers, so that new numbers and what goes in and out of purses do not meet: of a
-- pool with kept things alone, a beat of the pool under new numbers makes what a beat of the first makes, under new numbers.
use Prim.Native.Nat.{ℕ, zero, suc, ◌+◌}
use mathlib.Core.Path.{◌≡◌, refl, ap}
use mathlib.Core.Bool.{Bool, true, false, cond}
use mathlib.Core.List.{List, [], ◌∷◌, map}
use lib.Dec.{ltb}
use lib.ListN.{length-map}
use Rattle.model.specs.Syntax.{Program}
use Rattle.model.specs.Pool.{Purse, Pool, most_threads}
use Rattle.model.specs.Rules.{Result, choice}
use Rattle.tokens.specs.Purses.{handed, kept, purse_in, purse_at, endow, brought, earned, shared}
use Rattle.tokens.specs.Beats.{Spent, paying, spend, Beaten, stepped, beaten, Ran, go_on, runs}
use Rattle.numbering.specs.Renumbers.{Numbering, Copies, renamed_thread, renamed_pool}
use Rattle.numbering.proofs.SimulationStates.{KeptPool, Follows}
use Rattle.numbering.proofs.SimulationChoices.{renamed_result, KeptResult, choice-follows}

-- promotions, a beat and a run of beats, under new numbers, and with kept things alone
unfoldable pub renamed_spent : Numbering → Spent → Spent
renamed_spent R x = record { from = map (renamed_pool R) x.from; pool = renamed_pool R x.pool }

abbrev pub KeptSpent : Numbering → Spent → Type 0
KeptSpent R x = KeptPool R x.pool

unfoldable pub renamed_beaten : Numbering → Beaten → Beaten
renamed_beaten R (Beaten.made rule x) = Beaten.made rule (renamed_spent R x)
renamed_beaten R (Beaten.refused n) = Beaten.refused n

abbrev pub KeptBeaten : Numbering → Beaten → Type 0
KeptBeaten R (Beaten.made rule x) = KeptSpent R x
KeptBeaten R (Beaten.refused n) = Unit {0}

unfoldable pub renamed_beats : Numbering → Ran → Ran
renamed_beats R r =
    record {
      steps = r.steps;
      promotions = r.promotions;
      refusal = r.refusal;
      pool = renamed_pool R r.pool;
    }

abbrev pub KeptBeats : Numbering → Ran → Type 0
KeptBeats R r = KeptPool R r.pool

-- purses
module _ (R : Numbering) where
  purse-renamed : (p : Pool) (i : ℕ) → purse_at (renamed_pool R p) i ≡ purse_at p i
  unfolding purse_in renamed_thread
  purse-renamed [] i = refl
  purse-renamed (t ∷ ts) zero = refl
  purse-renamed (t ∷ ts) (suc i) = purse-renamed ts i

  endow-renamed : (i : ℕ) (e : Purse) (p : Pool) → endow i e (renamed_pool R p) ≡ renamed_pool R (endow i e p)
  unfolding endow renamed_thread
  endow-renamed i e [] = refl
  endow-renamed zero e (t ∷ ts) = refl
  endow-renamed (suc i) e (t ∷ ts) = ap {B = Pool} (λ us. renamed_thread R t ∷ us) (endow-renamed i e ts)

  endow-kept : (i : ℕ) (e : Purse) (p : Pool) → KeptPool R p → KeptPool R (endow i e p)
  unfolding endow
  endow-kept i e [] h = tt
  endow-kept zero e (t ∷ ts) h = h
  endow-kept (suc i) e (t ∷ ts) h = (h.0, endow-kept i e ts h.1)

  -- what a step earns
  earned-renamed : (N C rule : ℕ) (p : Pool) (i : ℕ) (p' : Pool) →
      earned N C rule (renamed_pool R p) i (renamed_pool R p') ≡ renamed_pool R (earned N C rule p i p')
  unfolding earned brought
  earned-renamed N C rule p i p' = rw (purse-renamed p (i + 1), purse-renamed p' i) (endow-renamed i _ p')

  earned-kept : (N C rule : ℕ) (p : Pool) (i : ℕ) (p' : Pool) → KeptPool R p' → KeptPool R (earned N C rule p i p')
  unfolding earned
  earned-kept N C rule p i p' h = endow-kept i _ p' h

  -- what a promotion shares
  shared-renamed : (i : ℕ) (p : Pool) → shared i (renamed_pool R p) ≡ renamed_pool R (shared i p)
  unfolding shared
  shared-renamed i p =
      let e = purse_at p i in
      rw (purse-renamed p i, endow-renamed i (kept e) p) (endow-renamed (i + 1) (handed e) (endow i (kept e) p))

  shared_kept : (i : ℕ) (p : Pool) → KeptPool R p → KeptPool R (shared i p)
  unfolding shared
  shared_kept i p h =
      let e = purse_at p i in
      endow-kept (i + 1) (handed e) (endow i (kept e) p) (endow-kept i (kept e) p h)

-- where Q has what is kept of P
module _ {R : Numbering} {P Q : Program} (c : Copies R P Q) where
  abbrev Spends : Spent → Spent → Type 0
  Spends x x' = Follows (renamed_spent R) (KeptSpent R) x x'

  -- promotions
  spend-follows : (most i : ℕ) (p : Pool) → KeptPool R p → Spends (spend most P i p) (spend most Q i (renamed_pool R p))
  unfolding spend paying renamed_spent renamed_result
  spend-follows zero i p h = record { same = refl; kept = h }
  spend-follows (suc most) i p h =
      let f = choice-follows c p 1 i h in
      rw (purse-renamed R p i, f.same) (tokens (ltb 0 (purse_at p i).tokens) (choice P p 1 i) f.kept (λ p'. spend-follows most i p'))
    where
      promoted : (x : Result) → KeptResult R x →
          ((p' : Pool) → KeptPool R p' → Spends (spend most P i p') (spend most Q i (renamed_pool R p'))) →
          Spends (paying p x (λ p'. spend most P i (shared i p')))
          (paying (renamed_pool R p) (renamed_result R x) (λ p'. spend most Q i (shared i p')))
      promoted (Result.refused n) g k = record { same = refl; kept = h }
      promoted (Result.made rule p') g k =
          let f = k (shared i p') (shared_kept R i p' g) in
          record { same = rw (shared-renamed R i p', f.same); kept = f.kept }

      tokens : (b : Bool) (x : Result) → KeptResult R x →
          ((p' : Pool) → KeptPool R p' → Spends (spend most P i p') (spend most Q i (renamed_pool R p'))) →
          Spends (cond b (paying p x (λ p'. spend most P i (shared i p'))) (record { from = []; pool = p }))
          (cond b (paying (renamed_pool R p) (renamed_result R x) (λ p'. spend most Q i (shared i p')))
          (record { from = []; pool = renamed_pool R p }))
      tokens true x g k = promoted x g k
      tokens false x g k = record { same = refl; kept = h }

  -- a beat
  pub beaten-follows : (N C : ℕ) (p : Pool) (i : ℕ) → KeptPool R p →
      Follows (renamed_beaten R) (KeptBeaten R) (beaten N C P p i) (beaten N C Q (renamed_pool R p) i)
  unfolding beaten stepped renamed_beaten renamed_result
  beaten-follows N C p i h =
      let f = choice-follows c p 0 i h in
      rw f.same (go (choice P p 0 i) f.kept)
    where
      go : (x : Result) → KeptResult R x →
          Follows (renamed_beaten R) (KeptBeaten R) (stepped N C P p i x) (stepped N C Q (renamed_pool R p) i (renamed_result R x))
      go (Result.refused n) g = record { same = refl; kept = tt }
      go (Result.made rule p') g =
          let f = spend-follows most_threads i (earned N C rule p i p') (earned-kept R N C rule p i p' g) in
          rw (earned-renamed R N C rule p i p') (record { same = ap (Beaten.made rule) f.same; kept = f.kept })

  -- a run of beats
  pub runs-follow : (N C : ℕ) (p : Pool) (is : List ℕ) → KeptPool R p →
      Follows (renamed_beats R) (KeptBeats R) (runs N C P p is) (runs N C Q (renamed_pool R p) is)
  unfolding runs go_on renamed_beats renamed_beaten renamed_spent
  runs-follow N C p [] h = record { same = refl; kept = h }
  runs-follow N C p (i ∷ is) h =
      let f = beaten-follows N C p i h in
      rw f.same (go (beaten N C P p i) f.kept (λ p'. runs-follow N C p' is))
    where
      go : (x : Beaten) → KeptBeaten R x →
          ((p' : Pool) → KeptPool R p' → Follows (renamed_beats R) (KeptBeats R) (runs N C P p' is) (runs N C Q (renamed_pool R p') is)) →
          Follows (renamed_beats R) (KeptBeats R) (go_on p x (λ p'. runs N C P p' is))
          (go_on (renamed_pool R p) (renamed_beaten R x) (λ p'. runs N C Q p' is))
      go (Beaten.made rule x) g k =
          let f = k x.pool g in
          record { same = rw (f.same, length-map x.from (renamed_pool R)); kept = f.kept }
      go (Beaten.refused n) g k = record { same = refl; kept = h }
