-- S-6 of document 02: heartbeat tokens (document 001, 4.3). What comes into a thread's purse and what goes out of it.
use Rattle.std.specs.Prelude.{ℕ, zero, suc, ◌+◌, ◌-◌, ◌/◌, min, ◌≡◌, cond, List, [], ◌∷◌, map, eqb, ltb, ℤ}
use Rattle.std.proofs.Math.Option.{Option, none, some}
use Rattle.std.proofs.Math.ListN.{get_elem?}
use Rattle.model.specs.Numbers as No
use Rattle.model.specs.Answers.{Answer}
use Rattle.model.specs.Pool.{Frame, Purse, Thread, Pool, most_tokens, frames, empty, endowed}
use Rattle.model.specs.Calls.{Lent, lent}

-- m tokens come. "Tokens above 2,000,000,000 are dropped on arrival"
unfoldable pub arrive : ℕ → Purse → Purse
arrive m e = record { work = e.work; tokens = min (e.tokens + m) most_tokens }

-- "It adds 1 to work; at N or more work returns to 0 and C tokens come"
unfoldable pub worked : ℕ → ℕ → Purse → Purse
worked N C e =
    cond (ltb (e.work + 1) N) (record { work = e.work + 1; tokens = e.tokens }) (arrive C (record { work = 0; tokens = e.tokens }))

-- "Each promotion costs one token, and the child gets half the rest, rounded down": what is handed to the child, and what is kept
unfoldable pub handed : Purse → Purse
handed e = record { work = 0; tokens = (e.tokens - 1) / 2 }

unfoldable pub kept : Purse → Purse
kept e = record { work = e.work; tokens = (e.tokens - 1) - (e.tokens - 1) / 2 }

-- the purse of thread i; where there is no such thread, the empty one
unfoldable pub purse_in : Option Thread → Purse
purse_in none = empty
purse_in (some t) = t.purse

abbrev pub purse_at : Pool → ℕ → Purse
purse_at p i = purse_in (get_elem? p i)

-- the pool with the purse e for thread i's
unfoldable pub endow : ℕ → Purse → Pool → Pool
endow i e [] = []
endow zero e (t ∷ ts) = endowed t e ∷ ts
endow (suc i) e (t ∷ ts) = t ∷ endow i e ts

-- "A child joined by a beat gives its tokens to its parent": those that a step of thread i by a rule brings. The child stands directly
-- behind its parent in the pool p before the step
unfoldable pub brought : ℕ → Pool → ℕ → ℕ
brought rule p i = cond (eqb rule No.prom) (purse_at p (i + 1)).tokens 0

-- the pool p' that a step of thread i by a rule made of p, with what the step earns: the tokens that it brings, then 1 to work
unfoldable pub earned : ℕ → ℕ → ℕ → Pool → ℕ → Pool → Pool
earned N C rule p i p' = endow i (worked N C (arrive (brought rule p i) (purse_at p' i))) p'

-- the pool that a promotion of thread i made, with the tokens shared: the child stands directly behind its parent
unfoldable pub shared : ℕ → Pool → Pool
shared i p = endow (i + 1) (handed (purse_at p i)) (endow i (kept (purse_at p i)) p)

-- a pool without its purses: the frames of its threads
abbrev pub stacks : Pool → List (List Frame)
stacks p = map frames p

-- words of two pools of the table that differ in work and tokens alone
pub record Repursed (s : List ℕ) (ws ws' : List ℤ) : Type 0 where
  pub before : Lent
  pub lends : lent s ws ≡ Answer.given before
  pub after : Lent
  pub lends' : lent s ws' ≡ Answer.given after
  pub same : stacks before.pool ≡ stacks after.pool
