-- What is promised of heartbeat tokens, on bytes and words: plain choices leave them alone, a beat promotes as long as it can pay, and
-- promotions are bounded by steps.
use Rattle.std.specs.Prelude.{ℕ, ◌+◌, ◌*◌, ◌≤◌, ◌≡◌, ◌⊎◌, cond, List, [], ◌∷◌, ◌++◌, map, eqb, ℤ, take, drop}
use Rattle.model.specs.Numbers as No
use Rattle.model.specs.Answers.{Refusal, Answer}
use Rattle.model.specs.Pool.{Purse, Pool, empty}
use Rattle.model.specs.Calls as Calls
use Rattle.model.specs.Calls.{Lent, lent}
use Rattle.tokens.specs.Purses.{purse_at}
use Rattle.tokens.specs.Beats.{Beat, beat, run}

-- the purses of all threads, in order
abbrev pub purses : Pool → List Purse
purses p = map (λ t. t.purse) p

-- what a plain choice of thread i leaves of them, by its rule: a join drops that of the child, which stands directly behind; a promotion
-- puts an empty one there; all others are as they were
unfoldable pub surviving : ℕ → ℕ → List Purse → List Purse
surviving rule i es =
    cond (eqb rule No.prom) (take (i + 1) es ++ drop (i + 2) es)
    (cond (eqb rule No.promote) (take (i + 1) es ++ (empty ∷ drop (i + 1) es)) es)

-- "Plain choices leave the two words of every surviving thread unchanged"
pub record Survive (s : List ℕ) (ws : List ℤ) (kind i rule : ℕ) : Type 0 where
  pub before : Lent
  pub lends : lent s ws ≡ Answer.given before
  pub after : Lent
  pub left : lent s (Calls.choose s ws kind i).after ≡ Answer.given after
  pub survive : purses after.pool ≡ surviving rule i (purses before.pool)

abbrev pub Survivors : Type 0
Survivors =
    (s : List ℕ) (ws : List ℤ) (kind i rule : ℕ) → (Calls.choose s ws kind i).answer ≡ Answer.given rule → Survive s ws kind i rule

-- a beat that was made leaves a pool in which its thread has no token, or its promotion, put next, is refused
pub record Exhausted (s : List ℕ) (ws : List ℤ) (i : ℕ) : Type 0 where
  pub lends : Lent
  pub pool : lent s ws ≡ Answer.given lends
  pub exhausted : ((purse_at lends.pool i).tokens ≡ 0) ⊎ ((r : Refusal) × ((Calls.choose s ws 1 i).answer ≡ Answer.refused r))

abbrev pub Exhausts : Type 0
Exhausts =
    (s : List ℕ) (ws : List ℤ) (i N C : ℕ) (b : Beat) → (beat s ws i N C).answer ≡ Answer.given b →
    Exhausted s (beat s ws i N C).after i

-- what the purses of a pool are worth: each token N, each unit of work C
unfoldable pub worth : ℕ → ℕ → Pool → ℕ
worth N C [] = 0
worth N C (t ∷ ts) = N * t.purse.tokens + C * t.purse.work + worth N C ts

-- a run from any pool: each promotion takes N out of what the purses are worth, and each step puts at most C in
pub record Bounded (s : List ℕ) (ws : List ℤ) (N C : ℕ) (is : List ℕ) : Type 0 where
  pub after : Lent
  pub left : lent s (run s ws N C is).after ≡ Answer.given after
  pub bound : (before : Lent) → lent s ws ≡ Answer.given before →
      (run s ws N C is).promotions * N + worth N C after.pool ≤ C * (run s ws N C is).steps + worth N C before.pool

abbrev pub EveryRun : Type 0
EveryRun = (s : List ℕ) (ws : List ℤ) (l : Lent) → lent s ws ≡ Answer.given l → (N C : ℕ) (is : List ℕ) → Bounded s ws N C is

-- "In a run from a fresh pool, promotions times N never exceed C times ordinary steps": for every table that reads and every words that
-- the start takes, any N and C, and every list of threads
abbrev pub Bound : Type 0
Bound =
    (s : List ℕ) (ws : List ℤ) → (Calls.start s ws).answer ≡ Answer.given tt → (N C : ℕ) (is : List ℕ) →
    (run s (Calls.start s ws).after N C is).promotions * N ≤ C * (run s (Calls.start s ws).after N C is).steps
