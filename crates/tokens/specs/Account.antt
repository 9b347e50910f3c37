-- The account of a run from a fresh pool: all that its steps earn is somewhere.
use Rattle.std.specs.Prelude.{ℕ, ◌+◌, ◌*◌, ◌-◌, ◌≡◌, true, cond, List, [], ◌∷◌, eqb, ltb, ℤ}
use Rattle.model.specs.Numbers as No
use Rattle.model.specs.Answers.{Answer}
use Rattle.model.specs.Syntax.{Program}
use Rattle.model.specs.Pool.{Purse, Pool, most_threads, most_tokens}
use Rattle.model.specs.Rules.{Result, choice}
use Rattle.model.specs.Calls as Calls
use Rattle.model.specs.Calls.{Lent, lent}
use Rattle.tokens.specs.Purses.{arrive, purse_at, brought, earned}
use Rattle.tokens.specs.Beats.{spend, is_pace, run}

-- how many of m tokens that come to a purse are dropped
unfoldable pub over : ℕ → Purse → ℕ
over m e = (e.tokens + m) - most_tokens

-- what is lost: tokens that are dropped on arrival, and the work of children that are joined
pub record Lost : Type 0 where
  pub tokens : ℕ
  pub work : ℕ

-- by a step of thread i by a rule, which made p' of p
unfoldable pub lost_at : ℕ → ℕ → ℕ → Pool → ℕ → Pool → Lost
lost_at N C rule p i p' =
    let e = purse_at p' i in
    let m = brought rule p i in
    record {
      tokens = over m e + cond (ltb (e.work + 1) N) 0 (over C (arrive m e));
      work = cond (eqb rule No.prom) (purse_at p (i + 1)).work 0;
    }

-- along the beats of a run, up to the first refused
abbrev pub both : Lost → Lost → Lost
both x y = record { tokens = x.tokens + y.tokens; work = x.work + y.work }

unfoldable pub losing : ℕ → ℕ → Program → Pool → ℕ → Result → (Pool → Lost) → Lost
losing N C P p i (Result.made rule p') k = both (lost_at N C rule p i p') (k (spend most_threads P i (earned N C rule p i p')).pool)
losing N C P p i (Result.refused n) k = record { tokens = 0; work = 0 }

unfoldable pub lost : ℕ → ℕ → Program → Pool → List ℕ → Lost
lost N C P p [] = record { tokens = 0; work = 0 }
lost N C P p (i ∷ is) = losing N C P p i (choice P p 0 i) (λ p'. lost N C P p' is)

-- the tokens and the work that the threads of a pool hold
unfoldable pub tokens_held : Pool → ℕ
tokens_held [] = 0
tokens_held (t ∷ ts) = t.purse.tokens + tokens_held ts

unfoldable pub work_held : Pool → ℕ
work_held [] = 0
work_held (t ∷ ts) = t.purse.work + work_held ts

-- each step is a unit of work, of which N are worth C tokens: a token was spent on a promotion, is held, or was dropped; work that has not
-- earned yet is held, or was a joined child's
pub record Balanced (s : List ℕ) (ws : List ℤ) (N C : ℕ) (is : List ℕ) : Type 0 where
  pub before : Lent
  pub lends : lent s ws ≡ Answer.given before
  pub after : Lent
  pub left : lent s (run s ws N C is).after ≡ Answer.given after
  pub balance :
      let x = lost N C before.table before.pool is in
      C * (run s ws N C is).steps ≡
      N * ((run s ws N C is).promotions + tokens_held after.pool + x.tokens) + C * (work_held after.pool + x.work)

-- for every table that reads and every words that the start takes, N and C that there are, and every list of threads
abbrev pub Balance : Type 0
Balance =
    (s : List ℕ) (ws : List ℤ) → (Calls.start s ws).answer ≡ Answer.given tt → (N C : ℕ) → is_pace N C ≡ true → (is : List ℕ) →
    Balanced s (Calls.start s ws).after N C is
