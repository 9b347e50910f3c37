-- The code's purse as the model's, and what the code does to the purses of a pool: for every valid pool that the words hold.
use Rattle.std.specs.Prelude.{ℕ, ◌≡◌, true, cond, List, eqb, ℤ}
use Rattle.model.specs.Numbers as No
use Rattle.model.specs.Syntax.{Program}
use Rattle.model.specs.Pool.{Purse, Pool, words_of, is_pool}
use Rattle.tokens.specs.Purses.{arrive, worked, purse_at, endow, shared}
use Rattle.beats.specs.declared.purse.Purse.{Purse as Lent}

abbrev pub purse_of : Lent → Purse
purse_of e = record { work = e.work; tokens = e.tokens }

-- the words are those of a valid pool of the program
pub record Holds (P : Program) (ws : List ℤ) (p : Pool) : Type 0 where
  pub words : ws ≡ words_of p
  pub valid : is_pool P p ≡ true

-- the purse of thread i
abbrev pub Finds : List ℤ → ℕ → Lent → Type 0
Finds ws i r = (P : Program) (p : Pool) → Holds P ws p → purse_of r ≡ purse_at p i

-- thread i has another purse; it has earned by m tokens that came and a step; it has shared with the thread directly behind
abbrev pub Endows : List ℤ → ℕ → Lent → List ℤ → Type 0
Endows ws i e ws' = (P : Program) (p : Pool) → Holds P ws p → Holds P ws' (endow i (purse_of e) p)

abbrev pub Earns : List ℤ → ℕ → ℕ → ℕ → ℕ → List ℤ → Type 0
Earns ws i N C m ws' =
    (P : Program) (p : Pool) → Holds P ws p → Holds P ws' (endow i (worked N C (arrive m (purse_at p i))) p)

abbrev pub Shares : List ℤ → ℕ → List ℤ → Type 0
Shares ws i ws' = (P : Program) (p : Pool) → Holds P ws p → Holds P ws' (shared i p)

-- of the tokens of the thread directly behind, those that a step by a rule brings
abbrev pub brought_by : ℕ → ℕ → ℕ
brought_by rule tokens = cond (eqb rule No.prom) tokens 0
