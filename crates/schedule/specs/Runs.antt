-- What a list of choices answers and leaves, in the model's terms, and the contract of a run: for every program that the places
-- belong to, and every valid pool that the words hold.
use Rattle.std.specs.Prelude.{ℕ, ◌≡◌, true, List, ℤ, Result, Ok, Err}
use Rattle.model.specs.Syntax.{Program}
use Rattle.model.specs.Pool.{Pool, words_of, is_pool}
use Rattle.model.specs.Calls.{Choice, run, reported}
use Rattle.model.specs.Calls as Calls
use Rattle.answers.specs.declared.No.{No}
use Rattle.answers.specs.declared.Refusal.TheVariants.{Plain}
use Rattle.answers.specs.Answers.{answer_of}
use Rattle.places.specs.Places.{Places}
use Rattle.schedule.specs.declared.Scheduled.{Scheduled}

-- the report of the code, with the words that it leaves, as the model's
unfoldable pub scheduled_of : Scheduled → List ℤ → Calls.Scheduled
scheduled_of r ws = record { answer = answer_of r.answer; made = r.made; after = ws }

-- how a run ends: all choices are made, or those before the one that is refused, with its number
abbrev pub Ran : Type 0
Ran = Result ℕ (ℕ × No)

-- what a run answers
abbrev pub ended_of : Ran → Scheduled
ended_of (Ok n) = record { made = n; answer = Ok tt }
ended_of (Err (n, number)) = record { made = n; answer = Err (Plain number) }

-- a list of choices is run
pub record Runs (s places : List ℕ) (ws : List ℤ) (cs : List Choice) (r : Ran) (ws' : List ℤ) : Type 0 where
  pub is : (P : Program) (p : Pool) → Places s P places → ws ≡ words_of p → is_pool P p ≡ true
      → scheduled_of (ended_of r) ws' ≡ reported (run P p cs)
