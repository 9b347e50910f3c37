-- What beats and runs answer and leave, in the model's terms, and the contracts: for every program that the places belong to, and every
-- valid pool that the words hold.
use Rattle.std.specs.Prelude.{ℕ, suc, ◌≡◌, Bool, true, false, List, [], ◌∷◌, ℤ, length, Option, Some, None, Result, Ok, Err}
use Rattle.model.specs.Answers.{Answer, outcome}
use Rattle.model.specs.Syntax.{Program}
use Rattle.model.specs.Pool.{Pool, most_threads}
use Rattle.model.specs.Calls.{Called, read}
use Rattle.answers.specs.declared.Refusal.{Refusal}
use Rattle.answers.specs.Answers.{refusal_of, answer_of}
use Rattle.places.specs.Marks.{nowhere}
use Rattle.places.specs.Places.{Places}
use Rattle.table.specs.Reading.{leaves}
use Rattle.tokens.specs.Beats.{is_pace, Spent, spend, beaten, told, runs, reported, lent_at, Beat, Told}
use Rattle.beats.specs.declared.Beaten.{Beaten}
use Rattle.beats.specs.declared.Ran.{Ran}
use Rattle.beats.specs.declared.pace.Pace.{Pace}
use Rattle.beats.specs.Purses.{Holds}

-- nothing is spent; a promotion of p, and then what is spent of the pool that it left
abbrev pub unspent : Pool → Spent
unspent p = record { from = []; pool = p }

abbrev pub spent_more : Pool → Spent → Spent
spent_more p x = record { from = p ∷ x.from; pool = x.pool }

-- one promotion of thread i is made and paid, whatever number of them is left to try; or no further one is made
pub record Paid (P : Program) (p : Pool) (i : ℕ) (ws' : List ℤ) : Type 0 where
  pub pool : Pool
  pub holds : Holds P ws' pool
  pub is : (most : ℕ) → spend (suc most) P i p ≡ spent_more p (spend most P i pool)

pub record Unpaid (P : Program) (p : Pool) (i : ℕ) (ws' : List ℤ) : Type 0 where
  pub holds : Holds P ws' p
  pub is : (most : ℕ) → spend most P i p ≡ unspent p

abbrev pub PaidOr : Bool → Program → Pool → ℕ → List ℤ → Type 0
PaidOr true P p i ws' = Paid P p i ws'
PaidOr false P p i ws' = Unpaid P p i ws'

abbrev pub Pays : List ℕ → List ℕ → List ℤ → ℕ → Bool → List ℤ → Type 0
Pays s places ws i r ws' = (P : Program) (p : Pool) → Places s P places → Holds P ws p → PaidOr r P p i ws'

-- n promotions are made, and the words are those of what is left
pub record AllSpent (P : Program) (p : Pool) (i n : ℕ) (ws' : List ℤ) : Type 0 where
  pub count : n ≡ length (spend most_threads P i p).from
  pub holds : Holds P ws' (spend most_threads P i p).pool

abbrev pub Spends : List ℕ → List ℕ → List ℤ → ℕ → ℕ → List ℤ → Type 0
Spends s places ws i n ws' = (P : Program) (p : Pool) → Places s P places → Holds P ws p → AllSpent P p i n ws'

-- the answer to a beat
abbrev pub beaten_of : Result Beaten Refusal → Answer Beat
beaten_of (Ok made) = Answer.given (record { rule = made.rule.0; promotions = made.promotions })
beaten_of (Err why) = Answer.refused (refusal_of why)

-- an answer, with the words that it leaves
abbrev pub called_of : Result Beaten Refusal → List ℤ → Called Beat
called_of r ws = record { answer = beaten_of r; after = ws }

abbrev pub Beating : List ℕ → List ℕ → List ℤ → ℕ → ℕ → ℕ → Result Beaten Refusal → List ℤ → Type 0
Beating s places ws i N C r ws' =
    (P : Program) (p : Pool) → Places s P places → Holds P ws p → called_of r ws' ≡ told ws (beaten N C P p i)

-- the report of a run, with the words that it leaves
unfoldable pub told_of : Ran → List ℤ → Told
told_of r ws = record { answer = answer_of r.answer; steps = r.steps; promotions = r.promotions; after = ws }

pub record Runs (s places : List ℕ) (ws : List ℤ) (N C : ℕ) (is : List ℕ) (r : Ran) (ws' : List ℤ) : Type 0 where
  pub reports : (P : Program) (p : Pool) → Places s P places → Holds P ws p → told_of r ws' ≡ reported (runs N C P p is)

-- the pace of N and C, exactly if a beat can have them
abbrev pub Paces : ℕ → ℕ → Option Pace → Type 0
Paces N C (Some e) = (is_pace N C ≡ true) × (e.n ≡ N) × (e.c ≡ C)
Paces N C None = is_pace N C ≡ false

-- what is answered where a pace is given with a table and a pool
abbrev pub admitted_of : Result Pace Refusal → Answer (Unit {0})
admitted_of (Ok e) = Answer.given tt
admitted_of (Err why) = Answer.refused (refusal_of why)

-- a table, a pool of it, which is judged by the places, and the pace of N and C: no places were handed in
pub record Lends (s : List ℕ) (ws : List ℤ) (N C : ℕ) (before after : List ℕ) (r : Result Pace Refusal) : Type 0 where
  pub answer : before ≡ nowhere → admitted_of r ≡ outcome (lent_at s ws N C)
  pub placed : after ≡ leaves s 5 before (read s)
  pub pace : (e : Pace) → r ≡ Ok e → (e.n ≡ N) × (e.c ≡ C)
