-- What the check's answer on a table means.
use Rattle.std.specs.Prelude.{ℕ, ◌≡◌, List, Ok}
use Rattle.model.specs.Answers.{Refusal, Answer}
use Rattle.model.specs.Syntax.{Program}
use Rattle.model.specs.WellFormed.{WF-prog}
use Rattle.model.specs.Check.{tests, first_fault}
use Rattle.model.specs.Calls.{read, check}
use Rattle.answers.specs.Answers.{answer_of}
use Rattle.places.specs.Marks.{nowhere}
use Rattle.table.specs.Reading.{leaves}
use Rattle.verifier.specs.Verdicts.{Judgement}

-- the table reads to a program that is well formed by the published rules, as document 01 narrows them
abbrev pub WellFormed : List ℕ → Type 0
WellFormed s = (P : Program) × (read s ≡ Answer.given P) × WF-prog P

-- accepted exactly where well formed; otherwise reading's refusal, or the first fault of the tests in their order
pub record Means (s : List ℕ) (r : Judgement) : Type 0 where
  pub sound : r ≡ Ok tt → WellFormed s
  pub complete : WellFormed s → r ≡ Ok tt
  pub unread : (x : Refusal) → read s ≡ Answer.refused x → answer_of r ≡ Answer.refused x
  pub first : (P : Program) → read s ≡ Answer.given P → answer_of r ≡ first_fault (tests P)

-- the check's answer, by the places: none were handed in; and the places that it leaves
pub record CheckedAs (s before after : List ℕ) (r : Judgement) : Type 0 where
  pub answer : before ≡ nowhere → answer_of r ≡ check s
  pub placed : after ≡ leaves s 5 before (read s)
