-- What the public calls answer, with document 01's number, place and values.
use Rattle.std.specs.Prelude.{ℕ, ◌≡◌, List, [], ℤ, pos, length, take, Some, None, Result, Ok, Err}
use Rattle.std.specs.Prelude.{Option as Optional}
use Rattle.std.proofs.Math.Option.{Option, none, some}
use Rattle.model.specs.Lists.{pad}
use Rattle.model.specs.Answers.{Answer}
use Rattle.model.specs.Calls.{Called}
use Rattle.answers.specs.declared.Refusal.{Refusal}
use Rattle.answers.specs.declared.Rule.{Rule}
use Rattle.answers.specs.Answers.{refusal_of}
use Rattle.calls.specs.declared.Main.{Main}

-- an answer, and the words that it leaves
abbrev pub called : {A : Type 0} → Answer A → List ℤ → Called A
called a ws = record { answer = a; after = ws }

abbrev pub chosen_of : Result Rule Refusal → Answer ℕ
chosen_of (Ok rule) = Answer.given rule.0
chosen_of (Err why) = Answer.refused (refusal_of why)

abbrev pub stepping_of : Result (Optional ℕ) Refusal → Answer (Option ℕ)
stepping_of (Ok (Some i)) = Answer.given (some i)
stepping_of (Ok None) = Answer.given none
stepping_of (Err why) = Answer.refused (refusal_of why)

abbrev pub main_of : Result (Optional Main) Refusal → Answer (Option (List ℤ))
main_of (Ok (Some m)) = Answer.given (some (take m.count m.values))
main_of (Ok None) = Answer.given none
main_of (Err why) = Answer.refused (refusal_of why)

-- the values of an answer; none where none are given
unfoldable pub values_given : Answer (Option (List ℤ)) → List ℤ
values_given (Answer.given (some v̄)) = v̄
values_given (Answer.given none) = []
values_given (Answer.refused r) = []

-- how many values there are, and the values, with 0 behind the last of them; nothing stands beside another answer
abbrev pub Holds : Result (Optional Main) Refusal → List ℤ → Type 0
Holds (Ok (Some m)) v̄ = (m.count ≡ length v̄) × (m.values ≡ pad 4 (pos 0) v̄)
Holds (Ok None) v̄ = v̄ ≡ []
Holds (Err why) v̄ = v̄ ≡ []

-- main's values: the answer, and what it holds
pub record IsMain (r : Result (Optional Main) Refusal) (a : Answer (Option (List ℤ))) : Type 0 where
  pub answer : main_of r ≡ a
  pub holds : Holds r (values_given a)
