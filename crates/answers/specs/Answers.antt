-- The code's refusal and answers as the model's, with document 01's number and place.
use Rattle.std.specs.Prelude.{ℕ, ◌≡◌, List, Result, Ok, Err}
use Rattle.model.specs.Answers as Model
use Rattle.answers.specs.declared.Refusal.{Refusal}
use Rattle.answers.specs.declared.Refusal.TheVariants.{Plain, Byte, Fault}

abbrev pub refusal_of : Refusal → Model.Refusal
refusal_of (Plain n) = Model.Refusal.plain n.0
refusal_of (Byte at) = Model.Refusal.byte at
refusal_of (Fault n f b) = Model.Refusal.fault n.0 f b

-- the answer of a call that gives nothing more
abbrev pub answer_of : Result (Unit {0}) Refusal → Model.Answer (Unit {0})
answer_of (Ok _) = Model.Answer.given tt
answer_of (Err why) = Model.Answer.refused (refusal_of why)

-- the answer of a call that writes a table or a listing: how many bytes it has
abbrev pub written_of : Result ℕ Refusal → Model.Answer ℕ
written_of (Ok n) = Model.Answer.given n
written_of (Err why) = Model.Answer.refused (refusal_of why)

-- the answer of a call that writes bytes, and the output afterwards
pub record Writes (w : Model.Wrote) (r : Result ℕ Refusal) (out : List ℕ) : Type 0 where
  pub answer : written_of r ≡ w.answer
  pub after : out ≡ w.after
