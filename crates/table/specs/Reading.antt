-- What reading a table answers, and the places that it leaves.
use Rattle.std.specs.Prelude.{ℕ, ◌<◌, ◌≡◌, List, get_or, Result}
use Rattle.model.specs.Answers as Model
use Rattle.model.specs.Syntax.{Head, Program}
use Rattle.model.specs.Read.{Parser, read_as, read_brief}
use Rattle.model.specs.Read as Read
use Rattle.model.specs.Calls.{read}
use Rattle.answers.specs.declared.Refusal.{Refusal}
use Rattle.answers.specs.Answers.{answer_of}
use Rattle.places.specs.Marks.{nowhere}
use Rattle.table.specs.declared.Version.{Version}
use Rattle.table.specs.Versions.{version_of, head_of, read_of}
use Rattle.table.specs.Marks.{program_marks_by}

-- the places afterwards: those of the program that was read at the offset, heads by p, put into what was there; none where none was
unfoldable pub leaves_by : Parser Head → List ℕ → ℕ → List ℕ → Model.Answer Program → List ℕ
leaves_by p s at before (Model.Answer.given P) = program_marks_by p s at before
leaves_by p s at before (Model.Answer.refused r) = nowhere

abbrev pub leaves : List ℕ → ℕ → List ℕ → Model.Answer Program → List ℕ
leaves s at before found = leaves_by Read.head s at before found

-- reading a table, by what is found in it, heads by p
pub record ReadTo (p : Parser Head) (found : Model.Answer Program) (s before after : List ℕ) (r : Result (Unit {0}) Refusal) : Type 0 where
  pub answer : answer_of r ≡ Model.outcome found
  pub placed : after ≡ leaves_by p s 5 before found

-- a table of version 1, one of version 2, and one of either
abbrev pub ReadAs : List ℕ → List ℕ → List ℕ → Result (Unit {0}) Refusal → Type 0
ReadAs s before after r = ReadTo Read.head (read s) s before after r

abbrev pub BriefAs : List ℕ → List ℕ → List ℕ → Result (Unit {0}) Refusal → Type 0
BriefAs s before after r = ReadTo Read.bare (read_brief s) s before after r

abbrev pub ReadBy : Version → List ℕ → List ℕ → List ℕ → Result (Unit {0}) Refusal → Type 0
ReadBy v s before after r = ReadTo (head_of v) (read_of v s) s before after r

-- reading from an offset on, by the length field and the version's number; and that the table holds bytes
pub record ReadFrom (v : Version) (s : List ℕ) (at field number : ℕ) (before after : List ℕ) (r : Result (Unit {0}) Refusal) : Type 0 where
  pub answer : answer_of r ≡ Model.outcome (read_as (version_of v) s at field number)
  pub placed : after ≡ leaves_by (head_of v) s at before (read_as (version_of v) s at field number)
  pub bytes : (i : ℕ) → get_or s i 0 < 256

-- the same, but for the places where it refuses
pub record WalkedFrom (v : Version) (s : List ℕ) (at field number : ℕ) (before after : List ℕ) (r : Result (Unit {0}) Refusal) : Type 0 where
  pub answer : answer_of r ≡ Model.outcome (read_as (version_of v) s at field number)
  pub placed : (P : Program) → read_as (version_of v) s at field number ≡ Model.Answer.given P
      → after ≡ program_marks_by (head_of v) s at before
