-- What is lent to a call on a pool: the answer, and the places that are left, by those that were handed in.
use Rattle.std.specs.Prelude.{ℕ, ◌≡◌, List, ℤ, Result}
use Rattle.model.specs.Answers.{outcome}
use Rattle.model.specs.Calls.{read, lent_words, lent}
use Rattle.answers.specs.declared.Refusal.{Refusal}
use Rattle.answers.specs.Answers.{answer_of}
use Rattle.places.specs.Marks.{nowhere}
use Rattle.table.specs.Reading.{leaves}

-- a table, and as many words as a pool has
pub record LendsWords (s : List ℕ) (ws : List ℤ) (before after : List ℕ) (r : Result (Unit {0}) Refusal) : Type 0 where
  pub answer : answer_of r ≡ lent_words s ws
  pub placed : after ≡ leaves s 5 before (read s)

-- a table, and a pool of it, which is judged by the places: none were handed in
pub record LendsPool (s : List ℕ) (ws : List ℤ) (before after : List ℕ) (r : Result (Unit {0}) Refusal) : Type 0 where
  pub answer : before ≡ nowhere → answer_of r ≡ outcome (lent s ws)
  pub placed : after ≡ leaves s 5 before (read s)
