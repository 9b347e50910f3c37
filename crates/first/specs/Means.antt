-- "Which thread can step" in the words of the request: the lowest-numbered, for all bytes and words.
use Rattle.std.specs.Prelude.{ℕ, ◌<◌, ◌≡◌, List, ℤ}
use Rattle.std.proofs.Math.Option.{Option, none, some}
use Rattle.model.specs.Answers.{Answer}
use Rattle.model.specs.Calls.{Lent, lent, choose, which}

-- a step of thread i makes a rule
abbrev pub Steps : List ℕ → List ℤ → ℕ → Type 0
Steps s ws i = (rule : ℕ) × ((choose s ws 0 i).answer ≡ Answer.given rule)

-- i is the lowest number whose step makes a rule
pub record Lowest (s : List ℕ) (ws : List ℤ) (i : ℕ) : Type 0 where
  pub steps : Steps s ws i
  pub first : (j : ℕ) → j < i → ¬ Steps s ws j

-- the words are a pool of the table, and there is no such number
pub record Nobody (s : List ℕ) (ws : List ℤ) : Type 0 where
  pub lends : Lent
  pub pool : lent s ws ≡ Answer.given lends
  pub none : (i : ℕ) → ¬ Steps s ws i

-- the right answer
abbrev pub Right : List ℕ → List ℤ → Answer (Option ℕ) → Type 0
Right s ws (Answer.given (some i)) = Lowest s ws i
Right s ws (Answer.given none) = Nobody s ws
Right s ws (Answer.refused r) = lent s ws ≡ Answer.refused r

-- an answer is right exactly if it is that of the definition
pub record Means : Type 0 where
  pub right : (s : List ℕ) (ws : List ℤ) → Right s ws (which s ws)
  pub only : (s : List ℕ) (ws : List ℤ) (a : Answer (Option ℕ)) → Right s ws a → a ≡ which s ws
