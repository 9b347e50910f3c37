-- What each exported function answers, as one number, and what it leaves in the memory that is lent to it.
use Rattle.std.specs.Prelude.{ℕ, ◌+◌, ◌*◌, ◌≡◌, List, [], ◌∷◌, ℤ, length}
use Rattle.std.proofs.Math.Option.{Option, none, some}
use Rattle.model.specs.Answers.{Answer, Wrote}
use Rattle.model.specs.Calls as Calls
use Rattle.model.specs.Calls.{Called}
use Rattle.inference.specs.Complete.{Completed}
use Rattle.tokens.specs.Beats.{Beat, Told}
use Rattle.answers.specs.Coded.{given, code_of}
use Rattle.host.specs.Macros.{no_thread, still_open}

-- an answer that gives nothing more
unfoldable pub done : Answer (Unit {0}) → ℕ
done (Answer.given u) = given 0
done (Answer.refused r) = code_of r

-- an answer that gives a number: a choice's rule, the depth of a table, the length of the tidy or the completed table or of a listing
unfoldable pub as_number : Answer ℕ → ℕ
as_number (Answer.given n) = given n
as_number (Answer.refused r) = code_of r

-- the rule of a beat's step, and above it how many promotions it made
unfoldable pub beat_number : Answer Beat → ℕ
beat_number (Answer.given b) = given (b.rule + 256 * b.promotions)
beat_number (Answer.refused r) = code_of r

-- the first thread that can step, or that there is none
unfoldable pub stepper_of : Answer (Option ℕ) → ℕ
stepper_of (Answer.given (some i)) = given i
stepper_of (Answer.given none) = given no_thread
stepper_of (Answer.refused r) = code_of r

-- how many values main has, or that they are open
unfoldable pub counted : Answer (Option (List ℤ)) → ℕ
counted (Answer.given (some v̄)) = given (length v̄)
counted (Answer.given none) = given still_open
counted (Answer.refused r) = code_of r

-- values in the place of the first words; the words behind them stay
unfoldable pub over : List ℤ → List ℤ → List ℤ
over [] ws = ws
over (v ∷ v̄) [] = []
over (v ∷ v̄) (w ∷ ws) = v ∷ over v̄ ws

-- main's values are written where they are given, and nothing else is
unfoldable pub written : Answer (Option (List ℤ)) → List ℤ → List ℤ
written (Answer.given (some v̄)) ws = over v̄ ws
written (Answer.given none) ws = ws
written (Answer.refused r) ws = ws

-- a call's answer as a number, and the pool's words afterwards
pub record Gives {A : Type 0} (code : Answer A → ℕ) (c : Called A) (r : ℕ) (ws : List ℤ) : Type 0 where
  pub number : r ≡ code c.answer
  pub words : ws ≡ c.after

-- a call's answer as a number, and the output afterwards
pub record Writes (w : Wrote) (r : ℕ) (out : List ℕ) : Type 0 where
  pub number : r ≡ as_number w.answer
  pub bytes : out ≡ w.after

-- a completion's answer as a number, and the output and the scratch afterwards
pub record Completes (c : Completed) (r : ℕ) (out words : List ℕ) : Type 0 where
  pub number : r ≡ as_number c.answer
  pub bytes : out ≡ c.out
  pub scratch : words ≡ c.words

-- main's values: the number, and the words lent for them, before and afterwards
pub record Values (a : Answer (Option (List ℤ))) (ws : List ℤ) (r : ℕ) (ws' : List ℤ) : Type 0 where
  pub number : r ≡ counted a
  pub words : ws' ≡ written a ws

-- a list of choices: the number of its answer, how many were made, and the pool's words afterwards
pub record Tells (c : Calls.Scheduled) (r made : ℕ) (ws' : List ℤ) : Type 0 where
  pub number : r ≡ done c.answer
  pub count : made ≡ c.made
  pub words : ws' ≡ c.after

-- a run: the number of its answer, the steps and the promotions that were made, in this order, and the pool's words afterwards
pub record Runs (t : Told) (r : ℕ) (made : List ℕ) (ws' : List ℤ) : Type 0 where
  pub number : r ≡ done t.answer
  pub counts : made ≡ t.steps ∷ t.promotions ∷ []
  pub words : ws' ≡ t.after
