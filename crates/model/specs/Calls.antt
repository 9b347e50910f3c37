-- What each public call answers, and what it leaves in the lent words: for all bytes, words and numbers. Tables are never
-- changed. The order of refusals: table, pool length, pool, choice.
use Rattle.std.specs.Prelude.{ℕ, zero, suc, ◌+◌, Bool, true, false, cond, List, [], ◌∷◌, eqb, ℤ, length}
use Rattle.std.proofs.Math.Option.{Option, none, some}
use Rattle.model.specs.Numbers as No
use Rattle.model.specs.Answers.{Refusal, Answer, with}
use Rattle.model.specs.Syntax.{Program}
use Rattle.model.specs.Read as Read
use Rattle.model.specs.Check.{judge}
use Rattle.model.specs.Pool.{Pool, pool_words, words_of, pool_of, are_pool, started}
use Rattle.model.specs.Rules.{Result, choice, main_values}

-- 1 to 3, or the program
abbrev pub read : List ℕ → Answer Program
read s = Read.read s

-- 1 to 11, or accepted
unfoldable pub check : List ℕ → Answer (Unit {0})
check s = with (read s) judge

-- the program of an accepted table
unfoldable pub accepted : List ℕ → Answer Program
accepted s = with (read s) λ P. with (judge P) λ _. Answer.given P

-- an answer, and the lent words afterwards
pub record Called (A : Type 0) : Type 0 where
  pub answer : Answer A
  pub after : List ℤ

-- a pool's length
unfoldable pub measured : List ℤ → Answer (Unit {0})
measured ws = cond (eqb (length ws) pool_words) (Answer.given tt) (Answer.refused (Refusal.plain No.words))

-- a table and a pool of it
pub record Lent : Type 0 where
  pub table : Program
  pub pool : Pool

unfoldable pub valid : Program → List ℤ → Answer Lent
valid P ws = cond (are_pool P ws) (Answer.given (record { table = P; pool = pool_of ws })) (Answer.refused (Refusal.plain No.pool))

unfoldable pub lent : List ℕ → List ℤ → Answer Lent
lent s ws = with (read s) λ P. with (measured ws) λ _. valid P ws

-- a table, and as many words as a pool has
unfoldable pub lent_words : List ℕ → List ℤ → Answer (Unit {0})
lent_words s ws = with (read s) λ P. measured ws

-- start: 1 to 3, 12; any table that reads, and words that hold anything
unfoldable pub starting : List ℤ → Answer (Unit {0}) → Called (Unit {0})
starting ws (Answer.given u) = record { answer = Answer.given u; after = words_of started }
starting ws (Answer.refused r) = record { answer = Answer.refused r; after = ws }

unfoldable pub start : List ℕ → List ℤ → Called (Unit {0})
start s ws = starting ws (lent_words s ws)

-- a single choice: 1 to 3, 12, 13, 14 to 21 or 29, or the rule. A refusal leaves the words as they were
unfoldable pub made : List ℤ → Result → Called ℕ
made ws (Result.made rule p) = record { answer = Answer.given rule; after = words_of p }
made ws (Result.refused n) = record { answer = Answer.refused (Refusal.plain n); after = ws }

unfoldable pub chosen : List ℤ → Answer Lent → ℕ → ℕ → Called ℕ
chosen ws (Answer.given l) kind thread = made ws (choice l.table l.pool kind thread)
chosen ws (Answer.refused r) kind thread = record { answer = Answer.refused r; after = ws }

unfoldable pub choose : List ℕ → List ℤ → ℕ → ℕ → Called ℕ
choose s ws kind thread = chosen ws (lent s ws) kind thread

-- a schedule: choices up to the first refusal. How many were made, that refusal if there is one, and the words
pub record Choice : Type 0 where
  pub kind : ℕ
  pub thread : ℕ

pub record Ran : Type 0 where
  pub made : ℕ
  pub refusal : Option ℕ
  pub pool : Pool

abbrev pub one_more : Ran → Ran
one_more r = record { made = r.made + 1; refusal = r.refusal; pool = r.pool }

unfoldable pub go_on : Pool → Result → (Pool → Ran) → Ran
go_on p (Result.made rule p') k = one_more (k p')
go_on p (Result.refused n) k = record { made = 0; refusal = some n; pool = p }

unfoldable pub run : Program → Pool → List Choice → Ran
run P p [] = record { made = 0; refusal = none; pool = p }
run P p (c ∷ cs) = go_on p (choice P p c.kind c.thread) (λ p'. run P p' cs)

-- the answer is the first refusal, if there is one; the number made comes with it either way
pub record Scheduled : Type 0 where
  pub answer : Answer (Unit {0})
  pub made : ℕ
  pub after : List ℤ

unfoldable pub stopped : Option ℕ → Answer (Unit {0})
stopped none = Answer.given tt
stopped (some n) = Answer.refused (Refusal.plain n)

unfoldable pub reported : Ran → Scheduled
reported r = record { answer = stopped r.refusal; made = r.made; after = words_of r.pool }

unfoldable pub scheduled : List ℤ → Answer Lent → List Choice → Scheduled
scheduled ws (Answer.given l) cs = reported (run l.table l.pool cs)
scheduled ws (Answer.refused r) cs = record { answer = Answer.refused r; made = 0; after = ws }

unfoldable pub schedule : List ℕ → List ℤ → List Choice → Scheduled
schedule s ws cs = scheduled ws (lent s ws) cs

-- main's values, or none while they are open: 1 to 3, 12, 13. Nothing is written
unfoldable pub values : List ℕ → List ℤ → Answer (Option (List ℤ))
values s ws = with (lent s ws) λ l. Answer.given (main_values l.table l.pool)

-- the lowest of n numbers, from i on, that passes the test
unfoldable pub lowest : (ℕ → Bool) → ℕ → ℕ → Option ℕ
lowest t zero i = none
lowest t (suc n) i = cond (t i) (some i) (lowest t n (i + 1))

-- a choice made, or refused
unfoldable pub is_made : Result → Bool
is_made (Result.made rule p) = true
is_made (Result.refused n) = false

-- the first thread that can step: the lowest-numbered whose step makes a rule
abbrev pub can_step : Program → Pool → ℕ → Bool
can_step P p i = is_made (choice P p 0 i)

unfoldable pub first : Program → Pool → Option ℕ
first P p = lowest (can_step P p) (length p) 0

-- which thread can step: 1 to 3, 12, 13; the first, or none. Nothing is written
unfoldable pub which : List ℕ → List ℤ → Answer (Option ℕ)
which s ws = with (lent s ws) λ l. Answer.given (first l.table l.pool)
