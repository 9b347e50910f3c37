-- S-6 of document 02: a beat, which is a step of a thread and then the promotions that its tokens pay; and a run of beats. On pools, and
-- what the two calls answer and leave in the lent words.
use Rattle.std.specs.Prelude.{ℕ, zero, suc, ◌+◌, Bool, ◌&&◌, cond, List, [], ◌∷◌, map, leb, ltb, ℤ, length}
use Rattle.std.proofs.Math.Option.{Option, none, some}
use Rattle.model.specs.Numbers as No
use Rattle.model.specs.Answers.{Refusal, Answer, with}
use Rattle.model.specs.Syntax.{Program}
use Rattle.model.specs.Pool.{Pool, most_threads, words_of}
use Rattle.model.specs.Rules.{Result, choice}
use Rattle.model.specs.Calls.{Called, Lent, lent, stopped}
use Rattle.tokens.specs.Purses.{purse_at, earned, shared}

-- promotions one after another: the pool that each was put to, and the pool left
pub record Spent : Type 0 where
  pub from : List Pool
  pub pool : Pool

-- "The thread then promotes while it has a token and the promote choice would be made." Each promotion makes a thread, so that no more
-- than the most threads can come: the number of them that is left to try ends nothing else
unfoldable pub paying : Pool → Result → (Pool → Spent) → Spent
paying p (Result.made rule p') k = record { from = p ∷ (k p').from; pool = (k p').pool }
paying p (Result.refused n) k = record { from = []; pool = p }

unfoldable pub spend : ℕ → Program → ℕ → Pool → Spent
spend zero P i p = record { from = []; pool = p }
spend (suc most) P i p =
    cond (ltb 0 (purse_at p i).tokens) (paying p (choice P p 1 i) (λ p'. spend most P i (shared i p'))) (record { from = []; pool = p })

-- a beat of thread i: the rule of its step and the promotions, or the step's refusal
pub data Beaten : Type 0 where
  made : ℕ → Spent → Beaten
  refused : ℕ → Beaten

unfoldable pub stepped : ℕ → ℕ → Program → Pool → ℕ → Result → Beaten
stepped N C P p i (Result.made rule p') = Beaten.made rule (spend most_threads P i (earned N C rule p i p'))
stepped N C P p i (Result.refused n) = Beaten.refused n

unfoldable pub beaten : ℕ → ℕ → Program → Pool → ℕ → Beaten
beaten N C P p i = stepped N C P p i (choice P p 0 i)

-- a run: beats up to the first refused. How many steps and promotions were made, that refusal if there is one, and the pool
pub record Ran : Type 0 where
  pub steps : ℕ
  pub promotions : ℕ
  pub refusal : Option ℕ
  pub pool : Pool

abbrev pub one_more : Spent → Ran → Ran
one_more x r =
    record {
      steps = r.steps + 1;
      promotions = r.promotions + length x.from;
      refusal = r.refusal;
      pool = r.pool;
    }

unfoldable pub go_on : Pool → Beaten → (Pool → Ran) → Ran
go_on p (Beaten.made rule x) k = one_more x (k x.pool)
go_on p (Beaten.refused n) k = record { steps = 0; promotions = 0; refusal = some n; pool = p }

unfoldable pub runs : ℕ → ℕ → Program → Pool → List ℕ → Ran
runs N C P p [] = record { steps = 0; promotions = 0; refusal = none; pool = p }
runs N C P p (i ∷ is) = go_on p (beaten N C P p i) (λ p'. runs N C P p' is)

-- N and C: 27, after 1 to 3, 12 and 13, and before the step
abbrev pub most_n : ℕ
most_n = 65535

abbrev pub most_c : ℕ
most_c = 255

unfoldable pub is_pace : ℕ → ℕ → Bool
is_pace N C = ltb 0 N && leb N most_n && ltb 0 C && leb C most_c

unfoldable pub paced : ℕ → ℕ → Answer (Unit {0})
paced N C = cond (is_pace N C) (Answer.given tt) (Answer.refused (Refusal.plain No.pace))

unfoldable pub lent_at : List ℕ → List ℤ → ℕ → ℕ → Answer Lent
lent_at s ws N C = with (lent s ws) λ l. with (paced N C) λ _. Answer.given l

-- a beat: 1 to 3, 12, 13, 27, then as a step, 15 to 19 or 29; or its rule and how many promotions it made. A refusal leaves the words as
-- they were
pub record Beat : Type 0 where
  pub rule : ℕ
  pub promotions : ℕ

unfoldable pub told : List ℤ → Beaten → Called Beat
told ws (Beaten.made rule x) =
    record { answer = Answer.given (record { rule = rule; promotions = length x.from }); after = words_of x.pool }
told ws (Beaten.refused n) = record { answer = Answer.refused (Refusal.plain n); after = ws }

unfoldable pub beating : List ℤ → Answer Lent → ℕ → ℕ → ℕ → Called Beat
beating ws (Answer.given l) i N C = told ws (beaten N C l.table l.pool i)
beating ws (Answer.refused r) i N C = record { answer = Answer.refused r; after = ws }

unfoldable pub beat : List ℕ → List ℤ → ℕ → ℕ → ℕ → Called Beat
beat s ws i N C = beating ws (lent_at s ws N C) i N C

-- the words that its promotions are put to, in order
unfoldable pub put_to : Beaten → List (List ℤ)
put_to (Beaten.made rule x) = map words_of x.from
put_to (Beaten.refused n) = []

unfoldable pub promoting : Answer Lent → ℕ → ℕ → ℕ → List (List ℤ)
promoting (Answer.given l) i N C = put_to (beaten N C l.table l.pool i)
promoting (Answer.refused r) i N C = []

unfoldable pub promoted_from : List ℕ → List ℤ → ℕ → ℕ → ℕ → List (List ℤ)
promoted_from s ws i N C = promoting (lent_at s ws N C) i N C

-- a run: 1 to 3, 12, 13, 27, of an empty one too; then the first refusal, if there is one. The steps and promotions made come with it
-- either way, and what those made stays
pub record Told : Type 0 where
  pub answer : Answer (Unit {0})
  pub steps : ℕ
  pub promotions : ℕ
  pub after : List ℤ

unfoldable pub reported : Ran → Told
reported r =
    record {
      answer = stopped r.refusal;
      steps = r.steps;
      promotions = r.promotions;
      after = words_of r.pool;
    }

unfoldable pub running : List ℤ → Answer Lent → ℕ → ℕ → List ℕ → Told
running ws (Answer.given l) N C is = reported (runs N C l.table l.pool is)
running ws (Answer.refused r) N C is = record { answer = Answer.refused r; steps = 0; promotions = 0; after = ws }

unfoldable pub run : List ℕ → List ℤ → ℕ → ℕ → List ℕ → Told
run s ws N C is = running ws (lent_at s ws N C) N C is
