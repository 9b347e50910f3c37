-- What S-2 promises, on bytes and words: the tidy table is accepted, is its own tidy table, is never longer, and from fresh pools no
-- list of calls tells it from the old one. And the same of any two numberings of one program.
use Rattle.std.specs.Prelude.{ℕ, ◌≤◌, ◌≡◌, List, map, ℤ, length}
use Rattle.model.specs.Numbers as No
use Rattle.model.specs.Answers.{Refusal, Answer, put}
use Rattle.model.specs.Syntax.{Program}
use Rattle.model.specs.Pool.{pool_words}
use Rattle.model.specs.Calls as Calls
use Rattle.model.specs.Calls.{Choice, Lent, lent, read, check}
use Rattle.tokens.specs.Beats as Beats
use Rattle.safety.specs.NeverJams.{Call, Put, choices, finally}
use Rattle.numbering.specs.Renumbers.{Numbering, renamed_pool, Renumbers, Apart, Onto}
use Rattle.numbering.specs.Tidy.{tidy}
use Rattle.numbering.specs.Order.{Unique, Ordered}

-- whatever is put next, to s with the words ws and to t with the words ws', is answered the same: a choice its rule or refusal, a
-- schedule also how many choices it made, a beat also its promotions, a run also its steps and promotions, main's values, and which
-- thread can step
pub record Alike (s t : List ℕ) (ws ws' : List ℤ) : Type 0 where
  pub choose : (kind thread : ℕ) → (Calls.choose s ws kind thread).answer ≡ (Calls.choose t ws' kind thread).answer
  pub schedule : (cs : List Choice) → (Calls.schedule s ws cs).answer ≡ (Calls.schedule t ws' cs).answer
  pub made : (cs : List Choice) → (Calls.schedule s ws cs).made ≡ (Calls.schedule t ws' cs).made
  pub beat : (thread N C : ℕ) → (Beats.beat s ws thread N C).answer ≡ (Beats.beat t ws' thread N C).answer
  pub run : (N C : ℕ) (threads : List ℕ) → (Beats.run s ws N C threads).answer ≡ (Beats.run t ws' N C threads).answer
  pub steps : (N C : ℕ) (threads : List ℕ) → (Beats.run s ws N C threads).steps ≡ (Beats.run t ws' N C threads).steps
  pub promotions : (N C : ℕ) (threads : List ℕ) → (Beats.run s ws N C threads).promotions ≡ (Beats.run t ws' N C threads).promotions
  pub values : Calls.values s ws ≡ Calls.values t ws'
  pub which : Calls.which s ws ≡ Calls.which t ws'

-- the answers of choices that were put
abbrev pub answers : List ℕ → List Put → List (Answer ℕ)
answers s ps = map (λ p. (Calls.choose s p.words p.kind p.thread).answer) ps

-- the words are pools of the two tables, and the second is the first under the new numbers: all else in them, the values of temporaries,
-- work and tokens too, is the same
pub record Correspond (R : Numbering) (s t : List ℕ) (ws ws' : List ℤ) : Type 0 where
  pub old : Lent
  pub new : Lent
  pub first : lent s ws ≡ Answer.given old
  pub second : lent t ws' ≡ Answer.given new
  pub pools : new.pool ≡ renamed_pool R old.pool

-- from fresh pools, every list of calls has the same answers to its choices, those in schedules, beats and runs and refused ones too;
-- whatever is put after it is answered the same; and it leaves pools that correspond by the new numbers
pub record Same (R : Numbering) (s t : List ℕ) : Type 0 where
  pub rules : (ws ws' : List ℤ) → length ws ≡ pool_words → length ws' ≡ pool_words → (cs : List Call) →
      answers s (choices s (Calls.start s ws).after cs) ≡ answers t (choices t (Calls.start t ws').after cs)
  pub next : (ws ws' : List ℤ) → length ws ≡ pool_words → length ws' ≡ pool_words → (cs : List Call) →
      Alike s t (finally s (Calls.start s ws).after cs) (finally t (Calls.start t ws').after cs)
  pub pools : (ws ws' : List ℤ) → length ws ≡ pool_words → length ws' ≡ pool_words → (cs : List Call) →
      Correspond R s t (finally s (Calls.start s ws).after cs) (finally t (Calls.start t ws').after cs)

-- t has what is kept of the program P under the new numbers, no two kept things under one, and nothing else
pub record Renumbered (R : Numbering) (P : Program) (t : List ℕ) : Type 0 where
  pub program : Program
  pub reads : read t ≡ Answer.given program
  pub renumbers : Renumbers R P program
  pub apart : Apart R
  pub onto : Onto R P program

-- t is a tidy table of s: the same program under new numbers
pub record Tidies (s t : List ℕ) : Type 0 where
  pub numbers : Numbering
  pub renumbered : (P : Program) → read s ≡ Answer.given P → Renumbered numbers P t
  pub same : Same numbers s t
  pub accepted : check t ≡ Answer.given tt
  pub shorter : length t ≤ length s
  pub again : (out : List ℕ) → tidy t out ≡ tidy s out

-- the check's own refusals come first, and leave the output; an accepted table has one tidy table, which is put into the output
-- where it fits, and else gets 23; what is kept of it stands in the order of first mention, of which there is one
pub record Means : Type 0 where
  pub refused : (s out : List ℕ) (r : Refusal) → check s ≡ Answer.refused r → tidy s out ≡ record { answer = Answer.refused r; after = out }
  pub accepted : (s : List ℕ) → check s ≡ Answer.given tt →
      (t : List ℕ) × Tidies s t × ((out : List ℕ) → tidy s out ≡ put No.room out t)
  pub ordered : (s : List ℕ) (P : Program) → check s ≡ Answer.given tt → read s ≡ Answer.given P → Ordered P
  pub unique : Unique

-- any two tables of one program under two numberings are the same to every list of calls, accepted or not; where the first is accepted
-- and the second has nothing besides, it is accepted too; and where both are accepted, and no two kept things have one number, they
-- have the same tidy table
pub record Numberings : Type 0 where
  pub same : (s t : List ℕ) (P Q : Program) (R : Numbering) → read s ≡ Answer.given P → read t ≡ Answer.given Q → Renumbers R P Q →
      Same R s t
  pub accepted : (s t : List ℕ) (P Q : Program) (R : Numbering) → read s ≡ Answer.given P → read t ≡ Answer.given Q → Renumbers R P Q →
      Onto R P Q → check s ≡ Answer.given tt → check t ≡ Answer.given tt
  pub tidies : (s t : List ℕ) (P Q : Program) (R : Numbering) → read s ≡ Answer.given P → read t ≡ Answer.given Q → Renumbers R P Q →
      Apart R → check s ≡ Answer.given tt → check t ≡ Answer.given tt → (out : List ℕ) → tidy t out ≡ tidy s out
