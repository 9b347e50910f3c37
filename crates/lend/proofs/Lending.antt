-- What is lent: the doors' answers, test by test; and what a call knows whose door answered.
use Prim.Native.Nat.{ℕ}
use mathlib.Core.Path.{◌≡◌, refl, sym, ◌∙◌, ap}
use mathlib.Core.Bool.{Bool, true, false}
use mathlib.Core.List.{List}
use lib.Dec.{eqb}
use lib.IntN.{ℤ}
use lib.ListN.{length}
use Rattle.model.specs.Numbers as No
use Rattle.model.specs.Answers.{Refusal, Answer, with, outcome}
use Rattle.model.specs.Syntax.{Program}
use Rattle.model.specs.Pool.{pool_words, words_of, is_pool, are_pool}
use Rattle.model.specs.Calls.{Lent, read, measured, valid, lent_words, lent}
use Rattle.model.proofs.Facts.{refused-given, outcome-given, outcome-refused, eq-eqb, ne_eqb, eqb-true}
use Rattle.model.proofs.Words.{with-given, test-given, lent-given}
use Rattle.std.specs.Prelude.{Result, Ok, Err}
use Rattle.answers.specs.declared.No as Code
use Rattle.answers.specs.declared.Refusal as Why
use Rattle.answers.specs.declared.Refusal.TheVariants.{Plain}
use Rattle.answers.specs.Answers.{refusal_of, answer_of}
use Rattle.places.specs.Marks.{nowhere}
use Rattle.places.specs.Places.{Places}
use Rattle.table.specs.Reading.{ReadAs}
use Rattle.table.proofs.Answered.{left-places}
use Rattle.valid.specs.Judged.{JudgesPool}
use Rattle.lend.specs.Lent.{LendsWords, LendsPool}

-- the first door: reading, and the words' number
module _ (s before places : List ℕ) (ws : List ℤ) where
  pub words-unread : (r : Result (Unit {0}) Why.Refusal) (x : Why.Refusal) → ReadAs s before places (Err x) → r ≡ Err x
      → LendsWords s ws before places r
  unfolding lent_words with
  words-unread r x h z =
      record { answer = ap answer_of z ∙ (rw (outcome-refused (read s) (sym h.answer)) refl); placed = h.placed }

  module _ (h : ReadAs s before places (Ok tt)) where
    was_read : (P : Program) × (read s ≡ Answer.given P)
    was_read = outcome-given (read s) (sym h.answer)

    pub words-given : length ws ≡ pool_words → LendsWords s ws before places (Ok tt)
    unfolding lent_words with measured
    words-given n = record { answer = rw (was_read.1, eq-eqb (length ws) pool_words n) refl; placed = h.placed }

    pub words-refused : (n : Code.No) → n.0 ≡ No.words → (length ws ≡ pool_words → ⊥) → LendsWords s ws before places (Err (Plain n))
    unfolding lent_words with measured
    words-refused n e o = record { answer = rw (was_read.1, ne_eqb (length ws) pool_words o, e) refl; placed = h.placed }

-- the second door: the words' number, and the pool
unmeasured : (ws : List ℤ) (x : Refusal) (a : Answer Program) (m : Answer (Unit {0}))
    → Answer.refused x ≡ with a (λ P. m) → Answer.refused x ≡ outcome (with a (λ P. with m (λ _. valid P ws)))
unfolding outcome with
unmeasured ws x (Answer.given P) (Answer.given u) e = refused-given e
unmeasured ws x (Answer.given P) (Answer.refused y) e = e
unmeasured ws x (Answer.refused y) m e = e

module _ (s before places : List ℕ) (ws : List ℤ) where
  pub refused-words : (x : Why.Refusal) → LendsWords s ws before places (Err x) → lent_words s ws ≡ Answer.refused (refusal_of x)
  refused-words x h = sym h.answer

  pub pool-unlent : (r : Result (Unit {0}) Why.Refusal) (x : Why.Refusal) → LendsWords s ws before places (Err x) → r ≡ Err x
      → LendsPool s ws before places r
  unfolding lent_words lent
  pool-unlent r x h z =
      record {
        answer = λ o. ap answer_of z ∙ unmeasured ws (refusal_of x) (read s) (measured ws) h.answer;
        placed = h.placed;
      }

  module _ (h : LendsWords s ws before places (Ok tt)) where
    pub given-words : lent_words s ws ≡ Answer.given tt
    given-words = sym h.answer

    parts : (P : Program) × (read s ≡ Answer.given P) × (measured ws ≡ Answer.given tt)
    unfolding lent_words
    parts = with-given (read s) (λ P. measured ws) given-words

    pub long-words : length ws ≡ pool_words
    unfolding measured
    long-words = eqb-true (length ws) pool_words (test-given (eqb (length ws) pool_words) tt (Refusal.plain No.words) parts.2).0

    module _ (b : Bool) (j : JudgesPool s places ws b) where
      judged : before ≡ nowhere → b ≡ are_pool parts.0 ws
      judged o = j parts.0 (left-places s before places parts.0 h.placed o parts.1)

      pub pool-given : b ≡ true → LendsPool s ws before places (Ok tt)
      unfolding lent with valid outcome
      pool-given y = record { answer = λ o. rw (parts.1, parts.2, ← judged o, y) refl; placed = h.placed }

      pub pool-refused : (n : Code.No) → n.0 ≡ No.pool → b ≡ false → LendsPool s ws before places (Err (Plain n))
      unfolding lent with valid outcome
      pool-refused n e y = record { answer = λ o. rw (parts.1, parts.2, ← judged o, y, e) refl; placed = h.placed }

-- what is lent, to a call whose door answered that it is
pub record Lending (s places : List ℕ) (ws : List ℤ) : Type 0 where
  pub what : Lent
  pub is : lent s ws ≡ Answer.given what
  pub table : Places s what.table places
  pub words : ws ≡ words_of what.pool
  pub valid : is_pool what.table what.pool ≡ true
  pub long : length ws ≡ pool_words

module _ (s before places : List ℕ) (ws : List ℤ) (o : before ≡ nowhere) where
  pub refused-pool : (x : Why.Refusal) → LendsPool s ws before places (Err x) → lent s ws ≡ Answer.refused (refusal_of x)
  refused-pool x h = outcome-refused (lent s ws) (sym (h.answer o))

  pub given-pool : LendsPool s ws before places (Ok tt) → Lending s places ws
  given-pool h =
      let (l, e) = outcome-given (lent s ws) (sym (h.answer o)) in
      let i = lent-given s ws l e in
      record {
        what = l;
        is = e;
        table = left-places s before places l.table h.placed o i.reads;
        words = sym i.words;
        valid = i.valid;
        long = i.long;
      }
