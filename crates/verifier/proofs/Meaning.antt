-- The check's answer, from reading and from the judgement by the places; and what it means.
use Prim.Native.Nat.{ℕ}
use mathlib.Core.Path.{◌≡◌, refl, sym, ◌∙◌, ap}
use mathlib.Core.List.{List}
use Rattle.model.specs.Answers as Answers
use Rattle.model.specs.Answers.{Answer, outcome}
use Rattle.model.specs.Syntax.{Program}
use Rattle.model.specs.Check.{judge}
use Rattle.model.specs.Calls as Calls
use Rattle.model.specs.Calls.{read}
use Rattle.model.proofs.Facts.{refused-given}
use Rattle.model.proofs.Accepted.{check-wf, wf-check}
use Rattle.std.specs.Prelude.{Ok, Err}
use Rattle.answers.specs.declared.Refusal as Why
use Rattle.answers.specs.Answers.{refusal_of, answer_of}
use Rattle.places.specs.Marks.{nowhere}
use Rattle.table.specs.Reading.{ReadAs}
use Rattle.table.proofs.Answered.{left-places}
use Rattle.verifier.specs.Verdicts.{Judgement, Judges}
use Rattle.verifier.specs.Means.{Means, CheckedAs}

-- what reading answered decides
module _ (s before places : List ℕ) (r : Judgement) (h : ReadAs s before places r) where
  pub check-refused : (x : Why.Refusal) → r ≡ Err x → CheckedAs s before places (Err x)
  unfolding Calls.check Answers.with outcome
  check-refused x z = record { answer = λ o. go (read s) (sym (ap answer_of z) ∙ h.answer); placed = h.placed }
    where
      go : (o : Answer Program) → Answer.refused (refusal_of x) ≡ outcome o → Answer.refused (refusal_of x) ≡ Answers.with o judge
      go (Answer.given P) e = refused-given e
      go (Answer.refused y) e = e

  pub check-judged : (j : Judgement) → r ≡ Ok tt → Judges s places j → CheckedAs s before places j
  unfolding Calls.check Answers.with outcome
  check-judged j z q =
      record { answer = λ none. go none (read s) refl (sym (ap answer_of z) ∙ h.answer); placed = h.placed }
    where
      go : before ≡ nowhere → (o : Answer Program) → read s ≡ o → Answer.given tt ≡ outcome o → answer_of j ≡ Answers.with o judge
      go none (Answer.given P) is e = sym (q P (left-places s before places P h.placed none is))
      go none (Answer.refused x) is e = refused-given (sym e)

-- the answer is accepted where the case is
only : (r : Judgement) → answer_of r ≡ Answer.given tt → r ≡ Ok tt
only (Ok _) e = refl
only (Err x) e = refused-given e

-- the law of `check`: for every table s and its answer r
pub means : (s : List ℕ) (r : Judgement) → answer_of r ≡ Calls.check s → Means s r
unfolding Calls.check Answers.with judge
means s r e =
    record {
      sound = λ z. check-wf s (sym e ∙ ap answer_of z);
      complete = λ (P, reads, W). only r (e ∙ wf-check s P reads W);
      unread = λ x reads. e ∙ ap (λ (o : Answer Program). Answers.with o judge) reads;
      first = λ P reads. e ∙ ap (λ (o : Answer Program). Answers.with o judge) reads;
    }
