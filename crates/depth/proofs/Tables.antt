-- The depth of a table: the check's own refusal, or what the functions come to.
use Prim.Native.Nat.{ℕ}
use mathlib.Core.Path.{◌≡◌, sym, ◌∙◌, ap}
use mathlib.Core.List.{List}
use Rattle.model.specs.Numbers as No
use Rattle.model.specs.Answers.{Answer}
use Rattle.model.specs.Calls.{check}
use Rattle.model.proofs.Accepted.{check-wf}
use Rattle.model.proofs.Numbers.{read-heading}
use Rattle.std.specs.Prelude.{Some, None, Ok, Err}
use Rattle.std.specs.Option.{ok_or}
use Rattle.answers.specs.declared.Refusal as Why
use Rattle.answers.specs.declared.Refusal.TheVariants.{Plain}
use Rattle.answers.specs.Answers.{answer_of}
use Rattle.places.specs.Marks.{nowhere}
use Rattle.code.specs.Bytes.{byte_at}
use Rattle.table.proofs.Answered.{left-places}
use Rattle.verifier.specs.Means.{CheckedAs}
use Rattle.chains.specs.Depth as Model
use Rattle.chains.specs.Depth.{deep}
use Rattle.chains.proofs.Means.{depth-means, depth-accepted}
use Rattle.verifier.specs.Verdicts.{Judgement}
use Rattle.depth.specs.Works.{Chain, chain_of, WorksAll, needed_of}

module _ (s before places : List ℕ) (r : Judgement) (c : CheckedAs s before places r) (none : before ≡ nowhere) where
  pub table-refused : (why : Why.Refusal) → r ≡ Err why → needed_of (Err why) ≡ Model.depth s
  table-refused why e = sym (depth-means.refused s _ (sym (c.answer none) ∙ ap answer_of e))

  module _ {n : ℕ} (q : Chain) (e : r ≡ Ok tt) (d : n ≡ byte_at s 5) (works : WorksAll s places n q) where
    accepted : deep (chain_of q) ≡ Model.depth s
    accepted =
        let h : check s ≡ Answer.given tt = sym (c.answer none) ∙ ap answer_of e in
        let (P, reads, _) = check-wf s h in
        let p = left-places s before places P c.placed none reads in
        ap deep (works P p ((read-heading s P reads).functions ∙ sym d)) ∙ sym (depth-accepted s P h reads)

    pub table-answered : needed_of (ok_or q (Plain (record { 0 = No.cycle }))) ≡ Model.depth s
    unfolding deep
    table-answered = go q accepted
      where
        go : (q : Chain) → deep (chain_of q) ≡ Model.depth s → needed_of (ok_or q (Plain (record { 0 = No.cycle }))) ≡ Model.depth s
        go (Some d) e = e
        go None e = e
