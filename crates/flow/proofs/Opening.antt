-- A whole table is checked: it is opened, or refused.
use Rattle.std.proofs.Common.{◌≡◌, ℕ, List, length, ℤ, sym, ap, ◌∙◌}
use Rattle.model.specs.Pool.{words_of, started}
use Rattle.model.specs.Text.{ascii, newline}
use Rattle.model.specs.Output.{refusal}
use Rattle.model.proofs.Words.{started-pool}
use Rattle.model.proofs.Accepted.{accepts, refuses}
use Rattle.std.specs.Prelude.{Result, Ok, Err}
use Rattle.answers.specs.declared.Refusal as Why
use Rattle.answers.specs.Answers.{refusal_of, answer_of}
use Rattle.table.proofs.Answered.{left-places}
use Rattle.verifier.specs.Means.{CheckedAs}
use Rattle.puts.specs.Puts.{Puts}
use Rattle.puts.proofs.Laws.{then}
use Rattle.flow.specs.declared.Phase.TheVariants.{Choosing, Over}
use Rattle.flow.specs.declared.Run.{Run}
use Rattle.flow.specs.Stages.{opened, opening}
use Rattle.flow.specs.Stands.{run_at, kept, Opens}

module _ (t places places' : List ℕ) (ws' : List ℤ) (out : List ℕ) (at : ℕ) (r : Run) (out' : List ℕ) (a : Result (Unit {0}) Why.Refusal)
    (c : CheckedAs t places places' a) where
  pub opens-given : (k : ℕ) → a ≡ Ok tt → ws' ≡ words_of started → Puts out at (ascii "accepted\n") k out'
      → r ≡ run_at Choosing (length t) 0 k → Opens t places places' ws' out at r out'
  unfolding opened opening
  opens-given k g w p e =
      record {
        taken = ap (λ (x : Run). x.taken) e;
        stage = λ o. let z = accepts t (sym (c.answer o) ∙ ap answer_of g) in
            let q = left-places t places places' z.program c.placed o z.reads in
            rw z.is (record {
              phase = ap (λ (x : Run). x.phase) e;
              holds = record { table = q; words = w; valid = started-pool z.program q.limits };
              index = ap (λ (x : Run). x.index) e;
              kind = ap (λ (x : Run). kept x.kind) e;
            });
        text = λ o. let z = accepts t (sym (c.answer o) ∙ ap answer_of g) in rw z.is (rw e p);
      }

  pub opens-refused : (why : Why.Refusal) (d : List ℕ) (k m : ℕ) → a ≡ Err why → Puts out at (refusal (refusal_of why)) k d
      → Puts d k newline m out' → r ≡ run_at Over (length t) 0 m → Opens t places places' ws' out at r out'
  unfolding opened opening
  opens-refused why d k m g p q e =
      record {
        taken = ap (λ (x : Run). x.taken) e;
        stage = λ o. let z = refuses t (refusal_of why) (sym (c.answer o) ∙ ap answer_of g) in
            rw z (ap (λ (x : Run). x.phase) e);
        text = λ o. let z = refuses t (refusal_of why) (sym (c.answer o) ∙ ap answer_of g) in rw (z, e) (then p q);
      }
