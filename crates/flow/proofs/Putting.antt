-- A choice is put, and its line printed.
use Rattle.std.proofs.Common.{◌≡◌, ℕ, ◌+◌, ◌%◌, ◌^◌, List, ℤ, refl, ap, ◌∙◌, arith}
use Rattle.model.specs.Syntax.{Program}
use Rattle.model.specs.Pool.{Pool}
use Rattle.model.specs.Rules.{Result, choice}
use Rattle.model.specs.Calls.{Called, made}
use Rattle.model.specs.Output.{answered, choice_line}
use Rattle.std.specs.Prelude.{Ok, Err}
use Rattle.answers.specs.declared.No.{No}
use Rattle.answers.specs.declared.Rule.{Rule}
use Rattle.steps.specs.Choice as Steps
use Rattle.steps.specs.Choice.{Made, made_of}
use Rattle.steps.proofs.Choosing.{chose-made, chose-refused}
use Rattle.puts.specs.Puts.{Puts}
use Rattle.flow.specs.declared.Phase.TheVariants.{Choosing, Stopped}
use Rattle.flow.specs.declared.Run.{Run}
use Rattle.flow.specs.Stages.{chosen}
use Rattle.flow.specs.Stands.{run_at, kept, Holds, Chosen}

-- what a choice answers, by what it leaves
answer-of : (ws : List ℤ) (x : Result) → (made ws x).answer ≡ answered x
unfolding made answered
answer-of ws (Result.made rule p) = refl
answer-of ws (Result.refused n) = refl

module _ (t places : List ℕ) (ws : List ℤ) (out : List ℕ) (run : Run) (kind thread : ℕ) (r : Run) (ws' : List ℤ) (out' : List ℕ)
    (a : Made) (h : Steps.Chooses t places ws kind thread a ws') (k : ℕ)
    (line : Puts out run.said (choice_line run.index kind thread (made_of a)) k out') where
  -- the line says what the choice answers
  line-is : (P : Program) (p : Pool) → Holds t places ws P p → r.said ≡ k
      → Puts out run.said (choice_line run.index kind thread (answered (choice P p kind thread))) r.said out'
  line-is P p q e =
      let z : made_of a ≡ answered (choice P p kind thread) =
      ap (λ (c : Called ℕ). c.answer) (h P p q.table q.words q.valid).called ∙ answer-of ws (choice P p kind thread) in
      rw (← z, e) line

  pub goes_on : (rule : Rule) (index : ℕ) → a ≡ Ok rule → index ≡ (run.index + 1) % 2 ^ 64 → r ≡ run_at Choosing run.taken index k
      → Chosen t places ws out run kind thread r ws' out'
  unfolding chosen
  goes_on rule index m w e =
      record {
        taken = ap (λ (x : Run). x.taken) e;
        stage = λ P p q small.
            let c = h P p q.table q.words q.valid in
            let z = chose-made P p ws kind thread ws' rule.0 q.table.limits q.valid (rw m at c) in
            rw z.is
            (record {
              phase = ap (λ (x : Run). x.phase) e;
              holds = record { table = q.table; words = z.words; valid = z.valid };
              index = ap (λ (x : Run). x.index) e ∙ (let y : index ≡ run.index + 1 = omega arith in y);
              kind = ap (λ (x : Run). kept x.kind) e;
            });
        text = λ P p q. line-is P p q (ap (λ (x : Run). x.said) e);
      }

  pub stops : (n : No) → a ≡ Err n → r ≡ run_at Stopped run.taken run.index k → Chosen t places ws out run kind thread r ws' out'
  unfolding chosen
  stops n m e =
      record {
        taken = ap (λ (x : Run). x.taken) e;
        stage = λ P p q small.
            let c = h P p q.table q.words q.valid in
            let z = chose-refused P p ws kind thread ws' n.0 (rw m at c) in
            rw z.0
            (record {
              phase = ap (λ (x : Run). x.phase) e;
              holds = record { table = q.table; words = z.1 ∙ q.words; valid = q.valid };
            });
        text = λ P p q. line-is P p q (ap (λ (x : Run). x.said) e);
      }
