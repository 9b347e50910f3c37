-- The end of the input: the last text.
use Rattle.std.proofs.Common.{◌≡◌, ℕ, List, length, take, ℤ, refl, ap, ◌∙◌, subst, arith}
use mathlib.Core.Logic.{◌⊎◌, inl, inr}
use mathlib.Core.Option.{Option}
use Rattle.model.specs.Numbers as No
use Rattle.model.specs.Answers.{Refusal}
use Rattle.model.specs.Syntax.{Program}
use Rattle.model.specs.Pool.{Pool}
use Rattle.model.specs.Rules.{main_values}
use Rattle.model.specs.Text.{newline}
use Rattle.model.specs.Output.{refusal, result_line, result}
use Rattle.model.proofs.Few.{few-main}
use Rattle.std.specs.Prelude.{Option as Optional}
use Rattle.eval.specs.declared.Values.{Values}
use Rattle.eval.specs.Given.{looked_of}
use Rattle.eval.proofs.Buffers.{looked-of}
use Rattle.steps.specs.Choice as Steps
use Rattle.steps.proofs.Choosing.{main-looked}
use Rattle.puts.specs.Puts.{Puts}
use Rattle.puts.proofs.Laws.{then}
use Rattle.flow.specs.declared.Phase.TheVariants.{Taking, Choosing, Stopped, Over}
use Rattle.flow.specs.declared.Run.{Run}
use Rattle.flow.specs.Stages.{Stage, ends}
use Rattle.flow.specs.Stands.{text_bytes, Memory, memory, Holds, Stands, Text, Ends}
use Rattle.flow.proofs.Standing.{number-of}
use Rattle.flow.proofs.Bounds.{size-most, result-most}
use Rattle.flow.proofs.Feeding.{text_of}

module _ (m : Memory) (out : List ℕ) (run : Run) (r : ℕ) (out' : List ℕ) where
  -- the table is not whole
  pub ends-taking : (d : List ℕ) (k : ℕ) → run.phase ≡ Taking → length out ≡ text_bytes → Puts out 0 (refusal (Refusal.plain No.size)) k d
      → Puts d k newline r out' → Ends m out run r out'
  unfolding ends
  ends-taking d k e l p q = record { is = λ st h. go st h }
    where
      go : (st : Stage) → Stands m run st → Text (ends st) out r out'
      go (Stage.taking s) h = let n = size-most in text_of out _ r out' (then p q) (omega arith) (omega arith)
      go (Stage.choosing P p i k) h = let z = number-of m run Taking _ e h in absurd (omega arith)
      go (Stage.stopped P p) h = let z = number-of m run Taking _ e h in absurd (omega arith)
      go Stage.over h = let z = number-of m run Taking _ e h in absurd (omega arith)

-- it was refused
pub ends-over : (m : Memory) (run : Run) (out : List ℕ) → run.phase ≡ Over → Ends m out run 0 out
unfolding ends
ends-over m run out e = record { is = λ st h. go st h }
  where
    go : (st : Stage) → Stands m run st → Text (ends st) out 0 out
    go (Stage.taking s) h = let z = number-of m run Over _ e h in absurd (omega arith)
    go (Stage.choosing P p i k) h = let z = number-of m run Over _ e h in absurd (omega arith)
    go (Stage.stopped P p) h = let z = number-of m run Over _ e h in absurd (omega arith)
    go Stage.over h = record { length = refl; bytes = refl; behind = refl }

-- main's values, or that they are open
module _ (table places : List ℕ) (ws : List ℤ) (out : List ℕ) (run : Run) (r : ℕ) (out' : List ℕ) (t : List ℕ) (o : Optional Values)
    (w : t ≡ take run.taken table) (f : Steps.Ends t places ws 0 o) (l : length out ≡ text_bytes)
    (p : Puts out 0 (result_line (looked_of o)) r out') where
  result-text : (P : Program) (q : Pool) → Holds (take run.taken table) places ws P q → Text (result P q) out r out'
  unfolding result
  result-text P q h =
      let e : looked_of o ≡ main_values P q =
      ap looked_of (main-looked t places ws o P q f (rw w h.table) h.words h.valid) ∙ looked-of (main_values P q) in
      let n = result-most (main_values P q) (few-main P h.table.limits q) in
      text_of out (result_line (main_values P q)) r out' (subst (λ (v : Option (List ℤ)). Puts out 0 (result_line v) r out') e p)
      (omega arith) (omega arith)

  ends-choosing : run.phase ≡ Choosing → Ends (memory table places ws) out run r out'
  unfolding ends
  ends-choosing e = record { is = λ st h. go st h }
    where
      go : (st : Stage) → Stands (memory table places ws) run st → Text (ends st) out r out'
      go (Stage.taking s) h = let z = number-of (memory table places ws) run Choosing _ e h in absurd (omega arith)
      go (Stage.choosing P q i k) h = result-text P q h.by.holds
      go (Stage.stopped P q) h = let z = number-of (memory table places ws) run Choosing _ e h in absurd (omega arith)
      go Stage.over h = let z = number-of (memory table places ws) run Choosing _ e h in absurd (omega arith)

  ends-stopped : run.phase ≡ Stopped → Ends (memory table places ws) out run r out'
  unfolding ends
  ends-stopped e = record { is = λ st h. go st h }
    where
      go : (st : Stage) → Stands (memory table places ws) run st → Text (ends st) out r out'
      go (Stage.taking s) h = let z = number-of (memory table places ws) run Stopped _ e h in absurd (omega arith)
      go (Stage.choosing P q i k) h = let z = number-of (memory table places ws) run Stopped _ e h in absurd (omega arith)
      go (Stage.stopped P q) h = result-text P q h.by.holds
      go Stage.over h = let z = number-of (memory table places ws) run Stopped _ e h in absurd (omega arith)

  pub ends-told : (run.phase ≡ Choosing) ⊎ (run.phase ≡ Stopped) → Ends (memory table places ws) out run r out'
  ends-told (inl e) = ends-choosing e
  ends-told (inr e) = ends-stopped e
