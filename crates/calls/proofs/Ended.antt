-- Main's values, as the code tells them.
use Prim.Native.Nat.{ℕ, ◌-◌, ◌≤◌}
use mathlib.Core.Path.{◌≡◌, refl, ap, ◌∙◌}
use mathlib.Core.Option.{Option as Maybe, none, some}
use mathlib.Core.List.{List, [], ◌∷◌}
use native.Mathlib.Omega.{arith}
use lib.IntN.{ℤ, pos}
use lib.ListN.{length, take, replicate}
use lib.Seq.{take_at}
use Rattle.std.specs.Prelude.{Option, Some, None, Result, Ok, Err}
use Rattle.model.specs.Lists.{pad}
use Rattle.model.specs.Answers.{Answer, with}
use Rattle.model.specs.Syntax.{Program}
use Rattle.model.specs.Rules.{ended, main_values}
use Rattle.model.specs.Calls.{Lent, values}
use Rattle.answers.specs.declared.Refusal.{Refusal}
use Rattle.answers.specs.Answers.{refusal_of}
use Rattle.eval.specs.declared.Values.{Values}
use Rattle.eval.specs.Given.{values_as, looked_as}
use Rattle.steps.specs.Choice.{Ends}
use Rattle.model.proofs.Valid.{some-thread}
use Rattle.steps.proofs.Choosing.{around, known_at, main-first}
use Rattle.lend.proofs.Lending.{Lending}
use Rattle.calls.specs.declared.Main.{Main}
use Rattle.calls.specs.Calls.{values_given, IsMain}
use Rattle.model.proofs.Few.{few-ended}

-- an answer with no values
pub main-refused : (why : Refusal) {a : Answer (Maybe (List ℤ))} → a ≡ Answer.refused (refusal_of why)
    → {r : Result (Option Main) Refusal} → r ≡ Err why → IsMain r a
unfolding values_given
main-refused why h z = rw (z, h) (record { answer = refl; holds = refl })

main_open : {a : Answer (Maybe (List ℤ))} → a ≡ Answer.given none → IsMain (Ok None) a
unfolding values_given
main_open h = rw h (record { answer = refl; holds = refl })

given-are : (v̄ : List ℤ) → IsMain (Ok (Some (record { count = length v̄; values = pad 4 (pos 0) v̄ }))) (Answer.given (some v̄))
unfolding values_given pad
given-are v̄ =
    record {
      answer = ap (λ (l : List ℤ). Answer.given (some l)) (take_at v̄ (replicate (4 - length v̄) (pos 0)) (length v̄) refl);
      holds = (refl, refl);
    }

-- the first four of eight words that hold no more than four values
first-four : (v̄ : List ℤ) → length v̄ ≤ 4 → take 4 (pad 8 (pos 0) v̄) ≡ pad 4 (pos 0) v̄
unfolding pad
first-four [] h = refl
first-four (a ∷ []) h = refl
first-four (a ∷ b ∷ []) h = refl
first-four (a ∷ b ∷ c ∷ []) h = refl
first-four (a ∷ b ∷ c ∷ d ∷ []) h = refl
first-four (a ∷ b ∷ c ∷ d ∷ e ∷ v̄) h = absurd (omega arith)

-- what main's thread comes to
pub record MainThread (P : Program) (o : Option Values) (v : Answer (Maybe (List ℤ))) : Type 0 where
  pub values : Maybe (List ℤ)
  pub is : o ≡ looked_as values
  pub answer : v ≡ Answer.given values
  pub few : (v̄ : List ℤ) → values ≡ some v̄ → length v̄ ≤ 4

module _ {s places : List ℕ} {ws : List ℤ} (l : Lending s places ws) (o : Option Values) (f : Ends s places ws 0 o) where
  main-thread : MainThread l.what.table o (values s ws)
  unfolding values with
  main-thread =
      let P = l.what.table in
      let p = l.what.pool in
      let x = around p 0 (some-thread P p l.valid) in
      let k = known_at P p l.words l.valid l.table x in
      record {
        values = ended P x.thread;
        is = f P x.front x.thread x.back k;
        answer = ap (λ (a : Answer Lent). with a (λ (k : Lent). Answer.given (main_values k.table k.pool))) l.is
            ∙ ap (λ (z : Maybe (List ℤ)). Answer.given z)
            (ap (main_values P) x.is ∙ main-first P x.front x.thread x.back x.place);
        few = λ v̄ e. few-ended P l.table.limits x.thread v̄ e;
      }

  pub values-open : o ≡ None → IsMain (Ok None) (values s ws)
  unfolding looked_as
  values-open z = go main-thread.values main-thread.is main-thread.answer
    where
      go : (w : Maybe (List ℤ)) → o ≡ looked_as w → values s ws ≡ Answer.given w → IsMain (Ok None) (values s ws)
      go none i a = main_open a
      go (some v̄) i a = absurd cc

  pub values-given : (v : Values) → o ≡ Some v → {w̄ : List ℤ} → w̄ ≡ take 4 v.at
      → IsMain (Ok (Some (record { count = v.count; values = w̄ }))) (values s ws)
  unfolding looked_as values_as
  values-given v z {w̄} e = go main-thread.values main-thread.is main-thread.answer main-thread.few
    where
      go : (u : Maybe (List ℤ)) → o ≡ looked_as u → values s ws ≡ Answer.given u → ((v̄ : List ℤ) → u ≡ some v̄ → length v̄ ≤ 4)
          → IsMain (Ok (Some (record { count = v.count; values = w̄ }))) (values s ws)
      go none i a few = absurd cc
      go (some v̄) i a few =
          let q : v ≡ values_as v̄ = cc in
          let four : w̄ ≡ pad 4 (pos 0) v̄ = e ∙ ap (λ (x : Values). take 4 x.at) q ∙ first-four v̄ (few v̄ refl) in
          rw (a, ap (λ (x : Values). x.count) q, four) (given-are v̄)
