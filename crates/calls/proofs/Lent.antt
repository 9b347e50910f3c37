-- What the calls come to where something is refused, and where it is lent.
use Prim.Native.Nat.{ℕ}
use mathlib.Core.Path.{◌≡◌, refl, sym, ap, ◌∙◌}
use mathlib.Core.List.{List}
use lib.IntN.{ℤ}
use Rattle.std.specs.Prelude.{Option, Some, None, Result, Ok, Err}
use Rattle.model.specs.Answers.{Answer, with}
use Rattle.model.specs.Pool.{words_of, started}
use Rattle.model.specs.Calls.{lent_words, lent, starting, start, chosen, choose, values, which}
use Rattle.model.proofs.Kept.{choose-lent}
use Rattle.answers.specs.declared.No.{No}
use Rattle.answers.specs.declared.Rule.{Rule}
use Rattle.answers.specs.declared.Refusal.{Refusal}
use Rattle.answers.specs.declared.Refusal.TheVariants.{Plain}
use Rattle.answers.specs.Answers.{refusal_of, answer_of}
use Rattle.steps.specs.Choice.{Made, made_of, Stepper, found_by, Chooses, FindsStepper}
use Rattle.lend.proofs.Lending.{Lending}
use Rattle.calls.specs.Calls.{called, chosen_of, stepping_of}

-- the start
module _ (s : List ℕ) (ws : List ℤ) where
  pub start-refused : (why : Refusal) → lent_words s ws ≡ Answer.refused (refusal_of why) → {r : Result (Unit {0}) Refusal} → r ≡ Err why
      → called (answer_of r) ws ≡ start s ws
  unfolding start starting
  start-refused why e z = rw (z, e) refl

  pub start-given : lent_words s ws ≡ Answer.given tt → {ws' : List ℤ} → ws' ≡ words_of started
      → called (Answer.given tt) ws' ≡ start s ws
  unfolding start starting
  start-given e w = rw (e, w) refl

-- the calls on a pool that is refused
module _ (s : List ℕ) (ws : List ℤ) (why : Refusal) (e : lent s ws ≡ Answer.refused (refusal_of why)) where
  pub choose-refused : (kind thread : ℕ) {r : Result Rule Refusal} → r ≡ Err why → called (chosen_of r) ws ≡ choose s ws kind thread
  unfolding choose chosen
  choose-refused kind thread z = rw (z, e) refl

  pub which-refused : {r : Result (Option ℕ) Refusal} → r ≡ Err why → stepping_of r ≡ which s ws
  unfolding which with
  which-refused z = rw (z, e) refl

  pub values-refused : values s ws ≡ Answer.refused (refusal_of why)
  unfolding values with
  values-refused = rw e refl

-- the calls on a pool that is lent
module _ {s places : List ℕ} {ws : List ℤ} (l : Lending s places ws) where
  module _ {kind thread : ℕ} (r : Made) {ws' : List ℤ} (f : Chooses s places ws kind thread r ws') where
    chose : called (made_of r) ws' ≡ choose s ws kind thread
    chose = (f l.what.table l.what.pool l.table l.words l.valid).called ∙ sym (choose-lent s ws kind thread l.is)

    pub choose-made : {rule : Rule} → r ≡ Ok rule → called (Answer.given rule.0) ws' ≡ choose s ws kind thread
    choose-made e = ap (λ (x : Made). called (made_of x) ws') (sym e) ∙ chose

    pub choose-not : {n : No} → r ≡ Err n → {x : Result Rule Refusal} → x ≡ Err (Plain n)
        → called (chosen_of x) ws' ≡ choose s ws kind thread
    choose-not e z =
        ap (λ (x : Result Rule Refusal). called (chosen_of x) ws') z ∙ ap (λ (x : Made). called (made_of x) ws') (sym e) ∙ chose

  pub which-given : (r : Stepper) → FindsStepper s places ws r → stepping_of (Ok r) ≡ which s ws
  unfolding which with
  which-given r f = rw l.is (as-found r ∙ ap Answer.given (f l.what.table l.what.pool l.table l.words l.valid))
    where
      as-found : (r : Stepper) → stepping_of (Ok r) ≡ Answer.given (found_by r)
      as-found (Some i) = refl
      as-found None = refl
