-- The refusals of calls on words as numbers, and answers that give nothing more.
use Prim.Native.Nat.{ℕ, ◌^◌, ◌≤◌, ◌<◌}
use mathlib.Core.Path.{◌≡◌, refl, ◌∙◌, ap}
use mathlib.Core.Logic.{◌⊎◌, inl, inr}
use mathlib.Core.Bool.{true, false}
use mathlib.Core.List.{List}
use native.Mathlib.Omega.{arith}
use lib.Dec.{lit≤}
use Rattle.model.specs.Numbers as No
use Rattle.model.specs.Numbers.{StepRefusal, RefusalOf}
use Rattle.model.specs.Answers.{Refusal, Answer, outcome}
use Rattle.model.proofs.Numbers as Numbers
use Rattle.model.proofs.Numbers.{Can}
use Rattle.answers.specs.Coded.{code_of}
use Rattle.host.specs.Macros.{is_given, number, step}
use Rattle.host.specs.Exports.{done}
use Rattle.host.specs.Laws.{answer_in, OfTable, OfPool}
use Rattle.host.proofs.Codes.{Bare, Fits, Gave, Refused, done-code, valued, tells, gave, refused}
use Rattle.host.proofs.Tables.{table_fits, table-told}

-- what the model can refuse fits into a number, and what the macros then read
pub start_fits : {s : List ℕ} (q : Refusal) → Numbers.OfStart s q → Fits q
start_fits _ (Numbers.OfStart.table h) = table_fits _ h
start_fits _ Numbers.OfStart.words = Bare.of_call (lit≤ tt, lit≤ tt)

pub start-told : {s : List ℕ} {q : Refusal} → Numbers.OfStart s q → OfTable s (code_of q) ⊎ (number (code_of q) ≡ No.words)
start-told (Numbers.OfStart.table h) = inl (table-told h)
start-told Numbers.OfStart.words = inr refl

pub lent_fits : {s : List ℕ} (q : Refusal) → Numbers.OfLent s q → Fits q
lent_fits _ (Numbers.OfLent.start h) = start_fits _ h
lent_fits _ Numbers.OfLent.pool = Bare.of_call (lit≤ tt, lit≤ tt)

pub lent-told : {s : List ℕ} {q : Refusal} → Numbers.OfLent s q → OfPool s (code_of q)
lent-told (Numbers.OfLent.start (Numbers.OfStart.table h)) = inl (table-told h)
lent-told (Numbers.OfLent.start Numbers.OfStart.words) = inr (lit≤ tt, lit≤ tt)
lent-told Numbers.OfLent.pool = inr (lit≤ tt, lit≤ tt)

pub pool-below : {s : List ℕ} {r : ℕ} → OfPool s r → number r < No.kind
pool-below (inl h) = omega (arith, h.numbered.1)
pool-below (inr h) = omega arith

-- the refusals of a choice behind those, and of a step
module _ {kind n : ℕ} where
  pub chosen-fits : RefusalOf kind n → Bare n
  chosen-fits (inl w) = Bare.of_call (omega arith, omega arith)
  chosen-fits (inr e) = Bare.of_later (omega arith, omega arith)

  pub chosen-number : RefusalOf kind n → number n ≡ n
  chosen-number (inl w) = omega arith
  chosen-number (inr e) = omega arith

  pub chosen-above : RefusalOf kind n → No.kind ≤ n
  chosen-above (inl w) = w.0
  chosen-above (inr e) = omega arith

pub step-chosen : {n : ℕ} → StepRefusal n → RefusalOf step n
step-chosen (inl w) = inl (omega arith, omega arith)
step-chosen (inr e) = inr (refl, e)

pub step-told : {n : ℕ} → StepRefusal n → StepRefusal (number n)
step-told w = rw (chosen-number (step-chosen w)) w

-- the value 0, and answers that give nothing more
module _ (a : Answer (Unit {0})) (G : Unit {0} → Type 0) (R : Refusal → Type 0) (fits : (q : Refusal) → R q → Fits q)
    (can : Can G R a) where
  room : (u : Unit {0}) → G u → 0 < 2 ^ 32
  room u h = omega arith

  pub done-in : outcome (answer_in (done a)) ≡ a
  unfolding outcome
  done-in = ap outcome (tells done-code G R room fits a can) ∙ back a
    where
      back : (a : Answer (Unit {0})) → outcome (valued (λ _. 0) a) ≡ a
      back (Answer.given u) = refl
      back (Answer.refused q) = refl

  -- given: the value is 0, and what holds then
  pub done-gave : is_given (done a) ≡ true → Gave (λ _. 0) G a (done a)
  done-gave e = gave done-code G R room fits a can e

  pub done_refused : is_given (done a) ≡ false → Refused R a (done a)
  done_refused e = refused done-code G R room fits a can e
