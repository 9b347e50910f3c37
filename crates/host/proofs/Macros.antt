-- What the macros read, from bit 32 and back.
use Prim.Native.Nat.{ℕ}
use mathlib.Core.Path.{◌≡◌, refl, sym, ◌∙◌, ap}
use mathlib.Core.Bool.{Bool, true, false, cond}
use lib.Dec.{eqb}
use Rattle.model.specs.Numbers as No
use Rattle.model.specs.Answers.{Refusal, Answer, number_of, outcome}
use Rattle.model.proofs.Facts.{eqb-true, refused-given, given-injective}
use Rattle.host.specs.Macros.{is_given, value, number, place, block, function}
use Rattle.host.specs.Laws.{placed, refusal_in, answer_in}

-- a refusal's number is the one that the macro reads
pub refusal-number : (r : ℕ) → number_of (refusal_in r) ≡ number r
unfolding refusal_in number_of
refusal-number r = go (eqb (number r) No.form) (placed (number r)) refl
  where
    go : (b c : Bool) → eqb (number r) No.form ≡ b →
        number_of
        (cond b (Refusal.byte (place r)) (cond c (Refusal.fault (number r) (function r) (block r)) (Refusal.plain (number r)))) ≡
        number r
    go true c e = sym (eqb-true (number r) No.form e)
    go false true e = refl
    go false false e = refl

module _ (r : ℕ) where
  pub given-read : is_given r ≡ true → answer_in r ≡ Answer.given (value r)
  unfolding answer_in
  given-read e = rw e

  pub refused-read : is_given r ≡ false → answer_in r ≡ Answer.refused (refusal_in r)
  unfolding answer_in
  refused-read e = rw e

  pub read-given : {v : ℕ} → answer_in r ≡ Answer.given v → (is_given r ≡ true) × (value r ≡ v)
  unfolding answer_in
  read-given {v} e = go (is_given r) refl e
    where
      go : (b : Bool) → is_given r ≡ b → cond b (Answer.given (value r)) (Answer.refused (refusal_in r)) ≡ Answer.given v →
          (is_given r ≡ true) × (value r ≡ v)
      go true p e = (p, given-injective e)
      go false p e = refused-given e

  pub read-refused : {q : Refusal} → answer_in r ≡ Answer.refused q → (is_given r ≡ false) × (number r ≡ number_of q)
  unfolding answer_in
  read-refused {q} e = go (is_given r) refl e
    where
      go : (b : Bool) → is_given r ≡ b → cond b (Answer.given (value r)) (Answer.refused (refusal_in r)) ≡ Answer.refused q →
          (is_given r ≡ false) × (number r ≡ number_of q)
      go true p e = refused-given (sym e)
      go false p e = let i : refusal_in r ≡ q = cc in (p, sym (refusal-number r) ∙ ap number_of i)

  -- the same of an answer that gives nothing more
  pub done-read : (a : Answer (Unit {0})) → outcome (answer_in r) ≡ a → is_given r ≡ true → a ≡ Answer.given tt
  unfolding outcome
  done-read a e g = sym e ∙ ap outcome (given-read g)

  pub stopped-read : (a : Answer (Unit {0})) → outcome (answer_in r) ≡ a → is_given r ≡ false → a ≡ Answer.refused (refusal_in r)
  unfolding outcome
  stopped-read a e g = sym e ∙ ap outcome (refused-read g)

  pub read_done : outcome (answer_in r) ≡ Answer.given tt → is_given r ≡ true
  unfolding outcome
  read_done e = go (is_given r) refl
    where
      go : (b : Bool) → is_given r ≡ b → is_given r ≡ true
      go true p = p
      go false p = refused-given (sym (stopped-read (outcome (answer_in r)) refl p) ∙ e)
