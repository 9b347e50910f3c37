-- What is lent to a beat and to a run, with N and C; and what the two calls come to where it is refused, and where it is lent.
use Prim.Native.Nat.{ℕ}
use mathlib.Core.Path.{◌≡◌, refl, sym, ◌∙◌}
use mathlib.Core.List.{List}
use lib.IntN.{ℤ}
use Rattle.std.specs.Prelude.{Option, Some, None, ok_or, Result, Ok, Err}
use Rattle.model.specs.Numbers as Numbers
use Rattle.model.specs.Answers.{Answer, with, outcome}
use Rattle.model.proofs.Facts.{outcome-given, outcome-refused}
use Rattle.answers.specs.declared.Refusal.{Refusal}
use Rattle.answers.specs.declared.Refusal.TheVariants.{Plain}
use Rattle.answers.specs.Answers.{refusal_of}
use Rattle.places.specs.Marks.{nowhere}
use Rattle.lend.specs.Lent.{LendsPool}
use Rattle.lend.proofs.Lending.{Lending, refused-pool, given-pool}
use Rattle.tokens.specs.Beats.{paced, lent_at, beating, beat, running, run}
use Rattle.tokens.proofs.Words.{lent-at, lent-at-given}
use Rattle.beats.specs.declared.Beaten.{Beaten}
use Rattle.beats.specs.declared.Ran.{Ran}
use Rattle.beats.specs.declared.pace.Pace.{Pace}
use Rattle.beats.specs.Purses.{Holds}
use Rattle.beats.specs.Beating.{called_of, Beating, told_of, Runs, Paces, Lends}

-- the door: a pool of the table, and then N and C
module _ {s before places : List ℕ} {ws : List ℤ} (N C : ℕ) where
  pub admit-unlent : (x : Refusal) → LendsPool s ws before places (Err x) → {r : Result Pace Refusal} → r ≡ Err x
      → Lends s ws N C before places r
  unfolding lent_at with outcome
  admit-unlent x h z =
      record {
        answer = λ o. rw (z, refused-pool s before places ws o x h) refl;
        placed = h.placed;
        pace = λ e q. let w : ◌≡◌ {A = Result Pace Refusal} (Err x) (Ok e) = sym z ∙ q in cc;
      }

  pub admit-paced : LendsPool s ws before places (Ok tt) → (o : Option Pace) → Paces N C o
      → Lends s ws N C before places (ok_or o (Plain (record { 0 = Numbers.pace })))
  unfolding lent_at with outcome paced
  admit-paced h (Some e) p =
      record {
        answer = λ o. rw ((given-pool s before places ws o h).is, p.0) refl;
        placed = h.placed;
        pace = λ e' q. let w : e ≡ e' = cc in rw (← w) (p.1, p.2);
      }
  admit-paced h None p =
      record {
        answer = λ o. rw ((given-pool s before places ws o h).is, p) refl;
        placed = h.placed;
        pace = λ e q. cc;
      }

-- what a call knows whose door answered
pub record Admitted (s places : List ℕ) (ws : List ℤ) (N C : ℕ) (e : Pace) : Type 0 where
  pub lending : Lending s places ws
  pub is : lent_at s ws N C ≡ Answer.given lending.what
  pub n : e.n ≡ N
  pub c : e.c ≡ C

module _ (s before places : List ℕ) (ws : List ℤ) (N C : ℕ) (o : before ≡ nowhere) where
  pub refused-at : (x : Refusal) → Lends s ws N C before places (Err x) → lent_at s ws N C ≡ Answer.refused (refusal_of x)
  refused-at x h = outcome-refused (lent_at s ws N C) (sym (h.answer o))

  pub given-at : (e : Pace) → Lends s ws N C before places (Ok e) → Admitted s places ws N C e
  unfolding outcome
  given-at e h =
      let (l, d) = outcome-given (lent_at s ws N C) (sym (h.answer o)) in
      let g = lent-at-given s ws N C l d in
      let i = given-pool s before places ws o (record { answer = λ _. rw g.lends refl; placed = h.placed }) in
      let p = h.pace e refl in
      record { lending = i; is = lent-at s ws N C _ i.is g.pace; n = p.0; c = p.1 }

-- the calls where something is refused
module _ (s : List ℕ) (ws : List ℤ) (N C : ℕ) (x : Refusal) (e : lent_at s ws N C ≡ Answer.refused (refusal_of x)) where
  pub beat-unlent : (i : ℕ) {r : Result Beaten Refusal} → r ≡ Err x → called_of r ws ≡ beat s ws i N C
  unfolding beat beating
  beat-unlent i z = rw (z, e) refl

  pub run-unlent : (is : List ℕ) → told_of (record { steps = 0; promotions = 0; answer = Err x }) ws ≡ run s ws N C is
  unfolding run running told_of
  run-unlent is = rw e refl

-- and where a pool is lent
module _ {s places : List ℕ} {ws : List ℤ} {N C : ℕ} {e : Pace} (a : Admitted s places ws N C e) where
  held : Holds a.lending.what.table ws a.lending.what.pool
  held = record { words = a.lending.words; valid = a.lending.valid }

  pub beat-lent : (i : ℕ) {ws' : List ℤ} (r : Result Beaten Refusal) → Beating s places ws i e.n e.c r ws'
      → called_of r ws' ≡ beat s ws i N C
  unfolding beat beating
  beat-lent i r b = rw (a.is, ← a.n, ← a.c) (b a.lending.what.table a.lending.what.pool a.lending.table held)

  pub run_lent : {is : List ℕ} {ws' : List ℤ} (r : Ran) → Runs s places ws e.n e.c is r ws' → told_of r ws' ≡ run s ws N C is
  unfolding run running
  run_lent r b = rw (a.is, ← a.n, ← a.c) (b.reports a.lending.what.table a.lending.what.pool a.lending.table held)
