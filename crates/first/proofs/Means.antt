-- An answer to which thread can step is right exactly if it is that of the definition.
use Prim.Native.Nat.{ℕ, ◌<◌}
use mathlib.Core.Path.{◌≡◌, refl, sym, ◌∙◌, ap, subst}
use mathlib.Core.Bool.{Bool, true, false}
use mathlib.Core.Option.{Option, none, some}
use mathlib.Core.List.{List}
use native.Mathlib.Omega.{arith}
use lib.IntN.{ℤ}
use lib.ListN.{length}
use Rattle.model.specs.Answers.{Refusal, Answer, with}
use Rattle.model.specs.Pool.{Pool}
use Rattle.model.specs.Rules as Rules
use Rattle.model.specs.Rules.{Result, choice}
use Rattle.model.specs.Calls.{Called, Lent, lent, made, chosen, choose, is_made, can_step, first, which}
use Rattle.model.proofs.Facts.{refused-given, true-false}
use Rattle.model.proofs.Kept.{choose-lent, choose-kept}
use Rattle.model.proofs.Lowest.{Found, lowest-found, found-one}
use Rattle.model.proofs.Numbers.{thread-there}
use Rattle.first.specs.Means.{Steps, Right, Means}

module _ (s : List ℕ) (ws : List ℤ) where
  -- where the words are refused
  pub which-refused : {r : Refusal} → lent s ws ≡ Answer.refused r → which s ws ≡ Answer.refused r
  unfolding which with
  which-refused e = rw e

  pub refused-stops : {r : Refusal} → lent s ws ≡ Answer.refused r → (i : ℕ) → ¬ Steps s ws i
  unfolding choose chosen
  refused-stops e i h = refused-given (rw e at h.1)

  -- where they are lent
  module _ (l : Lent) (e : lent s ws ≡ Answer.given l) where
    abbrev can : ℕ → Bool
    can i = can_step l.table l.pool i

    abbrev Finds : Option ℕ → Type 0
    Finds o = Found can (length l.pool) 0 o

    which-lent : which s ws ≡ Answer.given (first l.table l.pool)
    unfolding which with
    which-lent = rw e

    found : Finds (first l.table l.pool)
    unfolding first
    found = lowest-found can (length l.pool) 0

    made-steps : (i : ℕ) → can i ≡ true → Steps s ws i
    unfolding is_made made
    made-steps i h = go (choice l.table l.pool 0 i) refl h
      where
        go : (r : Result) → choice l.table l.pool 0 i ≡ r → is_made r ≡ true → Steps s ws i
        go (Result.made rule p) c q = (rule, ap (λ (d : Called ℕ). d.answer) (choose-lent s ws 0 i e ∙ ap (made ws) c))
        go (Result.refused n) c q = true-false false q refl

    steps-made : (i : ℕ) → Steps s ws i → can i ≡ true
    unfolding is_made
    steps-made i (rule, h) = ap is_made (choose-kept s ws 0 i rule l e h).made

    stops-made : (i : ℕ) → ¬ Steps s ws i → can i ≡ false
    stops-made i h = go (can i) refl
      where
        go : (b : Bool) → can i ≡ b → can i ≡ false
        go true c = absurd (h (made-steps i c))
        go false c = c

    made-stops : (i : ℕ) → can i ≡ false → ¬ Steps s ws i
    made-stops i c h = true-false (can i) (steps-made i h) c

    -- a thread that steps is one of the pool
    there : (i : ℕ) → Steps s ws i → i < length l.pool
    unfolding choice is_made
    there i (rule, h) =
        thread-there (Rules.step l.table) l.pool i λ n. unmade (sym (choose-kept s ws 0 i rule l e h).made ∙ n)
      where
        unmade : {B : Type 0} {rule n : ℕ} {p : Pool} → Result.made rule p ≡ Result.refused n → B
        unmade x = true-false true refl (ap is_made x)

    told : (o : Option ℕ) → Finds o → Right s ws (Answer.given o)
    told (some i) f =
        record { steps = made-steps i f.passes; first = λ j b. made-stops j (f.least j (omega arith) b) }
    told none f =
        record { lends = l; pool = e; none = λ i h. made-stops i (f i (omega arith) (omega (arith, there i h))) h }

    finds : (o : Option ℕ) → Right s ws (Answer.given o) → Finds o
    finds (some i) r =
        record {
          from = omega arith;
          below = omega (arith, there i r.steps);
          passes = steps-made i r.steps;
          least = λ k a b. stops-made k (r.first k b);
        }
    finds none r = λ k a b. stops-made k (r.none k)

    only-lent : (o : Option ℕ) → Right s ws (Answer.given o) → Answer.given o ≡ which s ws
    only-lent o r =
        ap Answer.given (found-one can (length l.pool) 0 o (first l.table l.pool) (finds o r) found)
        ∙ sym which-lent

    right-lent : Right s ws (which s ws)
    right-lent = subst (Right s ws) (sym which-lent) (told (first l.table l.pool) found)

  pub right : Right s ws (which s ws)
  right = go (lent s ws) refl
    where
      go : (a : Answer Lent) → lent s ws ≡ a → Right s ws (which s ws)
      go (Answer.given l) e = right-lent l e
      go (Answer.refused r) e = subst (Right s ws) (sym (which-refused e)) e

  pub only : (a : Answer (Option ℕ)) → Right s ws a → a ≡ which s ws
  only (Answer.refused r) h = sym (which-refused h)
  only (Answer.given none) h = only-lent h.lends h.pool none h
  only (Answer.given (some i)) h = go (lent s ws) refl
    where
      go : (a : Answer Lent) → lent s ws ≡ a → Answer.given (some i) ≡ which s ws
      go (Answer.given l) e = only-lent l e (some i) h
      go (Answer.refused r) e = absurd (refused-stops e i h.steps)

pub which-means : Means
which-means = record { right = right; only = only }
