-- What 29 says of a choice on bytes and words, and the progress guarantee with a thread whose next expression overflows.
use Prim.Native.Nat.{ℕ, ◌<◌}
use mathlib.Core.Path.{◌≡◌, refl, sym, ◌∙◌, ap, subst}
use mathlib.Core.Logic.{◌⊎◌, inl, inr}
use mathlib.Core.List.{List}
use native.Mathlib.Omega.{arith}
use lib.IntN.{ℤ}
use Rattle.model.specs.Numbers as No
use Rattle.model.specs.Numbers.{RefusalOf}
use Rattle.model.specs.Answers.{Refusal, Answer, number_of}
use Rattle.model.specs.Limits.{Limits}
use Rattle.model.specs.Rules.{Result, choice, on_thread, step}
use Rattle.model.specs.Calls as Calls
use Rattle.model.specs.Calls.{Called, Lent, lent, made}
use Rattle.model.proofs.Facts.{refused-given}
use Rattle.model.proofs.Guarantees.{read-limits}
use Rattle.model.proofs.Kept.{choose-lent}
use Rattle.model.proofs.Words.{lent-given}
use Rattle.model.proofs.Numbers.{OfTable, OfStart, OfLent, Can, ChoiceOf, choice-of, lent-can}
use Rattle.safety.specs.NeverJams.{Stands, finally, Returned, CanStep, OutOfFrames}
use Rattle.safety.proofs.Words.{refused-number}
use Rattle.safety.proofs.Theorem.{demand3}
use Rattle.overflows.specs.Means.{Overflowing, Naming, Progress}
use Rattle.overflows.proofs.Working.{working}
use Rattle.overflows.proofs.Steps.{AtThread, step-overflows, overflows-step}

-- what is refused before a choice is looked at has a number below 14
table-low : {s : List ℕ} {r : Refusal} → OfTable s r → number_of r < No.kind
unfolding number_of
table-low OfTable.size = omega arith
table-low OfTable.version = omega arith
table-low (OfTable.form p w) = omega arith

lent-low : {s : List ℕ} {r : Refusal} → OfLent s r → number_of r < No.kind
unfolding number_of
lent-low (OfLent.start (OfStart.table h)) = table-low h
lent-low (OfLent.start OfStart.words) = omega arith
lent-low OfLent.pool = omega arith

only-steps : {kind n : ℕ} → RefusalOf kind n → n ≡ No.overflow → kind ≡ 0
only-steps (inl w) e = absurd (omega (arith, w.0, w.1))
only-steps (inr h) e = h.0

module _ (s : List ℕ) (ws : List ℤ) (kind i : ℕ) where
  -- the words are lent: the choice is one of the pool
  module _ (l : Lent) (e : lent s ws ≡ Answer.given l) where
    is_made : Calls.choose s ws kind i ≡ made ws (choice l.table l.pool kind i)
    is_made = choose-lent s ws kind i e

    limits : Limits l.table
    limits = read-limits s l.table (lent-given s ws l e).reads

    overflowing : AtThread l.table l.pool i → Overflowing s ws i
    overflowing a =
        record {
          lends = l;
          pool = e;
          thread = a.thread;
          there = a.there;
          expression = a.overflows.expression;
          next = a.overflows.next;
          overflows = (working a.thread.newest a.overflows.expression).overflow a.overflows.is;
        }

    -- which choice it is, by its refusal
    refused-of : (x : Result) → choice l.table l.pool kind i ≡ x → (made ws x).answer ≡ Answer.refused (Refusal.plain No.overflow) →
        (kind ≡ 0) × Overflowing s ws i
    unfolding made choice number_of
    refused-of (Result.made rule p) q h = refused-given (sym h)
    refused-of (Result.refused n) q h =
        let m : n ≡ No.overflow = refused-number h in
        let z : kind ≡ 0 = only-steps (subst (ChoiceOf kind) q (choice-of l.table limits l.pool kind i)) m in
        let c : on_thread (step l.table) l.pool i ≡ Result.refused No.overflow =
        sym (ap (λ (k : ℕ). choice l.table l.pool k i) z) ∙ q ∙ ap Result.refused m
        in
        (z, overflowing (step-overflows l.table l.pool i c))

  named-only : (Calls.choose s ws kind i).answer ≡ Answer.refused (Refusal.plain No.overflow) → (kind ≡ 0) × Overflowing s ws i
  unfolding Calls.choose Calls.chosen number_of
  named-only h = go (lent s ws) refl (lent-can s ws)
    where
      go : (a : Answer Lent) → lent s ws ≡ a → Can (λ _. Unit {0}) (OfLent s) a → (kind ≡ 0) × Overflowing s ws i
      go (Answer.given l) e c =
          refused-of l e (choice l.table l.pool kind i) refl (sym (ap (λ (d : Called ℕ). d.answer) (is_made l e)) ∙ h)
      go (Answer.refused r) e c =
          let q : ◌≡◌ {A = Answer ℕ} (Answer.refused r) (Answer.refused (Refusal.plain No.overflow)) = rw e at h in
          let z : number_of r ≡ No.overflow = cc in
          absurd (omega (arith, lent-low c))

  is-overflow : kind ≡ 0 → Overflowing s ws i → Calls.choose s ws kind i ≡ made ws (Result.refused No.overflow)
  unfolding choice
  is-overflow z o =
      let l = o.lends in
      let k = o.thread.newest in
      let a : AtThread l.table l.pool i =
      record {
        thread = o.thread;
        there = o.there;
        overflows =
            record { expression = o.expression; next = o.next; is = (working k o.expression).overflowed o.overflows };
      }
      in
      is_made l o.pool
      ∙ ap (made ws) (ap (λ (n : ℕ). choice l.table l.pool n i) z ∙ overflows-step l.table l.pool i a)

pub naming : Naming
unfolding made
naming s ws kind i =
    record {
      only = named-only s ws kind i;
      always = λ z o. ap (λ (d : Called ℕ). d.answer) (is-overflow s ws kind i z o);
      kept = λ z o. ap (λ (d : Called ℕ). d.after) (is-overflow s ws kind i z o);
    }

-- the progress guarantee
pub progress : Progress
progress s ws h n cs = stands ((demand3 s ws h n).safe cs).stands
  where
    w : List ℤ
    w = finally s (Calls.start s ws).after cs

    stands : Stands s w → Returned s w ⊎ (CanStep s w ⊎ (OutOfFrames s w ⊎ ((i : ℕ) × Overflowing s w i)))
    stands (inl r) = inl r
    stands (inr (inl c)) = inr (inl c)
    stands (inr (inr (inl f))) = inr (inr (inl f))
    stands (inr (inr (inr o))) = inr (inr (inr (o.thread, (named-only s w 0 o.thread o.gets).1)))
