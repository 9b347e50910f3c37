-- 25: of one function, and of all.
use Prim.Native.Nat.{ℕ, ◌+◌, ◌≤◌}
use mathlib.Core.Path.{◌≡◌, refl, sym, ◌∙◌, ap, subst}
use mathlib.Core.Option.{Option, none, some}
use mathlib.Core.List.{List}
use native.Mathlib.Omega.{arith}
use Rattle.std.specs.Prelude.{Option as Maybe, Some, None, Result, Ok, Err}
use lib.ListN.{length, get_elem?, drop, drop_of_length-le}
use Rattle.model.specs.Numbers as No
use Rattle.model.specs.Answers.{Refusal, Answer}
use Rattle.model.specs.Syntax.{Function, Program}
use Rattle.model.proofs.Facts.{refused-given, at-past, drop-some, drop-none}
use Rattle.answers.specs.declared.No as Code
use Rattle.answers.specs.declared.Refusal as Why
use Rattle.answers.specs.declared.Refusal.TheVariants.{Fault}
use Rattle.answers.specs.Answers.{answer_of}
use Rattle.places.specs.Places.{Place, FindsFunction}
use Rattle.inference.specs.Infer.{marks}
use Rattle.inference.specs.Complete.{unmarked, reached_or, reached}
use Rattle.infer.specs.Infers as Infers
use Rattle.infer.specs.Infers.{lowest_of}
use Rattle.complete.specs.Writes.{Given, reached_one, ReachesOne, ReachesAll}

-- one function: it is not there, all its blocks are reached, or one is not
module _ (s places transfers words : List ℕ) (f : ℕ) {q : Place} (find : FindsFunction places f q) where
  pub reach-nowhere : q ≡ None → ReachesOne s places transfers f words (Ok tt)
  unfolding reached_one
  reach-nowhere e =
      record {
        is = λ P g.
            let z : get_elem? P f ≡ none = subst (FindsFunction places f) e find s P _ g.placed in
            rw z;
      }

  module _ {at : ℕ} {words' : List ℕ} {l : Maybe ℕ} (e : q ≡ Some at) (p : Infers.Reaches s places transfers f words l words') where
    told : {r : Result (Unit {0}) Why.Refusal} → answer_of r ≡ reached_or f (lowest_of l) (Answer.given tt)
        → ReachesOne s places transfers f words r
    unfolding reached_one
    told h =
        record {
          is = λ P g.
              let (F, j, t) = subst (FindsFunction places f) e find s P _ g.placed in
              let w = (p.is P F (record { placed = g.placed; ended = g.ended; there = j }) g.long).0 in
              h ∙ rw (j, w);
        }

    pub reach-all : l ≡ None → ReachesOne s places transfers f words (Ok tt)
    unfolding reached_or
    reach-all h = told (rw h)

    pub reach-not : {n : Code.No} {b : ℕ} → n.0 ≡ No.unreached → l ≡ Some b → ReachesOne s places transfers f words (Err (Fault n f b))
    unfolding reached_or
    reach-not i h = told (rw (h, i))

-- the answer for one function: with it the others are asked, or it is the answer
or-given : (f : ℕ) (o : Option ℕ) (a : Answer (Unit {0})) → reached_or f o (Answer.given tt) ≡ Answer.given tt → reached_or f o a ≡ a
unfolding reached_or
or-given f none a e = refl
or-given f (some b) a e = refused-given e

or-refused : (f : ℕ) (o : Option ℕ) (a : Answer (Unit {0})) {r : Refusal} → reached_or f o (Answer.given tt) ≡ Answer.refused r
    → reached_or f o a ≡ Answer.refused r
unfolding reached_or
or-refused f none a e = refused-given (sym e)
or-refused f (some b) a e = e

module _ (f : ℕ) (P : Program) where
  one-given : (o : Option Function) → get_elem? P f ≡ o → reached_one f o ≡ Answer.given tt
      → reached f (drop f P) ≡ reached (f + 1) (drop (f + 1) P)
  unfolding reached reached_one
  one-given none i h =
      let n : length P ≤ f + 1 = omega (arith, at-past P f i) in
      rw (drop-none P f i, drop_of_length-le P n)
  one-given (some F) i h = rw (drop-some P f i) (or-given f (unmarked 0 (marks F)) _ h)

  one-refused : {r : Refusal} (o : Option Function) → get_elem? P f ≡ o → reached_one f o ≡ Answer.refused r
      → reached f (drop f P) ≡ Answer.refused r
  unfolding reached reached_one
  one-refused none i h = refused-given (sym h)
  one-refused (some F) i h = rw (drop-some P f i) (or-refused f (unmarked 0 (marks F)) _ h)

-- the functions from f on
pub record ReachedFrom (s places transfers words : List ℕ) (f : ℕ) : Type 0 where
  pub is : (P : Program) → Given s places transfers words P → reached 0 P ≡ reached f (drop f P)

module _ (s places transfers words : List ℕ) where
  module _ {f : ℕ} (t : ReachedFrom s places transfers words f) where
    module _ {words' : List ℕ} {r : Result (Unit {0}) Why.Refusal} (l : length words' ≡ length words)
        (p : ReachesOne s places transfers f words' r) where
      now : (P : Program) → Given s places transfers words P → answer_of r ≡ reached_one f (get_elem? P f)
      now P g = p.is P (record { placed = g.placed; ended = g.ended; long = l ∙ g.long })

      pub reached-next : r ≡ Ok tt → ReachedFrom s places transfers words (f + 1)
      reached-next e = record { is = λ P g. t.is P g ∙ one-given f P (get_elem? P f) refl (sym (now P g) ∙ ap answer_of e) }

      pub reached-not : {why : Why.Refusal} → r ≡ Err why → ReachesAll s places transfers words (Err why)
      reached-not e = record { is = λ P g. sym (t.is P g ∙ one-refused f P (get_elem? P f) refl (sym (now P g) ∙ ap answer_of e)) }

    pub reached-end : 16 ≤ f → ReachesAll s places transfers words (Ok tt)
    unfolding reached
    reached-end h =
        record {
          is = λ P g.
              let n : length P ≤ f = omega (arith, g.placed.limits.few) in
              sym (t.is P g ∙ ap (reached f) (drop_of_length-le P n));
        }
