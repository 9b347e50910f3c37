-- What is inferred of a table that reads: 25, 26, or the completed table in a buffer of zeros.
use Prim.Native.Nat.{ℕ, ◌-◌}
use mathlib.Core.Path.{◌≡◌, refl, sym, ◌∙◌, ap}
use mathlib.Core.List.{List, ◌++◌}
use native.Mathlib.Omega.{arith}
use Rattle.std.specs.Prelude.{Result, Ok, Err}
use lib.ListN.{length, take, drop, replicate, length-append, length-drop, length-replicate}
use lib.Seq.{take-append_seam}
use Rattle.model.specs.Answers.{Refusal, Answer, with}
use Rattle.model.specs.Lists.{pad}
use Rattle.model.specs.Syntax.{Program}
use Rattle.model.specs.Read.{read_brief}
use Rattle.model.specs.Check.{judge}
use Rattle.model.specs.Calls.{check}
use Rattle.model.specs.Write as Write
use Rattle.model.proofs.Facts.{drop-replicate}
use Rattle.answers.specs.declared.Refusal as Why
use Rattle.answers.specs.Answers.{answer_of, refusal_of}
use Rattle.inference.specs.Infer.{completed}
use Rattle.inference.specs.Complete.{reached, impossible, possible, inferred, output_bytes}
use Rattle.inference.proofs.Held.{completed-holds, completed-check}
use Rattle.complete.specs.Writes.{Given, PutsTable, ReachesAll, blank, InfersAll}

-- a buffer of zeros
blank-drop : (k : ℕ) → drop k blank ≡ replicate (output_bytes - k) 0
unfolding blank
blank-drop k = drop-replicate output_bytes k 0

pub blank-length : length blank ≡ output_bytes
unfolding blank
blank-length = length-replicate {A = ℕ} output_bytes 0

-- the definition, by the two answers that it asks for
module _ (P : Program) where
  is-unreached : {x : Refusal} → reached 0 P ≡ Answer.refused x → inferred P ≡ Answer.refused x
  unfolding inferred with
  is-unreached e = rw e

  module _ (e : reached 0 P ≡ Answer.given tt) where
    is-impossible : {x : Refusal} → judge (completed P) ≡ Answer.refused x → inferred P ≡ Answer.refused (impossible x)
    unfolding inferred with possible
    is-impossible h = rw (e, h)

    is-completed : judge (completed P) ≡ Answer.given tt → inferred P ≡ Answer.given (completed P)
    unfolding inferred with possible
    is-completed h = rw (e, h)

module _ (s places transfers words buffer : List ℕ) where
  pub tells-unreached : {why : Why.Refusal} {q : Result ℕ Why.Refusal} → ReachesAll s places transfers words (Err why) → q ≡ Err why
      → InfersAll s places transfers words buffer q buffer
  tells-unreached p e =
      record { is = λ P d g z. rw (is-unreached P (sym (p.is P g)), e) refl }

  module _ (p : ReachesAll s places transfers words (Ok tt)) {words' buffer' : List ℕ} {n : ℕ} (j : Result (Unit {0}) Why.Refusal)
      (l : length words' ≡ length words) (t : PutsTable s places transfers words' buffer n buffer')
      (c : answer_of j ≡ check (take n buffer')) where
    -- the table is written, and judged
    module _ (P : Program) (d : read_brief s ≡ Answer.given P) (g : Given s places transfers words P) (z : buffer ≡ blank) where
      wrote : (n ≡ length (Write.table (completed P))) ×
          (buffer' ≡ Write.table (completed P) ++ drop (length (Write.table (completed P))) buffer)
      wrote =
          t.is P d (record { placed = g.placed; ended = g.ended; long = l ∙ g.long }) (ap length z ∙ blank-length)

      all-reached : reached 0 P ≡ Answer.given tt
      all-reached = sym (p.is P g)

      judges : judge (completed P) ≡ answer_of j
      judges =
          let x : take n buffer' ≡ Write.table (completed P) = rw (wrote.1, wrote.0) (take-append_seam (Write.table (completed P)) _) in
          sym (c ∙ ap check x ∙ completed-check s P d)

      padded : buffer' ≡ pad output_bytes 0 (Write.table (completed P))
      unfolding pad
      padded =
          let n : ℕ = length (Write.table (completed P)) in
          wrote.1 ∙ ap (λ (l : List ℕ). Write.table (completed P) ++ l) (ap (drop n) z ∙ blank-drop n)

      long : length buffer' ≡ output_bytes
      long =
          ap length wrote.1
          ∙ length-append (Write.table (completed P)) _
          ∙ omega (
            arith,
            length-drop (length (Write.table (completed P))) buffer,
            ap length z ∙ blank-length,
            (completed-holds s P d).short,
          )

    pub tells-impossible : {why x : Why.Refusal} → j ≡ Err why → refusal_of x ≡ impossible (refusal_of why)
        → InfersAll s places transfers words buffer (Err x) buffer'
    tells-impossible h i =
        record {
          is = λ P d g z.
              rw (is-impossible P (all-reached P d g z) (judges P d g z ∙ ap answer_of h)) (ap Answer.refused i);
        }

    pub tells-completed : j ≡ Ok tt → InfersAll s places transfers words buffer (Ok n) buffer'
    tells-completed h =
        record {
          is = λ P d g z.
              rw (is-completed P (all-reached P d g z) (judges P d g z ∙ ap answer_of h))
              (ap Answer.given (wrote P d g z).0, padded P d g z, long P d g z);
        }
