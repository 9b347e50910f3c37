-- S-2: what the tidy table is, on bytes and words; and two tables of one program.
use Prim.Native.Nat.{ℕ}
use mathlib.Core.Path.{◌≡◌, sym, ◌∙◌, ap, subst}
use mathlib.Core.List.{List}
use Rattle.model.specs.Numbers as No
use Rattle.model.specs.Answers.{Answer, put}
use Rattle.model.specs.Syntax.{Program}
use Rattle.model.specs.WellFormed.{WF-prog}
use Rattle.model.specs.Limits.{Limits}
use Rattle.model.specs.Write as Write
use Rattle.model.specs.Calls.{read, check}
use Rattle.model.proofs.Facts.{given-injective}
use Rattle.model.proofs.Guarantees.{read-limits}
use Rattle.model.proofs.Accepted.{check-wf, accepts}
use Rattle.model.proofs.Writing.{inverse}
use Rattle.numbering.specs.Mentions.{Closed}
use Rattle.numbering.specs.Tidy.{tidied, tidy}
use Rattle.numbering.specs.Renumbers.{Numbering, Renumbers, Apart}
use Rattle.numbering.specs.Means.{Renumbered, Tidies, Means, Numberings}
use Rattle.numbering.proofs.Answers.{tidy-accepted, tidy-refused}
use Rattle.numbering.proofs.Closed.{closed}
use Rattle.numbering.proofs.Instance.{tidy_numbers, tidied-renumbers, tidied-onto, tidied-apart}
use Rattle.numbering.proofs.Shorter.{tidied-shorter}
use Rattle.numbering.proofs.Held.{tidied-holds}
use Rattle.numbering.proofs.Alike.{tidied-alike}
use Rattle.numbering.proofs.Order.{ordered}
use Rattle.numbering.proofs.Unique.{unique}
use Rattle.numbering.proofs.SimulationWords.{same}
use Rattle.numbering.proofs.Accepted.{accepted}

-- an accepted table that reads to P
module _ (s : List ℕ) (P : Program) (r : read s ≡ Answer.given P) (h : check s ≡ Answer.given tt) where
  formed : WF-prog P
  formed = let w = check-wf s h in subst WF-prog (given-injective (sym w.1 ∙ r)) w.2

  limits : Limits P
  limits = read-limits s P r

  whole : Closed P
  whole = closed P formed

  -- what is written of the tidy program reads to it, and is accepted
  tidied-reads : read (Write.table (tidied P)) ≡ Answer.given (tidied P)
  tidied-reads = inverse.reads (tidied P) (tidied-holds P whole (inverse.written s P r).1)

  tidied-accepted : check (Write.table (tidied P)) ≡ Answer.given tt
  tidied-accepted =
      accepted s (Write.table (tidied P)) P (tidied P) (tidy_numbers P) r h tidied-reads (tidied-renumbers P whole limits)
      (tidied-onto P whole limits)

-- two tables of one program have one tidy table
alike : (s t : List ℕ) (P Q : Program) (R : Numbering) → read s ≡ Answer.given P → read t ≡ Answer.given Q → Renumbers R P Q →
    Apart R → check s ≡ Answer.given tt → check t ≡ Answer.given tt → (out : List ℕ) → tidy t out ≡ tidy s out
alike s t P Q R r q n a h g out =
    tidy-accepted t out Q g q
    ∙ ap (λ (p : Program). put No.room out (Write.table p))
    (tidied-alike R P Q n a)
    ∙ sym (tidy-accepted s out P h r)

pub numberings : Numberings
numberings = record { same = same; accepted = λ s t P Q R r q n o h. accepted s t P Q R r h q n o; tidies = alike }

module _ (s : List ℕ) (P : Program) (r : read s ≡ Answer.given P) (h : check s ≡ Answer.given tt) where
  tidies : Tidies s (Write.table (tidied P))
  tidies =
      let t : List ℕ = Write.table (tidied P) in
      let q = tidied-reads s P r h in
      let n = tidied-renumbers P (whole s P r h) (limits s P r h) in
      record {
        numbers = tidy_numbers P;
        renumbered = λ P' r'.
            subst (λ (X : Program). Renumbered (tidy_numbers P) X t) (given-injective (sym r ∙ r'))
            (record {
              program = tidied P;
              reads = q;
              renumbers = n;
              apart = tidied-apart P;
              onto = tidied-onto P (whole s P r h) (limits s P r h);
            });
        same = same s t P (tidied P) (tidy_numbers P) r q n;
        accepted = tidied-accepted s P r h;
        shorter = rw (← (inverse.written s P r).0) (tidied-shorter P);
        again = alike s t P (tidied P) (tidy_numbers P) r q n (tidied-apart P) h (tidied-accepted s P r h);
      }

pub tidy-means : Means
tidy-means =
    record {
      refused = tidy-refused;
      accepted = λ s h.
          let A = accepts s h in
          (Write.table (tidied A.program), tidies s A.program A.reads h, λ out. tidy-accepted s out A.program h A.reads);
      ordered = λ s P h r. ordered P (whole s P r h) (limits s P r h);
      unique = unique;
    }
