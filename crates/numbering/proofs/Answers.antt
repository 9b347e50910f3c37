-- What tidy answers: the check's own refusal, or what comes of putting the tidy table into the output.
use Prim.Native.Nat.{ℕ}
use mathlib.Core.Path.{◌≡◌, refl, sym, ◌∙◌}
use mathlib.Core.List.{List}
use Rattle.model.specs.Numbers as No
use Rattle.model.specs.Answers.{Refusal, Answer, put}
use Rattle.model.specs.Syntax.{Program}
use Rattle.model.specs.Write as Write
use Rattle.model.specs.Calls.{read, check}
use Rattle.model.proofs.Facts.{given-injective}
use Rattle.model.proofs.Accepted.{accepts, refuses}
use Rattle.numbering.specs.Tidy.{tidied, putting, tidy}

-- an accepted table
pub tidy-accepted : (s out : List ℕ) (P : Program) → check s ≡ Answer.given tt → read s ≡ Answer.given P →
    tidy s out ≡ put No.room out (Write.table (tidied P))
unfolding tidy putting
tidy-accepted s out P h r =
    let A = accepts s h in
    let e : A.program ≡ P = given-injective (sym A.reads ∙ r) in
    rw (A.is, e) refl

-- a refused one
pub tidy-refused : (s out : List ℕ) (q : Refusal) → check s ≡ Answer.refused q →
    tidy s out ≡ record { answer = Answer.refused q; after = out }
unfolding tidy putting
tidy-refused s out q h = rw (refuses s q h) refl
