-- The table: whether it has room, its parts, and the answer: the check's own refusal, 23, or the length.
use Prim.Native.Nat.{ℕ, ◌%◌, ◌^◌, ◌≤◌, ◌<◌}
use mathlib.Core.Path.{◌≡◌, refl, sym, ◌∙◌, ap}
use mathlib.Core.Bool.{Bool, true, false}
use mathlib.Core.List.{List, [], ◌∷◌}
use native.Mathlib.Omega.{arith}
use Rattle.std.specs.Prelude.{Result, Ok, Err}
use lib.Dec.{leb}
use lib.ListN.{length}
use Rattle.model.specs.Numbers as No
use Rattle.model.specs.Answers.{Answer, Wrote, put}
use Rattle.model.specs.Calls.{read, check}
use Rattle.model.specs.Syntax.{Program}
use Rattle.model.specs.Write as Write
use Rattle.model.proofs.Facts.{le-leb, leb-true, leb-false, put-fits, put-short}
use Rattle.model.proofs.Guarantees as Guarantees
use Rattle.model.proofs.Guarantees.{sized-is}
use Rattle.model.proofs.Accepted.{check-wf}
use Rattle.model.proofs.Writing.{table-length, inverse}
use Rattle.answers.specs.declared.No as Code
use Rattle.answers.specs.declared.Refusal as Why
use Rattle.answers.specs.declared.Refusal.TheVariants.{Plain}
use Rattle.answers.specs.Answers.{Writes}
use Rattle.puts.specs.Puts.{Puts}
use Rattle.puts.proofs.Tables.{table-written}
use Rattle.places.specs.Marks.{nowhere}
use Rattle.places.specs.Places.{Places}
use Rattle.transfers.specs.Transfers as Transfers
use Rattle.transfers.specs.Transfers.{Finds}
use Rattle.table.proofs.Answered.{left-places}
use Rattle.verifier.specs.Means.{CheckedAs}
use Rattle.numbering.specs.Mentions.{Closed}
use Rattle.numbering.specs.Tidy as Model
use Rattle.numbering.specs.Tidy.{kept_functions, tidied}
use Rattle.numbering.proofs.Answers.{tidy-accepted, tidy-refused}
use Rattle.numbering.proofs.Closed.{closed}
use Rattle.numbering.proofs.Shorter.{tidied-shorter}
use Rattle.kept.specs.declared.Kept.{Kept}
use Rattle.kept.specs.Kept.{Lists, KeepsFunctions}
use Rattle.tidy.specs.Tables.{PutsProgram, Fits, PutsTable}

-- the tidy table is no longer than the table, which is short
tidy-short : (s : List ℕ) (P : Program) → read s ≡ Answer.given P →
    (length (Write.table (tidied P)) ≤ length s) × (length (Write.table (tidied P)) ≤ 16384)
tidy-short s P r =
    let (e, holds) = inverse.written s P r in
    let l : length (Write.table P) ≡ length s = ap length e in
    (omega (arith, tidied-shorter P, l), omega (arith, tidied-shorter P, holds.short))

module _ (s places transfers : List ℕ) (functions : Kept) where
  -- a table has room for its tidy table
  pub fits_all : {room : ℕ} → length s ≤ room → Fits s places transfers functions room true
  fits_all {room} h = record { is = λ P r w v C l. sym (le-leb _ room (omega (arith, (tidy-short s P r).0))) }

  -- where the functions end, put where there is room for one byte
  pub fits-counted : {room : ℕ} {d d' : List ℕ} {end : ℕ} → length d ≡ 1 → PutsProgram s places transfers functions d 5 end d'
      → Fits s places transfers functions room (leb end room)
  fits-counted {room} {d} {d'} {end} e u =
      record {
        is = λ P r w v C l.
            let z = ((u.is P w v C l).is (omega arith) (omega arith)).0 in
            let i : end ≡ length (Write.table (tidied P)) = omega (arith, table-length (tidied P), (tidy-short s P r).1) in
            ap (λ (k : ℕ). leb k room) i;
      }

  -- the functions, and then the length and the version before them
  pub table-put : {d d₁ d₂ d₃ : List ℕ} {end k m : ℕ} → PutsProgram s places transfers functions d 5 end d₁
      → Puts d₁ 0 (Write.word (end % 4294967296)) k d₂ → Puts d₂ k (1 ∷ []) m d₃
      → PutsTable s places transfers functions d (end % 4294967296) d₃
  table-put u p q =
      record {
        is = λ P r w v C l fit short. table-written (tidied P) (u.is P w v C l) p q (tidy-short s P r).1 fit short;
      }

-- an accepted table: its program, with its places and the list of its kept functions
record Known (s places transfers : List ℕ) (functions : Kept) : Type 0 where
  program : Program
  reads : read s ≡ Answer.given program
  accepted : check s ≡ Answer.given tt
  placed : Places s program places
  transferred : Transfers.Transfers s program transfers
  closed : Closed program
  lists : Lists functions (kept_functions program)

module _ (s before places : List ℕ) (none : before ≡ nowhere) (out : List ℕ) where
  pub tidy-not : {why : Why.Refusal} {q : Result ℕ Why.Refusal} → CheckedAs s before places (Err why) → q ≡ Err why
      → Writes (Model.tidy s out) q out
  tidy-not c e =
      let q = tidy-refused s out _ (sym (c.answer none)) in
      rw e (record { answer = ap (λ (w : Wrote). w.answer) (sym q); after = ap (λ (w : Wrote). w.after) (sym q) })

  module _ (c : CheckedAs s before places (Ok tt)) {blank transfers : List ℕ} {functions : Kept} (z : blank ≡ Transfers.nowhere)
      (f : Finds s places blank transfers) (k : KeepsFunctions s places transfers functions) where
    kept : Known s places transfers functions
    kept =
        let h : check s ≡ Answer.given tt = sym (c.answer none) in
        let (P, reads, wf) = check-wf s h in
        let p = left-places s before places P c.placed none reads in
        let C = closed P wf in
        let short : length s ≤ 65535 = omega (arith, (sized-is s _ (Guarantees.reads s P reads).sized).most) in
        let v = f P _ p short z in
        record { program = P; reads = reads; accepted = h; placed = p; transferred = v; closed = C; lists = k P p v C }

    abbrev table : List ℕ
    table = Write.table (tidied kept.program)

    is-put : Model.tidy s out ≡ put No.room out table
    is-put = tidy-accepted s out kept.program kept.accepted kept.reads

    fits-is : {b : Bool} → Fits s places transfers functions (length out) b → b ≡ leb (length table) (length out)
    fits-is u = u.is kept.program kept.reads kept.placed kept.transferred kept.closed kept.lists

    pub tidy-room : {b : Bool} {why : Code.No} → why.0 ≡ No.room → Fits s places transfers functions (length out) b → b ≡ false →
        Writes (Model.tidy s out) (Err (Plain why)) out
    tidy-room i u h =
        rw (is-put, put-short No.room out table (leb-false _ _ (sym (fits-is u) ∙ h)), i) (record { answer = refl; after = refl })

    pub tidy-wrote : {b : Bool} {m : ℕ} {out' : List ℕ} → length out < 2 ^ 63 → Fits s places transfers functions (length out) b
        → b ≡ true → PutsTable s places transfers functions out m out' → Writes (Model.tidy s out) (Ok m) out'
    tidy-wrote short u h p =
        let fit : length table ≤ length out = leb-true _ _ (sym (fits-is u) ∙ h) in
        let w =
        p.is kept.program kept.reads kept.placed kept.transferred kept.closed kept.lists fit short in
        rw (is-put, put-fits No.room out table fit, w.0) (record { answer = refl; after = w.1 })
