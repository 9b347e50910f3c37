-- The call: reading's own refusal, 24, or what is inferred, with the output and the scratch as they are left.
use Prim.Native.Nat.{ℕ, ◌≤◌, ◌<◌}
use mathlib.Core.Path.{◌≡◌, refl, sym}
use mathlib.Core.Bool.{Bool, true, false}
use mathlib.Core.List.{List}
use lib.Dec.{leb, eqb}
use Rattle.std.specs.Prelude.{Result, Ok, Err}
use lib.ListN.{length}
use Rattle.model.specs.Numbers as No
use Rattle.model.specs.Read.{read_brief}
use Rattle.model.proofs.Facts.{lt-leb, le-leb, ne_eqb, eq-eqb, both-and, right-false, outcome-given, outcome-refused}
use Rattle.answers.specs.declared.No as Code
use Rattle.answers.specs.declared.Refusal as Why
use Rattle.answers.specs.declared.Refusal.TheVariants.{Plain}
use Rattle.places.specs.Marks.{nowhere}
use Rattle.table.specs.Reading.{BriefAs}
use Rattle.table.proofs.Answered.{brief-places}
use Rattle.inference.specs.Complete.{scratch_words, output_bytes, enough, lend, complete}
use Rattle.complete.specs.Writes.{Writes, Finishes}

module _ (s before places : List ℕ) (none : before ≡ nowhere) (out words : List ℕ) where
  pub complete-unread : {why : Why.Refusal} {q : Result ℕ Why.Refusal} → BriefAs s before places (Err why) → q ≡ Err why
      → Writes (complete s out words) q out words
  unfolding complete lend
  complete-unread b e = rw (e, outcome-refused (read_brief s) (sym b.answer)) (record { answer = refl; out = refl; words = refl })

  module _ (b : BriefAs s before places (Ok tt)) where
    -- 24
    not-lent : {n : Code.No} → n.0 ≡ No.lent → enough out words ≡ false → Writes (complete s out words) (Err (Plain n)) out words
    unfolding complete lend
    not-lent i h =
        let (P, d) = outcome-given (read_brief s) (sym b.answer) in
        rw (d, h, i) (record { answer = refl; out = refl; words = refl })

    -- the two tests
    abbrev enough_words : Bool
    enough_words = leb scratch_words (length words)

    abbrev enough_bytes : Bool
    enough_bytes = eqb (length out) output_bytes

    pub too_few : {n : Code.No} → n.0 ≡ No.lent → length words < scratch_words
        → Writes (complete s out words) (Err (Plain n)) out words
    unfolding enough
    too_few i h = not-lent i (rw (lt-leb scratch_words (length words) h))

    pub other_length : {n : Code.No} → n.0 ≡ No.lent → (length out ≡ output_bytes → ⊥)
        → Writes (complete s out words) (Err (Plain n)) out words
    unfolding enough
    other_length i h = not-lent i (right-false enough_words enough_bytes (ne_eqb (length out) output_bytes h))

    pub finished : {w : Result ℕ Why.Refusal} {out' words' : List ℕ} → scratch_words ≤ length words → length out ≡ output_bytes
        → Finishes s places out words w out' words' → Writes (complete s out words) w out' words'
    unfolding complete lend enough
    finished l o f =
        let (P, d) = outcome-given (read_brief s) (sym b.answer) in
        let h : enough out words ≡ true =
        both-and enough_words enough_bytes (le-leb scratch_words (length words) l) (eq-eqb (length out) output_bytes o) in
        rw (d, h) (f.is P d (brief-places s before places P b.placed none d))
