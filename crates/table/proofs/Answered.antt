-- What reading answers, case by case; and the places of a table that reads.
use Prim.Native.Nat.{ℕ, ◌+◌, ◌≤◌, ◌<◌}
use native.Mathlib.Omega.{arith}
use mathlib.Core.Path.{◌≡◌, refl, sym, ap, ◌∙◌, subst}
use mathlib.Core.Bool.{Bool, true, false, true≢false}
use mathlib.Core.List.{List}
use borrow.Author.Tests.{eq-eqb, ne_eqb, le-leb, lt-leb, lt-ltb, ltb-true, ltb-false}
use lib.Dec.{ltb, eqb}
use lib.ListN.{length, get_or}
use Rattle.model.specs.Numbers as No
use Rattle.model.specs.Answers.{Refusal, Answer, outcome}
use Rattle.model.specs.Syntax.{Program}
use Rattle.model.specs.Read.{Parsed, byte, half, word, next, program_by, or_zero, length_field, sized_as, whole, read_as, read}
use Rattle.model.specs.Read.{read_brief}
use Rattle.model.specs.Read as Read
use Rattle.model.proofs.Facts.{refused-given, outcome-given, outcome-refused}
use Rattle.model.proofs.Guarantees.{sized-is, ReadsAs, reads, brief-reads}
use Rattle.code.specs.Bytes.{byte_at, past, half_at, word_at}
use Rattle.answers.specs.declared.No as Code
use Rattle.answers.specs.declared.Refusal as Why
use Rattle.answers.specs.declared.Refusal.TheVariants.{Plain, Byte}
use Rattle.answers.specs.Answers.{refusal_of, answer_of}
use Rattle.places.specs.Marks.{nowhere}
use Rattle.places.specs.Places.{Places, PlacesBy}
use Rattle.table.specs.Skips.{skip_of}
use Rattle.table.specs.declared.Version.{Version}
use Rattle.table.specs.declared.Version.TheVariants.{One, Two}
use Rattle.table.specs.Versions.{version_of, head_of, read_of}
use Rattle.table.specs.Marks.{program_marks_by, Kept}
use Rattle.table.specs.Reading.{leaves_by, leaves, ReadBy, ReadFrom, WalkedFrom}
use Rattle.std.specs.Prelude.{Result, Ok, Err, is_err}
use Rattle.table.proofs.Placed.{heads-of, placed}

-- the size
module _ (v : Read.Version) (s : List ℕ) (field : ℕ) where
  pub too_short : length s < 6 → false ≡ sized_as v s field
  unfolding sized_as
  too_short h = simp (lt-leb 6 (length s) h)

  pub too_long : 6 ≤ length s → v.most < length s → false ≡ sized_as v s field
  unfolding sized_as
  too_long h l = simp (le-leb 6 (length s) h, lt-leb (length s) v.most l)

  pub in-limits : 6 ≤ length s → length s ≤ v.most → eqb field (length s) ≡ sized_as v s field
  unfolding sized_as
  in-limits h l = simp (le-leb 6 (length s) h, le-leb (length s) v.most l)

-- reading from an offset on: what was read, and the code's answer r with the places l
module _ (w : Version) (s : List ℕ) (at field number : ℕ) (before l : List ℕ) where
  abbrev v : Read.Version
  v = version_of w

  abbrev found : Answer Program
  found = read_as v s at field number

  abbrev program : Parsed Program
  program = program_by v.head s at

  from-refused : (r : Result (Unit {0}) Why.Refusal) (why : Why.Refusal) → found ≡ Answer.refused (refusal_of why) → r ≡ Err why
      → WalkedFrom w s at field number before l r
  unfolding outcome
  from-refused r why e d =
      record { answer = ap answer_of d ∙ ap outcome (sym e); placed = λ P g. refused-given (sym e ∙ g) }

  pub no_size : (n : Code.No) → n.0 ≡ No.size → sized_as v s field ≡ false → WalkedFrom w s at field number before l (Err (Plain n))
  unfolding read_as
  no_size n e h = from-refused _ (Plain n) (simp (h, e)) refl

  module _ (z : sized_as v s field ≡ true) where
    pub no-version : (n : Code.No) → n.0 ≡ No.version → (number ≡ v.number → ⊥) → WalkedFrom w s at field number before l (Err (Plain n))
    unfolding read_as
    no-version n e h = from-refused _ (Plain n) (simp (z, ne_eqb number v.number h, e)) refl

    module _ (n : number ≡ v.number) where
      wholly : (p : Parsed Program) → program ≡ p → found ≡ whole s p
      unfolding read_as
      wholly p e = simp (z, eq-eqb number v.number n, e)

      pub bad-byte : (r : Result (Unit {0}) Why.Refusal) (x : ℕ) → Err x ≡ skip_of program → r ≡ Err (Byte x)
          → WalkedFrom w s at field number before l r
      unfolding skip_of whole
      bad-byte r x e = from-refused r (Byte x) (go program refl e)
        where
          go : (p : Parsed Program) → program ≡ p → Err x ≡ skip_of p → found ≡ Answer.refused (Refusal.byte x)
          go (Parsed.ok P m) h f = absurd (let z : ◌≡◌ {A = ℕ} 0 1 = cc in omega arith)
          go (Parsed.bad y) h f =
              wholly (Parsed.bad y) h ∙ ap (λ (y : ℕ). Answer.refused (Refusal.byte y)) (let i : y ≡ x = cc in i)

      module _ (x : ℕ) (a : Ok x ≡ skip_of program) where
        ends : (p : Parsed Program) → Ok x ≡ skip_of p → (P : Program) × (p ≡ Parsed.ok P x)
        unfolding skip_of
        ends (Parsed.ok P m) f = (P, ap (Parsed.ok P) (let i : m ≡ x = cc in i))
        ends (Parsed.bad y) f = absurd (let z : ◌≡◌ {A = ℕ} 0 1 = cc in omega arith)

        pub left_over : (x ≡ length s → ⊥) → WalkedFrom w s at field number before l (Err (Byte x))
        unfolding whole
        left_over u =
            let p = ends program a in
            from-refused _ (Byte x) (wholly _ p.1 ∙ simp (ne_eqb x (length s) u)) refl

        pub all_read : x ≡ length s → Kept (Ok x) l (program_marks_by v.head s at before)
            → WalkedFrom w s at field number before l (Ok tt)
        unfolding outcome whole Kept
        all_read u k =
            let p = ends program a in
            let is : found ≡ Answer.given p.0 = wholly _ p.1 ∙ simp (eq-eqb x (length s) u) in
            record { answer = ap outcome (sym is); placed = λ P g. k }

  -- the places are none where it refuses
  module _ (r : Result (Unit {0}) Why.Refusal) (h : WalkedFrom w s at field number before l r) (bytes : (i : ℕ) → get_or s i 0 < 256) where
    pub kept-places : is_err r ≡ false → ReadFrom w s at field number before l r
    unfolding leaves_by
    kept-places o = record { answer = h.answer; placed = go r h.answer o; bytes = bytes }
      where
        go : (r : Result (Unit {0}) Why.Refusal) → answer_of r ≡ outcome found → is_err r ≡ false
            → l ≡ leaves_by v.head s at before found
        go (Ok u) e o =
            let (P, is) = outcome-given found (sym e) in
            h.placed P is ∙ ap (leaves_by v.head s at before) (sym is)
        go (Err why) e o = absurd (true≢false o)

    pub no-places : is_err r ≡ true → ReadFrom w s at field number before nowhere r
    unfolding leaves_by
    no-places o = record { answer = h.answer; placed = go r h.answer o; bytes = bytes }
      where
        go : (r : Result (Unit {0}) Why.Refusal) → answer_of r ≡ outcome found → is_err r ≡ true
            → nowhere ≡ leaves_by v.head s at before found
        go (Ok u) e o = absurd (true≢false (sym o))
        go (Err why) e o = ap (leaves_by v.head s at before) (sym (outcome-refused found (sym e)))

-- from its start on: the number at the start of a table's bytes is its length field
module _ (s : List ℕ) (bytes : (i : ℕ) → get_or s i 0 < 256) where
  byte-is : (at : ℕ) → at < length s → byte 0 255 s at ≡ Parsed.ok (get_or s at 0) (at + 1)
  unfolding byte
  byte-is at h =
      let b : get_or s at 0 ≤ 255 = omega (arith, bytes at) in
      simp (lt-ltb at (length s) h, le-leb 0 (get_or s at 0) (omega arith), le-leb (get_or s at 0) 255 b)

  half_is : (at : ℕ) → at + 1 < length s → half s at ≡ Parsed.ok (half_at s at) (at + 2)
  unfolding half half_at next
  half_is at h =
      let z : at + 1 + 1 ≡ at + 2 = omega arith in
      rw (byte-is at (omega arith), byte-is (at + 1) h, z)

  word-is : 4 ≤ length s → word s 0 ≡ Parsed.ok (word_at s 0) 4
  unfolding word word_at next
  word-is h = rw (half_is 0 (omega arith), half_is 2 (omega arith))

  pub field_is : 4 ≤ length s → length_field s ≡ word_at s 0
  unfolding length_field or_zero
  field_is h = ap or_zero (word-is h)

  from_start : (v : Read.Version) → read_as v s 5 (word_at s 0) (get_or s 4 0) ≡ read_as v s 5 (length_field s) (get_or s 4 0)
  unfolding read_as
  from_start v = go (ltb (length s) 6) refl
    where
      go : (b : Bool) → ltb (length s) 6 ≡ b → read_as v s 5 (word_at s 0) (get_or s 4 0) ≡ read_as v s 5 (length_field s) (get_or s 4 0)
      go true e =
          let h : length s < 6 = ltb-true (length s) 6 e in
          rw (sym (too_short v s (word_at s 0) h), sym (too_short v s (length_field s) h))
      go false e =
          let h : 6 ≤ length s = ltb-false (length s) 6 e in
          ap (λ (n : ℕ). read_as v s 5 n (get_or s 4 0)) (sym (field_is (omega arith)))

  whole-table : (v : Version) → read_as (version_of v) s 5 (word_at s 0) (get_or s 4 0) ≡ read_of v s
  unfolding read read_brief
  whole-table One = from_start Read.full
  whole-table Two = from_start Read.brief

module _ (v : Version) (s before after : List ℕ) (field number : ℕ) (r : Result (Unit {0}) Why.Refusal) (f : field ≡ word_at s 0) where
  read_all : (at : ℕ) → at ≡ 5 → number ≡ get_or s 4 0 → ReadFrom v s at field number before after r → ReadBy v s before after r
  read_all at a n h =
      let e : read_as (version_of v) s at field number ≡ read_of v s = rw (a, f, n) (whole-table s h.bytes v) in
      let p = head_of v in
      record {
        answer = h.answer ∙ ap outcome e;
        placed = h.placed ∙ ap (leaves_by p s at before) e ∙ ap (λ (k : ℕ). leaves_by p s k before (read_of v s)) a;
      }

  -- as the reader moves: behind the length field, and behind the version
  pub read_through : number ≡ byte_at s (past 0 4) → ReadFrom v s (past (past 0 4) 1) field number before after r
      → ReadBy v s before after r
  unfolding past
  read_through n h = read_all _ refl n h

-- the places of a table that reads, where there were none before
reads-by : (v : Version) (s : List ℕ) (P : Program) → read_of v s ≡ Answer.given P → ReadsAs (version_of v) s P
reads-by One s P e = reads s P e
reads-by Two s P e = brief-reads s P e

no_longer : (v : Version) → (version_of v).most ≤ 16384
no_longer One = omega arith
no_longer Two = omega arith

places-by : (v : Version) (s before after : List ℕ) (P : Program) → after ≡ leaves_by (head_of v) s 5 before (read_of v s)
    → before ≡ nowhere → read_of v s ≡ Answer.given P → PlacesBy (head_of v) s P after
unfolding leaves_by
places-by v s before after P h o e =
    let p = head_of v in
    let R = reads-by v s P e in
    let small : length s ≤ 16384 = omega (arith, no_longer v, (sized-is s _ R.sized).most) in
    subst (PlacesBy p s P) (sym (h ∙ ap (leaves_by p s 5 before) e ∙ ap (program_marks_by p s 5) o))
    (placed _ (heads-of v) s small 5 P _ R.program)

pub left-places : (s before after : List ℕ) (P : Program) → after ≡ leaves s 5 before (read s) → before ≡ nowhere
    → read s ≡ Answer.given P → Places s P after
left-places s before after P h o e = places-by One s before after P h o e

-- of version 2
pub brief-places : (s before after : List ℕ) (P : Program) → after ≡ leaves_by Read.bare s 5 before (read_brief s) → before ≡ nowhere
    → read_brief s ≡ Answer.given P → PlacesBy Read.bare s P after
brief-places s before after P h o e = places-by Two s before after P h o e
