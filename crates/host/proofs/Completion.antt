-- What the number of a completion tells, by what the completion means.
use Prim.Native.Nat.{ℕ, ◌-◌, ◌≤◌, ◌<◌}
use mathlib.Core.Path.{◌≡◌, refl, sym, ◌∙◌, ap}
use mathlib.Core.Logic.{◌⊎◌, inl, inr, ◌≢◌}
use mathlib.Core.Bool.{Bool, true, false}
use mathlib.Core.Option.{some}
use mathlib.Core.List.{List, ◌++◌}
use native.Mathlib.Omega.{arith}
use lib.Dec.{eqb, leb, lit≤}
use lib.ListN.{length, get_or, get_elem?, take, replicate}
use lib.Seq.{take-append_seam, drop-append_seam}
use Rattle.model.specs.Numbers as No
use Rattle.model.specs.Answers.{Refusal, Answer, number_of, outcome}
use Rattle.model.specs.Lists.{pad}
use Rattle.model.specs.Syntax.{Function, Program}
use Rattle.model.specs.Limits.{InFunction}
use Rattle.model.specs.Read as Read
use Rattle.model.specs.Check.{nowhere}
use Rattle.model.specs.Calls as Calls
use Rattle.model.specs.Write as Write
use Rattle.model.proofs.Facts.{true-false, and_left, and_right, both-and, leb-true, leb-false, eqb-true, eq-eqb, each_at, at-below}
use Rattle.model.proofs.Guarantees.{sized-is, is-sized, brief-reads, brief-limits}
use Rattle.model.proofs.Numbers as Numbers
use Rattle.model.proofs.Numbers.{brief-can, brief-counts}
use Rattle.answers.specs.Coded.{given, code_of}
use Rattle.inference.specs.Complete.{scratch_words, output_bytes, enough, cleared, complete}
use Rattle.inference.specs.Filled.{filled_all}
use Rattle.inference.specs.Means.{Means, Says, Written}
use Rattle.host.specs.Macros.{is_given, value, number, block, function}
use Rattle.host.specs.Exports.{done, as_number}
use Rattle.host.specs.CallContracts.{Read, Complete}
use Rattle.host.specs.Laws.{answer_in, OfCompletion, CompleteTells}
use Rattle.host.proofs.Codes.{Bare, Fits, given_is, given-in, refused-in}
use Rattle.host.proofs.Tables.{table_fits, table-told}
use Rattle.host.proofs.Macros.{read-given, read-refused}

-- a table of version 2 that reads is none of version 1
brief-version : (s : List ℕ) (P : Program) → Read.read_brief s ≡ Answer.given P → Calls.read s ≡ Answer.refused (Refusal.plain No.version)
unfolding Read.read Read.read_as
brief-version s P e =
    let r = brief-reads s P e in
    let z = sized-is s (Read.length_field s) r.sized in
    let w : Read.sized_as Read.full s (Read.length_field s) ≡ true =
    is-sized s (Read.length_field s) (record { least = z.least; most = omega (arith, z.most); is = z.is })
    in
    rw (w, eqb-true (get_or s 4 0) 2 r.version)

-- what is lent to a completion
enough-is : (out words : List ℕ) → enough out words ≡ true → (scratch_words ≤ length words) × (length out ≡ output_bytes)
unfolding enough
enough-is out words e = (
  leb-true scratch_words (length words) (and_left _ (eqb (length out) output_bytes) e),
  eqb-true (length out) output_bytes (and_right (leb scratch_words (length words)) _ e),
)

not-enough : (out words : List ℕ) → (enough out words ≡ true → ⊥) → (length words < scratch_words) ⊎ (length out ≢ output_bytes)
unfolding enough
not-enough out words h = go (leb scratch_words (length words)) refl
  where
    go : (b : Bool) → leb scratch_words (length words) ≡ b → (length words < scratch_words) ⊎ (length out ≢ output_bytes)
    go true e = inr (λ f. h (both-and _ (eqb (length out) output_bytes) e (eq-eqb (length out) output_bytes f)))
    go false e = inl (leb-false scratch_words (length words) e)

-- a function of the table, and a block of it
module _ (s : List ℕ) (P : Program) (e : Read.read_brief s ≡ Answer.given P) (f : ℕ) {F : Function} (there : get_elem? P f ≡ some F) where
  in_table : (f < get_or s 5 0) × (f < 16)
  in_table =
      let l = at-below P f there in
      let n = brief-counts s P e in
      let m = (brief-limits s P e).few in
      (omega arith, omega arith)

  few-blocks : length F.blocks ≤ 32
  few-blocks = (each_at InFunction P f (brief-limits s P e).functions there).few_blocks

-- the number that reading gives a table of version 2
reads-2 : (s : List ℕ) (P : Program) → Read.read_brief s ≡ Answer.given P → (c : ℕ) → Read s c →
    (is_given c ≡ false) × (number c ≡ No.version)
unfolding done outcome number_of
reads-2 s P e c k =
    let n : c ≡ code_of (Refusal.plain No.version) = k ∙ ap (λ (a : Answer Program). done (outcome a)) (brief-version s P e) in
    read-refused c (ap answer_in n ∙ refused-in (Refusal.plain No.version) (Bare.of_table (lit≤ tt, lit≤ tt)))

-- the parts of a fault's number
fault-parts : (n f b : ℕ) → n < 256 → f < 16 → b < 256 →
    (number (code_of (Refusal.fault n f b)) ≡ n) × (function (code_of (Refusal.fault n f b)) ≡ f) ×
    (block (code_of (Refusal.fault n f b)) ≡ b)
fault-parts n f b h i j = (omega arith, omega arith, omega arith)

-- a completion that is refused
module _ (s out words : List ℕ) (r : ℕ) (out' words' : List ℕ) (q : Refusal) (fits : Fits q) (is : r ≡ code_of q)
    (answer : (complete s out words).answer ≡ Answer.refused q) (same : out' ≡ out) where
  told : answer_in r ≡ Answer.refused q
  told = ap answer_in is ∙ refused-in q fits

  not-given : is_given r ≡ false
  not-given = (read-refused r told).0

  later : {A : Type 0} {n : ℕ} → (n ≤ number r → A) → (is_given r ≡ true) ⊎ (n ≤ number r) → A
  later f (inl g) = true-false (is_given r) g not-given
  later f (inr h) = f h

  stops : (No.unreached ≤ number r → (scratch_words ≤ length words) × (length out ≡ output_bytes)) → OfCompletion s out words r →
      (No.unreached ≤ number r → words' ≡ cleared words) → (number r ≤ No.lent → words' ≡ words) →
      (No.lent ≤ number r → (c : ℕ) → Read s c → (is_given c ≡ false) × (number c ≡ No.version)) → CompleteTells s out words r out' words'
  stops lent of zero kept other =
      record {
        answers = told ∙ sym answer;
        given = λ g. true-false (is_given r) g not-given;
        accepted = λ g. true-false (is_given r) g not-given;
        behind = λ g. true-false (is_given r) g not-given;
        lent = later lent;
        refused = λ _. of;
        unwritten = λ _. same;
        cleared = later zero;
        kept = λ _. kept;
        other = later other;
      }

-- a completion that is given
gives : (s out words : List ℕ) (r n : ℕ) (out' words' : List ℕ) → r ≡ given n → (complete s out words).answer ≡ Answer.given n →
    enough out words ≡ true → Written s out' n → words' ≡ cleared words → CompleteTells s out words r out' words'
unfolding done pad
gives s out words r n out' words' is answer room W zero =
    let T : List ℕ = Write.table (filled_all W.scoping W.program) in
    let behind : List ℕ = replicate (output_bytes - length T) 0 in
    let fits = W.fits in
    let told : answer_in r ≡ Answer.given n = ap answer_in is ∙ given-in n (omega arith) in
    let yes : is_given r ≡ true = (read-given r told).0 in
    let v : value r ≡ length T = (read-given r told).1 ∙ W.long in
    let bytes : out' ≡ T ++ behind = W.bytes in
    let front : take (value r) out' ≡ T = rw (v, bytes) (take-append_seam T behind) in
    record {
      answers = told ∙ sym answer;
      given = λ _. rw (read-given r told).1 fits;
      accepted = λ _ c k.
          let d : c ≡ given 0 = k ∙ ap (λ (x : List ℕ). done (Calls.check x)) front ∙ ap done W.accepted in
          rw d (given_is 0 (omega arith));
      behind = λ _. rw (v, bytes) (drop-append_seam T behind);
      lent = λ _. enough-is out words room;
      refused = λ g. true-false (is_given r) yes g;
      unwritten = λ g. true-false (is_given r) yes g;
      cleared = λ _. zero;
      kept = λ g. true-false (is_given r) yes g;
      other = λ _. reads-2 s W.program W.reads;
    }

module _ (s out words : List ℕ) (r : ℕ) (out' words' : List ℕ) where
  said : (a : Answer ℕ) (o w : List ℕ) → (complete s out words).answer ≡ a → Says s out words a o w → r ≡ as_number a → out' ≡ o →
      words' ≡ w → CompleteTells s out words r out' words'
  unfolding as_number
  said _ _ _ e (Says.unread {r = q} u) n o w =
      let h : Numbers.OfTable s q = of-table q u in
      let l : number (code_of q) ≤ 3 = (table-told h).numbered.1 in
      let l' : number r ≤ 3 = rw n l in
      stops s out words r out' words' q (table_fits q h) n e o (λ g. absurd (omega arith)) (OfCompletion.of_table (rw n (table-told h)))
      (λ g. absurd (omega arith)) (λ _. w) (λ g. absurd (omega arith))
    where
      of-table : (q : Refusal) → Read.read_brief s ≡ Answer.refused q → Numbers.OfTable s q
      of-table q u = rw u at (brief-can s)
  said _ _ _ e (Says.lent {P} u h) n o w =
      let l : number r ≡ 24 = ap number n in
      stops s out words r out' words' _ (Bare.of_call (lit≤ tt, lit≤ tt)) n e o (λ g. absurd (omega arith))
      (OfCompletion.of_lent l (not-enough out words h)) (λ g. absurd (omega arith)) (λ _. w) (λ _. reads-2 s P u)
  said _ _ _ e (Says.unreached {f} {b} h U) n o w =
      let (i, j) = in_table s U.program U.reads f U.there in
      let m = few-blocks s U.program U.reads f U.there in
      let k : b < 32 = omega (arith, m, U.inside) in
      let (x, y, z) = fault-parts No.unreached f b (lit≤ tt) j (omega (arith, k)) in
      let l : number r ≡ 25 = ap number n ∙ x in
      let p : function r ≡ f = ap function n ∙ y in
      let t : block r ≡ b = ap block n ∙ z in
      stops s out words r out' words' _ (inr (lit≤ tt, lit≤ tt), j, omega (arith, k)) n e o (λ _. enough-is out words h)
      (OfCompletion.at_block l (rw p i) (rw t k)) (λ _. w) (λ g. absurd (omega arith)) (λ _. reads-2 s U.program U.reads)
  said _ _ _ e (Says.impossible {f} h I) n o w =
      let (i, j) = in_table s I.program I.reads f I.there in
      let (x, y, z) = fault-parts No.impossible f nowhere (lit≤ tt) j (lit≤ tt) in
      let l : number r ≡ 26 = ap number n ∙ x in
      let p : function r ≡ f = ap function n ∙ y in
      let t : block r ≡ 255 = ap block n ∙ z in
      stops s out words r out' words' _ (inr (lit≤ tt, lit≤ tt), j, lit≤ tt) n e o (λ _. enough-is out words h)
      (OfCompletion.at_function l (rw p i) t) (λ _. w) (λ g. absurd (omega arith)) (λ _. reads-2 s I.program I.reads)
  said _ _ _ e (Says.given {n = m} h A W) n o w = gives s out words r m out' words' n e h (rw o W) w

pub complete-law : Means → (s out words : List ℕ) (r : ℕ) (out' words' : List ℕ) → Complete s out words r out' words' →
    CompleteTells s out words r out' words'
complete-law M s out words r out' words' c =
    said s out words r out' words' _ _ _ refl (M.says s out words) c.number c.bytes c.scratch
