-- What is left in the end: the output, of which a table takes all, and the scratch, which is cleared.
use Prim.Native.Nat.{ℕ, ◌+◌, ◌≤◌}
use mathlib.Core.Path.{◌≡◌, refl, sym, ◌∙◌, ap, ap₂}
use mathlib.Core.List.{List, ◌++◌, append-nil}
use native.Mathlib.Omega.{arith}
use Rattle.std.specs.Prelude.{Result, Ok, Err}
use lib.ListN.{length, drop, replicate, length-replicate, drop_of_length-le}
use lib.Seq.{sets, sets-eq, ext_get_or, drop-append-add, drop-drop}
use Rattle.model.specs.Answers.{Refusal, Answer}
use Rattle.model.specs.Syntax.{Program}
use Rattle.model.proofs.Facts.{refused-given, same_at}
use Rattle.model.proofs.Guarantees.{brief-reads, sized-is}
use Rattle.answers.specs.declared.Refusal as Why
use Rattle.transfers.specs.Transfers as Transfers
use Rattle.transfers.specs.Transfers.{Finds}
use Rattle.inference.specs.Complete as Model
use Rattle.inference.specs.Complete.{scratch_words, output_bytes, cleared}
use Rattle.scopings.specs.Words.{len}
use Rattle.scopings.specs.Changes.{Cleared}
use Rattle.answers.specs.Answers.{written_of}
use Rattle.complete.specs.Writes.{Given, blank, Tells, InfersAll, handed, HandsOver, Writes, Finishes}

-- all bytes of an output
all_set : (out xs : List ℕ) → length xs ≡ length out → sets out 0 xs ≡ xs
all_set out xs e =
    let z : length out ≤ 0 + length xs = omega arith in
    sets-eq xs out 0 (omega arith) ∙ rw (drop_of_length-le out z) (append-nil xs)

-- the words that are cleared, behind those in which was inferred
clear-is : (part part' : List ℕ) (n : ℕ) → Cleared part part' → length part ≡ n → part' ≡ replicate n 0
clear-is part part' n c e =
    ext_get_or 0 part' (replicate n 0) (c.long ∙ e ∙ sym (length-replicate {A = ℕ} n 0)) (λ i h. c.zero i ∙ sym (same_at n i 0))

words_left : (words used part part' : List ℕ) → length used ≡ len → length part ≡ scratch_words → Cleared part part'
    → part' ++ drop scratch_words (used ++ drop len words) ≡ cleared words
unfolding cleared
words_left words used part part' u l c =
    let z : scratch_words ≡ length used + 960 = omega arith in
    let rest : drop scratch_words (used ++ drop len words) ≡ drop scratch_words words =
    ap (λ (k : ℕ). drop k (used ++ drop len words)) z ∙ drop-append-add used (drop len words) 960 ∙ drop-drop 960 len words in
    ap₂ {C = List ℕ} ◌++◌ (clear-is part part' scratch_words c l) rest

-- what is told, and handed over
module _ {r q : Result ℕ Why.Refusal} (buffer out out' words words' : List ℕ) (h : HandsOver r buffer out q out')
    (o : length out ≡ output_bytes) (w : words' ≡ cleared words) where
  finishes : (a : Answer Program) → Tells a r buffer → Writes (Model.finish out words a) q out' words'
  unfolding Model.finish
  finishes (Answer.given Q) (e, b, l) =
      record { answer = ap written_of h.answer ∙ e; out = h.after (omega arith) ∙ go r e ∙ b; words = w }
    where
      go : (r : Result ℕ Why.Refusal) {n : ℕ} → written_of r ≡ Answer.given n → handed r buffer out ≡ buffer
      go (Ok n) e = all_set out buffer (l ∙ sym o)
      go (Err why) e = refused-given e
  finishes (Answer.refused x) e =
      record { answer = ap written_of h.answer ∙ e; out = h.after (omega arith) ∙ go r e; words = w }
    where
      go : (r : Result ℕ Why.Refusal) {x : Refusal} → written_of r ≡ Answer.refused x → handed r buffer out ≡ out
      go (Ok n) e = refused-given (sym e)
      go (Err why) e = refl

module _ (s places out words : List ℕ) {fresh transfers zeros : List ℕ} (b : fresh ≡ Transfers.nowhere) (f : Finds s places fresh transfers)
    (z : zeros ≡ blank) where
  pub finish-put : (lent used part part' buffer : List ℕ) {r q : Result ℕ Why.Refusal} {out' : List ℕ} → length lent ≡ len
      → InfersAll s places transfers lent zeros r buffer → length used ≡ len → length part ≡ scratch_words → Cleared part part'
      → HandsOver r buffer out q out' → length out ≡ output_bytes
      → Finishes s places out words q out' (part' ++ drop scratch_words (used ++ drop len words))
  finish-put lent used part part' buffer n i u l c h o =
      record {
        is = λ P d p.
            let short : length s ≤ 65535 = omega (arith, (sized-is s _ (brief-reads s P d).sized).most) in
            let g : Given s places transfers lent P = record { placed = p; ended = f P _ p short b; long = n } in
            finishes buffer out _ words _ h o (words_left words used part part' u l c) (Model.inferred P) (i.is P d g z);
      }
