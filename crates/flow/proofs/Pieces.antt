-- An input that comes in pieces: what is printed of each, and at the end, is the whole output.
use Rattle.std.proofs.Common.{◌≡◌, ℕ, ◌+◌, Bool, true, false, cond, List, [], ◌∷◌, ◌++◌, drop, sym, refl, ap, ◌∙◌, append_assoc, append-nil}
use mathlib.Core.Option.{none, some}
use Rattle.model.specs.Answers.{Answer}
use Rattle.model.specs.Lists.{concat}
use Rattle.model.specs.Syntax.{Program}
use Rattle.model.specs.Read.{length_field}
use Rattle.model.specs.Pool.{Pool, started}
use Rattle.model.specs.Rules.{Result, choice}
use Rattle.model.specs.Text.{ascii, newline}
use Rattle.model.specs.Output.{answered, choice_line, result, going_on, choices, all_made, printed, agreed, output, verdict}
use Rattle.model.specs.Calls.{accepted}
use Rattle.model.proofs.Facts.{true-false}
use Rattle.flow.specs.Stages.{Stage, beginning, whole, opened, opening, chosen, next, says, after, said, ends, closed, fine}
use Rattle.flow.specs.Pieces.{printed_of, InPieces, Judged, Deaf}
use Rattle.flow.proofs.Fronts.{unfinished, opens}

-- what is still printed where s is still to come, and what the verdict is then
abbrev rest : Stage → List ℕ → List ℕ
rest (Stage.taking x) s = output (x ++ s)
rest (Stage.choosing P p i none) s = choices P p i s
rest (Stage.choosing P p i (some kind)) s = choices P p i (kind ∷ s)
rest (Stage.stopped P p) s = result P p
rest Stage.over s = []

-- a table that is taken is not whole yet
abbrev pub Open : Stage → Type 0
Open (Stage.taking x) = whole x ≡ false
Open (Stage.choosing P p i k) = Unit {0}
Open (Stage.stopped P p) = Unit {0}
Open Stage.over = Unit {0}

pub open-opened : (a : Answer Program) → Open (opened a)
unfolding opened
open-opened (Answer.given P) = tt
open-opened (Answer.refused r) = tt

pub open-chosen : (P : Program) (p : Pool) (i : ℕ) (r : Result) → Open (chosen P p i r)
unfolding chosen
open-chosen P p i (Result.made rule p') = tt
open-chosen P p i (Result.refused n) = tt

pub open_next : (st : Stage) (b : ℕ) → Open (next st b)
unfolding next
open_next (Stage.taking x) b = go (whole (x ++ b ∷ [])) refl
  where
    go : (w : Bool) → whole (x ++ b ∷ []) ≡ w → Open (cond w (opened (accepted (x ++ b ∷ []))) (Stage.taking (x ++ b ∷ [])))
    go true e = open-opened (accepted (x ++ b ∷ []))
    go false e = e
open_next (Stage.choosing P p i none) b = tt
open_next (Stage.choosing P p i (some kind)) b = open-chosen P p i (choice P p kind b)
open_next (Stage.stopped P p) b = tt
open_next Stage.over b = tt

-- the end
at-end : (st : Stage) → Open st → rest st [] ≡ ends st
unfolding output printed ends choices
at-end (Stage.taking x) o = ap output (append-nil x) ∙ ap (λ a. printed a (drop (length_field x) x)) (unfinished x o)
at-end (Stage.choosing P p i none) o = refl
at-end (Stage.choosing P p i (some kind)) o = refl
at-end (Stage.stopped P p) o = refl
at-end Stage.over o = refl

-- a byte
printed-opened : (a : Answer Program) (x s : List ℕ) → ((P : Program) → a ≡ Answer.given P → x ≡ s)
    → printed a x ≡ opening a ++ rest (opened a) s
unfolding printed opening opened
printed-opened (Answer.given P) x s h = ap (λ l. ascii "accepted" ++ newline ++ choices P started 0 l) (h P refl)
printed-opened (Answer.refused r) x s h = sym (append-nil _)

after-choice : (P : Program) (p : Pool) (i : ℕ) (r : Result) (s : List ℕ)
    → going_on r (result P p) (λ p'. choices P p' (i + 1) s) ≡ rest (chosen P p i r) s
unfolding going_on chosen
after-choice P p i (Result.made rule p') s = refl
after-choice P p i (Result.refused n) s = refl

at_byte : (st : Stage) → Open st → (b : ℕ) (s : List ℕ) → rest st (b ∷ s) ≡ says st b ++ rest (next st b) s
unfolding says next output choices
at_byte (Stage.taking x) o b s = ap output (sym (append_assoc x (b ∷ []) s)) ∙ go (whole (x ++ b ∷ [])) refl
  where
    go : (w : Bool) → whole (x ++ b ∷ []) ≡ w
        → output ((x ++ b ∷ []) ++ s) ≡ cond w (opening (accepted (x ++ b ∷ []))) [] ++ rest (cond w (opened (accepted (x ++ b ∷ [])))
        (Stage.taking (x ++ b ∷ []))) s
    go true e =
        let z = opens x b s o e in
        let y = drop (length_field ((x ++ b ∷ []) ++ s)) ((x ++ b ∷ []) ++ s) in
        ap (λ a. printed a y) z.front ∙ printed-opened (accepted (x ++ b ∷ [])) y s z.back
    go false e = refl
at_byte (Stage.choosing P p i none) o b s = refl
at_byte (Stage.choosing P p i (some kind)) o b s = ap
    (λ l. choice_line i kind b (answered (choice P p kind b)) ++ l) (after-choice P p i (choice P p kind b) s)
at_byte (Stage.stopped P p) o b s = refl
at_byte Stage.over o b s = refl

all-bytes : (st : Stage) → Open st → (s : List ℕ) → rest st s ≡ said st s ++ ends (after st s)
unfolding said after
all-bytes st o [] = at-end st o
all-bytes st o (b ∷ s) =
    at_byte st o b s ∙ ap (λ l. says st b ++ l) (all-bytes (next st b) (open_next st b) s) ∙ sym (append_assoc (says st b) _ _)

-- the verdict likewise
abbrev judged : Stage → List ℕ → Bool
judged (Stage.taking x) s = verdict (x ++ s)
judged (Stage.choosing P p i none) s = all_made P p s
judged (Stage.choosing P p i (some kind)) s = all_made P p (kind ∷ s)
judged (Stage.stopped P p) s = false
judged Stage.over s = false

judged-end : (st : Stage) → Open st → judged st [] ≡ fine st
unfolding verdict agreed fine all_made
judged-end (Stage.taking x) o = ap verdict (append-nil x) ∙ ap (λ a. agreed a (drop (length_field x) x)) (unfinished x o)
judged-end (Stage.choosing P p i none) o = refl
judged-end (Stage.choosing P p i (some kind)) o = refl
judged-end (Stage.stopped P p) o = refl
judged-end Stage.over o = refl

agreed-opened : (a : Answer Program) (x s : List ℕ) → ((P : Program) → a ≡ Answer.given P → x ≡ s) → agreed a x ≡ judged (opened a) s
unfolding agreed opened
agreed-opened (Answer.given P) x s h = ap (all_made P started) (h P refl)
agreed-opened (Answer.refused r) x s h = refl

judged-choice : (P : Program) (p : Pool) (i : ℕ) (r : Result) (s : List ℕ)
    → going_on r false (λ p'. all_made P p' s) ≡ judged (chosen P p i r) s
unfolding going_on chosen
judged-choice P p i (Result.made rule p') s = refl
judged-choice P p i (Result.refused n) s = refl

judged-byte : (st : Stage) → Open st → (b : ℕ) (s : List ℕ) → judged st (b ∷ s) ≡ judged (next st b) s
unfolding next verdict all_made
judged-byte (Stage.taking x) o b s = ap verdict (sym (append_assoc x (b ∷ []) s)) ∙ go (whole (x ++ b ∷ [])) refl
  where
    go : (w : Bool) → whole (x ++ b ∷ []) ≡ w
        → verdict ((x ++ b ∷ []) ++ s) ≡ judged (cond w (opened (accepted (x ++ b ∷ []))) (Stage.taking (x ++ b ∷ []))) s
    go true e =
        let z = opens x b s o e in
        let y = drop (length_field ((x ++ b ∷ []) ++ s)) ((x ++ b ∷ []) ++ s) in
        ap (λ a. agreed a y) z.front ∙ agreed-opened (accepted (x ++ b ∷ [])) y s z.back
    go false e = refl
judged-byte (Stage.choosing P p i none) o b s = refl
judged-byte (Stage.choosing P p i (some kind)) o b s = judged-choice P p i (choice P p kind b) s
judged-byte (Stage.stopped P p) o b s = refl
judged-byte Stage.over o b s = refl

judged-bytes : (st : Stage) → Open st → (s : List ℕ) → judged st s ≡ fine (after st s)
unfolding after
judged-bytes st o [] = judged-end st o
judged-bytes st o (b ∷ s) = judged-byte st o b s ∙ judged-bytes (next st b) (open_next st b) s

-- nothing has come: no table is whole
nothing : whole [] ≡ false
unfolding whole
nothing = refl

-- one piece after another
pub after-append : (st : Stage) (s t : List ℕ) → after st (s ++ t) ≡ after (after st s) t
unfolding after
after-append st [] t = refl
after-append st (b ∷ s) t = after-append (next st b) s t

pub said-append : (st : Stage) (s t : List ℕ) → said st (s ++ t) ≡ said st s ++ said (after st s) t
unfolding said after
said-append st [] t = refl
said-append st (b ∷ s) t = ap (λ l. says st b ++ l) (said-append (next st b) s t) ∙ sym (append_assoc (says st b) _ _)

pieces : (st : Stage) (cs : List (List ℕ)) → printed_of st cs ≡ said st (concat cs) ++ ends (after st (concat cs))
unfolding printed_of concat said after
pieces st [] = refl
pieces st (c ∷ cs) =
    ap (λ l. said st c ++ l) (pieces (after st c) cs) ∙ sym (append_assoc (said st c) _ _)
    ∙ ap (λ l. l ++ ends (after (after st c) (concat cs))) (sym (said-append st c (concat cs)))
    ∙ ap (λ x. said st (c ++ concat cs) ++ ends x) (sym (after-append st c (concat cs)))

pub in_pieces : InPieces
unfolding InPieces
in_pieces cs = pieces beginning cs ∙ sym (all-bytes beginning nothing (concat cs))

pub judges : Judged
unfolding Judged
judges s = sym (judged-bytes beginning nothing s)

-- after a refusal nothing more is printed
silent : (st : Stage) → ((b : ℕ) → (says st b ≡ []) × (next st b ≡ st)) → (s : List ℕ) → (said st s ≡ []) × (after st s ≡ st)
unfolding said after
silent st h [] = (refl, refl)
silent st h (b ∷ s) =
    let z = silent st h s in (
      ap (λ l. l ++ said (next st b) s) (h b).0 ∙ ap (λ x. said x s) (h b).1 ∙ z.0,
      ap (λ x. after x s) (h b).1 ∙ z.1,
    )

pub deaf : Deaf
unfolding Deaf closed says next
deaf (Stage.taking x) e s = true-false false e refl
deaf (Stage.choosing P p i k) e s = true-false false e refl
deaf (Stage.stopped P p) e s = silent (Stage.stopped P p) (λ b. (refl, refl)) s
deaf Stage.over e s = silent Stage.over (λ b. (refl, refl)) s
