-- A piece of the input, byte by byte.
use Rattle.std.proofs.Common.{◌≡◌, ℕ, ◌+◌, ◌^◌, ◌<◌, ◌≤◌, Bool, true, false, cond, ltb, List, [], ◌∷◌, ◌++◌, length, get_or, take, drop, sym, refl, ap, ◌∙◌, subst, append-nil, add-one, arith, length-take, take-suc}
use mathlib.Core.Option.{none, some}
use lib.Seq.{take-length}
use Rattle.model.specs.Answers.{Answer}
use Rattle.model.proofs.Facts.{ltb-true, ltb-false}
use Rattle.model.specs.Syntax.{Program}
use Rattle.model.specs.Pool.{Pool}
use Rattle.model.specs.Rules.{Result, choice}
use Rattle.model.specs.Calls.{accepted}
use Rattle.puts.specs.Puts.{Puts}
use Rattle.puts.proofs.Laws.{same, then, front}
use Rattle.puts.proofs.Laws.{none as nothing}
use Rattle.flow.specs.declared.Run.{Run}
use Rattle.flow.specs.Stages.{Stage, whole, opened, chosen, next, says, after, said}
use Rattle.flow.specs.Stands.{piece_bytes, text_bytes, Memory, restart, Stands, index_of, Steps, TakesAny, Text, Fed, Feeds}
use Rattle.flow.proofs.Pieces.{after-append, said-append}
use Rattle.flow.proofs.Bounds.{said-most}

-- a byte counts one choice at most
index-opened : (a : Answer Program) → index_of (opened a) ≤ 1
unfolding opened
index-opened (Answer.given P) = omega arith
index-opened (Answer.refused r) = omega arith

index-chosen : (P : Program) (p : Pool) (i : ℕ) (r : Result) → index_of (chosen P p i r) ≤ i + 1
unfolding chosen
index-chosen P p i (Result.made rule p') = omega arith
index-chosen P p i (Result.refused n) = omega arith

index-cond : (b : Bool) (x y : Stage) (n : ℕ) → index_of x ≤ n → index_of y ≤ n → index_of (cond b x y) ≤ n
index-cond true x y n h k = h
index-cond false x y n h k = k

index-next : (st : Stage) (b : ℕ) → index_of (next st b) ≤ index_of st + 1
unfolding next
index-next (Stage.taking s) b =
    index-cond (whole (s ++ b ∷ [])) _ _ 1 (index-opened (accepted (s ++ b ∷ []))) (omega arith)
index-next (Stage.choosing P p i none) b = omega arith
index-next (Stage.choosing P p i (some kind)) b = index-chosen P p i (choice P p kind b)
index-next (Stage.stopped P p) b = omega arith
index-next Stage.over b = omega arith

pub index-after : (st : Stage) (s : List ℕ) → index_of (after st s) ≤ index_of st + length s
unfolding after
index-after st [] = omega arith
index-after st (b ∷ s) = let h = index-next st b in let k = index-after (next st b) s in omega arith

-- one byte more
after-byte : (st : Stage) (s : List ℕ) (b : ℕ) → after st (s ++ b ∷ []) ≡ next (after st s) b
unfolding after
after-byte st s b = after-append st s (b ∷ [])

said-byte : (st : Stage) (s : List ℕ) (b : ℕ) → said st (s ++ b ∷ []) ≡ said st s ++ says (after st s) b
unfolding said
said-byte st s b = said-append st s (b ∷ []) ∙ ap (λ l. said st s ++ l) (append-nil (says (after st s) b))

-- the first bytes of the piece have been taken
pub record Going (m₀ : Memory) (out₀ : List ℕ) (r₀ : Run) (s : List ℕ) (r : Run) (m : Memory) (out : List ℕ) : Type 0 where
  pub stage : (st : Stage) → Stands m₀ r₀ st → index_of st + length s < 2 ^ 64 → Stands m r (after st s)
  pub text : (st : Stage) → Stands m₀ r₀ st → index_of st + length s < 2 ^ 64 → Puts out₀ r₀.said (said st s) r.said out

pub begins : (m : Memory) (out : List ℕ) (r : Run) (piece : List ℕ) → Going m out r (take 0 piece) r m out
unfolding after said
begins m out r piece = record { stage = λ st h l. h; text = λ st h l. nothing }

module _ (m₀ : Memory) (out₀ : List ℕ) (r₀ : Run) (piece : List ℕ) (i : ℕ) (r : Run) (m : Memory) (out : List ℕ)
    (g : Going m₀ out₀ r₀ (take i piece) r m out) where
  pub turns : (r' : Run) (m' : Memory) (out' : List ℕ) → i < length piece → TakesAny m out r (get_or piece i 0) r' m' out'
      → Going m₀ out₀ r₀ (take (i + 1) piece) r' m' out'
  turns r' m' out' h t =
      record {
        stage = λ st k l. rw (e, after-byte st (take i piece) b) (one st k l).stage;
        text = λ st k l. same (then (g.text st k (less st l)) (one st k l).text) (sym (ap (said st) e ∙ said-byte st (take i piece) b));
      }
    where
      b : ℕ
      b = get_or piece i 0

      e : take (i + 1) piece ≡ take i piece ++ get_or piece i 0 ∷ []
      e = ap (λ (n : ℕ). take n piece) (add-one i) ∙ take-suc piece i 0 h

      less : (st : Stage) → index_of st + length (take (i + 1) piece) < 2 ^ 64 → index_of st + length (take i piece) < 2 ^ 64
      less st l = let x = length-take i piece in let y = length-take (i + 1) piece in omega arith

      one : (st : Stage) → Stands m₀ r₀ st → index_of st + length (take (i + 1) piece) < 2 ^ 64
          → Steps m out r (get_or piece i 0) r' m' out' (after st (take i piece))
      one st k l =
          let x = length-take i piece in
          let y = length-take (i + 1) piece in
          let z = index-after st (take i piece) in
          t.is (after st (take i piece)) (g.stage st k (less st l)) (omega arith)

-- the text of a piece begins, and nothing else changes
restart-stands : (m : Memory) (run : Run) (st : Stage) → Stands m run st → Stands m (restart run) st
restart-stands m run (Stage.taking s) h =
    record { taken = h.taken; by = record { phase = h.by.phase; bytes = h.by.bytes; lacks = h.by.lacks; none = h.by.none } }
restart-stands m run (Stage.choosing P p i k) h =
    record { taken = h.taken; by = record { phase = h.by.phase; holds = h.by.holds; index = h.by.index; kind = h.by.kind } }
restart-stands m run (Stage.stopped P p) h =
    record { taken = h.taken; by = record { phase = h.by.phase; holds = h.by.holds } }
restart-stands m run Stage.over h = record { taken = h.taken; by = h.by }

empty : (xs : List ℕ) → length xs ≤ 0 → xs ≡ []
empty [] h = refl
empty (x ∷ xs) h = absurd (omega arith)

-- a text from the start on
pub text_of : (d : List ℕ) (xs : List ℕ) (r : ℕ) (d' : List ℕ) → Puts d 0 xs r d' → length d < 2 ^ 63 → length xs ≤ length d
    → Text xs d r d'
text_of d xs r d' p l h =
    let s = front p l (omega arith) in
    let e : r ≡ length xs = (let x = s.ends in omega arith) in
    let z : r ≡ 0 + length xs = omega arith in
    record { length = e; bytes = ap (λ (n : ℕ). take n d') e ∙ s.text; behind = rw z s.after }

-- the loop: i bytes of the piece have been taken
pub record Turned (m₀ : Memory) (out₀ : List ℕ) (r₀ : Run) (piece : List ℕ) (i : ℕ) (r : Run) (m : Memory) (out : List ℕ) : Type 0 where
  pub below : i ≤ length piece
  pub first : i ≡ 0 → (r ≡ r₀) × (out ≡ out₀)
  pub long : 0 < i → length out₀ ≡ text_bytes
  pub going : Going m₀ out₀ r₀ (take i piece) r m out

pub turned-first : (m : Memory) (out : List ℕ) (r : Run) (piece : List ℕ) → Turned m out r piece 0 r m out
turned-first m out r piece =
    record { below = omega arith; first = λ e. (refl, refl); long = λ h. absurd (omega arith); going = begins m out r piece }

module _ (m₀ : Memory) (out₀ : List ℕ) (r₀ : Run) (piece : List ℕ) (i : ℕ) (r : Run) (m : Memory) (out : List ℕ)
    (t : Turned m₀ out₀ r₀ piece i r m out) where
  pub turned-next : (r' : Run) (m' : Memory) (out' : List ℕ) → i < length piece → length out ≡ text_bytes
      → TakesAny m out r (get_or piece i 0) r' m' out' → Turned m₀ out₀ r₀ piece (i + 1) r' m' out'
  turned-next r' m' out' h l b =
      record {
        below = omega arith;
        first = λ e. absurd (omega arith);
        long = λ k. go (ltb 0 i) refl;
        going = turns m₀ out₀ r₀ piece i r m out t.going r' m' out' h b;
      }
    where
      go : (z : Bool) → ltb 0 i ≡ z → length out₀ ≡ text_bytes
      go true e = t.long (ltb-true 0 i e)
      go false e = let x = ltb-false 0 i e in let y = (t.first (omega arith)).1 in sym (ap length y) ∙ l

  -- where there is a byte the text is there whole; where there is none there is no text
  whole-text : (run : Run) (st : Stage) → r₀ ≡ restart run → length piece ≤ i → length piece ≤ piece_bytes
      → Puts out₀ r₀.said (said st piece) r.said out → Text (said st piece) out₀ r.said out
  whole-text run st q h most p = go (ltb 0 i) refl
    where
      zero-said : r₀.said ≡ 0
      zero-said = ap (λ (x : Run). x.said) q

      go : (z : Bool) → ltb 0 i ≡ z → Text (said st piece) out₀ r.said out
      go true e =
          let l = t.long (ltb-true 0 i e) in
          let n = said-most st piece in
          text_of out₀ (said st piece) r.said out (subst (λ (k : ℕ). Puts out₀ k (said st piece) r.said out) zero-said p)
          (omega arith) (omega arith)
      go false e =
          let x = ltb-false 0 i e in
          let y = t.first (omega arith) in
          let n = said-most st piece in
          let no : said st piece ≡ [] = empty (said st piece) (omega arith) in
          let none : r.said ≡ 0 = ap (λ (x : Run). x.said) y.0 ∙ zero-said in
          subst (λ (xs : List ℕ). Text xs out₀ r.said out) (sym no)
          (record { length = none; bytes = ap (λ (n : ℕ). take n out) none; behind = ap (drop r.said) y.1 })

  pub turned-last : (run : Run) → r₀ ≡ restart run → length piece ≤ i → Feeds m₀ out₀ run piece r m out
  turned-last run q h = record { is = λ st k most l. go st k most l }
    where
      all : take i piece ≡ piece
      all = let b = t.below in let e : i ≡ length piece = omega arith in ap (λ (n : ℕ). take n piece) e ∙ take-length piece

      go : (st : Stage) → Stands m₀ run st → length piece ≤ piece_bytes → index_of st + length piece < 2 ^ 64 → Fed out₀ piece r m out st
      go st k most l =
          let k₀ : Stands m₀ r₀ st = subst (λ (x : Run). Stands m₀ x st) (sym q) (restart-stands m₀ run st k) in
          let l₀ : index_of st + length (take i piece) < 2 ^ 64 = rw all l in
          record {
            stage = subst (λ (s : List ℕ). Stands m r (after st s)) all (t.going.stage st k₀ l₀);
            text = whole-text run st q h most
                (subst (λ (s : List ℕ). Puts out₀ r₀.said (said st s) r.said out) all (t.going.text st k₀ l₀));
          }
