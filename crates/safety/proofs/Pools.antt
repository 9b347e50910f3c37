-- Choices on a typed pool: each keeps it typed or is refused, and none is stuck. Some thread can step, is out of frames or overflows,
-- or the first thread is ended.
use Prim.Native.Nat.{ℕ, zero, suc, ◌≤◌}
use mathlib.Core.Path.{◌≡◌, refl, sym, ◌∙◌, ap, subst}
use mathlib.Core.Logic.{◌≢◌, ◌⊎◌, inl, inr}
use mathlib.Core.Option.{none, some}
use mathlib.Core.List.{List, [], ◌∷◌, ◌++◌}
use native.Mathlib.Omega.{arith}
use lib.Dec.{ltb}
use lib.IntN.{ℤ}
use lib.ListN.{length, get_elem?}
use Rattle.model.specs.Numbers as No
use Rattle.model.specs.Lists.{Each}
use Rattle.model.specs.Syntax.{Program}
use Rattle.model.specs.WellFormed.{WF-prog}
use Rattle.model.specs.Limits.{Limits}
use Rattle.model.specs.Pool.{Thread, Pool, frames, most_threads}
use Rattle.model.specs.Rules.{Result, ended, step, promote, behind, on_thread, choice}
use Rattle.model.proofs.Facts.{none-some, some-injective}
use Rattle.model.specs.Valid.{IsThread}
use Rattle.safety.proofs.Typing.{Typed, promised, Forest}
use Rattle.safety.proofs.Acts.{Ordinary}
use Rattle.safety.proofs.Steps.{Stepped, steps}
use Rattle.safety.proofs.Promotions.{Promotes, promotes}

pub refused-injective : {m n : ℕ} → Result.refused m ≡ Result.refused n → m ≡ n
refused-injective e = cc

pub made-refused : {A : Type 0} {rule n : ℕ} {p : List Thread} → Result.made rule p ≡ Result.refused n → A
made-refused e = let z : ◌≡◌ {A = ℕ} 0 1 = cc in absurd (omega arith)

behind-refused : (t : Thread) {n : ℕ} (x : Result) → behind t x ≡ Result.refused n → x ≡ Result.refused n
unfolding behind
behind-refused t (Result.made rule p) e = made-refused e
behind-refused t (Result.refused n) e = e

-- what a choice makes of a typed pool
pub data Chosen (P : Program) (rs : List ℕ) : Result → Type 0 where
  goes : {rule : ℕ} {ts : List Thread} → Forest P ts rs → Chosen P rs (Result.made rule ts)
  refuses : (n : ℕ) → No.kind ≤ n → n ≢ No.stuck → Chosen P rs (Result.refused n)

chosen-step : {P : Program} {t : Thread} {r : ℕ} {ts : List Thread} {rs : List ℕ} {x : Result} → Stepped P t r ts rs x →
    Chosen P (r ∷ rs) x
chosen-step (Stepped.goes q w) = Chosen.goes w
chosen-step (Stepped.ended e n) = Chosen.refuses No.ended (omega arith) (omega arith)
chosen-step Stepped.deep = Chosen.refuses No.frames (omega arith) (omega arith)
chosen-step Stepped.overflows = Chosen.refuses No.overflow (omega arith) (omega arith)
chosen-step (Stepped.waits e n) = Chosen.refuses No.waits (omega arith) (omega arith)

chosen-promote : {P : Program} {r : ℕ} {rs : List ℕ} {x : Result} → Promotes P r rs x → Chosen P (r ∷ rs) x
chosen-promote (Promotes.goes w) = Chosen.goes w
chosen-promote Promotes.nothing = Chosen.refuses No.promoted (omega arith) (omega arith)
chosen-promote Promotes.full = Chosen.refuses No.threads (omega arith) (omega arith)

-- a choice on the threads behind a typed one
chosen-behind : {P : Program} {t : Thread} {r : ℕ} {rs : List ℕ} {x : Result} → Typed P r t →
    Chosen P (promised P (frames t) ++ rs) x → Chosen P (r ∷ rs) (behind t x)
unfolding behind
chosen-behind {t = t} y (Chosen.goes {ts = ts} w) = Chosen.goes {ts = t ∷ ts} (y, w)
chosen-behind y (Chosen.refuses n a b) = Chosen.refuses n a b

abbrev Keeps : Program → (Thread → List Thread → Result) → Type 0
Keeps P f =
    (t : Thread) (r : ℕ) (ts : List Thread) (rs : List ℕ) → Typed P r t → IsThread P t → Each (IsThread P) ts →
    Forest P ts (promised P (frames t) ++ rs) → Chosen P (r ∷ rs) (f t ts)

module _ (P : Program) (f : Thread → List Thread → Result) (each : Keeps P f) where
  chosen_on : (p : List Thread) (rs : List ℕ) (i : ℕ) → Each (IsThread P) p → Forest P p rs → Chosen P rs (on_thread f p i)
  unfolding on_thread
  chosen_on [] rs i h w = Chosen.refuses No.thread (omega arith) (omega arith)
  chosen_on (t ∷ ts) [] i h w = absurd w
  chosen_on (t ∷ ts) (r ∷ rs) zero h w = each t r ts rs w.0 h.0 h.1 w.1
  chosen_on (t ∷ ts) (r ∷ rs) (suc i) h w = chosen-behind w.0 (chosen_on ts _ i h.1 w.1)

module _ {P : Program} (W : WF-prog P) (L : Limits P) where
  pub chosen : (p : Pool) (rs : List ℕ) (kind i : ℕ) → Each (IsThread P) p → Forest P p rs → Chosen P rs (choice P p kind i)
  unfolding choice
  chosen p rs zero i h w = chosen_on P (step P) (λ t r ts rs y s h w. chosen-step (steps W L t r ts rs y s h w)) p rs i h w
  chosen p rs (suc zero) i h w =
      let room = ltb (length p) most_threads in
      chosen_on P (promote P room) (λ t r ts rs y s h w. chosen-promote (promotes W y s ts rs w room)) p rs i h w
  chosen p rs (suc (suc kind)) i h w = Chosen.refuses No.kind (omega arith) (omega arith)

-- some thread can step, is at a call with all frames in use, or overflows
pub data Moving (P : Program) (p : List Thread) : Type 0 where
  makes : (i : ℕ) {rule : ℕ} {p' : List Thread} → on_thread (step P) p i ≡ Result.made rule p' → Ordinary rule → Moving P p
  lacks : (i : ℕ) → on_thread (step P) p i ≡ Result.refused No.frames → Moving P p
  overflows : (i : ℕ) → on_thread (step P) p i ≡ Result.refused No.overflow → Moving P p

moving-behind : {P : Program} {t : Thread} {ts : List Thread} → Moving P ts → Moving P (t ∷ ts)
unfolding on_thread behind
moving-behind {P} {t} (Moving.makes i e q) = Moving.makes (suc i) (ap (behind t) e) q
moving-behind {P} {t} (Moving.lacks i e) = Moving.lacks (suc i) (ap (behind t) e)
moving-behind {P} {t} (Moving.overflows i e) = Moving.overflows (suc i) (ap (behind t) e)

-- a thread is ended, with some values
abbrev Ended : Program → Thread → Type 0
Ended P t = (v̄ : List ℤ) × (ended P t ≡ some v̄)

not-ended : {P : Program} {ts : List Thread} (u : Thread) → ended P u ≡ none → Moving P ts ⊎ Ended P u → Moving P ts
not-ended u n (inl m) = m
not-ended u n (inr d) = none-some (sym n ∙ d.1)

-- a step that waits: the threads behind move
waits-moving : {P : Program} {t : Thread} {r : ℕ} {ts : List Thread} {rs : List ℕ} {x : Result} → Stepped P t r ts rs x →
    x ≡ Result.refused No.waits → ((u : Thread) → get_elem? ts 0 ≡ some u → Moving P ts ⊎ Ended P u) → Moving P ts
waits-moving (Stepped.goes q w) e f = made-refused e
waits-moving (Stepped.ended d n) e f = absurd (omega (arith, refused-injective e))
waits-moving Stepped.deep e f = absurd (omega (arith, refused-injective e))
waits-moving Stepped.overflows e f = absurd (omega (arith, refused-injective e))
waits-moving (Stepped.waits {t' = u} s n) e f = not-ended u n (f u s)

-- any other is made, is out of frames or overflows, or the thread is ended
step-moving : {P : Program} {t : Thread} {r : ℕ} {ts : List Thread} {rs : List ℕ} {x : Result} → Stepped P t r ts rs x →
    step P t ts ≡ x → ((u : Thread) → get_elem? ts 0 ≡ some u → Moving P ts ⊎ Ended P u) → Moving P (t ∷ ts) ⊎ Ended P t
unfolding on_thread
step-moving (Stepped.goes q w) e f = inl (Moving.makes 0 e q)
step-moving (Stepped.ended {v̄ = v̄} d n) e f = inr (v̄, d)
step-moving Stepped.deep e f = inl (Moving.lacks 0 e)
step-moving Stepped.overflows e f = inl (Moving.overflows 0 e)
step-moving (Stepped.waits {t' = u} s n) e f = inl (moving-behind (not-ended u n (f u s)))

module _ {P : Program} (W : WF-prog P) (L : Limits P) where
  -- from the last thread to the first: the pool moves, or its first thread is ended
  pub progress : (p : List Thread) (rs : List ℕ) → Each (IsThread P) p → Forest P p rs → (u : Thread) → get_elem? p 0 ≡ some u →
      Moving P p ⊎ Ended P u
  progress [] rs h w u e = none-some e
  progress (t ∷ ts) [] h w u e = absurd w
  progress (t ∷ ts) (r ∷ rs) h w u e =
      let f = progress ts (promised P (frames t) ++ rs) h.1 w.1 in
      let s = steps W L t r ts rs w.0 h.0 h.1 w.1 in
      subst (λ (u : Thread). Moving P (t ∷ ts) ⊎ Ended P u) (some-injective e) (step-moving s refl f)

  -- where some thread waits, the pool moves
  pub waiting : (p : List Thread) (rs : List ℕ) (i : ℕ) → Each (IsThread P) p → Forest P p rs →
      on_thread (step P) p i ≡ Result.refused No.waits → Moving P p
  unfolding on_thread
  waiting [] rs i h w e = absurd (omega (arith, refused-injective e))
  waiting (t ∷ ts) [] i h w e = absurd w
  waiting (t ∷ ts) (r ∷ rs) zero h w e =
      let s = steps W L t r ts rs w.0 h.0 h.1 w.1 in
      moving-behind (waits-moving s e (progress ts (promised P (frames t) ++ rs) h.1 w.1))
  waiting (t ∷ ts) (r ∷ rs) (suc i) h w e =
      moving-behind (waiting ts _ i h.1 w.1 (behind-refused t (on_thread (step P) ts i) e))
