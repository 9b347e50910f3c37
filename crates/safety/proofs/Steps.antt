-- A step of a typed thread: it goes on and the threads stay typed, or the thread is ended with the values that it promised, is
-- at a call with all frames in use, overflows, or waits for its newest child.
use Prim.Native.Nat.{ℕ}
use mathlib.Core.Path.{◌≡◌, refl, sym, ◌∙◌, ap}
use mathlib.Core.Bool.{Bool, true, false, cond}
use mathlib.Core.Option.{Option, none, some}
use mathlib.Core.List.{List, [], ◌∷◌, ◌++◌}
use native.Mathlib.Omega.{arith}
use lib.Dec.{ltb}
use lib.IntN.{ℤ}
use lib.ListN.{length, get_elem?}
use Rattle.model.specs.Numbers as No
use Rattle.model.specs.Lists.{Each}
use Rattle.model.specs.Syntax.{Function, Program}
use Rattle.model.specs.WellFormed.{WF-prog}
use Rattle.model.specs.Limits.{Limits}
use Rattle.model.specs.Pool.{Frame, Thread, most_frames, frames, restacked}
use Rattle.model.specs.Frames.{enter}
use Rattle.model.specs.Rules as Rules
use Rattle.model.specs.Rules.{Act, Result, act, returned, on_top, popping, joining, joins, apply, step}
use Rattle.model.proofs.Facts.{none-some, some-injective}
use Rattle.model.specs.Valid.{IsThread}
use Rattle.safety.proofs.Typing.{Opens, Runs, Callers, Typed, promised, Forest}
use Rattle.safety.proofs.Frames.{enters}
use Rattle.safety.proofs.Acts.{Ordinary, Does, does}

-- a step of the thread t, which promised r values, with the threads ts behind it
pub data Stepped (P : Program) (t : Thread) (r : ℕ) (ts : List Thread) (rs : List ℕ) : Result → Type 0 where
  goes : {rule : ℕ} {ts' : List Thread} → Ordinary rule → Forest P ts' (r ∷ rs) → Stepped P t r ts rs (Result.made rule ts')
  ended : {v̄ : List ℤ} → Rules.ended P t ≡ some v̄ → length v̄ ≡ r → Stepped P t r ts rs (Result.refused No.ended)
  deep : Stepped P t r ts rs (Result.refused No.frames)
  overflows : Stepped P t r ts rs (Result.refused No.overflow)
  waits : {t' : Thread} → get_elem? ts 0 ≡ some t' → Rules.ended P t' ≡ none → Stepped P t r ts rs (Result.refused No.waits)

module _ {P : Program} (W : WF-prog P) (L : Limits P) where
  -- an ended thread has the values that it promised, and no child
  pub record Ends (K : List Frame) (r : ℕ) (v̄ : List ℤ) : Type 0 where
    pub many : length v̄ ≡ r
    pub childless : promised P K ≡ []

  ends-frames : {F : Function} {r : ℕ} (k : Frame) (K : List Frame) (v̄ : List ℤ) (a : Act) → Does P F k a →
      Callers P F.signature.returns K r → returned K a ≡ some v̄ → Ends (k ∷ K) r v̄
  unfolding returned
  ends-frames k [] v̄ _ (Does.stays x y z) c e = none-some e
  ends-frames k [] v̄ _ (Does.calls x y z w) c e = none-some e
  ends-frames k [] v̄ _ (Does.returns n o) c e = record { many = ap length (sym (some-injective e)) ∙ n ∙ c; childless = rw o }
  ends-frames k [] v̄ _ (Does.joins x y) c e = none-some e
  ends-frames k [] v̄ _ Does.overflows c e = none-some e
  ends-frames k (l ∷ K) v̄ a d c e = none-some e

  pub ends : {t : Thread} {r : ℕ} (v̄ : List ℤ) → Typed P r t → IsThread P t → Rules.ended P t ≡ some v̄ → Ends (frames t) r v̄
  unfolding Rules.ended
  ends {t} v̄ y h e =
      let d = does W L y.runs h.newest.promoted in
      ends-frames t.newest t.older v̄ (act P t.newest) d y.callers e

  module _ (t : Thread) (r : ℕ) (ts : List Thread) (rs : List ℕ) where
    -- a thread and the threads behind it, typed
    puts : {rule : ℕ} (t' : Thread) (ts' : List Thread) → Ordinary rule → Typed P r t' →
        Forest P ts' (promised P (frames t') ++ rs) → Stepped P t r ts rs (Result.made rule (t' ∷ ts'))
    puts t' ts' q y w = Stepped.goes {ts' = t' ∷ ts'} q (y, w)

    -- the newest frame enters a block that it opens
    tops : {F : Function} {k : Frame} {b n : ℕ} (rule : ℕ) → Ordinary rule → (K : List Frame) (ts' : List Thread) (v̄ : List ℤ) →
        Opens P F k b n → length v̄ ≡ n → Callers P F.signature.returns K r → Forest P ts' (promised P (k ∷ K) ++ rs) →
        Stepped P t r ts rs (on_top rule t K ts' (enter P k b v̄))
    unfolding on_top
    tops {F} rule q K ts' v̄ o n c w =
        let e = enters W v̄ o n in
        rw e.is (puts _ ts' q (record { function = F; runs = e.runs; callers = c }) w)

    pops : {n : ℕ} (v̄ : List ℤ) (K : List Frame) → length v̄ ≡ n → Callers P n K r →
        Forest P ts (promised P K ++ rs) → returned K (Act.pop v̄) ≡ Rules.ended P t → Stepped P t r ts rs (popping P t K ts v̄)
    unfolding popping returned
    pops v̄ [] n c w e = Stepped.ended (sym e) (n ∙ c)
    pops v̄ (k ∷ K) n c w e = tops No.return (omega arith) K ts v̄ c.1 n c.2 w

    joins-child : {F : Function} {k : Frame} {c n : ℕ} (u : Thread) (ts' : List Thread) →
        get_elem? ts 0 ≡ some u → Opens P F k c n → Callers P F.signature.returns t.older r → Typed P n u → IsThread P u →
        Forest P ts' (promised P (frames u) ++ (promised P (k ∷ t.older) ++ rs)) → (o : Option (List ℤ)) → Rules.ended P u ≡ o →
        Stepped P t r ts rs (joining P t k c ts' o)
    unfolding joining
    joins-child u ts' s o c y h w none e = Stepped.waits s e
    joins-child u ts' s o c y h w (some v̄) e =
        let d = ends v̄ y h e in
        tops No.prom (omega arith) t.older ts' v̄ o d.many c (rw d.childless at w)

    joins-behind : {F : Function} {k : Frame} {c n : ℕ} (ts' : List Thread) → ts ≡ ts' → Opens P F k c n →
        Callers P F.signature.returns t.older r → Each (IsThread P) ts' → Forest P ts' (n ∷ (promised P (k ∷ t.older) ++ rs)) →
        Stepped P t r ts rs (joins P t k c ts')
    unfolding joins
    joins-behind [] s o c h w = absurd w
    joins-behind (u ∷ ts') s o c h w =
        let n = ap (λ (l : List Thread). get_elem? l 0) s in
        joins-child u ts' n o c w.0 h.0 w.1 (Rules.ended P u) refl

    calls-deep : {F G : Function} {k l : Frame} → Opens P F k k.block G.signature.returns → Runs P G l →
        Callers P F.signature.returns t.older r → Forest P ts (promised P (l ∷ k ∷ t.older) ++ rs) → (room : Bool) →
        Stepped P t r ts rs (cond room (Result.made No.call (restacked t (l ∷ k ∷ t.older) ∷ ts)) (Result.refused No.frames))
    calls-deep {F} {G} o q c w true = puts _ ts (omega arith) (record { function = G; runs = q; callers = (F, o, c) }) w
    calls-deep o q c w false = Stepped.deep

    applies : {F : Function} {k : Frame} {a : Act} → Does P F k a → Callers P F.signature.returns t.older r →
        Each (IsThread P) ts → Forest P ts (promised P (k ∷ t.older) ++ rs) → returned t.older a ≡ Rules.ended P t →
        Stepped P t r ts rs (apply P t ts a)
    unfolding apply
    applies {F} (Does.stays q y o) c h w e = puts _ ts q (record { function = F; runs = y; callers = c }) (rw o w)
    applies (Does.calls o s y z) c h w e = calls-deep o y c (rw (z, s) w) (ltb (length (frames t)) most_frames)
    applies (Does.returns n o) c h w e = pops _ t.older n c (rw o at w) e
    applies (Does.joins o s) c h w e = joins-behind ts refl o c h (rw s at w)
    applies Does.overflows c h w e = Stepped.overflows

    pub steps : Typed P r t → IsThread P t → Each (IsThread P) ts → Forest P ts (promised P (frames t) ++ rs) →
        Stepped P t r ts rs (step P t ts)
    unfolding step Rules.ended
    steps y s h w = applies (does W L y.runs s.newest.promoted) y.callers h w refl
