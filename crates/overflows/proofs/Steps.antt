-- A step is refused for an overflow exactly where its thread's newest frame has an expression next that overflows.
use Prim.Native.Nat.{ℕ, zero, suc}
use mathlib.Core.Path.{◌≡◌, refl, sym, ◌∙◌, ap, subst}
use mathlib.Core.Bool.{Bool, true, false, cond}
use mathlib.Core.Option.{Option, none, some}
use mathlib.Core.List.{List, [], ◌∷◌}
use native.Mathlib.Omega.{arith}
use lib.Dec.{ltb}
use lib.IntN.{ℤ, pos}
use lib.ListN.{length, get_elem?}
use Rattle.model.specs.Numbers as No
use Rattle.model.specs.Lists.{equal, unsnoc}
use Rattle.model.specs.Values.{Worked, same}
use Rattle.model.specs.Syntax.{Expression, Statement, Transfer, Block, Program}
use Rattle.model.specs.Pool.{Frame, Thread, Pool, most_frames, frames, restacked, block_of}
use Rattle.model.specs.Frames.{◌>>=◌, look_all, eval, enter, callee}
use Rattle.model.specs.Rules as Rules
use Rattle.model.specs.Rules.{Act, Result, by, acts, carry, act, on_thread, step}
use Rattle.model.proofs.Facts.{none-some, some-injective}
use Rattle.model.proofs.Kept.{OnSome, on-bind, on-when}
use Rattle.overflows.specs.Means.{Next}

-- the next expression of a frame overflows
pub record Overflows (P : Program) (k : Frame) : Type 0 where
  pub expression : Expression
  pub next : Next P k expression
  pub is : eval k expression ≡ some Worked.overflow

-- an act that refuses with 29 says that something is so
abbrev Says : Type 0 → Act → Type 0
Says X (Act.refuse n) = n ≡ No.overflow → X
Says X (Act.stay rule k) = Unit {0}
Says X (Act.push k l) = Unit {0}
Says X (Act.pop v̄) = Unit {0}
Says X (Act.join k c) = Unit {0}

module _ (X : Type 0) where
  stuck-says : No.stuck ≡ No.overflow → X
  stuck-says e = absurd (omega arith)

  says-by : (rule : ℕ) (o : Option Frame) → Says X (by rule o)
  unfolding by
  says-by rule none = stuck-says
  says-by rule (some k) = tt

  says-acts : (o : Option Act) → OnSome (Says X) o → Says X (acts o)
  unfolding acts
  says-acts none h = stuck-says
  says-acts (some a) h = h

  -- an expression is carried on
  says-carried : (o : Option Worked) (a : ℤ → Act) → (o ≡ some Worked.overflow → X) → ((v : ℤ) → Says X (a v)) →
      Says X (acts (◌>>=◌ o λ w. some (carry w a)))
  unfolding acts carry
  says-carried none a h f = stuck-says
  says-carried (some (Worked.value v)) a h f = f v
  says-carried (some Worked.overflow) a h f = λ _. h refl

  says-branch : (P : Program) (k : Frame) (b c : ℕ) (t : Bool) → Says X (Rules.branch P k b c t)
  unfolding Rules.branch
  says-branch P k b c true = says-by No.else _
  says-branch P k b c false = says-by No.then _

  says-closing : (P : Program) (k : Frame) (b c : ℕ) (ρ : List ℕ) (t : Bool) → Says X (Rules.closing P k b c ρ t)
  unfolding Rules.closing
  says-closing P k b c ρ true = says-by No.unpr _
  says-closing P k b c ρ false = tt

  says-transfer : (P : Program) (k : Frame) (T : Transfer) →
      ((e : Expression) (b c : ℕ) → T ≡ Transfer.if e b c → eval k e ≡ some Worked.overflow → X) → Says X (Rules.transfer P k T)
  unfolding Rules.transfer Rules.goto Rules.if Rules.call Rules.return Rules.spork Rules.spoin
  says-transfer P k (Transfer.goto b x̄) h = says-by No.goto _
  says-transfer P k (Transfer.if e b c) h =
      says-carried (eval k e) _ (h e b c refl) (λ v. says-branch P k b c (same v (pos 0)))
  says-transfer P k (Transfer.call g x̄ b) h =
      says-acts _
      (on-bind (Says X) (look_all k x̄) _ λ v̄ _.
      on-bind (Says X) (callee P g v̄) _ λ l _.
      on-bind (Says X) (block_of P k b) _ λ B _. tt)
  says-transfer P k (Transfer.return x̄) h =
      says-acts _ (on-bind (Says X) (look_all k x̄) _ λ v̄ _. on-when (Says X) (equal k.calls []) _ λ _. tt)
  says-transfer P k (Transfer.spork b π) h = says-by No.spork _
  says-transfer P k (Transfer.spoin b c) h =
      says-acts _ (on-bind (Says X) (unsnoc k.calls) _ λ I _. says-closing P k b c I.front (ltb k.promoted (length k.calls)))

module _ (P : Program) (k : Frame) where
  act-says : Says (Overflows P k) (act P k)
  unfolding act Rules.coming Rules.stmt Rules.assign
  act-says =
      says-acts (Overflows P k) _
      (on-bind (Says (Overflows P k)) (block_of P k k.block) _ λ B e. coming B e (get_elem? B.code k.done) refl)
    where
      coming : (B : Block) → block_of P k k.block ≡ some B → (o : Option Statement) → get_elem? B.code k.done ≡ o →
          Says (Overflows P k) (Rules.coming P k B o)
      coming B e (some S) q =
          says-carried (Overflows P k) (eval k S.source) _
          (λ h. record { expression = S.source; next = Next.statement B S e q refl; is = h }) (λ v. tt)
      coming B e none q =
          says-transfer (Overflows P k) P k B.transfer
          (λ x b c t h. record { expression = x; next = Next.if B b c e q t; is = h })

  pub act-overflows : act P k ≡ Act.refuse No.overflow → Overflows P k
  act-overflows e = subst (Says (Overflows P k)) e act-says refl

  pub overflows-act : Overflows P k → act P k ≡ Act.refuse No.overflow
  unfolding act acts carry Rules.coming Rules.stmt Rules.transfer Rules.if
  overflows-act o = go o.expression o.next o.is
    where
      go : (x : Expression) → Next P k x → eval k x ≡ some Worked.overflow → act P k ≡ Act.refuse No.overflow
      go x (Next.statement B S there q e) h = let v : eval k S.source ≡ some Worked.overflow = ap (eval k) e ∙ h in rw (there, q, v)
      go x (Next.if B b c there q t) h = rw (there, q, t, h)

-- a step of a thread, and of the pool's thread i
abbrev Tells : Type 0 → Result → Type 0
Tells X (Result.made rule ts) = Unit {0}
Tells X (Result.refused n) = n ≡ No.overflow → X

module _ (X : Type 0) (P : Program) where
  tells-top : (rule : ℕ) (t : Thread) (K : List Frame) (ts : List Thread) (o : Option Frame) → Tells X (Rules.on_top rule t K ts o)
  unfolding Rules.on_top
  tells-top rule t K ts none = stuck-says X
  tells-top rule t K ts (some k) = tt

  tells-apply : (t : Thread) (ts : List Thread) (a : Act) → Says X a → Tells X (Rules.apply P t ts a)
  unfolding Rules.apply Rules.joins Rules.joining Rules.popping
  tells-apply t ts (Act.refuse n) h = h
  tells-apply t ts (Act.stay rule k) h = tt
  tells-apply t ts (Act.push k l) h = go (ltb (length (frames t)) most_frames)
    where
      go : (b : Bool) → Tells X (cond b (Result.made No.call (restacked t (l ∷ k ∷ t.older) ∷ ts)) (Result.refused No.frames))
      go true = tt
      go false = λ e. absurd (omega arith)
  tells-apply t ts (Act.pop v̄) h = go t.older
    where
      go : (K : List Frame) → Tells X (Rules.popping P t K ts v̄)
      go [] = λ e. absurd (omega arith)
      go (k ∷ K) = tells-top No.return t K ts (enter P k k.block v̄)
  tells-apply t [] (Act.join k c) h = λ e. absurd (omega arith)
  tells-apply t (u ∷ ts) (Act.join k c) h = go (Rules.ended P u)
    where
      go : (o : Option (List ℤ)) → Tells X (Rules.joining P t k c ts o)
      go none = λ e. absurd (omega arith)
      go (some v̄) = tells-top No.prom t t.older ts (enter P k c v̄)

-- thread i of a pool, whose next expression overflows
pub record AtThread (P : Program) (p : Pool) (i : ℕ) : Type 0 where
  pub thread : Thread
  pub there : get_elem? p i ≡ some thread
  pub overflows : Overflows P thread.newest

module _ (P : Program) where
  tells-step : (p : Pool) (i : ℕ) → Tells (AtThread P p i) (on_thread (step P) p i)
  unfolding on_thread step Rules.behind
  tells-step [] i = λ e. absurd (omega arith)
  tells-step (t ∷ ts) zero =
      tells-apply (AtThread P (t ∷ ts) 0) P t ts (act P t.newest)
      (more (act P t.newest) (λ o. record { thread = t; there = refl; overflows = o }) (act-says P t.newest))
    where
      more : {X Y : Type 0} (a : Act) → (X → Y) → Says X a → Says Y a
      more (Act.refuse n) f h = λ e. f (h e)
      more (Act.stay rule k) f h = tt
      more (Act.push k l) f h = tt
      more (Act.pop v̄) f h = tt
      more (Act.join k c) f h = tt
  tells-step (t ∷ ts) (suc i) = go (on_thread (step P) ts i) (tells-step ts i)
    where
      go : (x : Result) → Tells (AtThread P ts i) x → Tells (AtThread P (t ∷ ts) (suc i)) (Rules.behind t x)
      go (Result.made rule q) h = tt
      go (Result.refused n) h = λ e. let a = h e in record { thread = a.thread; there = a.there; overflows = a.overflows }

  pub step-overflows : (p : Pool) (i : ℕ) → on_thread (step P) p i ≡ Result.refused No.overflow → AtThread P p i
  step-overflows p i e = subst (Tells (AtThread P p i)) e (tells-step p i) refl

  pub overflows-step : (p : Pool) (i : ℕ) → AtThread P p i → on_thread (step P) p i ≡ Result.refused No.overflow
  unfolding on_thread step Rules.behind Rules.apply
  overflows-step [] i a = none-some a.there
  overflows-step (t ∷ ts) zero a =
      let o : Overflows P t.newest = subst (λ (u : Thread). Overflows P u.newest) (sym (some-injective a.there)) a.overflows in
      rw (overflows-act P t.newest o)
  overflows-step (t ∷ ts) (suc i) a =
      ap (Rules.behind t) (overflows-step ts i (record { thread = a.thread; there = a.there; overflows = a.overflows }))
