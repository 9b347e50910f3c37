-- The frames of a thread as a chain of calls: each frame's function is called by that of the frame beneath it. Every choice keeps
-- that, of any program and any threads, and answers 18 only where a chain needs more frames than a thread can have.
use Prim.Native.Nat.{ℕ, zero, suc, ◌<◌}
use mathlib.Core.Path.{◌≡◌, refl, subst}
use mathlib.Core.Logic.{◌≢◌}
use mathlib.Core.Bool.{Bool, true, false, cond}
use mathlib.Core.Option.{Option, none, some, map}
use mathlib.Core.List.{List, [], ◌∷◌, ◌++◌}
use native.Mathlib.Numerals.{add-one}
use native.Mathlib.Omega.{arith}
use lib.Dec.{eqb, ltb}
use lib.IntN.{ℤ, pos}
use lib.ListN.{length, get_elem?}
use Rattle.model.specs.Numbers as No
use Rattle.model.specs.Lists.{Each, unsnoc, equal}
use Rattle.model.specs.Values.{same}
use Rattle.model.specs.Syntax.{Statement, Transfer, Block, Function, Program}
use Rattle.model.specs.Pool.{Frame, Thread, Pool, most_calls, most_frames, frames, restacked, begin, function_of}
use Rattle.model.specs.Pool.{block_in, block_of}
use Rattle.model.specs.Frames.{look_all, eval, bind, bind_all, go_to, deque, entering, enter, callee}
use Rattle.model.specs.Rules
use Rattle.model.specs.Rules.{Act, by, acts, act, Result, Promotion, choice}
use Rattle.model.proofs.Facts.{none-some, at-below, ltb-false}
use Rattle.model.proofs.Kept.{OnSome, on-bind, on-is, on-when, on-carry}
use Rattle.chains.specs.Chains.{Calls, Chain, Needs}
use Rattle.chains.specs.Roomy.{oldest_function, Deeper}
use Rattle.chains.proofs.Steps.{chain-append}

-- the frames K beneath one of the function g, newest first: each function is called by the next
abbrev pub Links : Program → ℕ → List Frame → Type 0
Links P g [] = Unit {0}
Links P g (k ∷ K) = Calls P k.function g × Links P k.function K

abbrev pub Linked : Program → Thread → Type 0
Linked P t = Links P t.newest.function t.older

-- linked frames are a chain from the oldest to the newest
links-chain : (P : Program) (g : ℕ) (K : List Frame) → Links P g K → Chain P (oldest_function g K) g (length K)
unfolding Chain
links-chain P g [] h = refl
links-chain P g (k ∷ K) h =
    let f = oldest_function k.function K in
    subst (Chain P f g) (add-one (length K))
    (chain-append P f k.function g (length K) 1 (links-chain P k.function K h.1) (g, h.0, refl))

pub links-needs : (P : Program) (g : ℕ) (K : List Frame) → Links P g K → Needs P (oldest_function g K) (suc (length K))
links-needs P g K h = record { last = g; calls = length K; chain = links-chain P g K h; frames = omega arith }

-- one call more than a thread has frames for
links-deeper : (P : Program) (g : ℕ) (K : List Frame) → most_frames < suc (length K) → Links P g K → Deeper P
unfolding Chain
links-deeper P g [] l h = absurd (omega arith)
links-deeper P g (k ∷ K) l h =
    record {
      first = oldest_function k.function K;
      there = at-below P (oldest_function k.function K) (links-chain P g (k ∷ K) h).1.there;
      frames = suc (length (k ∷ K));
      needs = links-needs P g (k ∷ K) h;
      more = l;
    }

-- a frame that runs the function f
abbrev Runs : ℕ → Frame → Type 0
Runs f k = k.function ≡ f

bind_all-runs : (k : Frame) (ȳ : List ℕ) (v̄ : List ℤ) → Runs k.function (bind_all k ȳ v̄)
unfolding bind_all bind
bind_all-runs k [] v̄ = refl
bind_all-runs k (y ∷ ȳ) [] = refl
bind_all-runs k (y ∷ ȳ) (v ∷ v̄) = bind_all-runs (bind k y v) ȳ v̄

enter-runs : (P : Program) (k : Frame) (b : ℕ) (v̄ : List ℤ) → OnSome (Runs k.function) (enter P k b v̄)
unfolding enter entering go_to
enter-runs P k b v̄ =
    on-bind (Runs k.function) (block_of P k b) _ λ B _.
    on-when (Runs k.function) (eqb (length B.head.parameters) (length v̄)) _ λ _.
    bind_all-runs (go_to k b 0) B.head.parameters v̄

callee-runs : (P : Program) (g : ℕ) (v̄ : List ℤ) → OnSome (Runs g) (callee P g v̄)
unfolding callee begin
callee-runs P g v̄ =
    on-bind (Runs g) (get_elem? P g) _ λ G _. on-when (Runs g) (eqb G.signature.parameters (length v̄)) _ λ _. refl

-- what a newest frame does next: it stays in its function, or begins one that its function calls; a refusal is not 18
abbrev Does : Program → Frame → Act → Type 0
Does P k (Act.refuse n) = n ≢ No.frames
Does P k (Act.stay rule l) = Runs k.function l
Does P k (Act.push l m) = Runs k.function l × Calls P k.function m.function
Does P k (Act.pop v̄) = Unit {0}
Does P k (Act.join l c) = Runs k.function l

module _ (P : Program) (k : Frame) where
  does-by : (rule : ℕ) (o : Option Frame) → OnSome (Runs k.function) o → Does P k (by rule o)
  unfolding by
  does-by rule none h = omega arith
  does-by rule (some l) h = h

  does-acts : (o : Option Act) → OnSome (Does P k) o → Does P k (acts o)
  unfolding acts
  does-acts none h = omega arith
  does-acts (some a) h = h

  does-branch : (b c : ℕ) (z : Bool) → Does P k (Rules.branch P k b c z)
  unfolding Rules.branch
  does-branch b c true = does-by No.else _ (enter-runs P k c [])
  does-branch b c false = does-by No.then _ (enter-runs P k b [])

  does-closing : (b c : ℕ) (ρ : List ℕ) (z : Bool) → Does P k (Rules.closing P k b c ρ z)
  unfolding Rules.closing deque
  does-closing b c ρ true = does-by No.unpr _ (enter-runs P (deque k ρ k.promoted) b [])
  does-closing b c ρ false = refl

  -- a block of the frame that ends in a call
  calls_at : {B : Block} {g c : ℕ} {x̄ : List ℕ} (b : ℕ) → block_of P k b ≡ some B → B.transfer ≡ Transfer.call g x̄ c →
      Calls P k.function g
  unfolding block_of block_in function_of
  calls_at {B} {g} {c} {x̄} b e q = go (get_elem? P k.function) refl e
    where
      go : (o : Option Function) → get_elem? P k.function ≡ o → block_in o b ≡ some B → Calls P k.function g
      go none f e = none-some e
      go (some F) f e =
          record { function = F; there = f; number = b; block = B; has = e; arguments = x̄; back = c; is = q }

  does-transfer : {B : Block} → block_of P k k.block ≡ some B → (T : Transfer) → B.transfer ≡ T → Does P k (Rules.transfer P k T)
  unfolding Rules.transfer Rules.goto Rules.if Rules.call Rules.return Rules.spork Rules.spoin go_to deque
  does-transfer e (Transfer.goto b x̄) q =
      does-by No.goto _ (on-bind (Runs k.function) (look_all k x̄) _ λ v̄ _. enter-runs P k b v̄)
  does-transfer e (Transfer.if m b c) q =
      does-acts _ (on-bind (Does P k) (eval k m) _ λ w _. on-carry (Does P k) w _ (omega arith) λ v _. does-branch b c (same v (pos 0)))
  does-transfer e (Transfer.call g x̄ b) q =
      does-acts _
      (on-bind (Does P k) (look_all k x̄) _ λ v̄ _.
      on-bind (Does P k) (callee P g v̄) _ λ l f.
      on-bind (Does P k) (block_of P k b) _ λ B _.
      (refl, rw (on-is (Runs g) (callee P g v̄) (callee-runs P g v̄) f) (calls_at k.block e q)))
  does-transfer e (Transfer.return x̄) q =
      does-acts _ (on-bind (Does P k) (look_all k x̄) _ λ v̄ _. on-when (Does P k) (equal k.calls []) _ λ _. tt)
  does-transfer e (Transfer.spork b π) q =
      does-by No.spork _
      (on-bind (Runs k.function) (function_of P k) _ λ F _.
      on-bind (Runs k.function) (get_elem? F.spawns π) _ λ S _.
      on-when (Runs k.function) (ltb (length k.calls) most_calls) _ λ _.
      enter-runs P (deque k (k.calls ++ (π ∷ [])) k.promoted) b [])
  does-transfer e (Transfer.spoin b c) q =
      does-acts _
      (on-bind (Does P k) (unsnoc k.calls) _ λ I _. does-closing b c I.front (ltb k.promoted (length k.calls)))

  does : Does P k (act P k)
  unfolding act Rules.coming Rules.stmt Rules.assign go_to bind
  does = does-acts _ (on-bind (Does P k) (block_of P k k.block) _ λ B e. coming B e (get_elem? B.code k.done))
    where
      coming : (B : Block) → block_of P k k.block ≡ some B → (o : Option Statement) → Does P k (Rules.coming P k B o)
      coming B e none = does-transfer e B.transfer refl
      coming B e (some x) =
          does-acts _ (on-bind (Does P k) (eval k x.source) _ λ w _. on-carry (Does P k) w _ (omega arith) λ v _. refl)

-- what a choice makes of linked threads
abbrev pub Keeps : Program → Result → Type 0
Keeps P (Result.made rule ts) = Each (Linked P) ts
Keeps P (Result.refused n) = n ≡ No.frames → Deeper P

module _ (P : Program) where
  -- the newest frame, of the function g, changed
  top-keeps : (rule : ℕ) (t : Thread) (g : ℕ) (K : List Frame) (ts : List Thread) (o : Option Frame) → OnSome (Runs g) o → Links P g K →
      Each (Linked P) ts → Keeps P (Rules.on_top rule t K ts o)
  unfolding Rules.on_top
  top-keeps rule t g K ts none r h hs = λ e. absurd (omega arith)
  top-keeps rule t g K ts (some k) r h hs = (rw r h, hs)

  pop-keeps : (t : Thread) (g : ℕ) (K : List Frame) (ts : List Thread) (v̄ : List ℤ) → Links P g K → Each (Linked P) ts →
      Keeps P (Rules.popping P t K ts v̄)
  unfolding Rules.popping
  pop-keeps t g [] ts v̄ h hs = λ e. absurd (omega arith)
  pop-keeps t g (k ∷ K) ts v̄ h hs = top-keeps No.return t k.function K ts _ (enter-runs P k k.block v̄) h.1 hs

  module _ (t : Thread) (h : Linked P t) where
    join-keeps : (k : Frame) (c : ℕ) (ts : List Thread) → Runs t.newest.function k → Each (Linked P) ts →
        Keeps P (Rules.joins P t k c ts)
    unfolding Rules.joins Rules.joining
    join-keeps k c [] r hs = λ e. absurd (omega arith)
    join-keeps k c (u ∷ ts) r hs = go (Rules.ended P u)
      where
        go : (o : Option (List ℤ)) → Keeps P (Rules.joining P t k c ts o)
        go none = λ e. absurd (omega arith)
        go (some v̄) = top-keeps No.prom t k.function t.older ts _ (enter-runs P k c v̄) (rw r h) hs.1

    apply-keeps : (ts : List Thread) (a : Act) → Does P t.newest a → Each (Linked P) ts → Keeps P (Rules.apply P t ts a)
    unfolding Rules.apply
    apply-keeps ts (Act.refuse n) d hs = λ e. absurd (d e)
    apply-keeps ts (Act.stay rule k) d hs = (rw d h, hs)
    apply-keeps ts (Act.push k l) (r, c) hs = go (ltb (length (frames t)) most_frames) refl (rw r (c, h))
      where
        go : (b : Bool) → ltb (length (frames t)) most_frames ≡ b → Links P l.function (k ∷ t.older) →
            Keeps P (cond b (Result.made No.call (restacked t (l ∷ k ∷ t.older) ∷ ts)) (Result.refused No.frames))
        go true e m = (m, hs)
        go false e m = λ _. links-deeper P l.function (k ∷ t.older) (omega (arith, ltb-false (length (frames t)) most_frames e)) m
    apply-keeps ts (Act.pop v̄) d hs = pop-keeps t t.newest.function t.older ts v̄ h hs
    apply-keeps ts (Act.join k c) d hs = join-keeps k c ts d hs

  step_keeps : (t : Thread) (ts : List Thread) → Linked P t → Each (Linked P) ts → Keeps P (Rules.step P t ts)
  unfolding Rules.step
  step_keeps t ts h hs = apply-keeps t h ts (act P t.newest) (does P t.newest) hs

  -- a promotion changes the deque of a frame, and no function
  abbrev Stack : List Frame → Type 0
  Stack [] = Unit {0}
  Stack (k ∷ K) = Links P k.function K

  record Promotes (K : List Frame) (p : Promotion) : Type 0 where
    beneath : (g : ℕ) → Links P g K → Links P g p.frames
    stack : Stack K → Stack p.frames

  above-promotes : (k : Frame) (K : List Frame) (o : Option Promotion) → OnSome (Promotes K) o →
      OnSome (Promotes (k ∷ K)) (Rules.or_else (map (Rules.above k) o) (Rules.promote_in k K))
  unfolding Rules.or_else Rules.promote_in deque
  above-promotes k K none f =
      on-bind (Promotes (k ∷ K)) (get_elem? k.calls k.promoted) _ λ π _. record { beneath = λ g h. h; stack = λ h. h }
  above-promotes k K (some p) f =
      record { beneath = λ g h. (h.0, f.beneath k.function h.1); stack = f.beneath k.function }

  oldest-promotes : (K : List Frame) → OnSome (Promotes K) (Rules.oldest K)
  unfolding Rules.oldest
  oldest-promotes [] = tt
  oldest-promotes (k ∷ K) = above-promotes k K (Rules.oldest K) (oldest-promotes K)

  restacked-linked : (t : Thread) (K : List Frame) → Linked P t → Stack K → Linked P (restacked t K)
  restacked-linked t [] h s = h
  restacked-linked t (k ∷ K) h s = s

  promote-keeps : (room : Bool) (t : Thread) (ts : List Thread) → Linked P t → Each (Linked P) ts → Keeps P (Rules.promote P room t ts)
  unfolding Rules.promote Rules.promoting Rules.spawned
  promote-keeps room t ts h hs = go room (Rules.oldest (frames t)) (oldest-promotes (frames t))
    where
      begun : (u : Thread) (o : Option Frame) → Linked P u → Keeps P (Rules.spawned u ts o)
      begun u none s = λ e. absurd (omega arith)
      begun u (some k) s = (s, (tt, hs))

      go : (b : Bool) (o : Option Promotion) → OnSome (Promotes (frames t)) o → Keeps P (Rules.promoting P b t ts o)
      go b none f = λ e. absurd (omega arith)
      go false (some p) f = λ e. absurd (omega arith)
      go true (some p) f =
          begun (restacked t p.frames) (Rules.child P p.holder p.call) (restacked-linked t p.frames h (f.stack h))

  on-keeps : (f : Thread → List Thread → Result) → ((t : Thread) (ts : List Thread) → Linked P t → Each (Linked P) ts → Keeps P (f t ts)) →
      (p : Pool) (i : ℕ) → Each (Linked P) p → Keeps P (Rules.on_thread f p i)
  unfolding Rules.on_thread Rules.behind
  on-keeps f k [] i h = λ e. absurd (omega arith)
  on-keeps f k (t ∷ ts) zero h = k t ts h.0 h.1
  on-keeps f k (t ∷ ts) (suc i) h = go (Rules.on_thread f ts i) (on-keeps f k ts i h.1)
    where
      go : (x : Result) → Keeps P x → Keeps P (Rules.behind t x)
      go (Result.made rule us) hs = (h.0, hs)
      go (Result.refused n) d = d

  pub choice-keeps : (p : Pool) (kind i : ℕ) → Each (Linked P) p → Keeps P (choice P p kind i)
  unfolding choice
  choice-keeps p zero i h = on-keeps (Rules.step P) step_keeps p i h
  choice-keeps p (suc zero) i h = on-keeps (Rules.promote P _) (promote-keeps _) p i h
  choice-keeps p (suc (suc kind)) i h = λ e. absurd (omega arith)
