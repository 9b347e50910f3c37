-- A promotion in a typed thread: its needs are met, and the child runs what the call promises.
use Prim.Native.Nat.{ℕ, zero, suc, ◌+◌, ◌<◌}
use mathlib.Core.Path.{◌≡◌, refl, ap, subst, subst⁻¹, ◌∙◌}
use mathlib.Core.Bool.{Bool, true, false}
use mathlib.Core.Option.{Option, none, some, map}
use mathlib.Core.List.{List, [], ◌∷◌, ◌++◌}
use native.Mathlib.Omega.{arith}
use lib.ListN.{get_elem?}
use Rattle.model.specs.Numbers as No
use Rattle.model.specs.Lists.{Each}
use Rattle.model.specs.Syntax.{Function, Program}
use Rattle.model.specs.WellFormed.{env, WF-spawn, Nested, WF-prog}
use Rattle.model.specs.Pool.{Frame, Thread, frames, born, restacked, begin, function_of}
use Rattle.model.specs.Frames.{◌>>=◌, deque}
use Rattle.model.specs.Rules.{Result, Promotion, promote_in, above, or_else, oldest, child, spawned, promoting, promote}
use Rattle.model.proofs.Facts.{none-some, some-injective, each_at, at-below}
use Rattle.model.specs.Valid.{Settled, Ordered, IsThread}
use Rattle.model.proofs.Sets.{part-refl, part-each}
use Rattle.safety.proofs.Typing.{Opens, Runs, Callers, Typed, promise, owed, own, promised, Forest}
use Rattle.safety.proofs.Owed.{owed_more, promise-is}
use Rattle.safety.proofs.Frames.{looked, reopen, wf-fun, wf-block, callee-begins}

-- the frames K with the first unpromoted call π of the frame k among them promoted
data Promoted (k : Frame) (π : ℕ) : List Frame → List Frame → Type 0 where
  here : {K : List Frame} → get_elem? k.calls k.promoted ≡ some π →
      Promoted k π (k ∷ K) (deque k k.calls (k.promoted + 1) ∷ K)
  under : {l : Frame} {K K' : List Frame} → Promoted k π K K' → Promoted k π (l ∷ K) (l ∷ K')

-- the oldest unpromoted call is one
abbrev Finds : List Frame → Promotion → Type 0
Finds K p = Promoted p.holder p.call K p.frames

abbrev promotion : Frame → List Frame → ℕ → Promotion
promotion k K π = record { holder = k; call = π; frames = deque k k.calls (k.promoted + 1) ∷ K }

in-finds : (k : Frame) (K : List Frame) (p : Promotion) (o : Option ℕ) → get_elem? k.calls k.promoted ≡ o →
    ◌>>=◌ o (λ π. some (promotion k K π)) ≡ some p → Finds (k ∷ K) p
in-finds k K p none e h = none-some h
in-finds k K p (some π) e h = subst (Finds (k ∷ K)) (some-injective h) (Promoted.here e)

or-finds : (k : Frame) (K : List Frame) (p : Promotion) (o : Option Promotion) → ((q : Promotion) → o ≡ some q → Finds K q) →
    or_else (map (above k) o) (promote_in k K) ≡ some p → Finds (k ∷ K) p
unfolding or_else promote_in
or-finds k K p none f h = in-finds k K p (get_elem? k.calls k.promoted) refl h
or-finds k K p (some q) f h =
    let g : Finds (k ∷ K) (above k q) = Promoted.under (f q refl) in
    subst (Finds (k ∷ K)) (some-injective h) g

finds : (K : List Frame) (p : Promotion) → oldest K ≡ some p → Finds K p
unfolding oldest
finds [] p h = none-some h
finds (k ∷ K) p h = or-finds k K p (oldest K) (finds K) h

at_call : {k : Frame} {π : ℕ} {K K' : List Frame} → Promoted k π K K' → get_elem? k.calls k.promoted ≡ some π
at_call (Promoted.here e) = e
at_call (Promoted.under q) = at_call q

-- frames of which one holds an unpromoted call are not all settled
unsettled : {k : Frame} {π : ℕ} {K K' : List Frame} → Promoted k π K K' → Each Settled K → ⊥
unsettled {k} (Promoted.here e) h = omega (arith, h.0, at-below k.calls k.promoted e)
unsettled (Promoted.under q) h = unsettled q h.1

owed_none : (f : ℕ → ℕ) (n : ℕ) (ρ : List ℕ) → (0 < n → ⊥) → owed f n ρ ≡ []
unfolding owed
owed_none f zero ρ h = refl
owed_none f (suc n) ρ h = absurd (h (omega arith))

-- the promise of the call comes first, where promoted calls are older than unpromoted ones
promises : (P : Program) {k : Frame} {π : ℕ} {K K' : List Frame} → Promoted k π K K' → Ordered K →
    promised P K' ≡ promise P (get_elem? P k.function) π ∷ promised P K
unfolding deque
promises P {k} (Promoted.here e) h = rw (owed_more (promise P (get_elem? P k.function)) k.promoted k.calls e)
promises P (Promoted.under {l = l} {K = K} q) h =
    let z : own P l ≡ [] = owed_none _ l.promoted l.calls (λ m. unsettled q (h.0 m)) in
    rw z (promises P q h.1)

module _ (P : Program) where
  abbrev opens_kept : {F : Function} {k : Frame} {b r : ℕ} (n : ℕ) → Opens P F k b r → Opens P F (deque k k.calls n) b r
  unfolding deque
  opens_kept n o = reopen _ refl refl (part-refl _) o

  callers-kept : {k : Frame} {π : ℕ} (n r : ℕ) {K K' : List Frame} → Promoted k π K K' → Callers P n K r → Callers P n K' r
  unfolding deque
  callers-kept n r (Promoted.here {K = K} e) c = (c.0, opens_kept _ c.1, c.2)
  callers-kept n r (Promoted.under q) c = (c.0, c.1, callers-kept c.0.signature.returns r q c.2)

  runs-kept : {F : Function} {k : Frame} (n : ℕ) → Runs P F k → Runs P F (deque k k.calls n)
  unfolding deque
  runs-kept n y =
      record {
        takes = y.takes;
        opens = opens_kept n y.opens;
        scope = y.scope;
        bound = y.bound;
        within = y.within;
        code = y.code;
      }

  -- the frame that holds the call is typed
  record Held (k : Frame) : Type 0 where
    function : Function
    block : ℕ
    takes : ℕ
    opens : Opens P function k block takes

  callers-held : {k : Frame} {π : ℕ} (n r : ℕ) {K K' : List Frame} → Promoted k π K K' → Callers P n K r → Held k
  callers-held n r (Promoted.here e) c = record { function = c.0; block = _; takes = n; opens = c.1 }
  callers-held n r (Promoted.under q) c = callers-held c.0.signature.returns r q c.2

  stack-held : {F : Function} (r : ℕ) {k : Frame} {π : ℕ} (l : Frame) (K : List Frame) {K' : List Frame} →
      Promoted k π (l ∷ K) K' → Runs P F l → Callers P F.signature.returns K r → Held k
  stack-held {F} r l K (Promoted.here e) u c = record { function = F; block = _; takes = u.takes; opens = u.opens }
  stack-held {F} r l K (Promoted.under q) u c = callers-held F.signature.returns r q c

  -- the parent stays typed, and its frames are those
  stack-kept : {F : Function} (t : Thread) (r : ℕ) {k : Frame} {π : ℕ} (l : Frame) (K K' : List Frame) →
      Promoted k π (l ∷ K) K' → Runs P F l → Callers P F.signature.returns K r →
      Typed P r (restacked t K') × (frames (restacked t K') ≡ K')
  stack-kept {F} t r l K K' (Promoted.here e) u c = (record { function = F; runs = runs-kept _ u; callers = c }, refl)
  stack-kept {F} t r l K K' (Promoted.under q) u c =
      (record { function = F; runs = u; callers = callers-kept F.signature.returns r q c }, refl)

module _ {P : Program} (W : WF-prog P) where
  -- the child that an open call of a typed frame spawns
  record Spawns (k : Frame) (π : ℕ) : Type 0 where
    function : Function
    newest : Frame
    is : child P k π ≡ some newest
    runs : Runs P function newest
    owes : own P newest ≡ []
    returns : promise P (get_elem? P k.function) π ≡ function.signature.returns

  -- an open call of a typed frame is there, with its arguments bound
  nested : {F : Function} {k : Frame} {b r : ℕ} {π : ℕ} (i : ℕ) (o : Opens P F k b r) → get_elem? k.calls i ≡ some π →
      Nested (env P F) o.block.head.scope π
  nested {F} {k} {b} {π = π} i o e =
      let N = (wf-block W k.function b o.function o.there).nested in
      let a : get_elem? o.block.head.nesting i ≡ some π = rw o.nests e in
      each_at (Nested (env P F) o.block.head.scope) o.block.head.nesting i N a

  spawns : {k : Frame} {π : ℕ} (i : ℕ) → Held P k → get_elem? k.calls i ≡ some π → Spawns k π
  unfolding child function_of env
  spawns {k} {π} i h e =
      let F = h.function in
      let o = h.opens in
      let f = o.function in
      let N = nested i o e in
      let S = N.spawned.call in
      let l = looked k S.arguments (part-each S.arguments o.scoped N.bound) in
      let C = each_at (WF-spawn (env P F)) F.spawns π (wf-fun W k.function f).spawns N.spawned.there in
      let c = callee-begins W F l.values C l.many in
      record {
        function = c.function;
        newest = begin S.function l.values;
        is = rw (f, N.spawned.there, l.is) c.begun.is;
        runs = c.begun.runs;
        owes = c.begun.owes;
        returns = promise-is P _ π {G = c.function} f N.spawned.there c.there;
      }

-- what a choice to promote makes
pub data Promotes (P : Program) (r : ℕ) (rs : List ℕ) : Result → Type 0 where
  goes : {ts : List Thread} → Forest P ts (r ∷ rs) → Promotes P r rs (Result.made No.promote ts)
  nothing : Promotes P r rs (Result.refused No.promoted)
  full : Promotes P r rs (Result.refused No.threads)

module _ {P : Program} (W : WF-prog P) {t : Thread} {r : ℕ} (y : Typed P r t) (s : IsThread P t) (ts : List Thread) (rs : List ℕ)
    (w : Forest P ts (promised P (frames t) ++ rs)) where
  promotes-in : (p : Promotion) → Finds (frames t) p →
      Promotes P r rs (spawned (restacked t p.frames) ts (child P p.holder p.call))
  unfolding spawned
  promotes-in p q =
      let c = spawns W p.holder.promoted (stack-held P r t.newest t.older q y.runs y.callers) (at_call q) in
      let k : Thread = born c.newest in
      let z : Typed P c.function.signature.returns k = record { function = c.function; runs = c.runs; callers = refl } in
      let g : Forest P ts (promised P (frames k) ++ (promised P (frames t) ++ rs)) = rw c.owes w in
      let u = stack-kept P t r t.newest t.older p.frames q y.runs y.callers in
      let e = ap (promised P) u.1 ∙ promises P q s.order ∙ ap (λ (n : ℕ). n ∷ promised P (frames t)) c.returns in
      rw c.is
      (Promotes.goes {ts = restacked t p.frames ∷ k ∷ ts} (u.0, subst⁻¹ (λ (ns : List ℕ). Forest P (k ∷ ts) (ns ++ rs)) e (z, g)))

  promoting-safe : (room : Bool) (o : Option Promotion) → oldest (frames t) ≡ o → Promotes P r rs (promoting P room t ts o)
  unfolding promoting
  promoting-safe room none e = Promotes.nothing
  promoting-safe false (some p) e = Promotes.full
  promoting-safe true (some p) e = promotes-in p (finds (frames t) p e)

  pub promotes : (room : Bool) → Promotes P r rs (promote P room t ts)
  unfolding promote
  promotes room = promoting-safe room (oldest (frames t)) refl
