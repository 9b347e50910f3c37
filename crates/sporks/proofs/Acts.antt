-- What a typed newest frame's next act leaves of its open calls.
use Prim.Native.Nat.{ℕ, ◌+◌, ◌-◌, ◌<◌}
use mathlib.Core.Path.{◌≡◌, refl, sym, ◌∙◌, ap, subst}
use mathlib.Core.Bool.{Bool, true, false}
use mathlib.Core.Option.{Option, none, some}
use mathlib.Core.List.{List, [], ◌∷◌, ◌++◌, map, map-append}
use native.Mathlib.Omega.{arith}
use lib.Dec.{ltb}
use lib.IntN.{ℤ, pos}
use lib.ListN.{length, get_elem?, drop}
use Rattle.model.specs.Numbers as No
use Rattle.model.specs.Lists.{Snoc, unsnoc, equal}
use Rattle.model.specs.Values.{same}
use Rattle.model.specs.Syntax.{Statement, Transfer, Function, Program}
use Rattle.model.specs.WellFormed.{env, WF-cont, Innermost, WF-transfer, WF-code, WF-prog}
use Rattle.model.specs.Pool.{Frame, begin, function_of, block_of, most_calls}
use Rattle.model.specs.Frames.{look_all, eval, bind, go_to, deque, enter, callee}
use Rattle.model.specs.Rules as Rules
use Rattle.model.specs.Rules.{Act, act}
use Rattle.model.proofs.Facts.{each_at, drop-some, some-injective, unsnoc-some, unsnoc-snoc, equal-same}
use Rattle.model.proofs.Sets.{Part, part-each}
use Rattle.model.proofs.Kept.{OnSome, on-bind, on-is, on-when, on-carry}
use Rattle.safety.specs.NeverJams.{At}
use Rattle.safety.proofs.Typing.{Opens, Runs}
use Rattle.safety.proofs.Owed.{last-at}
use Rattle.safety.proofs.Frames.{looked, cont-opens, block-of}
use Rattle.safety.proofs.Acts.{at-transfer}
use Rattle.sporks.specs.Handed.{arguments_of, OpenCall, standing}
use Rattle.sporks.proofs.Values.{opened, keeps-trans, keeps-part, keeps-bind, keeps-go_to, calls-kept, deque-opened}
use Rattle.sporks.proofs.Values.{moved-opened, arguments-are, nested-in, enter-opened}

-- a frame at a spork, and the call that it opens as it stands there
pub record AtSpork (P : Program) (k : Frame) (o : OpenCall) : Type 0 where
  pub body : ℕ
  pub call : ℕ
  pub at : At P k (Transfer.spork body call)
  pub values : List ℤ
  pub had : arguments_of P k call ≡ some values
  pub is : o ≡ record { function = k.function; call = call; arguments = some values }

-- the open calls that a rule of the frame k leaves it with: the same, one more, or all but the last
pub data Turned (P : Program) (k : Frame) : ℕ → List OpenCall → Type 0 where
  keeps : {rule : ℕ} {xs : List OpenCall} → rule < No.spork → xs ≡ opened P k → Turned P k rule xs
  opens : {xs : List OpenCall} {o : OpenCall} → AtSpork P k o → xs ≡ opened P k ++ (o ∷ []) → Turned P k No.spork xs
  closes : {xs : List OpenCall} (o : OpenCall) → opened P k ≡ xs ++ (o ∷ []) → Turned P k No.unpr xs

-- and so an act
abbrev pub Leaves : Program → Frame → Act → Type 0
Leaves P k (Act.refuse n) = Unit {0}
Leaves P k (Act.stay rule l) = Turned P k rule (opened P l)
Leaves P k (Act.push l m) = (opened P l ≡ opened P k) × (opened P m ≡ [])
Leaves P k (Act.pop v̄) = opened P k ≡ []
Leaves P k (Act.join l c) = (o : OpenCall) × (opened P k ≡ opened P l ++ (o ∷ []))

-- a callee's first frame has nothing open
pub begin-opened : (P : Program) (g : ℕ) (v̄ : List ℤ) → opened P (begin g v̄) ≡ []
unfolding begin
begin-opened P g v̄ = refl

callee-opened : (P : Program) (g : ℕ) (v̄ : List ℤ) → OnSome (λ l. opened P l ≡ []) (callee P g v̄)
unfolding callee
callee-opened P g v̄ = on-bind _ (get_elem? P g) _ λ G _. on-when _ _ _ λ _. begin-opened P g v̄

on-map : {A : Type 0} {Q R : A → Type 0} (o : Option A) → ((a : A) → Q a → R a) → OnSome Q o → OnSome R o
on-map none f h = tt
on-map (some a) f h = f a h

module _ (P : Program) (k : Frame) where
  leaves_by : (rule : ℕ) (o : Option Frame) → rule < No.spork → OnSome (λ l. opened P l ≡ opened P k) o → Leaves P k (Rules.by rule o)
  unfolding Rules.by
  leaves_by rule none n h = tt
  leaves_by rule (some l) n h = Turned.keeps n h

  -- the frame l has one more open call, or k has one more
  abbrev More : OpenCall → Frame → Type 0
  More a l = opened P l ≡ opened P k ++ (a ∷ [])

  abbrev Less : OpenCall → Frame → Type 0
  Less a l = opened P k ≡ opened P l ++ (a ∷ [])

  abbrev Alike : Frame → Type 0
  Alike l = opened P l ≡ opened P k

  leaves-opens : (o : Option Frame) {a : OpenCall} → AtSpork P k a → OnSome (More a) o → Leaves P k (Rules.by No.spork o)
  unfolding Rules.by
  leaves-opens none a h = tt
  leaves-opens (some l) a h = Turned.opens a h

  leaves-closes : (o : Option Frame) (a : OpenCall) → OnSome (Less a) o → Leaves P k (Rules.by No.unpr o)
  unfolding Rules.by
  leaves-closes none a h = tt
  leaves-closes (some l) a h = Turned.closes a h

  leaves-acts : (o : Option Act) → OnSome (Leaves P k) o → Leaves P k (Rules.acts o)
  unfolding Rules.acts
  leaves-acts none h = tt
  leaves-acts (some a) h = h

  spork-stands : (π : ℕ) {v̄ : List ℤ} → arguments_of P k π ≡ some v̄ →
      standing P k π ≡ record { function = k.function; call = π; arguments = some v̄ }
  unfolding standing
  spork-stands π e = rw e

  -- the last of the open calls
  last-opened : (ρ : List ℕ) (π : ℕ) → k.calls ≡ ρ ++ (π ∷ []) → opened P k ≡ map (standing P k) ρ ++ (standing P k π ∷ [])
  last-opened ρ π e = ap (map (standing P k)) e ∙ map-append (standing P k) ρ (π ∷ [])

  less : (I : Snoc ℕ) → k.calls ≡ I.front ++ (I.last ∷ []) → (l : Frame) → opened P l ≡ map (standing P k) I.front →
      Less (standing P k I.last) l
  less I e l i =
      last-opened I.front I.last e ∙ ap (λ (xs : List OpenCall). xs ++ (standing P k I.last ∷ [])) (sym i)

module _ {P : Program} (W : WF-prog P) {F : Function} (k : Frame) (f : get_elem? P k.function ≡ some F) {Γ : ℕ}
    (p : Part Γ k.bound) where
  enters : {b r : ℕ} (v̄ : List ℤ) → WF-cont (env P F) Γ k.calls b r → OnSome (λ l. opened P l ≡ opened P k) (enter P k b v̄)
  enters v̄ c = enter-opened W v̄ (cont-opens k f p refl c)

  leaves-branch : (b c : ℕ) → WF-cont (env P F) Γ k.calls b 0 → WF-cont (env P F) Γ k.calls c 0 → (t : Bool) →
      Leaves P k (Rules.branch P k b c t)
  unfolding Rules.branch
  leaves-branch b c B C true = leaves_by P k No.else _ (omega arith) (enters [] C)
  leaves-branch b c B C false = leaves_by P k No.then _ (omega arith) (enters [] B)

  -- a spork: the arguments of its call have values, since they lie in the scope of the body
  leaves-spork : (b π : ℕ) → At P k (Transfer.spork b π) → WF-transfer (env P F) Γ k.calls (Transfer.spork b π) →
      Leaves P k (Rules.spork P k b π)
  unfolding WF-transfer Rules.spork function_of env deque
  leaves-spork b π a h =
      let ρ = k.calls ++ (π ∷ []) in
      let k₀ = deque k ρ k.promoted in
      let o : Opens P F k₀ b 0 = cont-opens k₀ f p refl h.1 in
      let N = each_at _ ρ (length k.calls) (nested-in W o) (last-at k.calls π) in
      let S = N.spawned.call in
      let l = looked k S.arguments (part-each S.arguments o.scoped N.bound) in
      let v : arguments_of P k π ≡ some l.values = arguments-are P k π f N.spawned.there ∙ l.is in
      let e : opened P k₀ ≡ opened P k ++ (standing P k π ∷ []) =
      deque-opened P k ρ k.promoted ∙ map-append (standing P k) k.calls (π ∷ [])
      in
      leaves-opens P k _ (record { body = b; call = π; at = a; values = l.values; had = v; is = spork-stands P k π v })
      (on-bind (More P k (standing P k π)) (get_elem? P k.function) _ λ G _.
      on-bind (More P k (standing P k π)) (get_elem? G.spawns π) _ λ _ _.
      on-when (More P k (standing P k π)) (ltb (length k.calls) most_calls) (enter P k₀ b []) λ _.
      on-map (enter P k₀ b []) (λ l i. i ∙ e) (enter-opened W [] o))

  leaves-closing : (b c : ℕ) (I : Snoc ℕ) → k.calls ≡ I.front ++ (I.last ∷ []) → WF-cont (env P F) Γ I.front b 0 → (t : Bool) →
      Leaves P k (Rules.closing P k b c I.front t)
  unfolding Rules.closing deque
  leaves-closing b c I e B true =
      let k₀ = deque k I.front k.promoted in
      leaves-closes P k (enter P k₀ b []) (standing P k I.last)
      (on-map (enter P k₀ b []) (λ l i. less P k I e l (i ∙ deque-opened P k I.front k.promoted))
      (enter-opened W [] (cont-opens k₀ f p refl B)))
  leaves-closing b c I e B false =
      let n = k.promoted - 1 in
      (standing P k I.last, less P k I e (deque k I.front n) (deque-opened P k I.front n))

  -- the nesting that a spoin leaves is all but the last of the open calls
  spoin-to : {b : ℕ} (I : Snoc ℕ) → unsnoc k.calls ≡ some I → (J : Innermost (env P F) k.calls) →
      WF-cont (env P F) Γ J.front b 0 → WF-cont (env P F) Γ I.front b 0
  spoin-to {b} I e J c =
      let u = some-injective (sym (unsnoc-snoc J.front J.last) ∙ sym (ap unsnoc J.is) ∙ e) in
      subst (λ (S : Snoc ℕ). WF-cont (env P F) Γ S.front b 0) u c

  leaves-transfer : (T : Transfer) → At P k T → WF-transfer (env P F) Γ k.calls T → Leaves P k (Rules.transfer P k T)
  unfolding WF-transfer Rules.transfer Rules.goto Rules.if Rules.call Rules.return Rules.spoin go_to
  leaves-transfer (Transfer.goto b x̄) a h =
      leaves_by P k No.goto _ (omega arith) (on-bind (Alike P k) (look_all k x̄) _ λ v̄ _. enters v̄ h.1)
  leaves-transfer (Transfer.if e b c) a h =
      leaves-acts P k _
      (on-bind (Leaves P k) (eval k e) _ λ w _.
      on-carry (Leaves P k) w _ tt λ v _. leaves-branch b c h.1 h.2 (same v (pos 0)))
  leaves-transfer (Transfer.call g x̄ b) a h =
      leaves-acts P k _
      (on-bind (Leaves P k) (look_all k x̄) _ λ v̄ _.
      on-bind (Leaves P k) (callee P g v̄) _ λ l e.
      on-bind (Leaves P k) (block_of P k b) _ λ B _.
      (moved-opened P k b 0, on-is _ (callee P g v̄) (callee-opened P g v̄) e))
  leaves-transfer (Transfer.return x̄) a h =
      leaves-acts P k _
      (on-bind (Leaves P k) (look_all k x̄) _ λ v̄ _.
      on-when (Leaves P k) (equal k.calls []) _ λ e.
      ap (map (standing P k)) (equal-same k.calls [] e))
  leaves-transfer (Transfer.spork b π) a h = leaves-spork b π a h
  leaves-transfer (Transfer.spoin b c) a h =
      leaves-acts P k _
      (on-bind (Leaves P k) (unsnoc k.calls) _ λ I e.
      leaves-closing b c I (unsnoc-some k.calls I e) (spoin-to I e h.0 h.1) (ltb k.promoted (length k.calls)))

module _ {P : Program} (W : WF-prog P) {F : Function} {k : Frame} (r : Runs P F k) where
  -- a statement binds what is not bound
  leaves-stmt : {s : Statement} → get_elem? r.opens.block.code k.done ≡ some s → Leaves P k (Rules.stmt k s)
  unfolding Rules.stmt Rules.assign WF-code go_to bind
  leaves-stmt {s} e =
      let B = r.opens.block in
      let C = s ∷ drop (k.done + 1) B.code in
      let c : WF-code (env P F) r.scope k.calls C B.transfer = rw (drop-some B.code k.done e) at r.code in
      leaves-acts P k _
      (on-bind (Leaves P k) (eval k s.source) _ λ w _.
      on-carry (Leaves P k) w _ tt λ v _.
      let h = keeps-part r.within (keeps-bind k s.target v c.1) in
      Turned.keeps {rule = No.stmt} (omega arith)
      (calls-kept P r.opens.function (keeps-trans h (keeps-go_to (bind k s.target v) k.block (k.done + 1))) k.calls
      (nested-in W r.opens)))

  leaves-coming : (o : Option Statement) → get_elem? r.opens.block.code k.done ≡ o →
      Leaves P k (Rules.coming P k r.opens.block o)
  unfolding Rules.coming
  leaves-coming (some s) e = leaves-stmt e
  leaves-coming none e =
      let f = r.opens.function in
      let a : At P k r.opens.block.transfer =
      record { block = r.opens.block; there = block-of P k k.block f r.opens.there; done = e; is = refl }
      in
      leaves-transfer W k f r.bound r.opens.block.transfer a (at-transfer r e)

  -- what a typed newest frame leaves
  pub leaves : Leaves P k (act P k)
  unfolding act Rules.acts
  leaves =
      rw (block-of P k k.block r.opens.function r.opens.there)
      (leaves-coming (get_elem? r.opens.block.code k.done) refl)
