-- What a typed newest frame does next: it goes on typed, calls, returns as many values as its function declares, waits at a promoted
-- spoin, or overflows. It is never stuck.
use Prim.Native.Nat.{ℕ, ◌+◌, ◌-◌, ◌≤◌, ◌<◌}
use mathlib.Core.Path.{◌≡◌, refl, sym, ◌∙◌, ap}
use mathlib.Core.Bool.{Bool, true, false}
use mathlib.Core.Option.{Option, none, some}
use mathlib.Core.List.{List, [], ◌∷◌, ◌++◌}
use native.Mathlib.Omega.{arith}
use lib.Dec.{ltb}
use lib.IntN.{ℤ, pos}
use lib.ListN.{length, get_elem?, drop, length-append}
use Rattle.model.specs.Numbers as No
use Rattle.model.specs.Lists.{unsnoc}
use Rattle.model.specs.Values.{same}
use Rattle.model.specs.Sets.{with}
use Rattle.model.specs.Syntax.{Expression, Statement, Transfer, Block, Signature, Function, Program, uses}
use Rattle.model.specs.WellFormed.{env, signature_of, WF-cont, Innermost, WF-transfer, WF-code, WF-prog}
use Rattle.model.specs.Limits.{InBlock, InFunction, Limits}
use Rattle.model.specs.Pool.{Frame, function_of, most_calls}
use Rattle.model.specs.Frames.{when, bind, go_to, deque, enter}
use Rattle.model.specs.Rules.{Act, by, acts, assign, stmt, goto, branch, if, call, return, spork, closing, spoin, transfer, coming}
use Rattle.model.specs.Rules.{act}
use Rattle.model.proofs.Facts.{map-some, each_at, drop-some, drop-none, unsnoc-snoc, same-equal, ltb-true, ltb-false, lt-ltb}
use Rattle.model.proofs.Kept.{on-carry}
use Rattle.model.proofs.Sets.{Part, part-refl, part-trans, part-more, part-with, part-each}
use Rattle.safety.proofs.Typing.{Opens, Runs, promise, own}
use Rattle.safety.proofs.Owed.{owed-append, owed-nil, owed-last, promise-is}
use Rattle.safety.proofs.Frames.{looked, eval-bound, reopen, cont-opens, block-of, Entered, enters, callee-begins}

-- rules 1 to 9
abbrev pub Ordinary : ℕ → Type 0
Ordinary rule = (No.stmt ≤ rule) × (rule ≤ No.prom)

-- what a newest frame of F may do
pub data Does (P : Program) (F : Function) (k : Frame) : Act → Type 0 where
  stays : {rule : ℕ} {k' : Frame} → Ordinary rule → Runs P F k' → own P k' ≡ own P k → Does P F k (Act.stay rule k')
  calls : {k' l : Frame} {G : Function} → Opens P F k' k'.block G.signature.returns → own P k' ≡ own P k → Runs P G l →
      own P l ≡ [] → Does P F k (Act.push k' l)
  returns : {v̄ : List ℤ} → length v̄ ≡ F.signature.returns → own P k ≡ [] → Does P F k (Act.pop v̄)
  joins : {k' : Frame} {c r : ℕ} → Opens P F k' c r → own P k ≡ r ∷ own P k' → Does P F k (Act.join k' c)
  overflows : Does P F k (Act.refuse No.overflow)

-- a frame whose statements are done stands at a well-formed transfer
pub at-transfer : {P : Program} {F : Function} {k : Frame} (r : Runs P F k) → get_elem? r.opens.block.code k.done ≡ none →
    WF-transfer (env P F) r.scope k.calls r.opens.block.transfer
unfolding WF-code
at-transfer {P} {F} {k} r e =
    let B = r.opens.block in
    let c : WF-code (env P F) r.scope k.calls [] B.transfer = rw (drop-none B.code k.done e) at r.code in
    c

-- the last open call of a frame promises what the function that it spawns returns
pub own-last : (P : Program) {F : Function} (k : Frame) → get_elem? P k.function ≡ some F →
    (I : Innermost (env P F) k.calls) → k.promoted ≡ length k.calls →
    own P k ≡ I.callee.returns ∷ own P (deque k I.front (k.promoted - 1))
unfolding deque env
own-last P {F} k f I m =
    let G = map-some signature_of (get_elem? P I.spawned.call.function) I.there in
    let g : promise P (some F) I.last ≡ I.callee.returns =
    promise-is P (some F) I.last refl I.spawned.there G.1 ∙ ap (λ (S : Signature). S.returns) G.2
    in
    let e : k.promoted ≡ length (I.front ++ (I.last ∷ [])) = m ∙ ap length I.is in
    rw (f, I.is, ← g) (owed-last (promise P (some F)) k.promoted I.front I.last e)

module _ {P : Program} (W : WF-prog P) (L : Limits P) where
  -- a nesting has at most four calls
  few-nested : {F : Function} {B : Block} (g b : ℕ) → get_elem? P g ≡ some F → get_elem? F.blocks b ≡ some B →
      length B.head.nesting ≤ most_calls
  few-nested {F} g b f e = (each_at InBlock F.blocks b (each_at InFunction P g L.functions f).blocks e).head.nesting

  module _ {F : Function} (k : Frame) (f : get_elem? P k.function ≡ some F) where
    -- a rule that enters a block, perhaps with other open calls
    goes : {k₀ : Frame} {b : ℕ} {v̄ : List ℤ} (rule : ℕ) → Ordinary rule → Entered W F k₀ b v̄ → own P k₀ ≡ own P k →
        Does P F k (by rule (enter P k₀ b v̄))
    unfolding by
    goes rule r e o = rw e.is (Does.stays r e.runs o)

    module _ {Γ : ℕ} (p : Part Γ k.bound) where
      does-goto : (b : ℕ) (x̄ : List ℕ) → WF-transfer (env P F) Γ k.calls (Transfer.goto b x̄) → Does P F k (goto P k b x̄)
      unfolding WF-transfer goto
      does-goto b x̄ h =
          let l = looked k x̄ (part-each x̄ p h.0) in
          rw l.is (goes No.goto (omega arith) (enters W l.values (cont-opens k f p refl h.1) l.many) refl)

      does-branch : (b c : ℕ) → WF-cont (env P F) Γ k.calls b 0 → WF-cont (env P F) Γ k.calls c 0 → (t : Bool) →
          Does P F k (branch P k b c t)
      unfolding branch
      does-branch b c B C true = goes No.else (omega arith) (enters W [] (cont-opens k f p refl C) refl) refl
      does-branch b c B C false = goes No.then (omega arith) (enters W [] (cont-opens k f p refl B) refl) refl

      does-if : (e : Expression) (b c : ℕ) → WF-transfer (env P F) Γ k.calls (Transfer.if e b c) → Does P F k (if P k e b c)
      unfolding WF-transfer if acts
      does-if e b c h =
          let w = eval-bound k e (part-each (uses e) p h.0) in
          rw w.1 (on-carry (Does P F k) w.0 _ Does.overflows λ v _. does-branch b c h.1 h.2 (same v (pos 0)))

      does_call : (g : ℕ) (x̄ : List ℕ) (b : ℕ) → WF-transfer (env P F) Γ k.calls (Transfer.call g x̄ b) →
          Does P F k (call P k g x̄ b)
      unfolding WF-transfer call acts go_to
      does_call g x̄ b h =
          let l = looked k x̄ (part-each x̄ p h.0) in
          let c = callee-begins W F l.values h.1.0 l.many in
          let o : Opens P F k b c.function.signature.returns = rw c.signed (cont-opens k f p refl h.1.1) in
          rw (l.is, c.begun.is, block-of P k b f o.there)
          (Does.calls {G = c.function} (reopen _ refl refl (part-refl _) o) refl c.begun.runs c.begun.owes)

      does-return : (x̄ : List ℕ) → WF-transfer (env P F) Γ k.calls (Transfer.return x̄) → Does P F k (return k x̄)
      unfolding WF-transfer return acts env when
      does-return x̄ h =
          let l = looked k x̄ (part-each x̄ p h.0) in
          rw (l.is, same-equal k.calls [] h.2) (Does.returns (l.many ∙ h.1) (rw h.2 (owed-nil _ k.promoted)))

      does-spork : k.promoted ≤ length k.calls → (b π : ℕ) → WF-transfer (env P F) Γ k.calls (Transfer.spork b π) →
          Does P F k (spork P k b π)
      unfolding WF-transfer spork env when function_of deque
      does-spork n b π h =
          let k₀ = deque k (k.calls ++ (π ∷ [])) k.promoted in
          let o : Opens P F k₀ b 0 = cont-opens k₀ f p refl h.1 in
          let m : length k.calls < most_calls =
          omega (arith, few-nested k.function b f o.there, ap length o.nests, length-append k.calls (π ∷ []))
          in
          rw (f, h.0.there, lt-ltb _ _ m)
          (goes No.spork (omega arith) (enters W [] o refl) (owed-append _ k.promoted k.calls (π ∷ []) n))

      does-closing : k.promoted ≤ length k.calls → (b c : ℕ) (I : Innermost (env P F) k.calls) →
          WF-cont (env P F) Γ I.front b 0 → WF-cont (env P F) Γ I.front c I.callee.returns → (t : Bool) →
          ltb k.promoted (length k.calls) ≡ t → Does P F k (closing P k b c I.front t)
      unfolding closing deque
      does-closing n b c I B C true t =
          let k₀ = deque k I.front k.promoted in
          let m : k.promoted ≤ length I.front =
          omega (arith, ltb-true k.promoted (length k.calls) t, ap length I.is, length-append I.front (I.last ∷ []))
          in
          let o : own P k₀ ≡ own P k = rw I.is (sym (owed-append _ k.promoted I.front (I.last ∷ []) m)) in
          goes No.unpr (omega arith) (enters W [] (cont-opens k₀ f p refl B) refl) o
      does-closing n b c I B C false t =
          let m : k.promoted ≡ length k.calls = omega (arith, ltb-false k.promoted (length k.calls) t) in
          Does.joins (cont-opens _ f p refl C) (own-last P k f I m)

      does-spoin : k.promoted ≤ length k.calls → (b c : ℕ) → WF-transfer (env P F) Γ k.calls (Transfer.spoin b c) →
          Does P F k (spoin P k b c)
      unfolding WF-transfer spoin acts
      does-spoin n b c h =
          let I = h.0 in
          let u = unsnoc-snoc I.front I.last in
          rw (ap unsnoc I.is, u) (does-closing n b c I h.1 h.2 (ltb k.promoted (length k.calls)) refl)

      does-transfer : k.promoted ≤ length k.calls → (T : Transfer) → WF-transfer (env P F) Γ k.calls T →
          Does P F k (transfer P k T)
      unfolding transfer
      does-transfer n (Transfer.goto b x̄) h = does-goto b x̄ h
      does-transfer n (Transfer.if e b c) h = does-if e b c h
      does-transfer n (Transfer.call g x̄ b) h = does_call g x̄ b h
      does-transfer n (Transfer.return x̄) h = does-return x̄ h
      does-transfer n (Transfer.spork b π) h = does-spork n b π h
      does-transfer n (Transfer.spoin b c) h = does-spoin n b c h

  does-stmt : {F : Function} {k : Frame} (r : Runs P F k) {s : Statement} →
      get_elem? r.opens.block.code k.done ≡ some s → Does P F k (stmt k s)
  unfolding stmt acts assign bind go_to WF-code
  does-stmt {F} {k} r {s} e =
      let B = r.opens.block in
      let C = s ∷ drop (k.done + 1) B.code in
      let c : WF-code (env P F) r.scope k.calls C B.transfer = rw (drop-some B.code k.done e) at r.code in
      let w = eval-bound k s.source (part-each (uses s.source) r.bound c.0) in
      let k' : ℤ → Frame = λ v. go_to (bind k s.target v) k.block (k.done + 1) in
      let r' : (v : ℤ) → Runs P F (k' v) =
      λ v.
      record {
        takes = r.takes;
        opens = reopen (k' v) refl refl (part-more k.bound s.target) r.opens;
        scope = with r.scope s.target;
        bound = part-with s.target r.bound;
        within = part-trans r.within (part-more r.scope s.target);
        code = c.2;
      }
      in
      rw w.1 (on-carry (Does P F k) w.0 _ Does.overflows λ v _. Does.stays {rule = No.stmt} (omega arith) (r' v) refl)

  module _ {F : Function} {k : Frame} (r : Runs P F k) (n : k.promoted ≤ length k.calls) where
    does-coming : (o : Option Statement) → get_elem? r.opens.block.code k.done ≡ o →
        Does P F k (coming P k r.opens.block o)
    unfolding coming
    does-coming (some s) e = does-stmt r e
    does-coming none e = does-transfer k r.opens.function r.bound n r.opens.block.transfer (at-transfer r e)

    -- a typed newest frame does one of the five
    pub does : Does P F k (act P k)
    unfolding act acts
    does =
        rw (block-of P k k.block r.opens.function r.opens.there)
        (does-coming (get_elem? r.opens.block.code k.done) refl)
