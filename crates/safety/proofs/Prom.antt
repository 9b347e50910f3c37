-- Every step that makes rule 9 is a join of the claim, on any table that reads: what the claim says of joins leaves out none that
-- is made.
use Prim.Native.Nat.{ℕ, zero, suc, ◌≤◌}
use mathlib.Core.Path.{◌≡◌, refl, sym, ◌∙◌, ap}
use mathlib.Core.Logic.{◌≢◌}
use mathlib.Core.Bool.{Bool, true, false, cond}
use mathlib.Core.Option.{Option, none, some}
use mathlib.Core.List.{List, [], ◌∷◌}
use native.Mathlib.Numerals.{add-one}
use native.Mathlib.Omega.{arith}
use lib.Dec.{ltb}
use lib.IntN.{ℤ, pos}
use lib.ListN.{length, get_elem?}
use Rattle.model.specs.Numbers as No
use Rattle.model.specs.Answers.{Answer}
use Rattle.model.specs.Lists.{Each, Snoc, unsnoc, equal}
use Rattle.model.specs.Values.{same}
use Rattle.model.specs.Sets.{has, ◌∈◌}
use Rattle.model.specs.Syntax.{Statement, Transfer, Block, Program}
use Rattle.model.specs.Pool.{Frame, Thread, most_frames, frames, restacked, block_of}
use Rattle.model.specs.Frames.{look, look_all, eval, enter, callee}
use Rattle.model.specs.Rules as Rules
use Rattle.model.specs.Rules.{Act, Result, act}
use Rattle.model.specs.Calls as Calls
use Rattle.model.specs.Calls.{Lent, lent}
use Rattle.model.proofs.Facts.{refused-given, none-some, equal-same, each_at, ltb-false}
use Rattle.model.specs.Valid.{IsThread}
use Rattle.model.proofs.Valid.{pool-facts}
use Rattle.model.proofs.Words.{lent-given}
use Rattle.model.proofs.Kept.{OnSome, on-bind, on-is, on-when, on-carry, choose-kept}
use Rattle.safety.specs.NeverJams.{At, Join}
use Rattle.safety.proofs.Pools.{made-refused}

-- temporaries that have values are bound
abbrev Bound : Frame → List ℕ → Type 0
Bound k x̄ = Each (λ x. x ∈ k.bound) x̄

look-bound : (k : Frame) (x : ℕ) → OnSome (λ (v : ℤ). x ∈ k.bound) (look k x)
unfolding look
look-bound k x = on-when _ (has k.bound x) _ (λ h. h)

all-bound : (k : Frame) (x̄ : List ℕ) → OnSome (λ (v̄ : List ℤ). Bound k x̄) (look_all k x̄)
unfolding look_all
all-bound k [] = tt
all-bound k (x ∷ x̄) =
    on-bind _ (look k x) _ λ v e.
    on-bind _ (look_all k x̄) _ λ v̄ f.
    (on-is _ (look k x) (look-bound k x) e, on-is _ (look_all k x̄) (all-bound k x̄) f)

-- what a frame's next act says of where the frame stands
record AtReturn (P : Program) (k : Frame) : Type 0 where
  arguments : List ℕ
  at : At P k (Transfer.return arguments)
  nothing_open : k.calls ≡ []
  bound : Bound k arguments

record AtSpoin (P : Program) (k : Frame) : Type 0 where
  unpromoted : ℕ
  promoted : ℕ
  at : At P k (Transfer.spoin unpromoted promoted)
  some_open : k.calls ≢ []
  all_promoted : length k.calls ≤ k.promoted

abbrev Says : Program → Frame → Act → Type 0
Says P k (Act.refuse n) = Unit {0}
Says P k (Act.stay rule l) = rule ≢ No.prom
Says P k (Act.push l m) = Unit {0}
Says P k (Act.pop v̄) = AtReturn P k
Says P k (Act.join l c) = AtSpoin P k

module _ (P : Program) (k : Frame) where
  says-by : (rule : ℕ) (o : Option Frame) → rule ≢ No.prom → Says P k (Rules.by rule o)
  unfolding Rules.by
  says-by rule none d = tt
  says-by rule (some l) d = d

  says-acts : (o : Option Act) → OnSome (Says P k) o → Says P k (Rules.acts o)
  unfolding Rules.acts
  says-acts none h = tt
  says-acts (some a) h = h

  says-branch : (b c : ℕ) (t : Bool) → Says P k (Rules.branch P k b c t)
  unfolding Rules.branch
  says-branch b c true = says-by No.else _ (omega arith)
  says-branch b c false = says-by No.then _ (omega arith)

  says-closing : (b c : ℕ) (ρ : List ℕ) → At P k (Transfer.spoin b c) → k.calls ≢ [] → (t : Bool) →
      ltb k.promoted (length k.calls) ≡ t → Says P k (Rules.closing P k b c ρ t)
  unfolding Rules.closing
  says-closing b c ρ a d true e = says-by No.unpr _ (omega arith)
  says-closing b c ρ a d false e = record { unpromoted = b; promoted = c; at = a; some_open = d; all_promoted = ltb-false _ _ e }

  some-open : (I : Snoc ℕ) → unsnoc k.calls ≡ some I → k.calls ≢ []
  unfolding unsnoc
  some-open I e z = none-some (ap unsnoc (sym z) ∙ e)

  says-transfer : (T : Transfer) → At P k T → Says P k (Rules.transfer P k T)
  unfolding Rules.transfer Rules.goto Rules.if Rules.call Rules.return Rules.spork Rules.spoin
  says-transfer (Transfer.goto b x̄) a = says-by No.goto _ (omega arith)
  says-transfer (Transfer.if e b c) a =
      says-acts _ (on-bind (Says P k) (eval k e) _ λ w _. on-carry (Says P k) w _ tt λ v _. says-branch b c (same v (pos 0)))
  says-transfer (Transfer.call g x̄ b) a =
      says-acts _
      (on-bind (Says P k) (look_all k x̄) _ λ v̄ _.
      on-bind (Says P k) (callee P g v̄) _ λ l _.
      on-bind (Says P k) (block_of P k b) _ λ B _. tt)
  says-transfer (Transfer.return x̄) a =
      says-acts _
      (on-bind (Says P k) (look_all k x̄) _ λ v̄ f.
      on-when (Says P k) (equal k.calls []) _ λ e.
      record { arguments = x̄; at = a; nothing_open = equal-same k.calls [] e; bound = on-is _ (look_all k x̄) (all-bound k x̄) f })
  says-transfer (Transfer.spork b π) a = says-by No.spork _ (omega arith)
  says-transfer (Transfer.spoin b c) a =
      says-acts _
      (on-bind (Says P k) (unsnoc k.calls) _ λ I e.
      says-closing b c I.front a (some-open I e) (ltb k.promoted (length k.calls)) refl)

  says-coming : (B : Block) → block_of P k k.block ≡ some B → (o : Option Statement) → get_elem? B.code k.done ≡ o →
      Says P k (Rules.coming P k B o)
  unfolding Rules.coming Rules.stmt Rules.assign
  says-coming B e none d = says-transfer B.transfer (record { block = B; there = e; done = d; is = refl })
  says-coming B e (some s) d =
      says-acts _ (on-bind (Says P k) (eval k s.source) _ λ w _. on-carry (Says P k) w _ tt λ v _. omega arith)

  says : Says P k (act P k)
  unfolding act
  says = says-acts _ (on-bind (Says P k) (block_of P k k.block) _ λ B e. says-coming B e (get_elem? B.code k.done) refl)

-- an ended thread has one frame, at a return
module _ (P : Program) where
  ended-returns : (k : Frame) (K : List Frame) {v̄ : List ℤ} (a : Act) → Says P k a → Rules.returned K a ≡ some v̄ →
      (K ≡ []) × AtReturn P k
  unfolding Rules.returned
  ended-returns k [] (Act.refuse n) h e = none-some e
  ended-returns k [] (Act.stay rule l) h e = none-some e
  ended-returns k [] (Act.push l m) h e = none-some e
  ended-returns k [] (Act.pop w̄) h e = (refl, h)
  ended-returns k [] (Act.join l c) h e = none-some e
  ended-returns k (l ∷ K) a h e = none-some e

  -- a thread at a promoted spoin, and the ended thread directly behind it
  record Meets (t : Thread) (ts : List Thread) : Type 0 where
    child : Thread
    next : get_elem? ts 0 ≡ some child
    spoin : AtSpoin P t.newest
    one_frame : child.older ≡ []
    return : AtReturn P child.newest

  made-rule : {m n : ℕ} {p q : List Thread} → Result.made m p ≡ Result.made n q → m ≡ n
  made-rule e = cc

  refused-made : {A : Type 0} {n rule : ℕ} {p : List Thread} → Result.refused n ≡ Result.made rule p → A
  refused-made e = made-refused (sym e)

  -- entering a block by another rule than 9
  not_top : {A : Type 0} {p : List Thread} (rule : ℕ) (t : Thread) (K : List Frame) (ts : List Thread) (o : Option Frame) →
      rule ≢ No.prom → Rules.on_top rule t K ts o ≡ Result.made No.prom p → A
  unfolding Rules.on_top
  not_top rule t K ts none d e = refused-made e
  not_top rule t K ts (some l) d e = absurd (d (made-rule e))

  not-pop : {A : Type 0} {p : List Thread} (t : Thread) (K : List Frame) (ts : List Thread) (v̄ : List ℤ) →
      Rules.popping P t K ts v̄ ≡ Result.made No.prom p → A
  unfolding Rules.popping
  not-pop t [] ts v̄ e = refused-made e
  not-pop t (k ∷ K) ts v̄ e = not_top No.return t K ts (enter P k k.block v̄) (omega arith) e

  not-push : {A : Type 0} {p : List Thread} (q : List Thread) (room : Bool) →
      cond room (Result.made No.call q) (Result.refused No.frames) ≡ Result.made No.prom p → A
  not-push q true e = absurd (omega (arith, made-rule e))
  not-push q false e = refused-made e

  meets-child : {p : List Thread} (t u : Thread) (ts : List Thread) (l : Frame) (c : ℕ) →
      AtSpoin P t.newest → (o : Option (List ℤ)) → Rules.ended P u ≡ o → Rules.joining P t l c ts o ≡ Result.made No.prom p →
      Meets t (u ∷ ts)
  unfolding Rules.joining Rules.ended
  meets-child t u ts l c h none d e = refused-made e
  meets-child t u ts l c h (some v̄) d e =
      let r = ended-returns u.newest u.older (act P u.newest) (says P u.newest) d in
      record { child = u; next = refl; spoin = h; one_frame = r.0; return = r.1 }

  meets-join : {p : List Thread} (t : Thread) (ts : List Thread) (l : Frame) (c : ℕ) → AtSpoin P t.newest →
      Rules.joins P t l c ts ≡ Result.made No.prom p → Meets t ts
  unfolding Rules.joins
  meets-join t [] l c h e = refused-made e
  meets-join t (u ∷ ts) l c h e = meets-child t u ts l c h (Rules.ended P u) refl e

  meets-apply : {p : List Thread} (t : Thread) (ts : List Thread) (a : Act) → Says P t.newest a →
      Rules.apply P t ts a ≡ Result.made No.prom p → Meets t ts
  unfolding Rules.apply
  meets-apply t ts (Act.refuse n) h e = refused-made e
  meets-apply t ts (Act.stay rule l) h e = absurd (h (made-rule e))
  meets-apply t ts (Act.push l m) h e = not-push (restacked t (m ∷ l ∷ t.older) ∷ ts) (ltb (length (frames t)) most_frames) e
  meets-apply t ts (Act.pop v̄) h e = not-pop t t.older ts v̄ e
  meets-apply t ts (Act.join l c) h e = meets-join t ts l c h e

  meets : {p : List Thread} (t : Thread) (ts : List Thread) → Rules.step P t ts ≡ Result.made No.prom p → Meets t ts
  unfolding Rules.step
  meets t ts e = meets-apply t ts (act P t.newest) (says P t.newest) e

  -- the thread that is put the step, and the one behind it
  record Stands (p : List Thread) (i : ℕ) : Type 0 where
    thread : Thread
    there : get_elem? p i ≡ some thread
    behind : List Thread
    next : get_elem? p (suc i) ≡ get_elem? behind 0
    meets : Meets thread behind

  behind-made : (t : Thread) {rule : ℕ} {p : List Thread} (x : Result) → Rules.behind t x ≡ Result.made rule p →
      (q : List Thread) × (x ≡ Result.made rule q)
  unfolding Rules.behind
  behind-made t (Result.made rule q) e = (q, ap (λ (m : ℕ). Result.made m q) (made-rule e))
  behind-made t (Result.refused n) e = refused-made e

  stands : {p' : List Thread} (p : List Thread) (i : ℕ) → Rules.on_thread (Rules.step P) p i ≡ Result.made No.prom p' → Stands p i
  unfolding Rules.on_thread
  stands [] i e = refused-made e
  stands (t ∷ ts) zero e = record { thread = t; there = refl; behind = ts; next = refl; meets = meets t ts e }
  stands {p' = p'} (t ∷ ts) (suc i) e =
      let b = behind-made t (Rules.on_thread (Rules.step P) ts i) e in
      let s = stands {p' = b.0} ts i b.1 in
      record { thread = s.thread; there = s.there; behind = s.behind; next = s.next; meets = s.meets }

-- a step that makes rule 9 is a join
pub prom-joins : (s : List ℕ) (ws : List ℤ) (i : ℕ) → (Calls.choose s ws 0 i).answer ≡ Answer.given No.prom →
    Join s (record { words = ws; kind = 0; thread = i })
unfolding Rules.choice Calls.choose Calls.chosen
prom-joins s ws i a = go (lent s ws) refl
  where
    go : (l : Answer Lent) → lent s ws ≡ l → Join s (record { words = ws; kind = 0; thread = i })
    go (Answer.refused r) e = refused-given (sym (ap (λ (l : Answer Lent). (Calls.chosen ws l 0 i).answer) e) ∙ a)
    go (Answer.given l) e =
        let c = choose-kept s ws 0 i No.prom l e a in
        let t = stands l.table l.pool i c.made in
        let m = t.meets in
        let v = pool-facts l.table l.pool (lent-given s ws l e).valid in
        let h = each_at (IsThread l.table) l.pool i v.each t.there in
        record {
          step = refl;
          lends = l;
          pool = e;
          parent = t.thread;
          child = m.child;
          parent_there = t.there;
          child_there = rw (add-one i) (t.next ∙ m.next);
          unpromoted = m.spoin.unpromoted;
          promoted = m.spoin.promoted;
          at_spoin = m.spoin.at;
          some_open = m.spoin.some_open;
          all_promoted = omega (arith, m.spoin.all_promoted, h.newest.promoted);
          arguments = m.return.arguments;
          one_frame = m.one_frame;
          at_return = m.return.at;
          nothing_open = m.return.nothing_open;
          bound = m.return.bound;
        }
