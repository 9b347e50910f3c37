-- A choice that is made takes a pool of a table that reads to a pool of that table.
use Prim.Native.Nat.{ℕ, zero, suc, ◌+◌, ◌-◌, ◌≤◌, ◌<◌, zero-le, suc-le-suc}
use mathlib.Core.Path.{◌≡◌, refl, sym, ◌∙◌, ap, subst}
use mathlib.Core.Bool.{Bool, true, false, cond}
use mathlib.Core.Option.{Option, none, some, map}
use mathlib.Core.List.{List, [], ◌∷◌, ◌++◌}
use native.Mathlib.Nat.{zero-add, add-suc, le_trans}
use native.Mathlib.Decide.{ℕ_discrete}
use native.Mathlib.Omega.{arith}
use lib.Dec.{eqb, ltb}
use lib.IntN.{ℤ, pos}
use lib.ListN.{length, get_or, get_elem?, set, length-set, length-append}
use lib.Seq.{get_or-set_other}
use Rattle.model.specs.Numbers as No
use Rattle.model.specs.Lists.{Each, Snoc, unsnoc, equal}
use Rattle.model.specs.Values.{Worked, same}
use Rattle.model.specs.Sets.{has, with}
use Rattle.model.specs.Syntax.{Expression, Statement, Transfer, Block, Function, Program}
use Rattle.model.specs.Limits.{Temporaries, InStatement, InBlock, InFunction, Limits}
use Rattle.model.specs.Pool.{Frame, Thread, Pool, temporaries, most_calls, most_frames, most_threads, frames, born, restacked, begin}
use Rattle.model.specs.Pool.{function_of, block_in, block_of, children, trees, words_of, is_pool}
use Rattle.model.specs.Frames.{◌>>=◌, when, look_all, eval, bind, bind_all, go_to, deque, entering, enter, callee}
use Rattle.model.specs.Rules
use Rattle.model.specs.Rules.{Act, by, acts, carry, act, Result, Promotion, choice}
use Rattle.model.specs.Answers.{Answer}
use Rattle.model.specs.Calls.{Lent, lent, made, chosen, choose}
use Rattle.model.proofs.Facts.{refused-given, ltb-true, ltb-false, eqb-true, at-below, at-past, each_at, each_append, each_left}
use Rattle.model.proofs.Facts.{true-false, none-some, some-injective, unsnoc-some, equal-same}
use Rattle.model.proofs.Guarantees.{read-limits}
use Rattle.model.proofs.Members.{with-lt}
use Rattle.model.proofs.Sets.{with-same, with-other}
use Rattle.model.specs.Valid.{Stands, IsFrame, IsOlder, Settled, Ordered, IsPurse, IsThread, IsPool}
use Rattle.model.proofs.Valid.{pool-facts, facts-pool, Upright, upright-order, thread-upright, restacked-frames, upright-thread}
use Rattle.model.proofs.Words.{begin-frame, begin-thread, IsLent, lent-given, lent-words}

-- Q of what an option holds
module _ {A : Type 0} (Q : A → Type 0) where
  abbrev pub OnSome : Option A → Type 0
  OnSome none = Unit {0}
  OnSome (some a) = Q a

  pub on-bind : {C : Type 0} (o : Option C) (k : C → Option A) → ((c : C) → o ≡ some c → OnSome (k c)) → OnSome (◌>>=◌ o k)
  on-bind none k h = tt
  on-bind (some c) k h = h c refl

  pub on-is : (o : Option A) {a : A} → OnSome o → o ≡ some a → Q a
  on-is o h e = subst OnSome e h

  pub on-when : (b : Bool) (o : Option A) → (b ≡ true → OnSome o) → OnSome (when b o)
  unfolding when
  on-when true o h = h refl
  on-when false o h = tt

-- Q of what an expression is carried on to: of an overflow's number, and of what its value makes
pub on-carry : (Q : Act → Type 0) (w : Worked) (a : ℤ → Act) → Q (Act.refuse No.overflow) → ((v : ℤ) → w ≡ Worked.value v → Q (a v)) →
    Q (carry w a)
unfolding carry
on-carry Q (Worked.value v) a r h = h v refl
on-carry Q Worked.overflow a r h = r

-- a valid frame with so many promoted calls
pub record Goes (P : Program) (n : ℕ) (k : Frame) : Type 0 where
  pub frame : IsFrame P k
  pub promoted : k.promoted ≡ n

-- a caller with so many promoted calls, and its callee's first frame
pub record Pushes (P : Program) (n : ℕ) (k l : Frame) : Type 0 where
  pub caller : IsOlder P k
  pub promoted : k.promoted ≡ n
  pub begun : Goes P 0 l

-- what a valid frame does next
abbrev pub Does : Program → Frame → Act → Type 0
Does P k (Act.refuse n) = Unit {0}
Does P k (Act.stay rule l) = Goes P k.promoted l
Does P k (Act.push l m) = Pushes P k.promoted l m
Does P k (Act.pop v̄) = k.calls ≡ []
Does P k (Act.join l c) = IsFrame P l × (k.promoted ≡ suc l.promoted)

does-by : (P : Program) (k : Frame) (rule : ℕ) (o : Option Frame) → OnSome (Goes P k.promoted) o → Does P k (by rule o)
unfolding by
does-by P k rule none h = tt
does-by P k rule (some l) h = h

does-acts : (P : Program) (k : Frame) (o : Option Act) → OnSome (Does P k) o → Does P k (acts o)
unfolding acts
does-acts P k none h = tt
does-acts P k (some a) h = h

bind_all-promoted : (k : Frame) (ȳ : List ℕ) (v̄ : List ℤ) → (bind_all k ȳ v̄).promoted ≡ k.promoted
unfolding bind_all bind
bind_all-promoted k [] v̄ = refl
bind_all-promoted k (y ∷ ȳ) [] = refl
bind_all-promoted k (y ∷ ȳ) (v ∷ v̄) = bind_all-promoted (bind k y v) ȳ v̄

module _ {P : Program} where
  -- a block of a valid frame's function
  pub block-at : {k : Frame} (h : Stands P k) (b : ℕ) → block_of P k b ≡ get_elem? h.function.blocks b
  unfolding block_of block_in
  block-at h b = rw h.found

  -- binding
  pub bind-kept : (k : Frame) (x : ℕ) (v : ℤ) → x < temporaries → IsFrame P k → IsFrame P (bind k x v)
  unfolding bind function_of
  bind-kept k x v l h =
      let s = h.stands in
      record {
        stands = record { function = s.function; found = s.found; block = s.block; there = s.there; done = s.done; calls = s.calls };
        bound = with-lt k.bound x temporaries l h.bound;
        few = h.few;
        promoted = h.promoted;
        sized = length-set k.values x v ∙ h.sized;
        blanks = λ y e. other y e (ℕ_discrete y x);
      }
    where
      other : (y : ℕ) → has (with k.bound x) y ≡ false → Dec (y ≡ x) → get_or (set k.values x v) y (pos 0) ≡ pos 0
      other y e (yes q) = true-false (has (with k.bound x) y) (rw q (with-same k.bound x)) e
      other y e (no n) =
          get_or-set_other k.values x y v (pos 0) n ∙ h.blanks y (sym (with-other k.bound x y n) ∙ e)

  pub bind_all-kept : (k : Frame) (ȳ : List ℕ) (v̄ : List ℤ) → Temporaries ȳ → IsFrame P k → IsFrame P (bind_all k ȳ v̄)
  unfolding bind_all
  bind_all-kept k [] v̄ l h = h
  bind_all-kept k (y ∷ ȳ) [] l h = h
  bind_all-kept k (y ∷ ȳ) (v ∷ v̄) l h = bind_all-kept (bind k y v) ȳ v̄ l.1 (bind-kept k y v l.0 h)

  -- another place, and another deque
  pub go_to-kept : (k : Frame) (b n : ℕ) {B : Block} → block_of P k b ≡ some B → n ≤ length B.code → IsFrame P k → IsFrame P (go_to k b n)
  unfolding go_to function_of
  go_to-kept k b n {B} e l h =
      let s = h.stands in
      record {
        stands = record { function = s.function; found = s.found; block = B; there = sym (block-at s b) ∙ e; done = l; calls = s.calls };
        bound = h.bound;
        few = h.few;
        promoted = h.promoted;
        sized = h.sized;
        blanks = h.blanks;
      }

  pub deque-kept : (k : Frame) (ρ : List ℕ) (n : ℕ) (h : IsFrame P k) → Each (λ π. π < length h.stands.function.spawns) ρ
      → length ρ ≤ most_calls → n ≤ length ρ → IsFrame P (deque k ρ n)
  unfolding deque function_of
  deque-kept k ρ n h each few l =
      let s = h.stands in
      record {
        stands = record { function = s.function; found = s.found; block = s.block; there = s.there; done = s.done; calls = each };
        bound = h.bound;
        few = few;
        promoted = l;
        sized = h.sized;
        blanks = h.blanks;
      }

module _ {P : Program} (L : Limits P) where
  -- it is within the limits
  pub block_in_lem : {k : Frame} → Stands P k → (b : ℕ) {B : Block} → block_of P k b ≡ some B → InBlock B
  unfolding function_of
  block_in_lem {k} h b e =
      let i = each_at InFunction P k.function L.functions h.found in
      each_at InBlock h.function.blocks b i.blocks (sym (block-at h b) ∙ e)

  -- entering a block, and a callee's first frame
  pub enter-kept : (k : Frame) (b : ℕ) (v̄ : List ℤ) → IsFrame P k → OnSome (Goes P k.promoted) (enter P k b v̄)
  unfolding enter entering go_to
  enter-kept k b v̄ h =
      on-bind (Goes P k.promoted) (block_of P k b) _ λ B e.
      on-when (Goes P k.promoted) (eqb (length B.head.parameters) (length v̄)) _ λ q.
      record {
        frame =
            bind_all-kept (go_to k b 0) B.head.parameters v̄ (block_in_lem h.stands b e).head.parameters.each
            (go_to-kept k b 0 e zero-le h);
        promoted = bind_all-promoted (go_to k b 0) B.head.parameters v̄;
      }

  pub callee_kept : (g : ℕ) (v̄ : List ℤ) → OnSome (Goes P 0) (callee P g v̄)
  unfolding callee begin
  callee_kept g v̄ =
      on-bind (Goes P 0) (get_elem? P g) _ λ G e.
      on-when (Goes P 0) (eqb G.signature.parameters (length v̄)) _ λ q.
      let few : G.signature.parameters ≤ 8 = (each_at InFunction P g L.functions e).parameters in
      record {
        frame = begin-frame P L g v̄ e (omega (arith, eqb-true G.signature.parameters (length v̄) q));
        promoted = refl;
      }

  -- what each code does
  stmt-kept : (k : Frame) (B : Block) (x : Statement) → IsFrame P k → block_of P k k.block ≡ some B
      → get_elem? B.code k.done ≡ some x
      → Does P k (Rules.stmt k x)
  unfolding Rules.stmt Rules.assign go_to bind block_of function_of
  stmt-kept k B x h e g =
      let i = each_at InStatement B.code k.done (block_in_lem h.stands k.block e).code g in
      let l : k.done + 1 ≤ length B.code = omega (arith, at-below B.code k.done g) in
      does-acts P k _
      (on-bind (Does P k) (eval k x.source) _ λ w _.
      on-carry (Does P k) w _ tt λ v _.
      record {
        frame = go_to-kept (bind k x.target v) k.block (k.done + 1) e l (bind-kept k x.target v i.target h);
        promoted = refl;
      })

  goto-kept : (k : Frame) (b : ℕ) (x̄ : List ℕ) → IsFrame P k → Does P k (Rules.goto P k b x̄)
  unfolding Rules.goto
  goto-kept k b x̄ h = does-by P k No.goto _ (on-bind (Goes P k.promoted) (look_all k x̄) _ λ v̄ _. enter-kept k b v̄ h)

  if_kept : (k : Frame) (e : Expression) (b c : ℕ) → IsFrame P k → Does P k (Rules.if P k e b c)
  unfolding Rules.if Rules.branch
  if_kept k e b c h = does-acts P k _ (on-bind (Does P k) (eval k e) _ λ w _. on-carry (Does P k) w _ tt λ v _. side (same v (pos 0)))
    where
      side : (z : Bool) → Does P k (Rules.branch P k b c z)
      side true = does-by P k No.else _ (enter-kept k c [] h)
      side false = does-by P k No.then _ (enter-kept k b [] h)

  call_kept : (k : Frame) (g : ℕ) (x̄ : List ℕ) (b : ℕ) → IsFrame P k → Does P k (Rules.call P k g x̄ b)
  unfolding Rules.call go_to
  call_kept k g x̄ b h =
      does-acts P k _
      (on-bind (Does P k) (look_all k x̄) _ λ v̄ _.
      on-bind (Does P k) (callee P g v̄) _ λ m f.
      on-bind (Does P k) (block_of P k b) _ λ B e.
      record {
        caller = record { frame = go_to-kept k b 0 e zero-le h; fresh = refl };
        promoted = refl;
        begun = on-is (Goes P 0) (callee P g v̄) (callee_kept g v̄) f;
      })

  return_kept : (k : Frame) (x̄ : List ℕ) → Does P k (Rules.return k x̄)
  unfolding Rules.return
  return_kept k x̄ =
      does-acts P k _
      (on-bind (Does P k) (look_all k x̄) _ λ v̄ _.
      on-when (Does P k) (equal k.calls []) _ λ e. equal-same k.calls [] e)

  spork-kept : (k : Frame) (b π : ℕ) → IsFrame P k → Does P k (Rules.spork P k b π)
  unfolding Rules.spork deque
  spork-kept k b π h =
      does-by P k No.spork _
      (on-bind (Goes P k.promoted) (function_of P k) _ λ F f.
      on-bind (Goes P k.promoted) (get_elem? F.spawns π) _ λ S e.
      on-when (Goes P k.promoted) (ltb (length k.calls) most_calls) _ λ q.
      enter-kept (deque k (k.calls ++ (π ∷ [])) k.promoted) b []
      (opened F f (at-below F.spawns π e) (ltb-true (length k.calls) most_calls q)))
    where
      opened : (F : Function) → function_of P k ≡ some F → π < length F.spawns → length k.calls < most_calls
          → IsFrame P (deque k (k.calls ++ (π ∷ [])) k.promoted)
      opened F f l q =
          let g : h.stands.function ≡ F = some-injective (sym h.stands.found ∙ f) in
          let n : length (k.calls ++ (π ∷ [])) ≡ length k.calls + 1 = length-append k.calls (π ∷ []) in
          deque-kept k (k.calls ++ (π ∷ [])) k.promoted h
          (each_append _ k.calls (π ∷ []) h.stands.calls (rw g l, tt))
          (omega arith)
          (omega (arith, h.promoted))

  spoin-kept : (k : Frame) (b c : ℕ) → IsFrame P k → Does P k (Rules.spoin P k b c)
  unfolding Rules.spoin Rules.closing deque
  spoin-kept k b c h =
      does-acts P k _
      (on-bind (Does P k) (unsnoc k.calls) _ λ I e. side I (unsnoc-some k.calls I e) (ltb k.promoted (length k.calls)) refl)
    where
      size : (I : Snoc ℕ) → k.calls ≡ I.front ++ (I.last ∷ []) → length k.calls ≡ length I.front + 1
      size I e = ap length e ∙ length-append I.front (I.last ∷ [])

      shut : (I : Snoc ℕ) → k.calls ≡ I.front ++ (I.last ∷ []) → (n : ℕ) → n ≤ length I.front → IsFrame P (deque k I.front n)
      shut I e n l =
          deque-kept k I.front n h
          (each_left _ I.front (I.last ∷ []) (subst (Each _) e h.stands.calls))
          (omega (arith, h.few, size I e))
          l

      side : (I : Snoc ℕ) → k.calls ≡ I.front ++ (I.last ∷ []) → (z : Bool) → ltb k.promoted (length k.calls) ≡ z
          → Does P k (Rules.closing P k b c I.front z)
      side I e true q =
          let l : k.promoted ≤ length I.front = omega (arith, size I e, ltb-true k.promoted (length k.calls) q) in
          does-by P k No.unpr _ (enter-kept (deque k I.front k.promoted) b [] (shut I e k.promoted l))
      side I e false q =
          let l : length k.calls ≤ k.promoted = ltb-false k.promoted (length k.calls) q in
          (shut I e (k.promoted - 1) (omega (arith, size I e, h.promoted)), omega (arith, size I e))

  transfer-kept : (k : Frame) (T : Transfer) → IsFrame P k → Does P k (Rules.transfer P k T)
  unfolding Rules.transfer
  transfer-kept k (Transfer.goto b x̄) h = goto-kept k b x̄ h
  transfer-kept k (Transfer.if e b c) h = if_kept k e b c h
  transfer-kept k (Transfer.call g x̄ b) h = call_kept k g x̄ b h
  transfer-kept k (Transfer.return x̄) h = return_kept k x̄
  transfer-kept k (Transfer.spork b π) h = spork-kept k b π h
  transfer-kept k (Transfer.spoin b c) h = spoin-kept k b c h

  pub act-kept : (k : Frame) → IsFrame P k → Does P k (act P k)
  unfolding act Rules.coming
  act-kept k h =
      does-acts P k _
      (on-bind (Does P k) (block_of P k k.block) _ λ B e. coming B e (get_elem? B.code k.done) refl)
    where
      coming : (B : Block) → block_of P k k.block ≡ some B → (o : Option Statement) → get_elem? B.code k.done ≡ o
          → Does P k (Rules.coming P k B o)
      coming B e none q = transfer-kept k B.transfer h
      coming B e (some x) q = stmt-kept k B x h e q

-- at most m valid threads in preorder, n trees
pub record Threads (P : Program) (n m : ℕ) (ts : List Thread) : Type 0 where
  pub each : Each (IsThread P) ts
  pub tree : trees n ts ≡ true
  pub few : length ts ≤ m

abbrev pub Keeps : Program → ℕ → ℕ → Result → Type 0
Keeps P n m (Result.made rule ts) = Threads P n m ts
Keeps P n m (Result.refused r) = Unit {0}

same-tree : {m n : ℕ} (ts : List Thread) → trees m ts ≡ true → m ≡ n → trees n ts ≡ true
same-tree ts h e = subst (λ i. trees i ts ≡ true) e h

-- a thread with no children is a tree
leaf-tree : (n : ℕ) (t : Thread) (ts : List Thread) → children (frames t) ≡ 0 → trees (suc n) (t ∷ ts) ≡ trees n ts
unfolding trees
leaf-tree n t ts e =
    let z : children (frames t) + n ≡ n = omega (arith, e) in
    ap (λ (m : ℕ). trees m ts) z

module _ {P : Program} (L : Limits P) where
  -- an ended thread has no children
  pub ended-leaf : (t : Thread) → IsThread P t → {v̄ : List ℤ} → Rules.ended P t ≡ some v̄ → children (frames t) ≡ 0
  unfolding Rules.ended Rules.returned children
  ended-leaf t h {v̄} e =
      let a = alone t.older (act P t.newest) (act-kept L t.newest h.newest) e in
      let n : t.newest.promoted ≤ length t.newest.calls = h.newest.promoted in
      let z : length t.newest.calls ≡ 0 = ap length a.1 in
      rw a.0 (omega arith)
    where
      alone : (K : List Frame) (a : Act) → Does P t.newest a → Rules.returned K a ≡ some v̄ → (K ≡ []) × (t.newest.calls ≡ [])
      alone [] (Act.refuse n) d q = none-some q
      alone [] (Act.stay rule l) d q = none-some q
      alone [] (Act.push l m) d q = none-some q
      alone [] (Act.pop v̄) d q = (refl, d)
      alone [] (Act.join l c) d q = none-some q
      alone (k ∷ K) a d q = none-some q

  -- a thread with the frame j over K
  top_kept : (c m n rule : ℕ) (t : Thread) (k : Frame) (K : List Frame) (ts : List Thread) (o : Option Frame) → IsPurse t.purse
      → suc (length K) ≤ most_frames → Each (IsOlder P) K → Ordered (k ∷ K) → n ≤ k.promoted → Each (IsThread P) ts
      → trees (n + children K + c) ts ≡ true → suc (length ts) ≤ m → OnSome (Goes P n) o → Keeps P (suc c) m (Rules.on_top rule t K ts o)
  unfolding Rules.on_top trees children
  top_kept c m n rule t k K ts none e few older order l each tree fits g = tt
  top_kept c m n rule t k K ts (some j) e few older order l each tree fits g =
      record {
        each = (
          record {
            few = few;
            newest = g.frame;
            older = older;
            order = (λ q. order.0 (omega (arith, g.promoted)), order.1);
            purse = e;
          },
          each,
        );
        tree = rw g.promoted tree;
        few = fits;
      }

  -- return: the callee's frame has no calls
  popping-kept : (c : ℕ) (t : Thread) (k : Frame) (K : List Frame) (ts : List Thread) (v̄ : List ℤ) → IsPurse t.purse
      → suc (length K) ≤ most_frames → Upright P (k ∷ K) → k.calls ≡ [] → Each (IsThread P) ts → trees (children (k ∷ K) + c) ts ≡ true
      → Keeps P (suc c) (suc (length ts)) (Rules.popping P t K ts v̄)
  unfolding Rules.popping children
  popping-kept c t k [] ts v̄ u few h e each tree = tt
  popping-kept c t k (l ∷ K) ts v̄ u few h e each tree =
      let n : k.promoted ≤ length k.calls = h.0.promoted in
      let z : length k.calls ≡ 0 = ap length e in
      top_kept c (suc (length ts)) l.promoted No.return t l K ts (enter P l l.block v̄) u (omega arith)
      h.1.1 h.2.1 (omega arith) each (same-tree ts tree (omega arith)) (omega arith)
      (enter-kept L l l.block v̄ h.1.0.frame)

  module _ (c : ℕ) (t : Thread) (h : IsThread P t) where
    -- a join: the ended child goes
    joins-kept : (l : Frame) (b : ℕ) (ts : List Thread) → IsFrame P l → t.newest.promoted ≡ suc l.promoted → Each (IsThread P) ts
        → trees (children (frames t) + c) ts ≡ true → Keeps P (suc c) (suc (length ts)) (Rules.joins P t l b ts)
    unfolding Rules.joins Rules.joining children
    joins-kept l b [] f q each tree = tt
    joins-kept l b (u ∷ ts) f q each tree = go (Rules.ended P u) refl
      where
        go : (o : Option (List ℤ)) → Rules.ended P u ≡ o → Keeps P (suc c) (suc (suc (length ts))) (Rules.joining P t l b ts o)
        go none e = tt
        go (some v̄) e =
            let n : ℕ = l.promoted + children t.older + c in
            let child : trees (suc n) (u ∷ ts) ≡ true = same-tree (u ∷ ts) tree (omega arith) in
            let left : trees n ts ≡ true = sym (leaf-tree n u ts (ended-leaf u each.0 e)) ∙ child in
            top_kept c (suc (suc (length ts))) l.promoted No.prom t t.newest t.older ts (enter P l b v̄) h.purse h.few
            h.older h.order (omega arith) each.1 left (omega arith) (enter-kept L l b v̄ f)

    -- a call: the caller gets a newer frame, with nothing promoted
    push_kept : (l m : Frame) (ts : List Thread) → Pushes P t.newest.promoted l m → length (frames t) < most_frames
        → Each (IsThread P) ts
        → trees (children (frames t) + c) ts ≡ true
        → Threads P (suc c) (suc (length ts)) (restacked t (m ∷ l ∷ t.older) ∷ ts)
    unfolding trees children
    push_kept l m ts d few each tree =
        record {
          each = (
            record {
              few = few;
              newest = d.begun.frame;
              older = (d.caller, h.older);
              order = (λ q. absurd (omega (arith, d.begun.promoted)), (λ q. h.order.0 (omega (arith, d.promoted)), h.order.1));
              purse = h.purse;
            },
            each,
          );
          tree = same-tree ts tree (omega (arith, d.begun.promoted, d.promoted));
          few = omega arith;
        }

    apply-kept : (ts : List Thread) (a : Act) → Does P t.newest a → Each (IsThread P) ts → trees (children (frames t) + c) ts ≡ true
        → Keeps P (suc c) (suc (length ts)) (Rules.apply P t ts a)
    unfolding Rules.apply Rules.on_top children
    apply-kept ts (Act.refuse n) d each tree = tt
    apply-kept ts (Act.stay rule l) d each tree =
        top_kept c (suc (length ts)) t.newest.promoted rule t t.newest t.older ts (some l) h.purse h.few h.older
        h.order (omega arith) each tree (omega arith) d
    apply-kept ts (Act.push l m) d each tree = go (ltb (length (frames t)) most_frames) refl
      where
        go : (b : Bool) → ltb (length (frames t)) most_frames ≡ b
            → Keeps P (suc c) (suc (length ts))
            (cond b (Result.made No.call (restacked t (m ∷ l ∷ t.older) ∷ ts)) (Result.refused No.frames))
        go false q = tt
        go true q = push_kept l m ts d (ltb-true (length (frames t)) most_frames q) each tree
    apply-kept ts (Act.pop v̄) d each tree =
        popping-kept c t t.newest t.older ts v̄ h.purse h.few (thread-upright P h) d each tree
    apply-kept ts (Act.join l b) d each tree = joins-kept l b ts d.0 d.1 each tree

  pub step_kept : (c : ℕ) (t : Thread) (ts : List Thread) → Each (IsThread P) (t ∷ ts) → trees (suc c) (t ∷ ts) ≡ true
      → Keeps P (suc c) (suc (length ts)) (Rules.step P t ts)
  unfolding Rules.step trees
  step_kept c t ts each tree = apply-kept c t each.0 ts (act P t.newest) (act-kept L t.newest each.0.newest) each.1 tree

-- a promotion among the frames K, newest first
pub record Promotes (P : Program) (K : List Frame) (p : Promotion) : Type 0 where
  pub upright : Upright P p.frames
  pub older : Each (IsOlder P) K → Each (IsOlder P) p.frames
  pub long : length p.frames ≡ length K
  pub more : children p.frames ≡ suc (children K)
  pub unsettled : Each Settled K → ⊥

-- there is a promotion, or every call is promoted
abbrev pub Oldest : Program → List Frame → Option Promotion → Type 0
Oldest P K none = Each Settled K
Oldest P K (some p) = Promotes P K p

module _ (P : Program) where
  -- it is in the frame k, or in one of the older ones
  in_kept : (k : Frame) (K : List Frame) → Upright P (k ∷ K) → Each Settled K → Oldest P (k ∷ K) (Rules.promote_in k K)
  unfolding Rules.promote_in deque children
  in_kept k K h settled = go (get_elem? k.calls k.promoted) refl
    where
      go : (o : Option ℕ) → get_elem? k.calls k.promoted ≡ o
          → Oldest P (k ∷ K) (◌>>=◌ o λ π. some (record { holder = k; call = π; frames = deque k k.calls (k.promoted + 1) ∷ K }))
      go none e = (omega (arith, h.0.promoted, at-past k.calls k.promoted e), settled)
      go (some π) e =
          let l : k.promoted < length k.calls = at-below k.calls k.promoted e in
          let f : IsFrame P (deque k k.calls (k.promoted + 1)) =
          deque-kept k k.calls (k.promoted + 1) h.0 h.0.stands.calls h.0.few (omega arith)
          in
          record {
            upright = (f, h.1, (λ _. settled, h.2.1));
            older = λ o. (record { frame = f; fresh = o.0.fresh }, o.1);
            long = refl;
            more = omega arith;
            unsettled = λ s. omega (arith, s.0);
          }

  above_kept : (k : Frame) (K : List Frame) (o : Option Promotion) → Upright P (k ∷ K) → Oldest P K o
      → Oldest P (k ∷ K) (Rules.or_else (map (Rules.above k) o) (Rules.promote_in k K))
  unfolding Rules.or_else children
  above_kept k K none h s = in_kept k K h s
  above_kept k K (some p) h d =
      record {
        upright = (h.0, d.older h.1, (λ q. absurd (d.unsettled (h.2.0 q)), upright-order P p.frames d.upright));
        older = λ o. (o.0, d.older o.1);
        long = ap suc d.long;
        more = omega (arith, d.more);
        unsettled = λ s. d.unsettled s.1;
      }

  older-kept : (K : List Frame) → Each (IsOlder P) K → Ordered K → Oldest P K (Rules.oldest K)
  unfolding Rules.oldest
  older-kept [] h order = tt
  older-kept (k ∷ K) h order = above_kept k K (Rules.oldest K) (h.0.frame, h.1, order) (older-kept K h.1 order.1)

  pub oldest-kept : {t : Thread} → IsThread P t → Oldest P (frames t) (Rules.oldest (frames t))
  unfolding Rules.oldest
  oldest-kept {t} h =
      above_kept t.newest t.older (Rules.oldest t.older) (thread-upright P h) (older-kept t.older h.older h.order.1)

module _ {P : Program} (L : Limits P) where
  pub child-kept : (k : Frame) (π : ℕ) → OnSome (Goes P 0) (Rules.child P k π)
  unfolding Rules.child
  child-kept k π =
      on-bind (Goes P 0) (function_of P k) _ λ F _.
      on-bind (Goes P 0) (get_elem? F.spawns π) _ λ S _.
      on-bind (Goes P 0) (look_all k S.arguments) _ λ v̄ _.
      callee_kept L S.function v̄

  -- the child stands directly behind its parent, which has one child more
  spawned-kept : (c m : ℕ) (t u : Thread) (ts : List Thread) (o : Option Frame) → suc (suc (length ts)) ≤ m → IsThread P u
      → children (frames u) ≡ suc (children (frames t)) → Each (IsThread P) ts → trees (suc c) (t ∷ ts) ≡ true → OnSome (Goes P 0) o
      → Keeps P (suc c) m (Rules.spawned u ts o)
  unfolding Rules.spawned trees children
  spawned-kept c m t u ts none fits h more each tree g = tt
  spawned-kept c m t u ts (some k) fits h more each tree g =
      let leaf : Thread = born k in
      let alone : children (frames leaf) ≡ 0 = omega (arith, g.promoted) in
      let one_more : suc (children (frames t) + c) ≡ children (frames u) + c = omega arith in
      record {
        each = (h, (begin-thread P k g.frame, each));
        tree = same-tree (leaf ∷ ts) (leaf-tree (children (frames t) + c) leaf ts alone ∙ tree) one_more;
        few = fits;
      }

  promoting-kept : (room : Bool) (c : ℕ) (t : Thread) (ts : List Thread) (o : Option Promotion) → IsThread P t → Oldest P (frames t) o
      → Each (IsThread P) ts → trees (suc c) (t ∷ ts) ≡ true
      → Keeps P (suc c) (cond room 1 0 + suc (length ts)) (Rules.promoting P room t ts o)
  unfolding Rules.promoting
  promoting-kept room c t ts none h d each tree = tt
  promoting-kept false c t ts (some p) h d each tree = tt
  promoting-kept true c t ts (some p) h d each tree =
      let f : length (frames t) ≤ most_frames = h.few in
      let u = upright-thread P t p.frames (omega (arith, d.long)) d.upright h.purse in
      let m : children (frames (restacked t p.frames)) ≡ suc (children (frames t)) =
      ap children (restacked-frames t p.frames (omega (arith, d.long))) ∙ d.more
      in
      spawned-kept c (1 + suc (length ts)) t (restacked t p.frames) ts (Rules.child P p.holder p.call) (omega arith) u m each tree
      (child-kept p.holder p.call)

  pub promote-kept : (room : Bool) (c : ℕ) (t : Thread) (ts : List Thread) → Each (IsThread P) (t ∷ ts) → trees (suc c) (t ∷ ts) ≡ true
      → Keeps P (suc c) (cond room 1 0 + suc (length ts)) (Rules.promote P room t ts)
  unfolding Rules.promote
  promote-kept room c t ts each tree =
      promoting-kept room c t ts (Rules.oldest (frames t)) each.0 (oldest-kept P each.0) each.1 tree

-- the threads in front stay as they are; at most e threads are added
module _ (P : Program) (e : ℕ) (f : Thread → List Thread → Result)
    (h : (c : ℕ) (t : Thread) (ts : List Thread) → Each (IsThread P) (t ∷ ts) → trees (suc c) (t ∷ ts) ≡ true
    → Keeps P (suc c) (e + suc (length ts)) (f t ts)) where
  behind-kept : (n m : ℕ) (t : Thread) (r : Result) → IsThread P t → Keeps P (children (frames t) + n) m r
      → Keeps P (suc n) (suc m) (Rules.behind t r)
  unfolding Rules.behind trees
  behind-kept n m t (Result.made rule ts) i k = record { each = (i, k.each); tree = k.tree; few = suc-le-suc k.few }
  behind-kept n m t (Result.refused r) i k = tt

  on-kept : (p : Pool) (i n : ℕ) → Each (IsThread P) p → trees n p ≡ true → Keeps P n (e + length p) (Rules.on_thread f p i)
  unfolding Rules.on_thread trees
  on-kept [] i n each tree = tt
  on-kept (t ∷ ts) i zero each tree = true-false false tree refl
  on-kept (t ∷ ts) zero (suc n) each tree = h n t ts each tree
  on-kept (t ∷ ts) (suc i) (suc n) each tree =
      rw add-suc (behind-kept n (e + length ts) t (Rules.on_thread f ts i) each.0 (on-kept ts i (children (frames t) + n) each.1 tree))

-- a choice
keeps-more : (P : Program) (n m l : ℕ) (r : Result) → m ≤ l → Keeps P n m r → Keeps P n l r
keeps-more P n m l (Result.made rule ts) q k = record { each = k.each; tree = k.tree; few = le_trans k.few q }
keeps-more P n m l (Result.refused i) q k = tt

pub choice-keeps : (P : Program) → Limits P → (p : Pool) (kind i : ℕ) → IsPool P p → Keeps P 1 most_threads (choice P p kind i)
unfolding choice
choice-keeps P L p zero i h =
    keeps-more P 1 (0 + length p) most_threads (Rules.on_thread (Rules.step P) p i) (omega (arith, h.few))
    (on-kept P 0 (Rules.step P) (λ c t ts each tree. rw zero-add (step_kept L c t ts each tree)) p i 1 h.each h.tree)
choice-keeps P L p (suc zero) i h = go (ltb (length p) most_threads) refl
  where
    room : (b : Bool) → ltb (length p) most_threads ≡ b → cond b 1 0 + length p ≤ most_threads
    room true e = omega (arith, ltb-true (length p) most_threads e)
    room false e = omega (arith, h.few)

    go : (b : Bool) → ltb (length p) most_threads ≡ b → Keeps P 1 most_threads (Rules.on_thread (Rules.promote P b) p i)
    go b e =
        keeps-more P 1 (cond b 1 0 + length p) most_threads (Rules.on_thread (Rules.promote P b) p i) (room b e)
        (on-kept P (cond b 1 0) (Rules.promote P b) (promote-kept L b) p i 1 h.each h.tree)
choice-keeps P L p (suc (suc kind)) i h = tt

pub choice-kept : (P : Program) → Limits P → (p p' : Pool) (kind i rule : ℕ) → is_pool P p ≡ true → choice P p kind i ≡ Result.made rule p'
    → is_pool P p' ≡ true
choice-kept P L p p' kind i rule h e =
    let k : Threads P 1 most_threads p' = subst (Keeps P 1 most_threads) e (choice-keeps P L p kind i (pool-facts P p h)) in
    facts-pool P p' (record { few = k.few; each = k.each; tree = k.tree })

-- the same on words
pub choose-lent : (s : List ℕ) (ws : List ℤ) (kind i : ℕ) {l : Lent} → lent s ws ≡ Answer.given l
    → choose s ws kind i ≡ made ws (choice l.table l.pool kind i)
unfolding choose chosen
choose-lent s ws kind i e = rw e

-- a choice that is made: the pool behind it, lent in its words
pub record Stepped (s : List ℕ) (ws : List ℤ) (kind i rule : ℕ) (l : Lent) : Type 0 where
  pub pool : Pool
  pub made : choice l.table l.pool kind i ≡ Result.made rule pool
  pub after : (choose s ws kind i).after ≡ words_of pool
  pub lends : lent s (choose s ws kind i).after ≡ Answer.given (record { table = l.table; pool = pool })

pub choose-kept : (s : List ℕ) (ws : List ℤ) (kind i rule : ℕ) (l : Lent) → lent s ws ≡ Answer.given l
    → (choose s ws kind i).answer ≡ Answer.given rule → Stepped s ws kind i rule l
unfolding made
choose-kept s ws kind i rule l e a = go (choice l.table l.pool kind i) refl (ap (λ d. d.answer) (sym c) ∙ a)
  where
    c : choose s ws kind i ≡ made ws (choice l.table l.pool kind i)
    c = choose-lent s ws kind i e

    go : (r : Result) → choice l.table l.pool kind i ≡ r → (made ws r).answer ≡ Answer.given rule → Stepped s ws kind i rule l
    go (Result.refused n) q m = refused-given m
    go (Result.made j p) q m =
        let g : IsLent s ws l = lent-given s ws l e in
        let L : Limits l.table = read-limits s l.table g.reads in
        let step : choice l.table l.pool kind i ≡ Result.made rule p = cc in
        let after : (choose s ws kind i).after ≡ words_of p = ap (λ d. d.after) (c ∙ ap (made ws) q) in
        record {
          pool = p;
          made = step;
          after = after;
          lends = rw after (lent-words s l.table p g.reads (choice-kept l.table L l.pool p kind i rule g.valid step));
        }
