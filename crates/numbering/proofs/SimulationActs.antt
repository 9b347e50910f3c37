-- What the newest frame does next, under two numberings: one law a rule.
use Prim.Native.Nat.{ℕ, ◌-◌}
use mathlib.Core.Path.{◌≡◌, refl, ◌∙◌, ap, subst}
use mathlib.Core.Bool.{Bool, true, false}
use mathlib.Core.Option
use mathlib.Core.Option.{Option, none, some}
use mathlib.Core.List.{List, [], ◌∷◌, ◌++◌, map, map-append}
use lib.Dec.{eqb, ltb}
use lib.IntN.{ℤ, pos}
use lib.ListN.{length, get_elem?, length-map}
use Rattle.model.specs.Numbers as No
use Rattle.model.specs.Lists.{Each, Snoc, snoc, unsnoc, equal}
use Rattle.model.specs.Values.{Worked, same}
use Rattle.model.specs.Syntax.{Atom, Expression, Statement, Transfer, Program, targets, sporked_by, called_by}
use Rattle.model.specs.Pool.{Frame, most_calls, begin, function_of, block_in, block_of}
use Rattle.model.specs.Frames.{◌>>=◌, look, look_all, eval_atom, eval, bind, bind_all, go_to, deque, entering, enter, callee}
use Rattle.model.specs.Rules
use Rattle.model.specs.Rules.{Act, by, acts, carry, act}
use Rattle.model.proofs.Facts.{each_append, each_left, each_right, unsnoc-some}
use Rattle.numbering.specs.Renamed as Renamed
use Rattle.numbering.specs.Mentions.{targets_of, spawns_of}
use Rattle.numbering.specs.Renumbers.{Numbering, names, FunctionKept, BlockKept, SpawnKept, CopiedBlock, Copies, renamed_frame}
use Rattle.numbering.proofs.SimulationStates.{KeptFrame, Follows, FollowsIf}
use Rattle.numbering.proofs.SimulationStates.{follows-bind, follows-when, follows-some, follows_then}

-- an act under new numbers, and one with kept things alone
unfoldable pub renamed_act : Numbering → Act → Act
renamed_act R (Act.refuse n) = Act.refuse n
renamed_act R (Act.stay rule k) = Act.stay rule (renamed_frame R k)
renamed_act R (Act.push k l) = Act.push (renamed_frame R k) (renamed_frame R l)
renamed_act R (Act.pop v̄) = Act.pop v̄
renamed_act R (Act.join k c) = Act.join (renamed_frame R k) (R.block k.function c)

abbrev pub KeptAct : Numbering → Act → Type 0
KeptAct R (Act.refuse n) = Unit {0}
KeptAct R (Act.stay rule k) = KeptFrame R k
KeptAct R (Act.push k l) = KeptFrame R k × KeptFrame R l
KeptAct R (Act.pop v̄) = Unit {0}
KeptAct R (Act.join k c) = KeptFrame R k × BlockKept R k.function c

-- the last of a list, mapped
map_snoc : {A B : Type 0} → (A → B) → Snoc A → Snoc B
map_snoc f I = record { front = map f I.front; last = f I.last }

snoc-map : {A B : Type 0} (f : A → B) (x : A) (o : Option (Snoc A)) → snoc (f x) (Option.map (map_snoc f) o) ≡ map_snoc f (snoc x o)
unfolding map_snoc
snoc-map f x none = refl
snoc-map f x (some I) = refl

unsnoc-map : {A B : Type 0} (f : A → B) (xs : List A) → unsnoc (map f xs) ≡ Option.map (map_snoc f) (unsnoc xs)
unfolding unsnoc
unsnoc-map f [] = refl
unsnoc-map {A} {B} f (x ∷ xs) =
    ap (λ (o : Option (Snoc B)). some (snoc (f x) o)) (unsnoc-map f xs) ∙ ap {B = Option (Snoc B)} some (snoc-map f x (unsnoc xs))

-- a mapped list is empty where the list is
empty-map : (f : ℕ → ℕ) (xs : List ℕ) → equal (map f xs) [] ≡ equal xs []
unfolding equal
empty-map f [] = refl
empty-map f (x ∷ xs) = refl

module _ (R : Numbering) where
  -- the values of temporaries stay
  pub look_all-renamed : (k : Frame) (x̄ : List ℕ) → look_all (renamed_frame R k) x̄ ≡ look_all k x̄
  unfolding look_all look renamed_frame
  look_all-renamed k [] = refl
  look_all-renamed k (x ∷ x̄) = rw (look_all-renamed k x̄)

  eval_atom-renamed : (k : Frame) (m : Atom) → eval_atom (renamed_frame R k) m ≡ eval_atom k m
  unfolding eval_atom look renamed_frame
  eval_atom-renamed k (Atom.value v) = refl
  eval_atom-renamed k (Atom.temporary x) = refl

  eval-renamed : (k : Frame) (e : Expression) → eval (renamed_frame R k) e ≡ eval k e
  unfolding eval
  eval-renamed k (Expression.atom m) = rw (eval_atom-renamed k m)
  eval-renamed k (Expression.minus m) = rw (eval_atom-renamed k m)
  eval-renamed k (Expression.plus m n) = rw (eval_atom-renamed k m, eval_atom-renamed k n)
  eval-renamed k (Expression.less m n) = rw (eval_atom-renamed k m, eval_atom-renamed k n)

  -- a frame with temporaries bound, at another place, with another deque
  bind_all-renamed : (k : Frame) (ȳ : List ℕ) (v̄ : List ℤ) → bind_all (renamed_frame R k) ȳ v̄ ≡ renamed_frame R (bind_all k ȳ v̄)
  unfolding bind_all bind renamed_frame
  bind_all-renamed k [] v̄ = refl
  bind_all-renamed k (y ∷ ȳ) [] = refl
  bind_all-renamed k (y ∷ ȳ) (v ∷ v̄) = bind_all-renamed (bind k y v) ȳ v̄

  bind_all-kept : (k : Frame) (ȳ : List ℕ) (v̄ : List ℤ) → KeptFrame R k → KeptFrame R (bind_all k ȳ v̄)
  unfolding bind_all bind
  bind_all-kept k [] v̄ h = h
  bind_all-kept k (y ∷ ȳ) [] h = h
  bind_all-kept k (y ∷ ȳ) (v ∷ v̄) h =
      bind_all-kept (bind k y v) ȳ v̄ (record { function = h.function; block = h.block; calls = h.calls })

  go_to-renamed : (k : Frame) (b n : ℕ) → go_to (renamed_frame R k) (R.block k.function b) n ≡ renamed_frame R (go_to k b n)
  unfolding go_to renamed_frame
  go_to-renamed k b n = refl

  go_to-kept : (k : Frame) (b n : ℕ) → KeptFrame R k → BlockKept R k.function b → KeptFrame R (go_to k b n)
  unfolding go_to
  go_to-kept k b n h q = record { function = h.function; block = q; calls = h.calls }

  deque-kept : (k : Frame) (ρ : List ℕ) (n : ℕ) → KeptFrame R k → Each (SpawnKept R k.function) ρ → KeptFrame R (deque k ρ n)
  unfolding deque
  deque-kept k ρ n h q = record { function = h.function; block = h.block; calls = q }

  -- a rule whose needs are met or not, and an act that is there or not
  by-follows : (rule : ℕ) (o o' : Option Frame) → FollowsIf (renamed_frame R) (KeptFrame R) o o' →
      Follows (renamed_act R) (KeptAct R) (by rule o) (by rule o')
  unfolding by renamed_act
  by-follows rule none o' h = record { same = rw h.same; kept = tt }
  by-follows rule (some k) o' h = record { same = rw h.same; kept = h.kept }

  acts-follows : (o o' : Option Act) → FollowsIf (renamed_act R) (KeptAct R) o o' → Follows (renamed_act R) (KeptAct R) (acts o) (acts o')
  unfolding acts renamed_act
  acts-follows none o' h = record { same = rw h.same; kept = tt }
  acts-follows (some a) o' h = record { same = rw h.same; kept = h.kept }

  -- what an expression is carried on to: an overflow is one under both
  carry-follows : (w : Worked) (a a' : ℤ → Act) → ((v : ℤ) → Follows (renamed_act R) (KeptAct R) (a v) (a' v)) →
      Follows (renamed_act R) (KeptAct R) (carry w a) (carry w a')
  unfolding carry renamed_act
  carry-follows (Worked.value v) a a' h = h v
  carry-follows Worked.overflow a a' h = record { same = refl; kept = tt }

-- where Q has what is kept of P
module _ {R : Numbering} {P Q : Program} (c : Copies R P Q) where
  -- the function of a kept frame, and a kept block there
  pub function-before : {k : Frame} (h : KeptFrame R k) → function_of P k ≡ some (c k.function h.function).before
  unfolding function_of
  function-before {k} h = (c k.function h.function).old

  pub function-after : {k : Frame} (h : KeptFrame R k) → function_of Q (renamed_frame R k) ≡ some (c k.function h.function).after
  unfolding function_of renamed_frame
  function-after {k} h = (c k.function h.function).new

  block-kept : {k : Frame} (h : KeptFrame R k) (b : ℕ) → BlockKept R k.function b →
      CopiedBlock R k.function (c k.function h.function).before (c k.function h.function).after b
  block-kept {k} h b q = (c k.function h.function).blocks b q

  block-before : {k : Frame} (h : KeptFrame R k) (b : ℕ) (q : BlockKept R k.function b) →
      block_of P k b ≡ some (block-kept h b q).block
  unfolding block_of block_in
  block-before h b q = rw (function-before h) (block-kept h b q).old

  block-after : {k : Frame} (h : KeptFrame R k) (b : ℕ) (q : BlockKept R k.function b) →
      block_of Q (renamed_frame R k) (R.block k.function b) ≡ some (Renamed.block (names R k.function) (block-kept h b q).block)
  unfolding block_of block_in
  block-after h b q = rw (function-after h) (block-kept h b q).new

  abbrev pub Enters : Option Frame → Option Frame → Type 0
  Enters o o' = FollowsIf (renamed_frame R) (KeptFrame R) o o'

  -- entering a kept block
  pub enter-follows : (k : Frame) (h : KeptFrame R k) (b : ℕ) (v̄ : List ℤ) → BlockKept R k.function b →
      Enters (enter P k b v̄) (enter Q (renamed_frame R k) (R.block k.function b) v̄)
  unfolding enter entering Renamed.block Renamed.head
  enter-follows k h b v̄ q =
      let B = (block-kept h b q).block in
      let x̄ = B.head.parameters in
      rw (block-before h b q, block-after h b q, go_to-renamed R k b 0)
      (follows-when (renamed_frame R) (KeptFrame R) (eqb (length x̄) (length v̄)) _ _
      (record {
        same = ap some (bind_all-renamed R (go_to k b 0) x̄ v̄);
        kept = bind_all-kept R (go_to k b 0) x̄ v̄ (go_to-kept R k b 0 h q);
      }))

  -- the first frame of a kept function
  pub callee-follows : (g : ℕ) (v̄ : List ℤ) → FunctionKept R g → Enters (callee P g v̄) (callee Q (R.function g) v̄)
  unfolding callee begin renamed_frame
  callee-follows g v̄ q =
      let C = c g q in
      rw (C.old, C.new, C.signature)
      (follows-when (renamed_frame R) (KeptFrame R) (eqb C.before.signature.parameters (length v̄)) _ _
      (record { same = rw C.entry; kept = record { function = q; block = C.entry_kept; calls = tt } }))

  module _ (k : Frame) (h : KeptFrame R k) where
    abbrev pub Does : Act → Act → Type 0
    Does a a' = Follows (renamed_act R) (KeptAct R) a a'

    -- one law a rule
    stmt-follows : (s : Statement) → Does (Rules.stmt k s) (Rules.stmt (renamed_frame R k) s)
    unfolding Rules.stmt Rules.assign go_to bind renamed_frame renamed_act
    stmt-follows s =
        acts-follows R _ _
        (rw (eval-renamed R k s.source)
        (follows-bind (renamed_act R) (KeptAct R) (eval k s.source) _ _ λ w _.
        follows-some (renamed_act R) (KeptAct R)
        (carry-follows R w _ _ λ v.
        record { same = refl; kept = record { function = h.function; block = h.block; calls = h.calls } })))

    goto-follows : (b : ℕ) (x̄ : List ℕ) → BlockKept R k.function b →
        Does (Rules.goto P k b x̄) (Rules.goto Q (renamed_frame R k) (R.block k.function b) x̄)
    unfolding Rules.goto
    goto-follows b x̄ q =
        by-follows R No.goto _ _
        (rw (look_all-renamed R k x̄)
        (follows-bind (renamed_frame R) (KeptFrame R) (look_all k x̄) _ _ λ v̄ _. enter-follows k h b v̄ q))

    branch_follows : (b d : ℕ) (z : Bool) → BlockKept R k.function b → BlockKept R k.function d →
        Does (Rules.branch P k b d z) (Rules.branch Q (renamed_frame R k) (R.block k.function b) (R.block k.function d) z)
    unfolding Rules.branch
    branch_follows b d true q r = by-follows R No.else _ _ (enter-follows k h d [] r)
    branch_follows b d false q r = by-follows R No.then _ _ (enter-follows k h b [] q)

    if-follows : (e : Expression) (b d : ℕ) → BlockKept R k.function b → BlockKept R k.function d →
        Does (Rules.if P k e b d) (Rules.if Q (renamed_frame R k) e (R.block k.function b) (R.block k.function d))
    unfolding Rules.if
    if-follows e b d q r =
        acts-follows R _ _
        (rw (eval-renamed R k e)
        (follows-bind (renamed_act R) (KeptAct R) (eval k e) _ _ λ w _.
        follows-some (renamed_act R) (KeptAct R) (carry-follows R w _ _ λ v. branch_follows b d (same v (pos 0)) q r)))

    call-follows : (g : ℕ) (x̄ : List ℕ) (b : ℕ) → FunctionKept R g → BlockKept R k.function b →
        Does (Rules.call P k g x̄ b) (Rules.call Q (renamed_frame R k) (R.function g) x̄ (R.block k.function b))
    unfolding Rules.call renamed_act
    call-follows g x̄ b q r =
        acts-follows R _ _
        (rw (look_all-renamed R k x̄, block-before h b r, block-after h b r, go_to-renamed R k b 0)
        (follows-bind (renamed_act R) (KeptAct R) (look_all k x̄) _ _ λ v̄ _.
        follows_then (renamed_frame R) (KeptFrame R) (renamed_act R) (KeptAct R) (callee P g v̄) (callee Q (R.function g) v̄) _ _
        (callee-follows g v̄ q) λ l begun.
        record { same = refl; kept = (go_to-kept R k b 0 h r, begun) }))

    return-follows : (x̄ : List ℕ) → Does (Rules.return k x̄) (Rules.return (renamed_frame R k) x̄)
    unfolding Rules.return renamed_frame renamed_act
    return-follows x̄ =
        acts-follows R _ _
        (rw (look_all-renamed R k x̄, empty-map (R.spawn k.function) k.calls)
        (follows-bind (renamed_act R) (KeptAct R) (look_all k x̄) _ _ λ v̄ _.
        follows-when (renamed_act R) (KeptAct R) (equal k.calls []) _ _ (record { same = refl; kept = tt })))

    -- entering a block with other calls open
    reopened-follows : (ρ : List ℕ) (n b : ℕ) → Each (SpawnKept R k.function) ρ → BlockKept R k.function b →
        Enters (enter P (deque k ρ n) b [])
        (enter Q (deque (renamed_frame R k) (map (R.spawn k.function) ρ) n) (R.block k.function b) [])
    unfolding deque renamed_frame
    reopened-follows ρ n b s q = enter-follows (deque k ρ n) (deque-kept R k ρ n h s) b [] q

    spork-follows : (b π : ℕ) → BlockKept R k.function b → SpawnKept R k.function π →
        Does (Rules.spork P k b π) (Rules.spork Q (renamed_frame R k) (R.block k.function b) (R.spawn k.function π))
    unfolding Rules.spork renamed_frame
    spork-follows b π q r =
        let f = R.spawn k.function in
        let S = (c k.function h.function).spawns π r in
        by-follows R No.spork _ _
        (rw (function-before h, function-after h, S.old, S.new, length-map k.calls f, ← map-append f k.calls (π ∷ []))
        (follows-when (renamed_frame R) (KeptFrame R) (ltb (length k.calls) most_calls) _ _
        (reopened-follows (k.calls ++ (π ∷ [])) k.promoted b
        (each_append (SpawnKept R k.function) k.calls (π ∷ []) h.calls (r, tt)) q)))

    closing-follows : (b d : ℕ) (ρ : List ℕ) (z : Bool) → BlockKept R k.function b → BlockKept R k.function d →
        Each (SpawnKept R k.function) ρ →
        Does (Rules.closing P k b d ρ z)
        (Rules.closing Q (renamed_frame R k) (R.block k.function b) (R.block k.function d) (map (R.spawn k.function) ρ) z)
    unfolding Rules.closing renamed_act renamed_frame deque
    closing-follows b d ρ true q r s = by-follows R No.unpr _ _ (reopened-follows ρ k.promoted b s q)
    closing-follows b d ρ false q r s = record { same = refl; kept = (deque-kept R k ρ (k.promoted - 1) h s, r) }

    spoin-follows : (b d : ℕ) → BlockKept R k.function b → BlockKept R k.function d →
        Does (Rules.spoin P k b d) (Rules.spoin Q (renamed_frame R k) (R.block k.function b) (R.block k.function d))
    unfolding Rules.spoin renamed_frame map_snoc
    spoin-follows b d q r =
        let f = R.spawn k.function in
        acts-follows R _ _
        (rw (unsnoc-map f k.calls, length-map k.calls f) (go (unsnoc k.calls) refl))
      where
        go : (o : Option (Snoc ℕ)) → unsnoc k.calls ≡ o →
            FollowsIf (renamed_act R) (KeptAct R)
            (◌>>=◌ o λ I. some (Rules.closing P k b d I.front (ltb k.promoted (length k.calls))))
            (◌>>=◌ (Option.map (map_snoc (R.spawn k.function)) o) λ I.
            some (Rules.closing Q (renamed_frame R k) (R.block k.function b) (R.block k.function d) I.front
            (ltb k.promoted (length k.calls))))
        go none e = record { same = refl; kept = tt }
        go (some I) e =
            let s : Each (SpawnKept R k.function) (I.front ++ (I.last ∷ [])) =
            subst (Each (SpawnKept R k.function)) (unsnoc-some k.calls I e) h.calls
            in
            follows-some (renamed_act R) (KeptAct R)
            (closing-follows b d I.front _ q r (each_left (SpawnKept R k.function) I.front (I.last ∷ []) s))

    transfer-follows : (T : Transfer) → Each (BlockKept R k.function) (targets T) → Each (SpawnKept R k.function) (sporked_by T) →
        Each (FunctionKept R) (called_by T) →
        Does (Rules.transfer P k T) (Rules.transfer Q (renamed_frame R k) (Renamed.transfer (names R k.function) T))
    unfolding Rules.transfer Renamed.transfer targets sporked_by called_by
    transfer-follows (Transfer.goto b x̄) q s f = goto-follows b x̄ q.0
    transfer-follows (Transfer.if e b d) q s f = if-follows e b d q.0 q.1.0
    transfer-follows (Transfer.call g x̄ b) q s f = call-follows g x̄ b f.0 q.0
    transfer-follows (Transfer.return x̄) q s f = return-follows x̄
    transfer-follows (Transfer.spork b π) q s f = spork-follows b π q.0 s.0
    transfer-follows (Transfer.spoin b d) q s f = spoin-follows b d q.0 q.1.0

    -- what a kept frame does next
    pub act-follows : Does (act P k) (act Q (renamed_frame R k))
    unfolding act Rules.coming Renamed.block targets_of spawns_of renamed_frame
    act-follows =
        acts-follows R _ _
        (rw (block-before h k.block h.block, block-after h k.block h.block)
        (follows-some (renamed_act R) (KeptAct R) (coming (get_elem? B.block.code k.done))))
      where
        B : CopiedBlock R k.function (c k.function h.function).before (c k.function h.function).after k.block
        B = block-kept h k.block h.block

        coming : (o : Option Statement) →
            Does (Rules.coming P k B.block o)
            (Rules.coming Q (renamed_frame R k) (Renamed.block (names R k.function) B.block) o)
        coming none =
            transfer-follows B.block.transfer B.blocks
            (each_right (SpawnKept R k.function) B.block.head.nesting (sporked_by B.block.transfer) B.spawns) B.calls
        coming (some s) = stmt-follows s
