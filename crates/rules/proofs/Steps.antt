-- What the code's acts come to: each rule, from what the code read, looked up and entered.
use Prim.Native.Nat.{ℕ, ◌-◌, ◌≤◌, ◌<◌, min}
use mathlib.Core.Path.{◌≡◌, refl, sym, ap, subst, subst⁻¹, ◌∙◌}
use mathlib.Core.Bool.{Bool, true, false, not}
use mathlib.Core.Option.{Option, none, some}
use Rattle.std.specs.Prelude.{Option as Optional, Some, None, Result, Ok}
use Rattle.std.specs.Bool.{then_some}
use Rattle.std.proofs.lemmas.Option.{same_Some, none-some}
use mathlib.Core.List.{List, [], ◌∷◌, ◌++◌}
use native.Mathlib.Nat.{min-eq_left, min-eq_right}
use native.Mathlib.Omega.{arith}
use borrow.Author.Tests.{eq-eqb, ne_eqb, eqb-true, eqb-false, lt-ltb, le-ltb, ltb-true, ltb-false, not-true, not-false}
use mir.Val.{SFits, to_z, of_z}
use mir.Facts.{to_z-of_z}
use mir.Syntax.{w32}
use lib.Dec.{eqb, ltb}
use lib.IntN.{ℤ, pos}
use lib.ListN.{length, get_elem?, take}
use Rattle.model.specs.Numbers as Numbers
use Rattle.model.specs.Lists.{Each, Snoc, snoc, unsnoc, equal}
use Rattle.model.specs.Values.{Worked, same}
use Rattle.model.specs.Syntax.{Transfer, Head, Block, Program}
use Rattle.model.specs.Pool.{Frame, temporaries, most_calls, begin, function_of, block_of}
use Rattle.model.specs.Frames as Frames
use Rattle.model.specs.Frames.{when, look_all, eval, bind_all, go_to, deque, enter, callee}
use Rattle.model.specs.Rules as Rules
use Rattle.model.specs.Rules.{by, acts, carry, assign, stmt, goto, branch, if, call, return, spork, closing, spoin, transfer, coming, act}
use Rattle.model.specs.Limits.{InStatement}
use Rattle.model.proofs.Facts.{each_at, past-at}
use Rattle.model.proofs.Guarantees as Guarantees
use Rattle.words.proofs.Signs.{zero_test}
use Rattle.places.specs.Places.{Place, spawn_in, Places, FindsBlock, FindsSpawn, FindsCode}
use Rattle.code.specs.Bytes.{byte_at, past}
use Rattle.code.specs.Code.{most, count_at, arguments_at, list_end, expression_at, expression_end, statement_at, statements_end}
use Rattle.code.specs.Code.{head_at}
use Rattle.code.specs.Code.{goto_at, if_at, call_at, return_at, spork_at, spoin_at, transfer_of, transfer_at, code_at, code_end}
use Rattle.code.specs.Code.{coded}
use Rattle.code.specs.declared.Kind.{Kind}
use Rattle.code.specs.declared.Kind.TheVariants.{If}
use Rattle.code.specs.Kinds.{number_of}
use Rattle.eval.specs.declared.Evaluated.{Evaluated}
use Rattle.eval.specs.declared.Evaluated.TheVariants.{Value, Overflow, Unbound}
use Rattle.eval.specs.Given.{optional, evaluated_as, filled, Looks}
use Rattle.eval.proofs.Leaves.{unbound-is, overflow-is, worked-is}
use Rattle.eval.proofs.Lists.{count-bound}
use Rattle.eval.proofs.Buffers.{filled_none}
use Rattle.code.proofs.Ends.{statements-length, statements-item}
use Rattle.code.proofs.Decoding.{code_is}
use Rattle.code.proofs.KindLaws.{by-kind, kind-low}
use Rattle.code.proofs.Targets.{is-of}
use Rattle.answers.specs.declared.No.{No}
use Rattle.rules.specs.declared.Entry.{Entry}
use Rattle.rules.specs.declared.Action.{Action}
use Rattle.rules.specs.declared.Action.TheVariants.{Bind, Enter, Open, Close, Push, Pop, Join}
use Rattle.rules.specs.Acts.{refusing, jam, closed, act_by, Parameters, sound_by, Is, next_in, next_of, arguments_of, Passes, Arrives, Entering}
use Rattle.rules.specs.Acts.{Enters, Takes, Transfers, Moves, Branches, Valued, NoIf, Comes, Acts}
use Rattle.rules.proofs.Heads.{Handed, handed-jam, passed_length, looked-none, looked-some, spawn-then}

module _ (s : List ℕ) (m : Frame) (out : List ℤ) (r : Result Action No) where
  -- the same act
  is-to : {t u : Rules.Act} → Is s m out r t → t ≡ u → Is s m out r u
  is-to h e = subst (Is s m out r) e h

  is-as : {r' : Result Action No} {t : Rules.Act} → r ≡ r' → Is s m out r' t → Is s m out r t
  is-as {t = t} e h = subst⁻¹ (λ (x : Result Action No). Is s m out x t) e h

  -- nothing passed on
  passes_none : {t : Rules.Act} → Is s m out r t → Passes s m [] out r out t
  passes_none h = record { is = h; left = filled_none m out }

  -- a refusal by its number; no rule applies
  refused-by : (n : ℕ) {t : Rules.Act} → r ≡ refusing n → t ≡ Rules.Act.refuse n → Is s m out r t
  refused-by n e d = rw e (record { act = sym d; sound = tt })

  refused : {t : Rules.Act} → r ≡ jam → t ≡ Rules.Act.refuse Numbers.stuck → Is s m out r t
  refused e d = refused-by Numbers.stuck e d

  -- a block that is not entered by the frame k
  lost : (P : Program) (rule f b n : ℕ) (k : Frame) (v̄ : List ℤ) {w : Result Entry No} → Handed r w → k.function ≡ f → length v̄ ≡ n
      → Entering s P f b n w → Is s m out r (by rule (enter P k b v̄))
  unfolding by
  lost P rule f b n k v̄ q h l (Entering.arrives e z a) = cc (q.given)
  lost P rule f b n k v̄ q h l (Entering.jams z a) = refused (handed-jam q z) (ap (by rule) (a k v̄ h l))

module _ (s : List ℕ) (m : Frame) (out : List ℤ) (w : Result Entry No) {e : Entry} (q : w ≡ Ok e) where
  -- a block entered by a rule with the values passed on
  entered : (P : Program) (rule f b n : ℕ) → m.function ≡ f → length (take n out) ≡ n → Entering s P f b n w
      → Is s m out (Ok (Enter (record { 0 = rule }) e)) (by rule (enter P m b (take n out)))
  unfolding by
  entered P rule f b n h l (Entering.arrives e' z a') =
      let a : Arrives s P f b n e = subst (λ (x : Entry). Arrives s P f b n x) (cc) a' in
      record {
        act =
            (λ i. Rules.Act.stay rule (bind_all (go_to m (a.block i) 0) (arguments_at s e.parameters) (take (a.count i) out)))
            ∙ sym (ap (by rule) (a.is m (take n out) h l));
        sound = subst⁻¹ (Parameters s e.parameters) a.count a.parameters;
      }
  entered P rule f b n h l (Entering.jams z a) = cc

  bind-none : (k : Frame) (ȳ : List ℕ) → bind_all k ȳ [] ≡ k
  unfolding bind_all
  bind-none k [] = refl
  bind-none k (y ∷ ȳ) = refl

  -- a block entered with no values by the frame k, which is m changed
  moved : (P : Program) (does : Action) (rule f b : ℕ) (k : Frame) → act_by s m does out ≡ Rules.Act.stay rule (go_to k e.block 0)
      → sound_by s m does → k.function ≡ f → Entering s P f b 0 w → Is s m out (Ok does) (by rule (enter P k b []))
  unfolding by
  moved P does rule f b k d g h (Entering.arrives e' z a') =
      let a : Arrives s P f b 0 e = subst (λ (x : Entry). Arrives s P f b 0 x) (cc) a' in
      record {
        act =
            d
            ∙ ap (λ (c : ℕ). Rules.Act.stay rule (go_to k c 0)) a.block
            ∙ sym (ap (by rule) (a.is k [] h refl ∙ ap some (bind-none (go_to k b 0) (arguments_at s e.parameters))));
        sound = g;
      }
  moved P does rule f b k d g h (Entering.jams z a) = cc

-- goto and call: the values of the arguments, looked up
module _ (s places : List ℕ) (m : Frame) (at : ℕ) (out₀ out : List ℤ) (r : Result Action No) (ok : Bool) {l : ℕ} (e₁ : l ≡ past at 1)
    (e₂ : Looks m s l out₀ ok out) where
  unbound : not ok ≡ true → look_all m (arguments_at s (past at 1)) ≡ none
  unbound t = ap (λ (i : ℕ). look_all m (arguments_at s i)) (sym e₁) ∙ looked-none s l ok out _ e₂.is t

  given : not ok ≡ false → look_all m (arguments_at s (past at 1)) ≡ some (take (count_at s l) out)
  given t = ap (λ (i : ℕ). look_all m (arguments_at s i)) (sym e₁) ∙ looked-some s l ok out _ e₂.is t

  passing : {t : Rules.Act} → Is s m out r t → Passes s m (arguments_at s (past at 1)) out₀ r out t
  passing h = record { is = h; left = e₂.left ∙ ap (λ (i : ℕ). filled m (arguments_at s i) out₀) e₁ }

  pub goto-stuck : not ok ≡ true → r ≡ jam → Transfers s places m (goto_at s at) out₀ r out
  unfolding transfer arguments_of goto by
  goto-stuck t h = record { is = λ P p. passing (refused s m out r h (rw (unbound t))) }

  module _ (w : Result Entry No) {f b n : ℕ} (t : not ok ≡ false) (z : length out ≡ most)
      (h : f ≡ m.function) (e₃ : b ≡ byte_at s at) (e₄ : n ≡ count_at s l) (d : Enters s places f b n w) where
    pub goto-goes : {e : Entry} → w ≡ Ok e → r ≡ Ok (Enter (record { 0 = Numbers.goto }) e) → Transfers s places m (goto_at s at) out₀ r out
    unfolding transfer arguments_of goto
    goto-goes q k =
        record {
          is = λ P p.
              passing
              (is-to s m out r
              (is-as s m out r k (entered s m out w q P Numbers.goto f b n (sym h) (passed_length s l out z e₄) (d P p)))
              (sym (rw (given t, ← e₃, ← e₄))));
        }

    pub goto-lost : Handed r w → Transfers s places m (goto_at s at) out₀ r out
    unfolding transfer arguments_of goto
    goto-lost q =
        record {
          is = λ P p.
              passing
              (is-to s m out r (lost s m out r P Numbers.goto f b n m _ q (sym h) (passed_length s l out z e₄) (d P p))
              (sym (rw (given t, ← e₃, ← e₄))));
        }

  pub call-unbound : not ok ≡ true → r ≡ jam → Transfers s places m (call_at s at) out₀ r out
  unfolding transfer arguments_of call acts
  call-unbound t h = record { is = λ P p. passing (refused s m out r h (rw (unbound t))) }

  module _ (there : Bool) {g n : ℕ} (t : not ok ≡ false) (z : length out ≡ most) (e₃ : g ≡ byte_at s at)
      (e₄ : n ≡ count_at s l) (k : Takes s places g n there) where
    callee-is : (P : Program) → Places s P places
        → callee P (byte_at s at) (take (count_at s l) out) ≡ optional there (begin g (take n out))
    callee-is P p = rw (← e₃, ← e₄) (k.is P p (take n out) (passed_length s l out z e₄))

    pub call-missing : not there ≡ true → r ≡ jam → Transfers s places m (call_at s at) out₀ r out
    unfolding transfer arguments_of call acts
    call-missing u h = record { is = λ P p. passing (refused s m out r h (rw (given t, callee-is P p, not-true there u))) }

    module _ (place : Place) {f i b : ℕ} (u : not there ≡ false) (q : f ≡ m.function) (e₅ : i ≡ list_end s l) (e₆ : b ≡ byte_at s i)
        (d : FindsBlock places f b place) where
      return-block : byte_at s (list_end s (past at 1)) ≡ b
      return-block = rw (← e₁, ← e₅) (sym e₆)

      pub call-nowhere : place ≡ None → r ≡ jam → Transfers s places m (call_at s at) out₀ r out
      unfolding transfer arguments_of call acts block_of function_of
      call-nowhere w h =
          record {
            is = λ P p.
                let c = subst (FindsBlock places f b) w d s P _ p in
                passing (refused s m out r h (rw (given t, callee-is P p, not-false there u, return-block, ← q, c)));
          }

      pub call-goes : (j : ℕ) → place ≡ Some j → r ≡ Ok (Push g n b) → Transfers s places m (call_at s at) out₀ r out
      unfolding transfer arguments_of call acts block_of function_of
      call-goes j w h =
          record {
            is = λ P p.
                let (B, c, _) = subst (FindsBlock places f b) w d s P _ p in
                passing
                (rw h (record { act = sym (rw (given t, callee-is P p, not-false there u, return-block, ← q, c)); sound = tt }));
          }

-- then, else
module _ (s places : List ℕ) (m : Frame) (b c : ℕ) (v : ℤ) (r : Result Action No) {f : ℕ} (g : SFits w32 v) (h : f ≡ m.function) where
  is-zero : of_z w32 v ≡ 0 → same v (pos 0) ≡ true
  is-zero t = sym (zero_test v g) ∙ eq-eqb (of_z w32 v) 0 t

  not-zero : (of_z w32 v ≡ 0 → ⊥) → same v (pos 0) ≡ false
  not-zero t = sym (zero_test v g) ∙ ne_eqb (of_z w32 v) 0 t

  module _ (w : Result Entry No) where
    pub branch-else : {e : Entry} → of_z w32 v ≡ 0 → Enters s places f c 0 w → w ≡ Ok e → r ≡ Ok (Enter (record { 0 = Numbers.else }) e)
        → Branches s places m b c v r
    unfolding branch
    branch-else t d q k =
        record { is = λ P p out. rw (is-zero t, k) (entered s m out w q P Numbers.else f c 0 (sym h) refl (d P p)) }

    pub branch-then : {e : Entry} → (of_z w32 v ≡ 0 → ⊥) → Enters s places f b 0 w → w ≡ Ok e → r ≡ Ok (Enter (record { 0 = Numbers.then }) e)
        → Branches s places m b c v r
    unfolding branch
    branch-then t d q k =
        record { is = λ P p out. rw (not-zero t, k) (entered s m out w q P Numbers.then f b 0 (sym h) refl (d P p)) }

    pub else-lost : of_z w32 v ≡ 0 → Enters s places f c 0 w → Handed r w → Branches s places m b c v r
    unfolding branch
    else-lost t d q = record { is = λ P p out. rw (is-zero t) (lost s m out r P Numbers.else f c 0 m [] q (sym h) refl (d P p)) }

    pub then-lost : (of_z w32 v ≡ 0 → ⊥) → Enters s places f b 0 w → Handed r w → Branches s places m b c v r
    unfolding branch
    then-lost t d q = record { is = λ P p out. rw (not-zero t) (lost s m out r P Numbers.then f b 0 m [] q (sym h) refl (d P p)) }

-- a transfer that passes nothing on
moves : (s places : List ℕ) (m : Frame) (T : Transfer) (r : Result Action No) → arguments_of (some T) ≡ []
    → ((P : Program) → Places s P places → (out : List ℤ) → Is s m out r (transfer P m T)) → Moves s places m T r
moves s places m T r e h = record { is = λ out. record { is = λ P p. rw e (passes_none s m out r (h P p out)) } }

-- stmt, if
abbrev carried : Option Worked → (ℤ → Rules.Act) → Option Rules.Act
carried o a = Frames.◌>>=◌ o (λ w. some (carry w a))

module _ (target : Optional ℕ) (s places : List ℕ) (m : Frame) (at : ℕ) (v : Evaluated) where
  -- refused by the expression alone, whatever its value would be carried on to
  valued-refused : (r : Result Action No) (n : ℕ) → r ≡ refusing n
      → (v ≡ evaluated_as (eval m (expression_at s at)) → (a : ℤ → Rules.Act)
      → acts (carried (eval m (expression_at s at)) a) ≡ Rules.Act.refuse n)
      → Valued target s places m at v r
  unfolding transfer arguments_of stmt if
  valued-refused r n h q =
      record {
        stmt = λ e x b l d out. refused-by s m out r n h (q e (assign m x));
        if = λ e b. moves s places m (if_at s at) r refl (λ P p out. refused-by s m out r n h (q e _));
      }

  pub valued-stuck : (r : Result Action No) → v ≡ Unbound → r ≡ jam → Valued target s places m at v r
  unfolding acts
  valued-stuck r t h = valued-refused r Numbers.stuck h (λ e a. rw (unbound-is v _ e t))

  pub valued-overflow : (r : Result Action No) → v ≡ Overflow → r ≡ refusing Numbers.overflow → Valued target s places m at v r
  unfolding acts carry
  valued-overflow r t h = valued-refused r Numbers.overflow h (λ e a. rw (overflow-is v _ e t))

  module _ {w : ℤ} (t : v ≡ Value w) (g : SFits w32 w) where
    pub valued-stmt : (x : ℕ) → target ≡ Some x
        → Valued target s places m at v (Ok (Bind x (to_z w32 (of_z w32 w))))
    unfolding stmt assign acts carry
    valued-stmt x b =
        record {
          stmt = λ e y q l d out.
              let p : x ≡ y = same_Some x y (sym b ∙ q) in
              rw (← p) (record { act = rw (to_z-of_z g) (sym (rw (worked-is v _ e t))); sound = (rw p l, d) });
          if = λ e f. absurd (none-some x (sym f ∙ b));
        }

    pub valued-if : (r : Result Action No) {i b j c : ℕ} → target ≡ None → i ≡ expression_end s at → b ≡ byte_at s i → j ≡ past i 1
        → c ≡ byte_at s j
        → Branches s places m b c (to_z w32 (of_z w32 w)) r → Valued target s places m at v r
    unfolding transfer arguments_of if acts carry
    valued-if r {i} {b} {j} {c} f e₂ e₃ e₄ e₅ d =
        let y₁ : byte_at s (expression_end s at) ≡ b = rw (← e₂) (sym e₃) in
        let y₂ : byte_at s (past (expression_end s at) 1) ≡ c = rw (← e₂, ← e₄) (sym e₅) in
        record {
          stmt = λ e x b l d out. absurd (none-some x (sym f ∙ b));
          if = λ e _.
              moves s places m (if_at s at) r refl
              (λ P p out. is-to s m out r (d.is P p out) (sym (rw (worked-is v _ e t, y₁, y₂, to_z-of_z g))));
        }

-- return
pub no-calls : (xs : List ℕ) → length xs ≡ 0 → equal xs [] ≡ true
unfolding equal
no-calls [] e = refl
no-calls (x ∷ xs) e = absurd (omega arith)

pub some-calls : (xs : List ℕ) → (length xs ≡ 0 → ⊥) → equal xs [] ≡ false
unfolding equal
some-calls [] e = absurd (e refl)
some-calls (x ∷ xs) e = refl

module _ (s places : List ℕ) (m : Frame) (at : ℕ) (out₀ out : List ℤ) (r : Result Action No) (ok : Bool) (e₁ : Looks m s at out₀ ok out) where
  returning : ((P : Program) → Is s m out r (return m (arguments_at s at))) → Transfers s places m (return_at s at) out₀ r out
  unfolding transfer arguments_of
  returning h = record { is = λ P p. record { is = h P; left = e₁.left } }

  pub return-unbound : not ok ≡ true → r ≡ jam → Transfers s places m (return_at s at) out₀ r out
  unfolding return acts
  return-unbound t h = returning (λ P. refused s m out r h (rw (looked-none s at ok out _ e₁.is t)))

  pub return-open : {n : ℕ} → not ok ≡ false → n ≡ length m.calls → (n ≡ 0 → ⊥) → r ≡ jam
      → Transfers s places m (return_at s at) out₀ r out
  unfolding return acts when
  return-open t e z h =
      returning λ P.
      refused s m out r h (rw (looked-some s at ok out _ e₁.is t, some-calls m.calls (λ q. z (e ∙ q))))

  pub return-goes : {n c : ℕ} → not ok ≡ false → n ≡ length m.calls → n ≡ 0 → c ≡ count_at s at → r ≡ Ok (Pop c)
      → Transfers s places m (return_at s at) out₀ r out
  unfolding return acts when
  return-goes t e z d h =
      returning λ P.
      rw h
      (record {
        act = sym (rw (looked-some s at ok out _ e₁.is t, no-calls m.calls (sym e ∙ z), ← d));
        sound = count-bound s at d;
      })

-- spork
module _ (s places : List ℕ) (m : Frame) (at : ℕ) (r : Result Action No) (place : Place) {f j π : ℕ} (h : f ≡ m.function) (e₁ : j ≡ past at 1)
    (e₂ : π ≡ byte_at s j) (d : FindsSpawn places f π place) where
  spork-is : (P : Program)
      → transfer P m (spork_at s at)
      ≡ by Numbers.spork
      (Frames.◌>>=◌ (spawn_in (get_elem? P f) π)
      (λ S. when (ltb (length m.calls) most_calls) (enter P (deque m (m.calls ++ (π ∷ [])) m.promoted) (byte_at s at) [])))
  unfolding transfer spork function_of
  spork-is P = rw (← e₁, ← e₂, h) (ap (by Numbers.spork) (spawn-then (get_elem? P m.function) π _))

  pub spork-missing : place ≡ None → r ≡ jam → Moves s places m (spork_at s at) r
  unfolding arguments_of by
  spork-missing w e =
      moves s places m (spork_at s at) r refl
      (λ P p out. let c = subst (FindsSpawn places f π) w d s P _ p in refused s m out r e (spork-is P ∙ rw c))

  module _ (i : ℕ) (w : place ≡ Some i) {n : ℕ} (z : n ≡ length m.calls) where
    pub spork-full : most_calls ≤ n → r ≡ jam → Moves s places m (spork_at s at) r
    unfolding arguments_of by when
    spork-full l e =
        moves s places m (spork_at s at) r refl
        (λ P p out.
        let (S, q, _) = subst (FindsSpawn places f π) w d s P _ p in
        refused s m out r e (spork-is P ∙ rw (q, ← z, le-ltb n most_calls l)))

    module _ (w' : Result Entry No) {b : ℕ} (l : n < most_calls) (e₃ : b ≡ byte_at s at) (q' : Enters s places f b 0 w') where
      pub spork-goes : {e : Entry} → w' ≡ Ok e → r ≡ Ok (Open π e.block) → Moves s places m (spork_at s at) r
      unfolding arguments_of when deque
      spork-goes {e} k y =
          moves s places m (spork_at s at) r refl
          (λ P p out.
          let (S, q, _) = subst (FindsSpawn places f π) w d s P _ p in
          is-to s m out r
          (is-as s m out r y
          (moved s m out w' k P (Open π e.block) Numbers.spork f b (deque m (m.calls ++ (π ∷ [])) m.promoted) refl (rw (← z) l) (sym h)
          (q' P p)))
          (sym (spork-is P ∙ rw (q, ← z, lt-ltb n most_calls l, ← e₃))))

      pub spork-lost : Handed r w' → Moves s places m (spork_at s at) r
      unfolding arguments_of when deque
      spork-lost k =
          moves s places m (spork_at s at) r refl
          (λ P p out.
          let (S, q, _) = subst (FindsSpawn places f π) w d s P _ p in
          is-to s m out r
          (lost s m out r P Numbers.spork f b 0 (deque m (m.calls ++ (π ∷ [])) m.promoted) [] k (sym h) refl (q' P p))
          (sym (spork-is P ∙ rw (q, ← z, lt-ltb n most_calls l, ← e₃))))

-- spoin
unsnoc-front : (x : ℕ) (xs : List ℕ) → (I : Snoc ℕ) × (unsnoc (x ∷ xs) ≡ some I) × (I.front ≡ take (length xs) (x ∷ xs))
unfolding unsnoc
unsnoc-front x [] = (record { front = []; last = x }, refl, refl)
unsnoc-front x (y ∷ xs) =
    let (I, p, q) = unsnoc-front y xs in
    (record { front = x ∷ I.front; last = I.last }, ap (λ (o : Option (Snoc ℕ)). some (snoc x o)) p, ap (λ (l : List ℕ). x ∷ l) q)

unsnoc-take : (xs : List ℕ) → (length xs ≡ 0 → ⊥) → (I : Snoc ℕ) × (unsnoc xs ≡ some I) × (I.front ≡ take (length xs - 1) xs)
unsnoc-take [] z = absurd (z refl)
unsnoc-take (x ∷ xs) z =
    let (I, p, q) = unsnoc-front x xs in
    let e : length xs ≡ length (x ∷ xs) - 1 = omega arith in
    (I, p, q ∙ ap (λ (j : ℕ). take j (x ∷ xs)) e)

module _ (s places : List ℕ) (m : Frame) (at : ℕ) (r : Result Action No) {n : ℕ} (i : n ≡ length m.calls) where
  pub spoin-none : n ≡ 0 → r ≡ jam → Moves s places m (spoin_at s at) r
  unfolding transfer arguments_of spoin acts unsnoc
  spoin-none z h = moves s places m (spoin_at s at) r refl (λ P p out. refused s m out r h (go P m.calls (sym i ∙ z) refl))
    where
      go : (P : Program) (xs : List ℕ) → length xs ≡ 0 → m.calls ≡ xs → transfer P m (spoin_at s at) ≡ Rules.Act.refuse Numbers.stuck
      go P [] l q = rw q
      go P (x ∷ xs) l q = absurd (omega arith)

  module _ (z : n ≡ 0 → ⊥) {q : ℕ} (d : q ≡ m.promoted) where
    spoin-is : (P : Program)
        → transfer P m (spoin_at s at) ≡ closing P m (byte_at s at) (byte_at s (past at 1)) (take (length m.calls - 1) m.calls) (ltb q n)
    unfolding transfer spoin acts
    spoin-is P =
        let (I, p, w) = unsnoc-take m.calls (λ y. z (i ∙ y)) in
        rw (p, w, ← d, ← i)

    module _ (w : Result Entry No) {f b : ℕ} (l : q < n) (h : f ≡ m.function) (e₁ : b ≡ byte_at s at) (g : Enters s places f b 0 w) where
      pub spoin-unpromoted : {e : Entry} → w ≡ Ok e → r ≡ Ok (Close e.block) → Moves s places m (spoin_at s at) r
      unfolding arguments_of closing deque
      spoin-unpromoted {e} k y =
          moves s places m (spoin_at s at) r refl
          (λ P p out.
          is-to s m out r
          (is-as s m out r y (moved s m out w k P (Close e.block) Numbers.unpr f b (closed m m.promoted) refl (omega arith) (sym h) (g P p)))
          (sym (spoin-is P ∙ rw (lt-ltb q n l, ← e₁))))

      pub spoin-lost : Handed r w → Moves s places m (spoin_at s at) r
      unfolding arguments_of closing deque
      spoin-lost k =
          moves s places m (spoin_at s at) r refl
          (λ P p out.
          is-to s m out r (lost s m out r P Numbers.unpr f b 0 (closed m m.promoted) [] k (sym h) refl (g P p))
          (sym (spoin-is P ∙ rw (lt-ltb q n l, ← e₁))))

    pub spoin-promoted : {j c : ℕ} → n ≤ q → j ≡ past at 1 → c ≡ byte_at s j → r ≡ Ok (Join c) → Moves s places m (spoin_at s at) r
    unfolding arguments_of closing
    spoin-promoted l e₁ e₂ h =
        moves s places m (spoin_at s at) r refl
        (λ P p out.
        rw h (record { act = sym (spoin-is P ∙ rw (le-ltb q n l, ← e₁, ← e₂)); sound = (omega arith, omega arith) }))

-- a transfer, by what it is
same-transfer : (s places : List ℕ) (m : Frame) (at : ℕ) (out₀ out : List ℤ) (r : Result Action No) {T : Transfer} → transfer_at s at ≡ T
    → Transfers s places m T out₀ r out → Transfers s places m (transfer_at s at) out₀ r out
same-transfer s places m at out₀ out r q h = subst⁻¹ (λ (T : Transfer). Transfers s places m T out₀ r out) q h

-- by its kind; an if is told before
module _ (s : List ℕ) (at : ℕ) {kind : Kind} {f : ℕ} (e₁ : number_of kind ≡ min (byte_at s at) 5) (e₂ : f ≡ past at 1) (places : List ℕ)
    (m : Frame) (out₀ out : List ℤ) (r : Result Action No) where
  pub transfer-by : (j : Kind) → kind ≡ j → Transfers s places m (transfer_of (number_of j) s f) out₀ r out → NoIf s places m at out₀ r out
  transfer-by j q h = record { is = λ o. same-transfer s places m at out₀ out r (by-kind s at e₁ e₂ q) h }

  pub transfer-if : kind ≡ If → NoIf s places m at out₀ r out
  transfer-if q = record { is = λ o. absurd (o (kind-low e₁ q (omega arith))) }

-- a block whose statements are all done: its transfer comes next
module _ (s : List ℕ) (at : ℕ) (m : Frame) (H : Head) (l : byte_at s at ≤ m.done) where
  code-done : get_elem? (code_at s at) m.done ≡ none
  unfolding code_at
  code-done = past-at (code_at s at) m.done (omega (arith, statements-length s (past at 1) (byte_at s at)))

  pub next-transfer : (i : ℕ) → i ≡ code_end s at → next_in m (coded H s at) ≡ some (transfer_at s i)
  unfolding next_in
  next-transfer i e = rw (code-done, e)

  pub comes-transfer : (i : ℕ) → i ≡ code_end s at → (P : Program)
      → coming P m (coded H s at) (get_elem? (code_at s at) m.done) ≡ transfer P m (transfer_at s i)
  unfolding coming
  comes-transfer i e P = rw (code-done, e)

-- a statement comes next
pub next-is : (s : List ℕ) (at done : ℕ) → done < byte_at s at
    → get_elem? (code_at s at) done ≡ some (statement_at s (statements_end s (past at 1) done))
unfolding code_at
next-is s at done l = statements-item s (past at 1) (byte_at s at) done l

-- what comes next, at i
module _ (s places : List ℕ) (m : Frame) (at : ℕ) (r : Result Action No) {n f done i x : ℕ} (e₁ : n ≡ byte_at s at) (e₂ : f ≡ past at 1)
    (e₃ : done ≡ m.done) (e₄ : i ≡ statements_end s f (min done n)) (e₅ : x ≡ byte_at s i) where
  next-statement : done < n → get_elem? (code_at s at) m.done ≡ some (statement_at s i)
  next-statement l =
      let y : min done n ≡ done = min-eq_left (omega arith) in
      let q : statements_end s (past at 1) m.done ≡ i = rw (← e₂, ← e₃) (sym (e₄ ∙ ap (statements_end s f) y)) in
      next-is s at m.done (omega arith) ∙ rw q

  at-transfer : (out₀ out : List ℤ) → n ≤ done → Transfers s places m (transfer_at s i) out₀ r out → Comes s places m at out₀ r out
  unfolding code_end
  at-transfer out₀ out l h =
      let y : min done n ≡ n = min-eq_right l in
      let q : i ≡ code_end s at = rw (← e₁, ← e₂) (e₄ ∙ ap (statements_end s f) y) in
      let k : byte_at s at ≤ m.done = omega arith in
      record { is = λ P p H t. rw (next-transfer s at m H k i q, comes-transfer s at m H k i q P) (h.is P p) }

  pub coming-transfer : (out₀ out : List ℤ) → ltb done n ≡ false → eqb x 1 ≡ false → NoIf s places m i out₀ r out
      → Comes s places m at out₀ r out
  coming-transfer out₀ out l o h = at-transfer out₀ out (ltb-false done n l) (h.is (λ q. eqb-false x 1 o (e₅ ∙ q)))

  -- its expression was evaluated
  module _ (out : List ℤ) {j : ℕ} (v : Evaluated) (e₆ : j ≡ past i 1) (e₇ : v ≡ evaluated_as (eval m (expression_at s j)))
      {target : Optional ℕ} (e₈ : target ≡ then_some (ltb done n) x) (h : Valued target s places m j v r) where
    pub coming-stmt : n < 256 → ltb done n ≡ true → Comes s places m at out r out
    unfolding coming next_in arguments_of statement_at
    coming-stmt z l =
        let o = ltb-true done n l in
        let a = next-statement o in
        record {
          is = λ P p H t.
              let w : x < temporaries = rw e₅ (each_at InStatement (code_at s at) m.done t a).target in
              rw (a, ← e₅, ← e₆) (passes_none s m out r (h.stmt e₇ x (rw e₈ (rw l refl)) w (omega arith) out));
        }

    pub coming-if : ltb done n ≡ false → eqb x 1 ≡ true → Comes s places m at out r out
    unfolding transfer_of
    coming-if l o =
        let q = is-of s i e₆ e₅ ∙ ap (λ (k : ℕ). transfer_of k s j) (eqb-true x 1 o) in
        at-transfer out out (ltb-false done n l) (same-transfer s places m i out out r q ((h.if e₇ (rw e₈ (rw l refl))).is out))

-- the block of a frame: the code behind its head
module _ (s places : List ℕ) (m : Frame) (place : Place) (d : FindsCode places m.function m.block place) (P : Program)
    (p : Places s P places) where
  pub block_none : place ≡ None → block_of P m m.block ≡ none
  unfolding block_of function_of
  block_none w = subst (FindsCode places m.function m.block) w d s P _ p

  pub block-some : (at : ℕ) → place ≡ Some at
      → (H : Head) × (block_of P m m.block ≡ some (coded H s at)) × Each InStatement (code_at s at)
  unfolding block_of function_of
  block-some at w =
      let (B, q, t) = subst (FindsCode places m.function m.block) w d s P _ p in
      let is : B ≡ coded (head_at s t.at) s at = code_is s t.at B t.block.behind at p.short t.block.is t.head in (
        head_at s t.at,
        q ∙ ap some is,
        subst (λ (C : Block). Each InStatement C.code) is
            ((Guarantees.block).gives s t.at B t.block.behind t.block.is).code,
      )

-- what a frame does next
module _ (s places : List ℕ) (m : Frame) (r : Result Action No) (place : Place) (d : FindsCode places m.function m.block place) where
  pub acts-nowhere : (out : List ℤ) → place ≡ None → r ≡ jam → Acts s places m out r out
  unfolding act acts next_of arguments_of
  acts-nowhere out w e P p = rw (block_none s places m place d P p w) (passes_none s m out r (refused s m out r e refl))

  pub acts-coming : (out₀ out : List ℤ) (at : ℕ) → place ≡ Some at → Comes s places m at out₀ r out → Acts s places m out₀ r out
  unfolding act acts next_of
  acts-coming out₀ out at w k P p =
      let (H, q, u) = block-some s places m place d P p at w in
      rw q (k.is P p H u)
