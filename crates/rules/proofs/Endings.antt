-- What a frame returns: nothing, unless its code is at a return with nothing open and its temporaries bound.
use Prim.Native.Nat.{ℕ, zero, suc, ◌≤◌, ◌<◌, min}
use mathlib.Core.Path.{◌≡◌, refl, sym, ap, ◌∙◌}
use mathlib.Core.Bool.{Bool, true, false, not, cond}
use mathlib.Core.Option.{Option, none, some}
use Rattle.std.specs.Prelude.{Option as Optional, Some, None}
use mathlib.Core.List.{List, []}
use native.Mathlib.Omega.{arith}
use lib.Dec.{ltb}
use lib.IntN.{ℤ, pos}
use lib.ListN.{length, get_elem?, take}
use Rattle.model.specs.Numbers as Numbers
use Rattle.model.specs.Lists.{Snoc, unsnoc, equal}
use Rattle.model.specs.Values.{Worked, same}
use Rattle.model.specs.Syntax.{Expression, Statement, Transfer, Head, Block, Program}
use Rattle.model.specs.Pool.{Frame, block_of}
use Rattle.model.specs.Frames as Frames
use Rattle.model.specs.Frames.{when, look_all, eval, go_to, callee}
use Rattle.model.specs.Rules as Rules
use Rattle.model.specs.Rules.{by, acts, carry, assign, stmt, goto, branch, if, call, return, spork, closing, spoin, transfer}
use Rattle.model.specs.Rules.{coming, act, returned}
use Rattle.places.specs.Places.{Place, FindsCode}
use Rattle.code.specs.Bytes.{byte_at, past}
use Rattle.code.specs.Code.{count_at, arguments_at, statements_end, transfer_of, transfer_at, code_at, code_end, coded}
use Rattle.code.specs.declared.Kind.{Kind}
use Rattle.code.specs.declared.Kind.TheVariants.{Return}
use Rattle.code.specs.Kinds.{number_of}
use Rattle.code.proofs.KindLaws.{by-kind, kind-other}
use Rattle.code.proofs.Targets.{is-of}
use Rattle.eval.specs.Given.{Looks}
use Rattle.eval.proofs.Lists.{count-bound}
use Rattle.eval.proofs.Buffers.{filled_none}
use Rattle.rules.specs.Acts.{transfer_by, next_in, next_of, returns_of, Ending, Giving}
use Rattle.rules.proofs.Heads.{looked-none, looked-some}
use Rattle.rules.proofs.Steps.{no-calls, some-calls, next-is, next-transfer, comes-transfer, block_none, block-some}

-- a rule that goes on returns nothing
by_runs : (rule : ℕ) (o : Option Frame) → returned [] (by rule o) ≡ none
unfolding returned by
by_runs rule none = refl
by_runs rule (some k) = refl

-- what an expression is carried on to returns nothing where its values' acts do not
carried-runs : (o : Option Worked) (a : ℤ → Rules.Act) → ((v : ℤ) → returned [] (a v) ≡ none)
    → returned [] (acts (Frames.◌>>=◌ o (λ w. some (carry w a)))) ≡ none
unfolding returned acts carry
carried-runs none a h = refl
carried-runs (some (Worked.value v)) a h = h v
carried-runs (some Worked.overflow) a h = refl

stmt-runs : (m : Frame) (t : Statement) → returned [] (stmt m t) ≡ none
unfolding stmt assign returned
stmt-runs m t = carried-runs (eval m t.source) (assign m t.target) (λ v. refl)

branch-runs : (P : Program) (m : Frame) (b c : ℕ) (t : Bool) → returned [] (branch P m b c t) ≡ none
unfolding branch
branch-runs P m b c true = by_runs Numbers.else _
branch-runs P m b c false = by_runs Numbers.then _

if-runs : (P : Program) (m : Frame) (e : Expression) (b c : ℕ) → returned [] (if P m e b c) ≡ none
unfolding if
if-runs P m e b c = carried-runs (eval m e) _ (λ v. branch-runs P m b c (same v (pos 0)))

call-runs : (P : Program) (m : Frame) (g : ℕ) (x̄ : List ℕ) (b : ℕ) → returned [] (call P m g x̄ b) ≡ none
unfolding call acts returned
call-runs P m g x̄ b = looked (look_all m x̄)
  where
    placed : (l : Frame) (o : Option Block) → returned [] (acts (Frames.◌>>=◌ o (λ B. some (Rules.Act.push (go_to m b 0) l)))) ≡ none
    placed l none = refl
    placed l (some B) = refl

    calling : Frame → Option Rules.Act
    calling l = Frames.◌>>=◌ (block_of P m b) (λ B. some (Rules.Act.push (go_to m b 0) l))

    called : (o : Option Frame) → returned [] (acts (Frames.◌>>=◌ o calling)) ≡ none
    called none = refl
    called (some l) = placed l (block_of P m b)

    looked : (o : Option (List ℤ)) → returned [] (acts (Frames.◌>>=◌ o (λ v̄. Frames.◌>>=◌ (callee P g v̄) calling))) ≡ none
    looked none = refl
    looked (some v̄) = called (callee P g v̄)

closing-runs : (P : Program) (m : Frame) (b c : ℕ) (ρ : List ℕ) (t : Bool) → returned [] (closing P m b c ρ t) ≡ none
unfolding closing returned
closing-runs P m b c ρ true = by_runs Numbers.unpr _
closing-runs P m b c ρ false = refl

spoin-runs : (P : Program) (m : Frame) (b c : ℕ) → returned [] (spoin P m b c) ≡ none
unfolding spoin acts returned
spoin-runs P m b c = go (unsnoc m.calls)
  where
    go : (o : Option (Snoc ℕ))
        → returned [] (acts (Frames.◌>>=◌ o (λ I. some (closing P m b c I.front (ltb m.promoted (length m.calls)))))) ≡ none
    go none = refl
    go (some I) = closing-runs P m b c I.front _

-- a transfer that is no return
transfer-runs : (P : Program) (m : Frame) (s : List ℕ) (f kind : ℕ) → (kind ≡ 3 → ⊥)
    → returned [] (transfer P m (transfer_of kind s f)) ≡ none
unfolding transfer transfer_of goto spork
transfer-runs P m s f zero z = by_runs Numbers.goto _
transfer-runs P m s f (suc zero) z = if-runs P m _ _ _
transfer-runs P m s f (suc (suc zero)) z = call-runs P m _ _ _
transfer-runs P m s f (suc (suc (suc zero))) z = absurd (z refl)
transfer-runs P m s f (suc (suc (suc (suc zero)))) z = by_runs Numbers.spork _
transfer-runs P m s f (suc (suc (suc (suc (suc kind))))) z = spoin-runs P m _ _

no-returns : (m : Frame) (s : List ℕ) (f kind : ℕ) → (kind ≡ 3 → ⊥) → returns_of m (some (transfer_of kind s f)) ≡ []
unfolding returns_of transfer_of
no-returns m s f zero z = refl
no-returns m s f (suc zero) z = refl
no-returns m s f (suc (suc zero)) z = refl
no-returns m s f (suc (suc (suc zero))) z = absurd (z refl)
no-returns m s f (suc (suc (suc (suc zero)))) z = refl
no-returns m s f (suc (suc (suc (suc (suc kind))))) z = refl

-- a return: with something open, with a temporary unbound, and with its values
module _ (m : Frame) (x̄ : List ℕ) where
  return-runs : equal m.calls [] ≡ false → returned [] (return m x̄) ≡ none
  unfolding return acts returned when
  return-runs e = rw e (go (look_all m x̄))
    where
      go : (o : Option (List ℤ)) → returned [] (acts (Frames.◌>>=◌ o (λ v̄. none))) ≡ none
      go none = refl
      go (some v̄) = refl

  return-none : look_all m x̄ ≡ none → returned [] (return m x̄) ≡ none
  unfolding return acts returned
  return-none e = rw e

  return-gives : (v̄ : List ℤ) → equal m.calls [] ≡ true → look_all m x̄ ≡ some v̄ → returned [] (return m x̄) ≡ some v̄
  unfolding return acts returned when
  return-gives v̄ e d = rw (d, e)

-- by the code of a block, each with the shape of one of the code's answers
module _ (s : List ℕ) (m : Frame) (at : ℕ) {n done : ℕ} (e₁ : n ≡ byte_at s at) (e₂ : done ≡ m.done) where
  pub ending-stmt : (out : List ℤ) → done < n → Ending s m at out None out
  unfolding coming next_in returns_of
  ending-stmt out l =
      record {
        few = tt;
        is = λ P H. let a = next-is s at m.done (omega arith) in sym (rw a (stmt-runs m _));
        left = λ H. let a = next-is s at m.done (omega arith) in rw a (filled_none m out);
      }

  module _ (l : n ≤ done) {f i : ℕ} (e₃ : f ≡ past at 1) (e₄ : i ≡ statements_end s f n) where
    here : i ≡ code_end s at
    unfolding code_end
    here = rw (← e₁, ← e₃) e₄

    at-transfer : (P : Program) (H : Head) (T : Transfer) → transfer_at s i ≡ T
        → returned [] (coming P m (coded H s at) (get_elem? (code_at s at) m.done)) ≡ returned [] (transfer P m T)
    at-transfer P H T q = ap (returned []) (comes-transfer s at m H (omega arith) i here P ∙ ap (transfer P m) q)

    returns-at : (H : Head) (T : Transfer) → transfer_at s i ≡ T → returns_of m (next_in m (coded H s at)) ≡ returns_of m (some T)
    returns-at H T q = ap (returns_of m) (next-transfer s at m H (omega arith) i here ∙ ap some q)

    module _ {kind : Kind} (e₅ : number_of kind ≡ min (byte_at s i) 5) where
      pub ending-other : (out : List ℤ) → (kind ≡ Return → ⊥) → Ending s m at out None out
      ending-other out z =
          let q = is-of s i refl refl in
          let k : byte_at s i ≡ 3 → ⊥ = kind-other {j = Return} e₅ z (omega arith) in
          record {
            few = tt;
            is = λ P H. sym (at-transfer P H _ q ∙ transfer-runs P m s _ _ k);
            left = λ H. rw (returns-at H _ q, no-returns m s _ _ k) (filled_none m out);
          }

      module _ (z : kind ≡ Return) {c : ℕ} (e₆ : c ≡ length m.calls) where
        at_return : (j : ℕ) → j ≡ past i 1 → transfer_at s i ≡ Transfer.return (arguments_at s j)
        unfolding transfer_of
        at_return j e = by-kind s i e₅ e z

        pub ending-open : (out : List ℤ) → (c ≡ 0 → ⊥) → Ending s m at out None out
        unfolding transfer returns_of
        ending-open out o =
            let q = at_return (past i 1) refl in
            let k = some-calls m.calls (λ y. o (e₆ ∙ y)) in
            record {
              few = tt;
              is = λ P H. sym (at-transfer P H _ q ∙ return-runs m _ k);
              left = λ H. rw (returns-at H _ q, k) (filled_none m out);
            }

        module _ (o : c ≡ 0) (out₀ out : List ℤ) (ok : Bool) {j : ℕ} (e₇ : j ≡ past i 1) (e₈ : Looks m s j out₀ ok out) where
          pub ending-unbound : not ok ≡ true → Ending s m at out₀ None out
          unfolding transfer returns_of
          ending-unbound t =
              let q = at_return j e₇ in
              record {
                few = tt;
                is = λ P H. sym (at-transfer P H _ q ∙ return-none m _ (looked-none s j ok out _ e₈.is t));
                left = λ H. rw (returns-at H _ q, no-calls m.calls (sym e₆ ∙ o)) e₈.left;
              }

          pub ending-gives : {y : ℕ} → not ok ≡ false → y ≡ count_at s j → Ending s m at out₀ (Some y) out
          unfolding transfer returns_of
          ending-gives {y} t e =
              let q = at_return j e₇ in
              let k = no-calls m.calls (sym e₆ ∙ o) in
              record {
                few = count-bound s j e;
                is = λ P H.
                    ap (λ (a : ℕ). some (take a out)) e
                    ∙ sym (at-transfer P H _ q ∙ return-gives m _ _ k (looked-some s j ok out _ e₈.is t));
                left = λ H. rw (returns-at H _ q, k) e₈.left;
              }

-- by the frame's block
module _ (s places : List ℕ) (m : Frame) (place : Place) (d : FindsCode places m.function m.block place) where
  pub giving-nowhere : (out : List ℤ) → place ≡ None → Giving s places m out None out
  unfolding act acts returned next_of returns_of
  giving-nowhere out w =
      record {
        few = tt;
        is = λ P p. sym (rw (block_none s places m place d P p w));
        left = λ P p. rw (block_none s places m place d P p w) (filled_none m out);
      }

  pub giving-at : (out₀ out : List ℤ) (at : ℕ) (r : Optional ℕ) → place ≡ Some at → Ending s m at out₀ r out → Giving s places m out₀ r out
  unfolding act acts next_of
  giving-at out₀ out at r w k =
      record {
        few = k.few;
        is = λ P p. let (H, q, u) = block-some s places m place d P p at w in rw q (k.is P H);
        left = λ P p. let (H, q, u) = block-some s places m place d P p at w in rw q (k.left H);
      }

-- what is given are the values of the temporaries returned
module _ (P : Program) (m : Frame) (v̄ : List ℤ) where
  transfer-gives : (T : Transfer) → returned [] (transfer P m T) ≡ some v̄ → look_all m (returns_of m (some T)) ≡ some v̄
  unfolding transfer goto spork returns_of return acts returned when
  transfer-gives (Transfer.goto b x̄) e = cc (by_runs Numbers.goto _)
  transfer-gives (Transfer.if c b d) e = cc (if-runs P m c b d)
  transfer-gives (Transfer.call g x̄ b) e = cc (call-runs P m g x̄ b)
  transfer-gives (Transfer.return x̄) e = go (equal m.calls []) (look_all m x̄) refl e
    where
      go : (b : Bool) (o : Option (List ℤ)) → look_all m x̄ ≡ o
          → returned [] (acts (Frames.◌>>=◌ o (λ w̄. when b (some (Rules.Act.pop w̄))))) ≡ some v̄ → look_all m (cond b x̄ []) ≡ some v̄
      go true none h q = cc
      go true (some w̄) h q = h ∙ q
      go false none h q = cc
      go false (some w̄) h q = cc
  transfer-gives (Transfer.spork b π) e = cc (by_runs Numbers.spork _)
  transfer-gives (Transfer.spoin b c) e = cc (spoin-runs P m b c)

  pub act-gives : returned [] (act P m) ≡ some v̄ → look_all m (returns_of m (next_of P m)) ≡ some v̄
  unfolding act acts next_of coming returned next_in
  act-gives e = at (block_of P m m.block) e
    where
      next : (B : Block) (o : Option Statement) → returned [] (coming P m B o) ≡ some v̄
          → look_all m (returns_of m (transfer_by B o)) ≡ some v̄
      next B none q = transfer-gives B.transfer q
      next B (some t) q = cc (stmt-runs m t)

      at : (o : Option Block) → returned [] (acts (Frames.◌>>=◌ o (λ B. some (coming P m B (get_elem? B.code m.done))))) ≡ some v̄
          → look_all m (returns_of m (Frames.◌>>=◌ o (next_in m))) ≡ some v̄
      at none q = cc
      at (some B) q = next B (get_elem? B.code m.done) q
