-- A return brings at most four values.
use Prim.Native.Nat.{ℕ, suc, ◌≤◌}
use mathlib.Core.Path.{◌≡◌, refl, sym, ap, subst, ◌∙◌}
use mathlib.Core.Bool.{Bool, true, false}
use mathlib.Core.Option.{Option, none, some}
use mathlib.Core.List.{List, [], ◌∷◌}
use native.Mathlib.Omega.{arith}
use lib.IntN.{ℤ, pos}
use lib.ListN.{length, get_elem?}
use Rattle.model.specs.Lists.{equal, unsnoc}
use Rattle.model.specs.Values.{same}
use Rattle.model.specs.Syntax.{Statement, Transfer, Block, Function, Program}
use Rattle.model.specs.Limits.{InFunction, InBlock, InTransfer, Limits}
use Rattle.model.specs.Pool.{Frame, Thread, Pool, function_of, block_in, block_of}
use Rattle.model.specs.Frames.{◌>>=◌, when, look, look_all, eval, callee}
use Rattle.model.specs.Rules.{Act, by, acts, assign, stmt, goto, branch, if, call, return, spork, closing, spoin, transfer, coming}
use Rattle.model.specs.Rules.{act, returned, ended, main_values}
use Rattle.model.proofs.Facts.{each_at, none-some, some-injective}
use Rattle.model.proofs.Kept.{OnSome, on-bind, on-carry}

-- at most four values, where the act is a return
abbrev Few : Act → Type 0
Few (Act.refuse n) = Unit {0}
Few (Act.stay rule k) = Unit {0}
Few (Act.push k l) = Unit {0}
Few (Act.pop v̄) = length v̄ ≤ 4
Few (Act.join k c) = Unit {0}

few-acts : (o : Option Act) → OnSome Few o → Few (acts o)
unfolding acts
few-acts none h = tt
few-acts (some a) h = h

few-by : (rule : ℕ) (o : Option Frame) → Few (by rule o)
unfolding by
few-by rule none = tt
few-by rule (some k) = tt

looked-long : (k : Frame) (x̄ : List ℕ) (v̄ : List ℤ) → look_all k x̄ ≡ some v̄ → length v̄ ≡ length x̄
unfolding look_all
looked-long k [] v̄ e = sym (ap length (some-injective e))
looked-long k (x ∷ x̄) v̄ e = go (look k x) (look_all k x̄) refl e (λ w̄ q. looked-long k x̄ w̄ q)
  where
    go : (o : Option ℤ) (p : Option (List ℤ)) → look_all k x̄ ≡ p → (◌>>=◌ o λ v. ◌>>=◌ p λ w̄. some (v ∷ w̄)) ≡ some v̄
        → ((w̄ : List ℤ) → look_all k x̄ ≡ some w̄ → length w̄ ≡ length x̄) → length v̄ ≡ suc (length x̄)
    go none p q e r = none-some e
    go (some v) none q e r = none-some e
    go (some v) (some w̄) q e r = sym (ap length (some-injective e)) ∙ ap suc (r w̄ q)

few-when : (b : Bool) (o : Option Act) → OnSome Few o → OnSome Few (when b o)
unfolding when
few-when true o h = h
few-when false o h = tt

few-closing : (P : Program) (k : Frame) (b c : ℕ) (ρ : List ℕ) (u : Bool) → Few (closing P k b c ρ u)
unfolding closing
few-closing P k b c ρ true = few-by _ _
few-closing P k b c ρ false = tt

few-branch : (P : Program) (k : Frame) (b c : ℕ) (z : Bool) → Few (branch P k b c z)
unfolding branch
few-branch P k b c true = few-by _ _
few-branch P k b c false = few-by _ _

few-transfer : (P : Program) (k : Frame) (T : Transfer) → InTransfer T → Few (transfer P k T)
unfolding transfer InTransfer goto if call return spork spoin
few-transfer P k (Transfer.goto b x̄) h = few-by _ _
few-transfer P k (Transfer.if e b c) h =
    few-acts _ (on-bind Few (eval k e) _ λ w q. on-carry Few w _ tt λ v _. few-branch P k b c (same v (pos 0)))
few-transfer P k (Transfer.call g x̄ b) h =
    few-acts _ (on-bind Few (look_all k x̄) _ λ v̄ q. on-bind Few (callee P g v̄) _ λ l r. on-bind Few (block_of P k b) _ λ B u. tt)
few-transfer P k (Transfer.return x̄) h =
    few-acts _
    (on-bind Few (look_all k x̄) _ λ v̄ q. few-when (equal k.calls []) (some (Act.pop v̄))
    (omega (arith, looked-long k x̄ v̄ q, h.few)))
few-transfer P k (Transfer.spork b π) h = few-by _ _
few-transfer P k (Transfer.spoin b c) h = few-acts _ (on-bind Few (unsnoc k.calls) _ λ I q. few-closing P k b c I.front _)

few-coming : (P : Program) (k : Frame) (B : Block) (o : Option Statement) → InTransfer B.transfer → Few (coming P k B o)
unfolding coming stmt assign
few-coming P k B (some s) h = few-acts _ (on-bind Few (eval k s.source) _ λ w _. on-carry Few w _ tt λ v _. tt)
few-coming P k B none h = few-transfer P k B.transfer h

block_in_lem : (P : Program) → Limits P → (k : Frame) (b : ℕ) (B : Block) → block_of P k b ≡ some B → InBlock B
unfolding block_of function_of block_in
block_in_lem P L k b B e = go (get_elem? P k.function) refl e
  where
    go : (o : Option Function) → get_elem? P k.function ≡ o → block_in o b ≡ some B → InBlock B
    go none q e = none-some e
    go (some F) q e = each_at InBlock F.blocks b (each_at InFunction P k.function L.functions q).blocks e

few-act : (P : Program) → Limits P → (k : Frame) → Few (act P k)
unfolding act
few-act P L k =
    few-acts _
    (on-bind Few (block_of P k k.block) _ λ B e. few-coming P k B (get_elem? B.code k.done)
    (block_in_lem P L k k.block B e).transfer)

few-returned : (K : List Frame) (a : Act) (v̄ : List ℤ) → Few a → returned K a ≡ some v̄ → length v̄ ≤ 4
unfolding returned
few-returned [] (Act.refuse n) v̄ h e = none-some e
few-returned [] (Act.stay rule k) v̄ h e = none-some e
few-returned [] (Act.push k l) v̄ h e = none-some e
few-returned [] (Act.pop w̄) v̄ h e = subst (λ (z : List ℤ). length z ≤ 4) (some-injective e) h
few-returned [] (Act.join k c) v̄ h e = none-some e
few-returned (k ∷ K) a v̄ h e = none-some e

pub few-ended : (P : Program) → Limits P → (t : Thread) (v̄ : List ℤ) → ended P t ≡ some v̄ → length v̄ ≤ 4
unfolding ended
few-ended P L t v̄ e = few-returned t.older (act P t.newest) v̄ (few-act P L t.newest) e

pub few-main : (P : Program) → Limits P → (p : Pool) (v̄ : List ℤ) → main_values P p ≡ some v̄ → length v̄ ≤ 4
unfolding main_values
few-main P L [] v̄ e = none-some e
few-main P L (t ∷ p) v̄ e = few-ended P L t v̄ e
