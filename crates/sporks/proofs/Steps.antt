-- What a choice leaves of the open calls of all threads: what the openers' rules say.
use Prim.Native.Nat.{ℕ, ◌<◌}
use mathlib.Core.Path.{◌≡◌, refl, sym, ◌∙◌, ap}
use mathlib.Core.Bool.{Bool, true, false, cond}
use mathlib.Core.Option.{Option, none, some}
use mathlib.Core.List.{List, [], ◌∷◌, ◌++◌, append-nil, append_assoc}
use native.Mathlib.Omega.{arith}
use lib.Dec.{ltb}
use lib.IntN.{ℤ}
use lib.ListN.{length}
use Rattle.model.specs.Numbers as No
use Rattle.model.specs.Syntax.{Function, Program}
use Rattle.model.specs.WellFormed.{WF-prog}
use Rattle.model.specs.Limits.{Limits}
use Rattle.model.specs.Pool.{Frame, Thread, Pool, most_frames, frames, restacked}
use Rattle.model.specs.Frames.{enter}
use Rattle.model.specs.Valid.{IsThread}
use Rattle.model.specs.Rules as Rules
use Rattle.model.specs.Rules.{Act, Result}
use Rattle.model.proofs.Kept.{OnSome}
use Rattle.safety.proofs.Typing.{Opens, Callers, Typed}
use Rattle.safety.proofs.Acts.{Does, does}
use Rattle.sporks.specs.Openers.{front, turn, on_list}
use Rattle.sporks.specs.Handed.{OpenCall, open_calls, open_in}
use Rattle.sporks.proofs.Turns.{turn-other}
use Rattle.sporks.proofs.Pairs.{front-snoc}
use Rattle.sporks.proofs.Values.{opened, enter-opened}
use Rattle.sporks.proofs.Acts.{Turned, Leaves, leaves}
use Rattle.sporks.proofs.Seen.{in_pool, Seen, Sees, nowhere}

module _ (P : Program) (t : Thread) (ts : List Thread) where
  -- the rules before spork open and close none
  before-spork : {rule : ℕ} → rule < No.spork → turn nowhere rule (open_in P t) (in_pool P ts) ≡ open_in P t ∷ in_pool P ts
  before-spork {rule} n =
      turn-other nowhere (open_in P t) (in_pool P ts) rule (omega (arith, n)) (omega (arith, n)) (omega (arith, n)) (omega (arith, n))

  -- such a rule that leaves the open calls
  sees-same : (rule : ℕ) (p' : Pool) → rule < No.spork → in_pool P p' ≡ open_in P t ∷ in_pool P ts → Seen P (t ∷ ts) 0 rule p'
  unfolding on_list
  sees-same rule p' n e =
      record {
        call = nowhere;
        sporks = λ q. absurd (omega (arith, n, q));
        gives = λ q. absurd (omega (arith, n, q));
        after = e ∙ sym (before-spork n);
      }

  -- all but the last
  less-front : (xs : List OpenCall) (o : OpenCall) → opened P t.newest ≡ xs ++ (o ∷ []) →
      front (open_in P t) ≡ open_calls P t.older ++ xs
  unfolding open_calls
  less-front xs o e =
      ap (λ (ys : List OpenCall). front (open_calls P t.older ++ ys)) e ∙
      ap front (sym (append_assoc (open_calls P t.older) xs (o ∷ []))) ∙ front-snoc (open_calls P t.older ++ xs) o

  -- the newest frame stays, with the open calls xs
  sees-turned : {rule : ℕ} {xs : List OpenCall} (p' : Pool) → Turned P t.newest rule xs →
      in_pool P p' ≡ (open_calls P t.older ++ xs) ∷ in_pool P ts → Seen P (t ∷ ts) 0 rule p'
  unfolding on_list turn open_calls
  sees-turned {rule} p' (Turned.keeps n e) h =
      sees-same rule p' n (h ∙ ap (λ (xs : List OpenCall). (open_calls P t.older ++ xs) ∷ in_pool P ts) e)
  sees-turned p' (Turned.opens {o = o} a e) h =
      record {
        call = o;
        sporks = λ _. record { thread = t; there = refl; spork = a };
        gives = λ q. absurd (omega (arith, q));
        after = h ∙ ap (λ (xs : List OpenCall). xs ∷ in_pool P ts)
            (ap (λ (xs : List OpenCall). open_calls P t.older ++ xs) e ∙
            sym (append_assoc (open_calls P t.older) (opened P t.newest) (o ∷ [])));
      }
  sees-turned {xs = xs} p' (Turned.closes o e) h =
      record {
        call = o;
        sporks = λ q. absurd (omega (arith, q));
        gives = λ q. absurd (omega (arith, q));
        after = h ∙ ap (λ (ys : List OpenCall). ys ∷ in_pool P ts) (sym (less-front xs o e));
      }

  -- a frame over K enters a block, where that leaves its open calls
  sees-top : (rule : ℕ) (K : List Frame) (k : Frame) (ts' : List Thread) (o : Option Frame) →
      OnSome (λ k'. opened P k' ≡ opened P k) o →
      ((p' : Pool) → in_pool P p' ≡ open_calls P (k ∷ K) ∷ in_pool P ts' → Seen P (t ∷ ts) 0 rule p') →
      Sees P (t ∷ ts) 0 (Rules.on_top rule t K ts' o)
  unfolding Rules.on_top open_calls
  sees-top rule K k ts' none h f = tt
  sees-top rule K k ts' (some k') h f =
      f (restacked t (k' ∷ K) ∷ ts') (ap (λ (xs : List OpenCall). (open_calls P K ++ xs) ∷ in_pool P ts') h)

module _ {P : Program} (W : WF-prog P) (t : Thread) where
  sees-pop : (n r : ℕ) (v̄ : List ℤ) (ts : List Thread) (K : List Frame) → Callers P n K r → open_in P t ≡ open_calls P K →
      Sees P (t ∷ ts) 0 (Rules.popping P t K ts v̄)
  unfolding Rules.popping
  sees-pop n r v̄ ts [] c e = tt
  sees-pop n r v̄ ts (k ∷ K) c e =
      sees-top P t ts No.return K k ts (enter P k k.block v̄) (enter-opened W v̄ c.1)
      λ p' h. sees-same P t ts No.return p' (omega arith) (h ∙ ap (λ (xs : List OpenCall). xs ∷ in_pool P ts) (sym e))

  -- a join takes the thread directly behind away
  sees_child : {F : Function} {k : Frame} {c n : ℕ} (o : OpenCall) (u : Thread) (ts : List Thread) → Opens P F k c n →
      opened P t.newest ≡ opened P k ++ (o ∷ []) → (v : Option (List ℤ)) → Sees P (t ∷ u ∷ ts) 0 (Rules.joining P t k c ts v)
  unfolding Rules.joining on_list turn open_calls
  sees_child o u ts q e none = tt
  sees_child {k = k} {c} o u ts q e (some v̄) =
      sees-top P t (u ∷ ts) No.prom t.older k ts (enter P k c v̄) (enter-opened W v̄ q) joined
    where
      joined : (p' : Pool) → in_pool P p' ≡ open_calls P (k ∷ t.older) ∷ in_pool P ts → Seen P (t ∷ u ∷ ts) 0 No.prom p'
      joined p' h =
          record {
            call = o;
            sporks = λ q. absurd (omega (arith, q));
            gives = λ q. absurd (omega (arith, q));
            after = h ∙ ap (λ (xs : List OpenCall). xs ∷ in_pool P ts) (sym (less-front P t ts (opened P k) o e));
          }

  sees-join : {F : Function} {k : Frame} {c n : ℕ} (o : OpenCall) (ts : List Thread) → Opens P F k c n →
      opened P t.newest ≡ opened P k ++ (o ∷ []) → Sees P (t ∷ ts) 0 (Rules.joins P t k c ts)
  unfolding Rules.joins
  sees-join o [] q e = tt
  sees-join o (u ∷ ts) q e = sees_child o u ts q e (Rules.ended P u)

  sees-call : (ts : List Thread) (k l : Frame) → opened P k ≡ opened P t.newest → opened P l ≡ [] → (room : Bool) →
      Sees P (t ∷ ts) 0 (cond room (Result.made No.call (restacked t (l ∷ k ∷ t.older) ∷ ts)) (Result.refused No.frames))
  unfolding open_calls
  sees-call ts k l e z true =
      sees-same P t ts No.call _ (omega arith)
      (ap (λ (xs : List OpenCall). xs ∷ in_pool P ts)
      (ap (λ (xs : List OpenCall). open_calls P t.older ++ opened P k ++ xs) z ∙ append-nil _ ∙
      ap (λ (xs : List OpenCall). open_calls P t.older ++ xs) e))
  sees-call ts k l e z false = tt

  sees-apply : {F : Function} (r : ℕ) (ts : List Thread) {a : Act} → Does P F t.newest a → Leaves P t.newest a →
      Callers P F.signature.returns t.older r → Sees P (t ∷ ts) 0 (Rules.apply P t ts a)
  unfolding Rules.apply open_calls
  sees-apply r ts (Does.stays {k' = k'} q y o) h c = sees-turned P t ts _ h refl
  sees-apply r ts (Does.calls {k' = k} {l = l} o s y z) h c = sees-call ts k l h.0 h.1 (ltb (length (frames t)) most_frames)
  sees-apply {F} r ts (Does.returns {v̄ = v̄} n o) h c =
      sees-pop F.signature.returns r v̄ ts t.older c (ap (λ (xs : List OpenCall). open_calls P t.older ++ xs) h ∙ append-nil _)
  sees-apply r ts (Does.joins o s) h c = sees-join h.0 ts o h.1
  sees-apply r ts Does.overflows h c = tt

  pub sees-step : (L : Limits P) (r : ℕ) (ts : List Thread) → Typed P r t → IsThread P t → Sees P (t ∷ ts) 0 (Rules.step P t ts)
  unfolding Rules.step
  sees-step L r ts y s = sees-apply r ts (does W L y.runs s.newest.promoted) (leaves W y.runs) y.callers
