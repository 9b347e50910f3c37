-- A promotion: the open calls stay, the oldest that is not promoted is the one, and the child begins with its arguments.
use Prim.Native.Nat.{ℕ, zero, suc, ◌+◌, ◌≤◌, ◌<◌}
use mathlib.Core.Path.{◌≡◌, refl, sym, ◌∙◌, ap, ap₂}
use mathlib.Core.Bool.{Bool, true, false}
use mathlib.Core.Option
use mathlib.Core.Option.{Option, none, some}
use mathlib.Core.List.{List, [], ◌∷◌, ◌++◌, map}
use native.Mathlib.Omega.{arith}
use lib.ListN.{length, get_elem?, length-append, length-map}
use Rattle.model.specs.Lists.{Each}
use Rattle.model.specs.Syntax.{Program}
use Rattle.model.specs.Pool.{Frame, Thread, frames, born, restacked, function_of, children}
use Rattle.model.specs.Frames.{◌>>=◌, look_all, callee, deque}
use Rattle.model.specs.Valid.{IsOlder, Settled, Ordered, IsThread}
use Rattle.model.specs.Rules as Rules
use Rattle.model.specs.Rules.{Promotion}
use Rattle.model.proofs.Facts.{at-below, at-past, at_first, at_second, eqb-true, map_at}
use Rattle.model.proofs.Valid.{restacked-frames}
use Rattle.model.proofs.Kept.{OnSome, on-bind, on-when, Promotes, Oldest, oldest-kept}
use Rattle.sporks.specs.Openers.{turn, on_list}
use Rattle.sporks.specs.Handed.{arguments_of, OpenCall, standing, open_calls, open_in}
use Rattle.sporks.proofs.Values.{opened, deque-opened}
use Rattle.sporks.proofs.Acts.{begin-opened}
use Rattle.sporks.proofs.Seen.{ChildOf, in_pool, Sees, nowhere}

child-begins : (P : Program) (k : Frame) (π : ℕ) → OnSome (ChildOf P k π) (Rules.child P k π)
unfolding Rules.child function_of callee arguments_of
child-begins P k π =
    on-bind (ChildOf P k π) (get_elem? P k.function) _ λ F f.
    on-bind (ChildOf P k π) (get_elem? F.spawns π) _ λ S s.
    on-bind (ChildOf P k π) (look_all k S.arguments) _ λ v̄ v.
    on-bind (ChildOf P k π) (get_elem? P S.function) _ λ G g.
    on-when (ChildOf P k π) _ _ λ n.
    record {
      function = F;
      function_there = f;
      spawn = S;
      spawn_there = s;
      values = v̄;
      have = rw (f, s, v);
      callee = G;
      callee_there = g;
      takes = sym (eqb-true G.signature.parameters (length v̄) n);
      begun = refl;
    }

-- frames whose calls are all promoted have as many children as open calls
settled-length : (P : Program) (K : List Frame) → Each Settled K → length (open_calls P K) ≡ children K
unfolding open_calls children
settled-length P [] h = refl
settled-length P (k ∷ K) h =
    omega (
      arith,
      length-append (open_calls P K) (map (standing P k) k.calls),
      length-map k.calls (standing P k),
      h.0,
      settled-length P K h.1,
    )

-- among frames that come newest first: the call that is promoted stands behind the promoted ones, and the open calls stay
record Finds (P : Program) (K : List Frame) (p : Promotion) : Type 0 where
  is : get_elem? (open_calls P K) (children K) ≡ some (standing P p.holder p.call)
  kept : open_calls P p.frames ≡ open_calls P K
  unsettled : Each Settled K → ⊥

-- there is one, or every call is promoted
abbrev Found : Program → List Frame → Option Promotion → Type 0
Found P K none = Each Settled K
Found P K (some p) = Finds P K p

module _ (P : Program) where
  found_in : (k : Frame) (K : List Frame) → k.promoted ≤ length k.calls → Each Settled K → Found P (k ∷ K) (Rules.promote_in k K)
  unfolding Rules.promote_in open_calls children
  found_in k K n h = go (get_elem? k.calls k.promoted) refl
    where
      go : (o : Option ℕ) → get_elem? k.calls k.promoted ≡ o →
          Found P (k ∷ K) (◌>>=◌ o λ π. some (record { holder = k; call = π; frames = deque k k.calls (k.promoted + 1) ∷ K }))
      go none e = (omega (arith, n, at-past k.calls k.promoted e), h)
      go (some π) e =
          let i : k.promoted + children K ≡ length (open_calls P K) + k.promoted = omega (arith, settled-length P K h) in
          record {
            is = ap (get_elem? (open_calls P K ++ opened P k)) i ∙ at_second (open_calls P K) (opened P k) k.promoted ∙
                map_at (standing P k) k.calls k.promoted ∙ ap (Option.map (standing P k)) e;
            kept = ap (λ (xs : List OpenCall). open_calls P K ++ xs) (deque-opened P k k.calls (k.promoted + 1));
            unsettled = λ s. omega (arith, s.0, at-below k.calls k.promoted e);
          }

  found-above : (k : Frame) (K : List Frame) (o : Option Promotion) → k.promoted ≤ length k.calls → (0 < k.promoted → Each Settled K) →
      Found P K o → Found P (k ∷ K) (Rules.or_else (Option.map (Rules.above k) o) (Rules.promote_in k K))
  unfolding Rules.or_else open_calls children
  found-above k K none n m h = found_in k K n h
  found-above k K (some p) n m h =
      let z : k.promoted + children K ≡ children K = none-promoted k.promoted (λ q. h.unsettled (m q)) in
      record {
        is = ap (get_elem? (open_calls P K ++ opened P k)) z ∙ at_first (open_calls P K) (opened P k) (children K) h.is;
        kept = ap (λ (xs : List OpenCall). xs ++ opened P k) h.kept;
        unsettled = λ s. h.unsettled s.1;
      }
    where
      none-promoted : (i : ℕ) → (0 < i → ⊥) → i + children K ≡ children K
      none-promoted zero f = omega arith
      none-promoted (suc i) f = absurd (f (omega arith))

  found-older : (K : List Frame) → Each (IsOlder P) K → Ordered K → Found P K (Rules.oldest K)
  unfolding Rules.oldest
  found-older [] h o = tt
  found-older (k ∷ K) h o = found-above k K (Rules.oldest K) h.0.frame.promoted o.0 (found-older K h.1 o.1)

  found : (t : Thread) → IsThread P t → Found P (frames t) (Rules.oldest (frames t))
  unfolding Rules.oldest
  found t h =
      found-above t.newest t.older (Rules.oldest t.older) h.newest.promoted h.order.0
      (found-older t.older h.older h.order.1)

module _ (P : Program) (t : Thread) (h : IsThread P t) (ts : List Thread) where
  sees_child : (p : Promotion) → Finds P (frames t) p → Promotes P (frames t) p → (o : Option Frame) →
      OnSome (ChildOf P p.holder p.call) o → Sees P (t ∷ ts) 0 (Rules.spawned (restacked t p.frames) ts o)
  unfolding Rules.spawned open_calls on_list turn
  sees_child p f m none c = tt
  sees_child p f m (some l) c =
      let e : frames (restacked t p.frames) ≡ p.frames = restacked-frames t p.frames (omega (arith, m.long)) in
      let k : open_in P (restacked t p.frames) ≡ open_in P t = ap (open_calls P) e ∙ f.kept in
      let b : open_in P (born l) ≡ [] = ap (λ (l : Frame). open_in P (born l)) c.begun ∙ begin-opened P c.spawn.function c.values in
      record {
        call = nowhere;
        sporks = λ q. absurd (omega (arith, q));
        gives = λ _.
            record {
              parent = t;
              there = refl;
              holder = p.holder;
              call = p.call;
              oldest = f.is;
              parent_after = restacked t p.frames;
              parent_there = refl;
              one_more = ap children e ∙ omega (arith, m.more);
              child = born l;
              child_there = refl;
              one_frame = refl;
              begins = c;
            };
        after = ap₂ (λ (xs ys : List OpenCall). xs ∷ ys ∷ in_pool P ts) k b;
      }

  sees-promoting : (room : Bool) (o : Option Promotion) → Found P (frames t) o → Oldest P (frames t) o →
      Sees P (t ∷ ts) 0 (Rules.promoting P room t ts o)
  unfolding Rules.promoting
  sees-promoting room none f m = tt
  sees-promoting false (some p) f m = tt
  sees-promoting true (some p) f m = sees_child p f m (Rules.child P p.holder p.call) (child-begins P p.holder p.call)

  pub sees-promote : (room : Bool) → Sees P (t ∷ ts) 0 (Rules.promote P room t ts)
  unfolding Rules.promote
  sees-promote room = sees-promoting room (Rules.oldest (frames t)) (found P t h) (oldest-kept P h)
