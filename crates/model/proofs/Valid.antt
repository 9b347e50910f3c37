-- What is_frame, is_thread and is_pool say, as plain facts, both ways.
use Prim.Native.Nat.{ℕ, zero, suc, ◌+◌, ◌^◌, ◌≤◌, ◌<◌}
use mathlib.Core.Path.{◌≡◌, refl, sym, ◌∙◌, ap}
use mathlib.Core.Bool.{Bool, true, false, ◌&&◌, ◌||◌}
use mathlib.Core.Option.{Option, none, some}
use mathlib.Core.List.{List, [], ◌∷◌}
use native.Mathlib.Nat.{add-zero, zero-add}
use native.Mathlib.Omega.{arith}
use lib.Dec.{eqb, leb, ltb}
use lib.IntN.{ℤ, pos, negsuc}
use lib.ListN.{length, get_or, get_elem?}
use Rattle.model.specs.Lists.{all, Each}
use Rattle.model.specs.Values.{same}
use Rattle.model.specs.Sets.{has}
use Rattle.model.specs.Syntax.{Block, Function, Program}
use Rattle.model.specs.Pool.{Frame, Purse, Thread, Pool, temporaries, most_calls, most_frames, most_threads, most_work, most_tokens}
use Rattle.model.specs.Pool.{frames, restacked, function_of, blank, in_block, in_function, is_frame, is_older, settled, ordered}
use Rattle.model.specs.Pool.{is_purse, is_thread, trees, is_pool}
use Rattle.model.specs.Valid.{Blank, Stands, IsFrame, IsOlder, Settled, Ordered, IsPurse, IsThread, IsPool}
use Rattle.model.proofs.Facts.{true-false, and_left, and_right, both-and, left_or, right_or, or_right, each_map, all-each, each_all}
use Rattle.model.proofs.Facts.{ltb-true, leb-true, eqb-true, lt-ltb, le-leb, eq-eqb, ne_eqb}

-- equality of values as a test
pub same_true : (v w : ℤ) → same v w ≡ true → v ≡ w
same_true (pos m) (pos n) e = ap pos (eqb-true m n e)
same_true (pos m) (negsuc n) e = true-false false e refl
same_true (negsuc m) (pos n) e = true-false false e refl
same_true (negsuc m) (negsuc n) e = ap negsuc (eqb-true m n e)

pub same_refl : (v : ℤ) → same v v ≡ true
same_refl (pos n) = eq-eqb n n refl
same_refl (negsuc n) = eq-eqb n n refl

-- the temporary behind i, counted from the next
next : (Γ i x : ℕ) → has Γ (i + 1 + x) ≡ has Γ (i + suc x)
next Γ i x = let e : i + 1 + x ≡ i + suc x = omega arith in ap (has Γ) e

blank-from : (Γ i : ℕ) (v̄ : List ℤ) → blank Γ i v̄ ≡ true → (x : ℕ) → has Γ (i + x) ≡ false → get_or v̄ x (pos 0) ≡ pos 0
unfolding blank
blank-from Γ i [] e x h = refl
blank-from Γ i (v ∷ v̄) e zero h =
    same_true v (pos 0) (or_right (has Γ i) _ (rw (← add-zero i) h) (and_left (has Γ i || same v (pos 0)) _ e))
blank-from Γ i (v ∷ v̄) e (suc x) h =
    blank-from Γ (i + 1) v̄ (and_right (has Γ i || same v (pos 0)) _ e) x (next Γ i x ∙ h)

from-blank : (Γ i : ℕ) (v̄ : List ℤ) → ((x : ℕ) → has Γ (i + x) ≡ false → get_or v̄ x (pos 0) ≡ pos 0) → blank Γ i v̄ ≡ true
unfolding blank
from-blank Γ i [] h = refl
from-blank Γ i (v ∷ v̄) h =
    both-and (has Γ i || same v (pos 0)) _ (go (has Γ i) refl)
    (from-blank Γ (i + 1) v̄ (λ x g. h (suc x) (sym (next Γ i x) ∙ g)))
  where
    go : (b : Bool) → has Γ i ≡ b → (b || same v (pos 0)) ≡ true
    go true e = refl
    go false e = rw (h 0 (rw add-zero e)) (same_refl (pos 0))

pub blank-facts : (Γ : ℕ) (v̄ : List ℤ) → blank Γ 0 v̄ ≡ true → Blank Γ v̄
blank-facts Γ v̄ e x h = blank-from Γ 0 v̄ e x (rw zero-add h)

pub facts-blank : (Γ : ℕ) (v̄ : List ℤ) → Blank Γ v̄ → blank Γ 0 v̄ ≡ true
facts-blank Γ v̄ h = from-blank Γ 0 v̄ (λ x e. h x (rw zero-add at e))

-- ordered, as facts
ordered-facts : (K : List Frame) → ordered K ≡ true → Ordered K
unfolding ordered settled
ordered-facts [] e = tt
ordered-facts (k ∷ K) e = (λ h. older h, ordered-facts K (and_right (eqb k.promoted 0 || all settled K) _ e))
  where
    older : 0 < k.promoted → Each Settled K
    older h =
        let n : eqb k.promoted 0 ≡ false = ne_eqb k.promoted 0 (omega arith) in
        let s : all settled K ≡ true = or_right (eqb k.promoted 0) _ n (and_left (eqb k.promoted 0 || all settled K) _ e) in
        each_map (λ l q. eqb-true l.promoted (length l.calls) q) K (all-each settled K s)

facts-ordered : (K : List Frame) → Ordered K → ordered K ≡ true
unfolding ordered settled
facts-ordered [] h = refl
facts-ordered (k ∷ K) h = both-and (eqb k.promoted 0 || all settled K) _ (go k.promoted refl) (facts-ordered K h.1)
  where
    go : (n : ℕ) → k.promoted ≡ n → (eqb k.promoted 0 || all settled K) ≡ true
    go zero e = left_or (eqb k.promoted 0) _ (eq-eqb k.promoted 0 e)
    go (suc n) e =
        right_or (eqb k.promoted 0) (all settled K)
        (each_all settled K (each_map (λ l q. eq-eqb l.promoted (length l.calls) q) K (h.0 (omega arith))))

purse-facts : (e : Purse) → is_purse e ≡ true → IsPurse e
unfolding is_purse
purse-facts e h =
    let a = leb e.work most_work in
    record {
      work = leb-true e.work most_work (and_left a _ h);
      tokens = leb-true e.tokens most_tokens (and_right a _ h);
    }

facts-purse : (e : Purse) → IsPurse e → is_purse e ≡ true
unfolding is_purse
facts-purse e h =
    both-and (leb e.work most_work) _ (le-leb e.work most_work h.work) (le-leb e.tokens most_tokens h.tokens)

module _ (P : Program) where
  stands-facts : (k : Frame) (o : Option Function) → function_of P k ≡ o → in_function k o ≡ true → Stands P k
  unfolding in_function in_block
  stands-facts k none q e = true-false false e refl
  stands-facts k (some F) q e =
      inside (get_elem? F.blocks k.block) refl (and_left (in_block k (get_elem? F.blocks k.block)) _ e)
    where
      inside : (o : Option Block) → get_elem? F.blocks k.block ≡ o → in_block k o ≡ true → Stands P k
      inside none r i = true-false false i refl
      inside (some B) r i =
          record {
            function = F;
            found = q;
            block = B;
            there = r;
            done = leb-true k.done (length B.code) i;
            calls =
                each_map (λ π h. ltb-true π (length F.spawns) h) k.calls
                (all-each (λ π. ltb π (length F.spawns)) k.calls (and_right (in_block k (get_elem? F.blocks k.block)) _ e));
          }

  facts-stands : (k : Frame) → Stands P k → in_function k (function_of P k) ≡ true
  unfolding in_function in_block
  facts-stands k h =
      rw (h.found, h.there)
      (both-and (leb k.done (length h.block.code)) _
      (le-leb k.done (length h.block.code) h.done)
      (each_all (λ π. ltb π (length h.function.spawns)) k.calls
      (each_map (λ π q. lt-ltb π (length h.function.spawns) q) k.calls h.calls)))

  pub frame-facts : (k : Frame) → is_frame P k ≡ true → IsFrame P k
  unfolding is_frame
  frame-facts k e =
      let a = in_function k (function_of P k) in
      let b = ltb k.bound (2 ^ temporaries) in
      let c = leb (length k.calls) most_calls in
      let d = leb k.promoted (length k.calls) in
      let f = eqb (length k.values) temporaries in
      let e₅ = and_left (a && b && c && d && f) _ e in
      let e₄ = and_left (a && b && c && d) _ e₅ in
      let e₃ = and_left (a && b && c) _ e₄ in
      let e₂ = and_left (a && b) _ e₃ in
      record {
        stands = stands-facts k (function_of P k) refl (and_left a _ e₂);
        bound = ltb-true k.bound (2 ^ temporaries) (and_right a _ e₂);
        few = leb-true (length k.calls) most_calls (and_right (a && b) _ e₃);
        promoted = leb-true k.promoted (length k.calls) (and_right (a && b && c) _ e₄);
        sized = eqb-true (length k.values) temporaries (and_right (a && b && c && d) _ e₅);
        blanks = blank-facts k.bound k.values (and_right (a && b && c && d && f) _ e);
      }

  pub facts-frame : (k : Frame) → IsFrame P k → is_frame P k ≡ true
  unfolding is_frame
  facts-frame k h =
      let a : in_function k (function_of P k) ≡ true = facts-stands k h.stands in
      let b : ltb k.bound (2 ^ temporaries) ≡ true = lt-ltb k.bound (2 ^ temporaries) h.bound in
      let c : leb (length k.calls) most_calls ≡ true = le-leb (length k.calls) most_calls h.few in
      let d : leb k.promoted (length k.calls) ≡ true = le-leb k.promoted (length k.calls) h.promoted in
      let e : eqb (length k.values) temporaries ≡ true = eq-eqb (length k.values) temporaries h.sized in
      rw (a, b, c, d, e) (facts-blank k.bound k.values h.blanks)

  pub older-facts : (k : Frame) → is_older P k ≡ true → IsOlder P k
  unfolding is_older
  older-facts k e =
      record {
        frame = frame-facts k (and_left (is_frame P k) _ e);
        fresh = eqb-true k.done 0 (and_right (is_frame P k) _ e);
      }

  pub facts-older : (k : Frame) → IsOlder P k → is_older P k ≡ true
  unfolding is_older
  facts-older k h = both-and (is_frame P k) _ (facts-frame k h.frame) (eq-eqb k.done 0 h.fresh)

  pub thread-facts : (t : Thread) → is_thread P t ≡ true → IsThread P t
  unfolding is_thread
  thread-facts t e =
      let a = leb (length (frames t)) most_frames in
      let b = is_frame P t.newest in
      let c = all (is_older P) t.older in
      let d = ordered (frames t) in
      let e₄ = and_left (a && b && c && d) _ e in
      let e₃ = and_left (a && b && c) _ e₄ in
      let e₂ = and_left (a && b) _ e₃ in
      record {
        few = leb-true (length (frames t)) most_frames (and_left a _ e₂);
        newest = frame-facts t.newest (and_right a _ e₂);
        older = each_map older-facts t.older (all-each (is_older P) t.older (and_right (a && b) _ e₃));
        order = ordered-facts (frames t) (and_right (a && b && c) _ e₄);
        purse = purse-facts t.purse (and_right (a && b && c && d) _ e);
      }

  pub facts-thread : (t : Thread) → IsThread P t → is_thread P t ≡ true
  unfolding is_thread
  facts-thread t h =
      let a : leb (length (frames t)) most_frames ≡ true = le-leb (length (frames t)) most_frames h.few in
      let b : is_frame P t.newest ≡ true = facts-frame t.newest h.newest in
      let c : all (is_older P) t.older ≡ true = each_all (is_older P) t.older (each_map facts-older t.older h.older) in
      let d : ordered (frames t) ≡ true = facts-ordered (frames t) h.order in
      rw (a, b, c, d) (facts-purse t.purse h.purse)

  pub pool-facts : (p : Pool) → is_pool P p ≡ true → IsPool P p
  unfolding is_pool
  pool-facts p e =
      let a = leb (length p) most_threads in
      let b = all (is_thread P) p in
      let e₂ = and_left (a && b) _ e in
      record {
        few = leb-true (length p) most_threads (and_left a _ e₂);
        each = each_map thread-facts p (all-each (is_thread P) p (and_right a _ e₂));
        tree = and_right (a && b) _ e;
      }

  pub facts-pool : (p : Pool) → IsPool P p → is_pool P p ≡ true
  unfolding is_pool
  facts-pool p h =
      let a : leb (length p) most_threads ≡ true = le-leb (length p) most_threads h.few in
      let b : all (is_thread P) p ≡ true = each_all (is_thread P) p (each_map facts-thread p h.each) in
      rw (a, b) h.tree

  -- a pool has a thread
  pub some-thread : (p : Pool) → is_pool P p ≡ true → 0 < length p
  unfolding trees
  some-thread p v = go p (pool-facts p v).tree
    where
      go : (q : Pool) → trees 1 q ≡ true → 0 < length q
      go [] e = true-false false e refl
      go (t ∷ q) e = omega arith

-- the frames of a thread, newest first, as facts
abbrev pub Upright : Program → List Frame → Type 0
Upright P [] = ⊥
Upright P (k ∷ K) = IsFrame P k × Each (IsOlder P) K × Ordered (k ∷ K)

pub restacked-frames : (t : Thread) (K : List Frame) → 0 < length K → frames (restacked t K) ≡ K
restacked-frames t [] h = absurd (omega arith)
restacked-frames t (k ∷ K) h = refl

pub restacked-purse : (t : Thread) (K : List Frame) → (restacked t K).purse ≡ t.purse
restacked-purse t [] = refl
restacked-purse t (k ∷ K) = refl

module _ (P : Program) where
  pub upright-order : (K : List Frame) → Upright P K → Ordered K
  upright-order [] h = absurd h
  upright-order (k ∷ K) h = h.2

  pub thread-upright : {t : Thread} → IsThread P t → Upright P (frames t)
  thread-upright h = (h.newest, h.older, h.order)

  pub upright-thread : (t : Thread) (K : List Frame) → length K ≤ most_frames → Upright P K → IsPurse t.purse
      → IsThread P (restacked t K)
  upright-thread t [] few h e = absurd h
  upright-thread t (k ∷ K) few h e = record { few = few; newest = h.0; older = h.1; order = h.2; purse = e }
