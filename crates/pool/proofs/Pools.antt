-- A pool of a table that reads meets what the operations ask: its words hold it, its frames are small, and its threads and
-- frames are there.
use Prim.Native.Nat.{ℕ, zero, suc, ◌+◌, ◌-◌, ◌<◌}
use mathlib.Core.Path.{◌≡◌, refl, ap, ◌∙◌}
use mathlib.Core.List.{List, [], ◌∷◌, ◌++◌}
use native.Mathlib.Omega.{arith}
use lib.ListN.{length, length-append}
use Rattle.model.specs.Lists.{Each}
use Rattle.model.specs.Syntax.{Program}
use Rattle.model.specs.Limits.{InBlock, InFunction, Limits}
use Rattle.model.specs.Pool.{Frame, Thread, frames, function_of}
use Rattle.model.proofs.Facts.{each_map, each_at, at-below}
use Rattle.model.specs.Valid.{IsFrame, IsThread}
use Rattle.model.proofs.Words.{frame-fits}
use Rattle.pool.specs.Frame.{Small}
use Rattle.pool.specs.Held.{FrameAt}

module _ {P : Program} (L : Limits P) where
  pub small-frame : {k : Frame} → IsFrame P k → Small k
  unfolding function_of
  small-frame {k} h =
      let s = h.stands in
      let F : InFunction s.function = each_at InFunction P k.function L.functions s.found in
      let B : InBlock s.block = each_at InBlock s.function.blocks k.block F.blocks s.there in
      record {
        function = omega (arith, at-below P k.function s.found, L.few);
        block = omega (arith, at-below s.function.blocks k.block s.there, F.few_blocks);
        done = omega (arith, s.done, B.few);
        bound = h.bound;
        promoted = omega (arith, h.promoted, h.few);
        calls = each_map (λ π q. omega (arith, q, F.few_spawns)) k.calls s.calls;
        fits = frame-fits h;
      }

  pub small-thread : {t : Thread} → IsThread P t → Each Small (frames t)
  small-thread {t} h = (small-frame h.newest, each_map (λ k o. small-frame o.frame) t.older h.older)

-- the item at a place, between the items before it and those behind it
pub record Split {A : Type 0} (l : List A) (i : ℕ) : Type 0 where
  pub before : List A
  pub item : A
  pub behind : List A
  pub is : l ≡ before ++ item ∷ behind
  pub place : length before ≡ i

pub split : {A : Type 0} (l : List A) (i : ℕ) → i < length l → Split l i
split [] i h = absurd (omega arith)
split (x ∷ l) zero h = record { before = []; item = x; behind = l; is = refl; place = refl }
split {A} (x ∷ l) (suc i) h =
    let s : Split l i = split l i (omega arith) in
    record {
      before = x ∷ s.before;
      item = s.item;
      behind = s.behind;
      is = ap {B = List A} (λ m. x ∷ m) s.is;
      place = ap suc s.place;
    }

split-length : {A : Type 0} {l : List A} {i : ℕ} (s : Split l i) → length l ≡ i + suc (length s.behind)
split-length s =
    ap length s.is
    ∙ length-append s.before (s.item ∷ s.behind)
    ∙ ap (λ (n : ℕ). n + suc (length s.behind)) s.place

-- frame j of a thread
pub frame-there : (t : Thread) (j : ℕ) → j < length (frames t)
    → (s : Split (frames t) (length (frames t) - suc j)) × FrameAt t j s.before s.item s.behind
frame-there t j l =
    let s : Split (frames t) (length (frames t) - suc j) = split (frames t) (length (frames t) - suc j) (omega arith) in
    (s, record { is = s.is; place = omega (arith, split-length s) })
