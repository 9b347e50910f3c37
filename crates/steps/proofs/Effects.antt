-- A step is what its decision comes to; a choice of the thread at a place leaves the threads before it.
use Prim.Native.Nat.{ℕ, zero, suc, ◌≤◌, ◌<◌}
use mathlib.Core.Path.{◌≡◌, refl, sym, ap, ◌∙◌}
use mathlib.Core.Option.{none, some}
use mathlib.Core.List.{List, [], ◌∷◌, ◌++◌}
use native.Mathlib.Omega.{arith}
use lib.IntN.{ℤ}
use lib.ListN.{length}
use Rattle.model.specs.Numbers as No
use Rattle.model.specs.Syntax.{Program}
use Rattle.model.specs.Pool.{Frame, Thread, Pool, most_frames, frames, restacked}
use Rattle.model.specs.Frames.{enter}
use Rattle.model.specs.Rules.{Act, Result, act, ended, apply, popping, on_top, joins, joining, step, behind, on_thread}
use Rattle.model.proofs.Facts.{lt-ltb, le-ltb}
use Rattle.steps.specs.Decision.{Decision, popped, joined, effected, Decides, before}

module _ {P : Program} {t : Thread} {ts : List Thread} where
  pub decides-refuse : (n : ℕ) → act P t.newest ≡ Act.refuse n → Decides P t ts (Decision.refuse n)
  unfolding step apply effected
  decides-refuse n e = record { is = rw e }

  pub decides-stay : (rule : ℕ) (l : Frame) → act P t.newest ≡ Act.stay rule l → Decides P t ts (Decision.replace rule l)
  unfolding step apply effected
  decides-stay rule l e = record { is = rw e }

  pub decides-push : (l m : Frame) → act P t.newest ≡ Act.push l m → length (frames t) < most_frames → Decides P t ts (Decision.push l m)
  unfolding step apply effected
  decides-push l m e h = record { is = rw (e, lt-ltb (length (frames t)) most_frames h) }

  pub decides-full : (l m : Frame) → act P t.newest ≡ Act.push l m → most_frames ≤ length (frames t)
      → Decides P t ts (Decision.refuse No.frames)
  unfolding step apply effected
  decides-full l m e h = record { is = rw (e, le-ltb (length (frames t)) most_frames h) }

-- a return: with no caller the thread is ended
module _ {P : Program} (t : Thread) {k : Frame} {ts : List Thread} (v̄ : List ℤ) (e : act P k ≡ Act.pop v̄) where
  pub decides-ended : (K : List Frame) → length K ≡ 0 → Decides P (restacked t (k ∷ K)) ts (Decision.refuse No.ended)
  unfolding step apply popping effected
  decides-ended [] z = record { is = rw e }
  decides-ended (l ∷ K) z = absurd (omega arith)

  module _ {l : Frame} {K : List Frame} where
    pub decides-pop : (m : Frame) → enter P l l.block v̄ ≡ some m → Decides P (restacked t (k ∷ l ∷ K)) ts (Decision.pop m)
    unfolding step apply popping on_top effected popped
    decides-pop m f = record { is = rw (e, f) }

    pub decides-lost : enter P l l.block v̄ ≡ none → Decides P (restacked t (k ∷ l ∷ K)) ts (Decision.refuse No.stuck)
    unfolding step apply popping on_top effected
    decides-lost f = record { is = rw (e, f) }

module _ {P : Program} {t : Thread} (l : Frame) (c : ℕ) (e : act P t.newest ≡ Act.join l c) where
  pub decides-alone : Decides P t [] (Decision.refuse No.waits)
  unfolding step apply joins effected
  decides-alone = record { is = rw e }

  module _ {u : Thread} {us : List Thread} where
    pub decides-waits : ended P u ≡ none → Decides P t (u ∷ us) (Decision.refuse No.waits)
    unfolding step apply joins joining effected
    decides-waits f = record { is = rw (e, f) }

    pub decides-join : (v̄ : List ℤ) (m : Frame) → ended P u ≡ some v̄ → enter P l c v̄ ≡ some m → Decides P t (u ∷ us) (Decision.join m)
    unfolding step apply joins joining on_top effected joined
    decides-join v̄ m f g = record { is = rw (e, f, g) }

    pub decides-unmet : (v̄ : List ℤ) → ended P u ≡ some v̄ → enter P l c v̄ ≡ none → Decides P t (u ∷ us) (Decision.refuse No.stuck)
    unfolding step apply joins joining on_top effected
    decides-unmet v̄ f g = record { is = rw (e, f, g) }

-- the thread at a place, and no thread
behind-before : (t : Thread) (a : Pool) (r : Result) → behind t (before a r) ≡ before (t ∷ a) r
unfolding behind before
behind-before t a (Result.made rule ts) = refl
behind-before t a (Result.refused n) = refl

before-none : (r : Result) → before [] r ≡ r
unfolding before
before-none (Result.made rule ts) = refl
before-none (Result.refused n) = refl

pub on-thread : (f : Thread → List Thread → Result) (a : Pool) (t : Thread) (b : Pool) (i : ℕ) → length a ≡ i
    → on_thread f (a ++ t ∷ b) i ≡ before a (f t b)
unfolding on_thread
on-thread f [] t b zero e = sym (before-none (f t b))
on-thread f [] t b (suc i) e = absurd (omega arith)
on-thread f (u ∷ a) t b zero e = absurd (omega arith)
on-thread f (u ∷ a) t b (suc i) e = ap (behind u) (on-thread f a t b i (omega arith)) ∙ behind-before u a (f t b)

pub on_none : (f : Thread → List Thread → Result) (p : Pool) (i : ℕ) → length p ≤ i → on_thread f p i ≡ Result.refused No.thread
unfolding on_thread behind
on_none f [] i h = refl
on_none f (t ∷ p) zero h = absurd (omega arith)
on_none f (t ∷ p) (suc i) h = ap (behind t) (on_none f p i (omega arith))
