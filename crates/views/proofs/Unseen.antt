-- What the operator's listing looks at: it is the same with every value and purse taken away.
use Prim.Native.Nat.{ℕ, zero, suc, ◌+◌}
use mathlib.Core.Path.{◌≡◌, refl, ◌∙◌, ap}
use mathlib.Core.List.{List, [], ◌∷◌, map}
use lib.ListN.{length-map}
use Rattle.model.specs.Pool.{Frame, Thread, Pool, frames, children, empty}
use Rattle.views.specs.Lines.{Viewer, standing, values, line}
use Rattle.views.specs.Listing.{Tree, Forest, first, behind, grown, thread_lines, child_lines, root_lines, listing}

-- a frame without its values, a thread without those and its purse, and a tree of such threads
abbrev pub hidden : Frame → Frame
hidden k =
    record {
      function = k.function;
      block = k.block;
      done = k.done;
      bound = k.bound;
      calls = k.calls;
      promoted = k.promoted;
      values = [];
    }

abbrev pub hide : Thread → Thread
hide t = record { newest = hidden t.newest; older = map hidden t.older; purse = empty }

abbrev mutual
  veiled : Tree → Tree
  veiled (Tree.node i t c) = Tree.node i (hide t) (veil c)

  veil : Forest → Forest
  veil Forest.none = Forest.none
  veil (Forest.more T f) = Forest.more (veiled T) (veil f)

-- lines
operator-line : (d i : ℕ) (t : Thread) → line Viewer.operator d i (hide t) ≡ line Viewer.operator d i t
unfolding line standing values
operator-line d i t = rw length-map

mutual
  unfolding thread_lines child_lines

  operator-thread : (T : Tree) (d : ℕ) → thread_lines (veiled T) Viewer.operator d ≡ thread_lines T Viewer.operator d
  operator-thread (Tree.node i t c) d = rw (operator-line d i t, operator-children c (d + 1))

  operator-children : (f : Forest) (d : ℕ) → child_lines (veil f) Viewer.operator d ≡ child_lines f Viewer.operator d
  operator-children Forest.none d = refl
  operator-children (Forest.more T f) d = rw (operator-thread T d, operator-children f d)

operator-root : (f : Forest) → root_lines (veil f) Viewer.operator ≡ root_lines f Viewer.operator
unfolding root_lines
operator-root Forest.none = refl
operator-root (Forest.more T f) = operator-thread T 0

-- trees
children-hidden : (K : List Frame) → children (map hidden K) ≡ children K
unfolding children
children-hidden [] = refl
children-hidden (k ∷ K) = ap (λ (n : ℕ). k.promoted + n) (children-hidden K)

first-veiled : (n : ℕ) (f : Forest) → first n (veil f) ≡ veil (first n f)
unfolding first
first-veiled zero f = refl
first-veiled (suc n) Forest.none = refl
first-veiled (suc n) (Forest.more T f) = ap (Forest.more (veiled T)) (first-veiled n f)

behind-veiled : (n : ℕ) (f : Forest) → behind n (veil f) ≡ veil (behind n f)
unfolding behind
behind-veiled zero f = refl
behind-veiled (suc n) Forest.none = refl
behind-veiled (suc n) (Forest.more T f) = behind-veiled n f

grown-hidden : (i : ℕ) (ts : List Thread) → grown i (map hide ts) ≡ veil (grown i ts)
unfolding grown
grown-hidden i [] = refl
grown-hidden i (t ∷ ts) =
    rw (
      grown-hidden (i + 1) ts,
      children-hidden (frames t),
      first-veiled (children (frames t)) (grown (i + 1) ts),
      behind-veiled (children (frames t)) (grown (i + 1) ts),
    )

pub operator-hidden : (p : Pool) → listing Viewer.operator (map hide p) ≡ listing Viewer.operator p
unfolding listing
operator-hidden p = ap (λ (f : Forest). root_lines f Viewer.operator) (grown-hidden 0 p) ∙ operator-root (grown 0 p)
