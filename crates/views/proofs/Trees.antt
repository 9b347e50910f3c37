-- Every pool of a table is one tree and no other. A tree's threads in preorder tell the tree, where each promoted call is one child.
use Prim.Native.Nat.{ℕ, zero, suc, ◌+◌, ◌≤◌}
use mathlib.Core.Path.{◌≡◌, refl, sym, ◌∙◌, ap}
use mathlib.Core.Bool.{true, false}
use mathlib.Core.List.{List, [], ◌∷◌, ◌++◌, append_assoc, append-nil}
use native.Mathlib.Omega.{arith}
use Rattle.model.specs.Syntax.{Program}
use Rattle.model.specs.Pool.{Thread, Pool, frames, children, trees, is_pool}
use Rattle.model.proofs.Facts.{true-false}
use Rattle.model.proofs.Valid.{pool-facts}
use Rattle.views.specs.Lines.{Viewer}
use Rattle.views.specs.Listing.{Tree, Forest, first, behind, grown, thread_lines, root_lines, listing}
use Rattle.views.specs.Means.{Numbered, numbered, preorder, preorders, count, Whole, Wholes, TreeOf, OneTree}

-- the trees that numbered threads in preorder make
abbrev regrown : List Numbered → Forest
regrown [] = Forest.none
regrown (x ∷ xs) =
    let n = children (frames x.thread) in
    let f = regrown xs in
    Forest.more (Tree.node x.number x.thread (first n f)) (behind n f)

grown-numbered : (i : ℕ) (ts : List Thread) → grown i ts ≡ regrown (numbered i ts)
unfolding grown numbered
grown-numbered i [] = refl
grown-numbered i (t ∷ ts) = rw (grown-numbered (i + 1) ts)

-- one forest behind another
abbrev joined : Forest → Forest → Forest
joined Forest.none g = g
joined (Forest.more T f) g = Forest.more T (joined f g)

first-joined : (f g : Forest) (n : ℕ) → count f ≡ n → first n (joined f g) ≡ f
unfolding first count
first-joined Forest.none g zero e = refl
first-joined Forest.none g (suc n) e = absurd (omega arith)
first-joined (Forest.more T f) g zero e = absurd (omega arith)
first-joined (Forest.more T f) g (suc n) e = ap (Forest.more T) (first-joined f g n (omega arith))

behind-joined : (f g : Forest) (n : ℕ) → count f ≡ n → behind n (joined f g) ≡ g
unfolding behind count
behind-joined Forest.none g zero e = refl
behind-joined Forest.none g (suc n) e = absurd (omega arith)
behind-joined (Forest.more T f) g zero e = absurd (omega arith)
behind-joined (Forest.more T f) g (suc n) e = behind-joined f g n (omega arith)

-- whole trees are those that their threads make
mutual
  unfolding preorder preorders Whole Wholes

  tree-regrown : (T : Tree) → Whole T → (xs : List Numbered) → regrown (preorder T ++ xs) ≡ Forest.more T (regrown xs)
  tree-regrown (Tree.node i t c) h xs =
      let n = children (frames t) in
      rw (trees-regrown c h.1 xs, first-joined c (regrown xs) n h.0, behind-joined c (regrown xs) n h.0)

  trees-regrown : (f : Forest) → Wholes f → (xs : List Numbered) → regrown (preorders f ++ xs) ≡ joined f (regrown xs)
  trees-regrown Forest.none h xs = refl
  trees-regrown (Forest.more T f) h xs =
      rw append_assoc (tree-regrown T h.0 (preorders f ++ xs) ∙ ap (Forest.more T) (trees-regrown f h.1 xs))

-- the first n trees and those behind them: their threads, how many they are, and that they are whole
preorders-split : (n : ℕ) (f : Forest) → preorders (first n f) ++ preorders (behind n f) ≡ preorders f
unfolding first behind preorders
preorders-split zero f = refl
preorders-split (suc n) Forest.none = refl
preorders-split (suc n) (Forest.more T f) = rw append_assoc (ap (λ (l : List Numbered). preorder T ++ l) (preorders-split n f))

count-first : (n : ℕ) (f : Forest) → n ≤ count f → count (first n f) ≡ n
unfolding first count
count-first zero f h = refl
count-first (suc n) Forest.none h = absurd (omega arith)
count-first (suc n) (Forest.more T f) h = let k = count-first n f (omega arith) in omega arith

count-behind : (n m : ℕ) (f : Forest) → count f ≡ n + m → count (behind n f) ≡ m
unfolding behind count
count-behind zero m f e = omega arith
count-behind (suc n) m Forest.none e = absurd (omega arith)
count-behind (suc n) m (Forest.more T f) e = count-behind n m f (omega arith)

wholes-first : (n : ℕ) (f : Forest) → Wholes f → Wholes (first n f)
unfolding first Wholes
wholes-first zero f h = tt
wholes-first (suc n) Forest.none h = tt
wholes-first (suc n) (Forest.more T f) h = (h.0, wholes-first n f h.1)

wholes-behind : (n : ℕ) (f : Forest) → Wholes f → Wholes (behind n f)
unfolding behind Wholes
wholes-behind zero f h = h
wholes-behind (suc n) Forest.none h = tt
wholes-behind (suc n) (Forest.more T f) h = wholes-behind n f h.1

-- what threads in preorder make: their trees hold them all, in order; and n trees are n whole ones
preorders-grown : (i : ℕ) (ts : List Thread) → preorders (grown i ts) ≡ numbered i ts
unfolding grown preorders preorder numbered
preorders-grown i [] = refl
preorders-grown i (t ∷ ts) =
    ap (λ (l : List Numbered). record { number = i; thread = t } ∷ l)
    (preorders-split (children (frames t)) (grown (i + 1) ts) ∙ preorders-grown (i + 1) ts)

record Are (n : ℕ) (f : Forest) : Type 0 where
  many : count f ≡ n
  whole : Wholes f

grown-are : (n i : ℕ) (ts : List Thread) → trees n ts ≡ true → Are n (grown i ts)
unfolding trees grown count Whole Wholes
grown-are zero i [] e = record { many = refl; whole = tt }
grown-are (suc n) i [] e = true-false false e refl
grown-are zero i (t ∷ ts) e = true-false false e refl
grown-are (suc n) i (t ∷ ts) e =
    let c = children (frames t) in
    let f = grown (i + 1) ts in
    let h = grown-are (c + n) (i + 1) ts e in
    let k = count-behind c n f h.many in
    record {
      many = omega arith;
      whole = ((count-first c f (omega arith), wholes-first c f h.whole), wholes-behind c f h.whole);
    }

-- one whole tree
record Single (f : Forest) : Type 0 where
  tree : Tree
  is : f ≡ Forest.more tree Forest.none
  whole : Whole tree

single : (f : Forest) → Are 1 f → Single f
unfolding count Wholes
single Forest.none h = absurd (omega arith)
single (Forest.more T Forest.none) h = record { tree = T; is = refl; whole = h.whole.0 }
single (Forest.more T (Forest.more U f)) h = absurd (omega arith)

module _ (P : Program) (p : Pool) (v : is_pool P p ≡ true) where
  root : Single (grown 0 p)
  root = single (grown 0 p) (grown-are 1 0 p (pool-facts P p v).tree)

  root-threads : preorder root.tree ≡ numbered 0 p
  unfolding preorders
  root-threads = sym (append-nil (preorder root.tree)) ∙ ap preorders (sym root.is) ∙ preorders-grown 0 p

  root-only : (T : Tree) → TreeOf p T → T ≡ root.tree
  root-only T h =
      let e : Forest.more T Forest.none ≡ Forest.more root.tree Forest.none =
      sym (tree-regrown T h.whole []) ∙ ap regrown (append-nil (preorder T) ∙ h.threads) ∙ sym (grown-numbered 0 p) ∙ root.is
      in cc

  root-lines : (who : Viewer) → listing who p ≡ thread_lines root.tree who 0
  unfolding listing root_lines
  root-lines who = ap (λ (f : Forest). root_lines f who) root.is

pub one-tree : OneTree
one-tree P p v =
    record {
      tree = (root P p v).tree;
      is = record { threads = root-threads P p v; whole = (root P p v).whole };
      only = root-only P p v;
      lines = root-lines P p v;
    }
