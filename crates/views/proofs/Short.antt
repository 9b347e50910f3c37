-- An output of 4,096 bytes has room for every listing: at most eight lines.
use Prim.Native.Nat.{ℕ, suc, ◌+◌, ◌*◌, ◌≤◌, ◌<◌}
use mathlib.Core.Path.{◌≡◌, refl, ◌∙◌, ap}
use mathlib.Core.Bool.{true}
use mathlib.Core.List.{List, [], ◌∷◌}
use native.Mathlib.Omega.{arith}
use lib.ListN.{length, length-append}
use Rattle.model.specs.Lists.{Each}
use Rattle.model.specs.Syntax.{Program}
use Rattle.model.specs.Limits.{Limits}
use Rattle.model.specs.Pool.{Thread, Pool, most_threads, is_pool}
use Rattle.model.proofs.Facts.{each_left, each_right, each_map}
use Rattle.model.proofs.Guarantees.{read-limits}
use Rattle.model.proofs.Valid.{pool-facts}
use Rattle.model.proofs.Words.{lent-given}
use Rattle.views.specs.Lines.{Viewer, line}
use Rattle.views.specs.Listing.{Tree, Forest, thread_lines, child_lines, listing}
use Rattle.views.specs.Means.{Numbered, numbered, preorder, preorders, listing_bytes, Short}
use Rattle.views.proofs.Trees.{one-tree}
use Rattle.views.proofs.Lengths.{most, line-most}

-- the lines of a tree whose threads' lines are at most so long, down to the eighth level
module _ (who : Viewer) (n : ℕ) where
  abbrev Brief : Numbered → Type 0
  Brief x = (d : ℕ) → d < most_threads → length (line who d x.number x.thread) ≤ n

  mutual
    unfolding thread_lines child_lines preorder preorders

    thread-most : (T : Tree) (d : ℕ) → d + length (preorder T) ≤ most_threads → Each Brief (preorder T)
        → length (thread_lines T who d) ≤ length (preorder T) * n
    thread-most (Tree.node i t c) d deep h =
        let a = h.0 d (omega arith) in
        let b = children-most c (d + 1) (omega arith) h.1 in
        let e = length-append (line who d i t) (child_lines c who (d + 1)) in
        omega arith

    children-most : (f : Forest) (d : ℕ) → d + length (preorders f) ≤ most_threads → Each Brief (preorders f)
        → length (child_lines f who d) ≤ length (preorders f) * n
    children-most Forest.none d deep h = omega arith
    children-most (Forest.more T f) d deep h =
        let l = length-append (preorder T) (preorders f) in
        let a = thread-most T d (omega arith) (each_left Brief (preorder T) (preorders f) h) in
        let b = children-most f d (omega arith) (each_right Brief (preorder T) (preorders f) h) in
        let e = length-append (thread_lines T who d) (child_lines f who d) in
        rw l (omega arith)

-- the threads of a pool with their numbers
numbered-length : (i : ℕ) (ts : List Thread) → length (numbered i ts) ≡ length ts
unfolding numbered
numbered-length i [] = refl
numbered-length i (t ∷ ts) = ap suc (numbered-length (i + 1) ts)

numbered-each : (Q : ℕ → Thread → Type 0) (n i : ℕ) (ts : List Thread) → i + length ts ≤ n → Each (λ t. (j : ℕ) → j < n → Q j t) ts
    → Each (λ x. Q x.number x.thread) (numbered i ts)
unfolding numbered
numbered-each Q n i [] few h = tt
numbered-each Q n i (t ∷ ts) few h = (h.0 i (omega arith), numbered-each Q n (i + 1) ts (omega arith) h.1)

-- every line, and all of them
module _ (who : Viewer) (P : Program) (p : Pool) (L : Limits P) (v : is_pool P p ≡ true) where
  pool-brief : Each (Brief who (most who)) (numbered 0 p)
  pool-brief =
      let h = pool-facts P p v in
      numbered-each (λ i t. (d : ℕ) → d < most_threads → length (line who d i t) ≤ most who) most_threads 0 p (omega (arith, h.few))
      (each_map (λ t q i b. line-most P L t q who i b) p h.each)

  pub listing-most : length (listing who p) ≤ length p * most who
  listing-most =
      let h = pool-facts P p v in
      let T = one-tree P p v in
      let n : length (preorder T.tree) ≡ length p = ap length T.is.threads ∙ numbered-length 0 p in
      let b : Each (Brief who (most who)) (preorder T.tree) = rw T.is.threads pool-brief in
      rw (T.lines who, ← n) (thread-most who (most who) T.tree 0 (omega (arith, h.few, n)) b)

pub short : Short
short who s ws l e =
    let h = lent-given s ws l e in
    let L = read-limits s l.table h.reads in
    let few = (pool-facts l.table l.pool h.valid).few in
    go who (listing-most who l.table l.pool L h.valid) few
  where
    go : (who : Viewer) → length (listing who l.pool) ≤ length l.pool * most who → length l.pool ≤ most_threads
        → length (listing who l.pool) ≤ listing_bytes
    go Viewer.operator b few = omega arith
    go Viewer.customer b few = omega arith
