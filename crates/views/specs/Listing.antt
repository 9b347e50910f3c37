-- The listing of a pool, and the two calls: S-8 of document 02.
use Rattle.std.specs.Prelude.{ℕ, zero, suc, ◌+◌, List, [], ◌∷◌, ◌++◌, ℤ}
use Rattle.model.specs.Numbers as No
use Rattle.model.specs.Answers.{Answer, Wrote, put}
use Rattle.model.specs.Pool.{Thread, Pool, frames, children}
use Rattle.model.specs.Calls.{Lent, lent}
use Rattle.views.specs.Lines.{Viewer, line}

-- a thread with its number and, newest first, the trees of its children
mutual
  pub data Tree : Type 0 where
    node : ℕ → Thread → Forest → Tree

  pub data Forest : Type 0 where
    none : Forest
    more : Tree → Forest → Forest

-- the first n trees, and those behind them
unfoldable pub first : ℕ → Forest → Forest
first zero f = Forest.none
first (suc n) Forest.none = Forest.none
first (suc n) (Forest.more T f) = Forest.more T (first n f)

unfoldable pub behind : ℕ → Forest → Forest
behind zero f = f
behind (suc n) Forest.none = Forest.none
behind (suc n) (Forest.more T f) = behind n f

-- the trees that threads in preorder make, numbered from i on: a thread has as many children as promoted calls, and these are the trees
-- directly behind it
unfoldable pub grown : ℕ → List Thread → Forest
grown i [] = Forest.none
grown i (t ∷ ts) =
    let n = children (frames t) in
    let f = grown (i + 1) ts in
    Forest.more (Tree.node i t (first n f)) (behind n f)

-- a thread's lines are its own line and then those of its children, newest first, one level deeper each time
unfoldable mutual
  pub thread_lines : Tree → Viewer → ℕ → List ℕ
  thread_lines (Tree.node i t c) who d = line who d i t ++ child_lines c who (d + 1)

  pub child_lines : Forest → Viewer → ℕ → List ℕ
  child_lines Forest.none who d = []
  child_lines (Forest.more T f) who d = thread_lines T who d ++ child_lines f who d

-- a pool is one tree, thread 0's
unfoldable pub root_lines : Forest → Viewer → List ℕ
root_lines Forest.none who = []
root_lines (Forest.more T f) who = thread_lines T who 0

unfoldable pub listing : Viewer → Pool → List ℕ
listing who p = root_lines (grown 0 p) who

-- a listing: 1 to 3, 12, 13; then 28, where the output is shorter than the listing; or the listing's length. What is behind it stays, and a
-- refusal leaves the whole output as it was
unfoldable pub listed : Viewer → List ℕ → Answer Lent → Wrote
listed who out (Answer.given l) = put No.listing out (listing who l.pool)
listed who out (Answer.refused r) = record { answer = Answer.refused r; after = out }

unfoldable pub list : Viewer → List ℕ → List ℤ → List ℕ → Wrote
list who s ws out = listed who out (lent s ws)

-- the operator's, and the customer's
abbrev pub operator : List ℕ → List ℤ → List ℕ → Wrote
operator s ws out = list Viewer.operator s ws out

abbrev pub customer : List ℕ → List ℤ → List ℕ → Wrote
customer s ws out = list Viewer.customer s ws out
