-- How the trees of a pool's threads unfold, from thread i on: at a thread that is there, and past the last.
use Prim.Native.Nat.{ℕ, ◌+◌, ◌≤◌}
use mathlib.Core.Path.{◌≡◌}
use mathlib.Core.Option.{some}
use lib.ListN.{length, get_elem?, drop, drop_of_length-le}
use Rattle.model.specs.Pool.{Thread, Pool, frames, children}
use Rattle.model.proofs.Facts.{drop-some}
use Rattle.views.specs.Listing.{Tree, Forest, first, behind, grown}

module _ (i : ℕ) (p : Pool) where
  pub grown-there : {t : Thread} → get_elem? p i ≡ some t
      → let n = children (frames t) in
      let f = grown (i + 1) (drop (i + 1) p) in
      grown i (drop i p) ≡ Forest.more (Tree.node i t (first n f)) (behind n f)
  unfolding grown
  grown-there e = rw (drop-some p i e)

  pub grown-past : length p ≤ i → grown i (drop i p) ≡ Forest.none
  unfolding grown
  grown-past h = rw (drop_of_length-le p h)
