-- What the code puts of a listing, for every pool that the words hold.
use Rattle.std.specs.Prelude.{ℕ, ◌≤◌, ◌<◌, ◌≡◌, Bool, List, leb, ℤ, length, drop}
use Rattle.model.specs.Lists.{Each}
use Rattle.model.specs.Pool.{Thread, Pool, frames, children}
use Rattle.pool.specs.Frame.{Small}
use Rattle.pool.specs.Held.{Held, ThreadAt}
use Rattle.puts.specs.Puts.{Puts}
use Rattle.views.specs.Lines as Lines
use Rattle.views.specs.Lines.{standing, line}
use Rattle.views.specs.Listing.{Tree, Forest, first, behind, grown, thread_lines, child_lines, listing}
use Rattle.views.specs.Means.{listing_bytes}
use Rattle.listing.specs.declared.Viewer.{Viewer}
use Rattle.listing.specs.declared.Viewer.TheVariants as viewer
use Rattle.listing.specs.declared.Listed.{Listed}

-- who is shown it
abbrev pub viewer_of : Viewer → Lines.Viewer
viewer_of viewer.Operator = Lines.Viewer.operator
viewer_of viewer.Customer = Lines.Viewer.customer

-- the words hold the pool p, which has a thread, and its numbers fit the code's
pub record Holds (ws : List ℤ) (p : Pool) : Type 0 where
  pub held : Held ws p
  pub some : 0 < length p
  pub small : Each (λ t. Each Small (frames t)) p

-- thread i of the pool that the words hold is t, and its numbers fit the code's
pub record IsThread (ws : List ℤ) (i : ℕ) (t : Thread) : Type 0 where
  pub before : Pool
  pub behind : Pool
  pub thread : ThreadAt ws i before t behind
  pub small : Each Small (frames t)

-- how many children thread i has
abbrev pub CountsChildren : List ℤ → ℕ → ℕ → Type 0
CountsChildren ws i r = (t : Thread) → IsThread ws i t → r ≡ children (frames t)

-- the seven numbers of thread i; its line
abbrev pub PutsStanding : List ℤ → ℕ → List ℕ → ℕ → ℕ → List ℕ → Type 0
PutsStanding ws i out at r out' = (t : Thread) → IsThread ws i t → Puts out at (standing i t) r out'

abbrev pub PutsLine : Viewer → List ℤ → ℕ → ℕ → List ℕ → ℕ → ℕ → List ℕ → Type 0
PutsLine who ws i d out at r out' = (t : Thread) → IsThread ws i t → Puts out at (line (viewer_of who) d i t) r out'

-- the lines of thread i and of the threads below it, and the number behind them
abbrev pub ListsThread : Viewer → List ℤ → ℕ → ℕ → List ℕ → ℕ → Listed → List ℕ → Type 0
ListsThread who ws i d out at r out' =
    (p : Pool) → Holds ws p → (T : Tree) (f : Forest) → grown i (drop i p) ≡ Forest.more T f
    → Puts out at (thread_lines T (viewer_of who) d) r.at out' × (grown r.next (drop r.next p) ≡ f)

-- those of n children, of which the newest is thread i, and the number behind them
abbrev pub ListsChildren : Viewer → List ℤ → ℕ → ℕ → ℕ → List ℕ → ℕ → Listed → List ℕ → Type 0
ListsChildren who ws i n d out at r out' =
    (p : Pool) → Holds ws p
    → Puts out at (child_lines (first n (grown i (drop i p))) (viewer_of who) d) r.at out'
    × (grown r.next (drop r.next p) ≡ behind n (grown i (drop i p)))

-- the listing, from the start on; and whether it fits, if it is no longer than listings are
abbrev pub PutsListing : Viewer → List ℤ → List ℕ → ℕ → List ℕ → Type 0
PutsListing who ws out r out' = (p : Pool) → Holds ws p → Puts out 0 (listing (viewer_of who) p) r out'

abbrev pub Fits : Viewer → List ℤ → ℕ → Bool → Type 0
Fits who ws room r =
    (p : Pool) → Holds ws p → length (listing (viewer_of who) p) ≤ listing_bytes → r ≡ leb (length (listing (viewer_of who) p)) room
