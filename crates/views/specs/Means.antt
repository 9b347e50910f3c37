-- What S-8 promises, on bytes and words: which tree a pool is, what the operator cannot tell, how the two listings differ, and how long
-- they get.
use Rattle.std.specs.Prelude.{ℕ, zero, suc, ◌+◌, ◌≤◌, ◌<◌, ◌≡◌, true, cond, List, [], ◌∷◌, ◌++◌, eqb, ℤ, length, take}
use Rattle.std.proofs.Math.ListN.{get_elem?}
use Rattle.model.specs.Numbers as No
use Rattle.model.specs.Answers.{Answer, Wrote, put}
use Rattle.model.specs.Syntax.{Program}
use Rattle.model.specs.Pool.{Thread, Pool, frames, children, is_pool, start_of, most_threads, most_frames, temporaries, values_at}
use Rattle.model.specs.Calls.{Lent, lent}
use Rattle.views.specs.Lines.{Viewer}
use Rattle.views.specs.Listing.{Tree, Forest, thread_lines, listing, operator, customer}

-- a thread and its number; the threads of a pool with theirs, from i on
pub record Numbered : Type 0 where
  pub number : ℕ
  pub thread : Thread

unfoldable pub numbered : ℕ → List Thread → List Numbered
numbered i [] = []
numbered i (t ∷ ts) = record { number = i; thread = t } ∷ numbered (i + 1) ts

-- the threads of a tree, a parent before its children's trees
unfoldable mutual
  pub preorder : Tree → List Numbered
  preorder (Tree.node i t c) = record { number = i; thread = t } ∷ preorders c

  pub preorders : Forest → List Numbered
  preorders Forest.none = []
  preorders (Forest.more T f) = preorder T ++ preorders f

-- how many trees there are
unfoldable pub count : Forest → ℕ
count Forest.none = 0
count (Forest.more T f) = count f + 1

-- each promoted call of a thread is one child, in the whole tree
unfoldable mutual
  pub Whole : Tree → Type 0
  Whole (Tree.node i t c) = (count c ≡ children (frames t)) × Wholes c

  pub Wholes : Forest → Type 0
  Wholes Forest.none = Unit {0}
  Wholes (Forest.more T f) = Whole T × Wholes f

-- T is the tree of the pool p
pub record TreeOf (p : Pool) (T : Tree) : Type 0 where
  pub threads : preorder T ≡ numbered 0 p
  pub whole : Whole T

-- every pool of a table is one tree and no other, and its listing is that tree's lines
pub record Lists (p : Pool) : Type 0 where
  pub tree : Tree
  pub is : TreeOf p tree
  pub only : (T : Tree) → TreeOf p T → T ≡ tree
  pub lines : (who : Viewer) → listing who p ≡ thread_lines tree who 0

abbrev pub OneTree : Type 0
OneTree = (P : Program) (p : Pool) → is_pool P p ≡ true → Lists p

-- a word that is one of the sixteen values of a frame
pub record IsValue (at : ℕ) : Type 0 where
  pub thread : ℕ
  pub frame : ℕ
  pub temporary : ℕ
  pub thread_there : thread < most_threads
  pub frame_there : frame < most_frames
  pub temporary_there : temporary < temporaries
  pub place : at ≡ start_of thread frame + values_at + temporary

-- the words agree in all but the sixteen values of each frame
abbrev pub Agree : List ℤ → List ℤ → Type 0
Agree ws ws' = (at : ℕ) → ¬ IsValue at → get_elem? ws at ≡ get_elem? ws' at

-- two calls wrote the same: the same length or the same refusal, and the same bytes
pub record Same (w w' : Wrote) : Type 0 where
  pub answer : w.answer ≡ w'.answer
  pub bytes : (n : ℕ) → w.answer ≡ Answer.given n → take n w.after ≡ take n w'.after

-- two pools of the table that so agree give the operator, with outputs equally long, the same
abbrev pub Private : Type 0
Private =
    (s : List ℕ) (ws ws' : List ℤ) (l l' : Lent) → lent s ws ≡ Answer.given l → lent s ws' ≡ Answer.given l' → Agree ws ws'
    → (out out' : List ℕ) → length out ≡ length out' → Same (operator s ws out) (operator s ws' out')

-- a customer's listing without its values: of each line the spaces at its start and the first seven numbers. At the start of a line; in a
-- line, with n spaces more that are kept; and behind them, up to the newline
unfoldable mutual
  pub erased : List ℕ → List ℕ
  erased [] = []
  erased (b ∷ s) = b ∷ cond (eqb b 32) (erased s) (numbers s 6)

  pub numbers : List ℕ → ℕ → List ℕ
  numbers [] n = []
  numbers (b ∷ s) zero = cond (eqb b 10) (b ∷ erased s) (cond (eqb b 32) (rest s) (b ∷ numbers s zero))
  numbers (b ∷ s) (suc n) = cond (eqb b 10) (b ∷ erased s) (b ∷ numbers s (cond (eqb b 32) n (suc n)))

  pub rest : List ℕ → List ℕ
  rest [] = []
  rest (b ∷ s) = cond (eqb b 10) (b ∷ erased s) (rest s)

-- whatever the customer is given, the operator's listing is that without the values, put into whatever output is lent; and is no longer
pub record Erased (s : List ℕ) (ws : List ℤ) (text : List ℕ) : Type 0 where
  pub is : (out : List ℕ) → operator s ws out ≡ put No.listing out (erased text)
  pub shorter : length (erased text) ≤ length text

abbrev pub Erases : Type 0
Erases =
    (s : List ℕ) (ws : List ℤ) (out : List ℕ) (n : ℕ) → (customer s ws out).answer ≡ Answer.given n
    → Erased s ws (take n (customer s ws out).after)

-- an output of so many bytes has room for every listing
abbrev pub listing_bytes : ℕ
listing_bytes = 4096

abbrev pub Short : Type 0
Short = (who : Viewer) (s : List ℕ) (ws : List ℤ) (l : Lent) → lent s ws ≡ Answer.given l → length (listing who l.pool) ≤ listing_bytes
