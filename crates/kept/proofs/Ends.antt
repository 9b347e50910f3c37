-- What the loops leave is what is kept: blocks, spawn calls, functions.
use Prim.Native.Nat.{ℕ, ◌+◌, ◌≤◌, ◌<◌}
use mathlib.Core.Path.{◌≡◌, refl, sym}
use mathlib.Core.Option.{Option, none, some}
use mathlib.Core.List.{List, [], ◌∷◌, map}
use native.Mathlib.Omega.{arith}
use lib.ListN.{length, get_elem?}
use Rattle.model.specs.Lists.{Each, concat}
use Rattle.model.specs.Syntax.{Block, Function, Program, targets}
use Rattle.model.specs.Limits.{InFunction, Limits}
use Rattle.model.proofs.Facts.{each_map, each_at, below_at}
use Rattle.code.specs.Bytes.{byte_at}
use Rattle.places.specs.Layout as Layout
use Rattle.transfers.specs.Transfers.{transfer_in}
use Rattle.numbering.specs.Mentions.{of, targets_of, targets_in, spawns_in, functions_in, ClosedIn, Closed}
use Rattle.numbering.specs.Tidy.{kept_blocks, kept_spawns, mentioned_in, kept_functions}
use Rattle.numbering.proofs.Kept.{of_some, targets-inside, spawns-inside, mentioned-inside}
use Rattle.kept.specs.declared.Kept.{Kept}
use Rattle.kept.specs.Kept.{nothing, Adds, Ended, Known, AddsIn, by_transfer, KeepsBlocks, KeepsSpawns, KeepsFunctions}
use Rattle.kept.proofs.Arrays.{lists-nothing, same}
use Rattle.kept.proofs.Loops.{Blocks, kept-end}
use Rattle.kept.proofs.Growing.{Grows, first_alone, grows-first, grows-stop, grows_end, grows_at, grows-next}

-- the blocks that the transfer of a block mentions are those that the block mentions
targets-by-transfer : (o : Option Block) → of targets (transfer_in o) ≡ of targets_of o
unfolding transfer_in of targets_of
targets-by-transfer none = refl
targets-by-transfer (some B) = refl

-- the kept blocks of a function: from index i on, of a list that began with the entry alone
abbrev pub BlocksLeft : List ℕ → List ℕ → ℕ → Kept → ℕ → Type 0
BlocksLeft s transfers f list i =
    (P : Program) (F : Function) → Limits P → Ended s transfers P → get_elem? P f ≡ some F → ClosedIn P F →
    Grows (targets_in F) Layout.blocks (length F.blocks) list i (kept_blocks F)

module _ (s transfers : List ℕ) (f : ℕ) where
  pub blocks-first : {before list : Kept} → before ≡ nothing → Adds before (0 ∷ []) list → BlocksLeft s transfers f list 0
  unfolding kept_blocks
  blocks-first e p P F m q g c = grows-first c.entry (first_alone e p)

  module _ (list : Kept) (i : ℕ) (t : BlocksLeft s transfers f list i) where
    pub blocks-next : {b : ℕ} {list' : Kept} → i < Layout.blocks → i < list.count → b ≡ byte_at list.order i
        → AddsIn (Ended s transfers) f (by_transfer targets b) list list' → BlocksLeft s transfers f list' (i + 1)
    unfolding by_transfer
    blocks-next {b} l h d p P F m q g c =
        let few = (each_at InFunction P f m.functions g).few_blocks in
        grows-next (t P F m q g c) (omega arith) l h d (targets-inside P F c b (grows_at (t P F m q g c) h d))
        (same (p.is P F q g c) (targets-by-transfer (get_elem? F.blocks b)))

    pub blocks-stop : list.count ≤ i → KeepsBlocks s transfers f list
    blocks-stop h P F m q g c = grows-stop (t P F m q g c) h

    pub blocks_end : Layout.blocks ≤ i → KeepsBlocks s transfers f list
    blocks_end h P F m q g c = grows_end (t P F m q g c) h

-- the kept spawn calls of a function, by its kept blocks
pub spawns-kept : (s places transfers : List ℕ) (f : ℕ) (blocks before list : Kept) {i : ℕ} → before ≡ nothing → blocks.count ≤ i
    → Blocks (Known s places transfers) f blocks spawns_in before list i → KeepsSpawns s places transfers f blocks list
unfolding kept_spawns
spawns-kept s places transfers f blocks before list d h t P F q r g c k =
    let few = (each_at InFunction P f q.limits.functions g).few_spawns in
    (kept-end t h P F (q, r) g c k).is [] (rw d lists-nothing)
    (each_map (λ y l. omega arith) (concat (map (spawns_in F) (kept_blocks F))) (spawns-inside P F c))

-- the functions that a function mentions in its kept blocks
pub mentioned-kept : (s places transfers : List ℕ) (f : ℕ) (blocks : Kept) {list list' : Kept} {i : ℕ}
    → KeepsBlocks s transfers f blocks → blocks.count ≤ i → Blocks (Known s places transfers) f blocks functions_in list list' i
    → AddsIn (Known s places transfers) f mentioned_in list list'
unfolding mentioned_in
mentioned-kept s places transfers f blocks k h t =
    record { is = λ P F q g c. kept-end t h P F q g c (k P F q.0.limits (q.0.short, q.1) g c) }

-- the kept functions: from index i on, of a list that began with main alone
abbrev pub FunctionsLeft : List ℕ → List ℕ → List ℕ → Kept → ℕ → Type 0
FunctionsLeft s places transfers list i =
    (P : Program) → Known s places transfers P → Closed P →
    Grows (λ f. of mentioned_in (get_elem? P f)) Layout.functions (length P) list i (kept_functions P)

module _ (s places transfers : List ℕ) where
  pub functions-first : {before list : Kept} → before ≡ nothing → Adds before (0 ∷ []) list → FunctionsLeft s places transfers list 0
  unfolding kept_functions
  functions-first e p P q c = grows-first c.main (first_alone e p)

  module _ (list : Kept) (i : ℕ) (t : FunctionsLeft s places transfers list i) where
    pub functions-next : {f : ℕ} {list' : Kept} → i < Layout.functions → i < list.count → f ≡ byte_at list.order i
        → AddsIn (Known s places transfers) f mentioned_in list list' → FunctionsLeft s places transfers list' (i + 1)
    functions-next {f} l h d p P q c =
        let (F, g) = below_at P f (grows_at (t P q c) h d) in
        let o : of mentioned_in (get_elem? P f) ≡ mentioned_in F = of_some mentioned_in (get_elem? P f) g in
        let b : Each (λ y. y < length P) (of mentioned_in (get_elem? P f)) = rw o (mentioned-inside P F (c.functions f F g)) in
        grows-next (t P q c) (omega (arith, q.0.limits.few)) l h d b (same (p.is P F q g (c.functions f F g)) (sym o))

    pub functions-stop : list.count ≤ i → KeepsFunctions s places transfers list
    functions-stop h P q r c = grows-stop (t P (q, r) c) h

    pub functions-end : Layout.functions ≤ i → KeepsFunctions s places transfers list
    functions-end h P q r c = grows_end (t P (q, r) c) h
