-- A valid pool (13) as plain facts: what is_frame, is_thread and is_pool of Pool test. And lists of the layout's sizes.
use Rattle.std.specs.Prelude.{ℕ, ◌^◌, ◌≤◌, ◌<◌, ◌≡◌, true, false, List, [], ◌∷◌, ℤ, pos, length, get_or}
use Rattle.std.proofs.Math.Option.{some}
use Rattle.std.proofs.Math.ListN.{get_elem?}
use Rattle.model.specs.Lists.{Each}
use Rattle.model.specs.Sets.{has}
use Rattle.model.specs.Syntax.{Block, Function, Program}
use Rattle.model.specs.Pool.{Frame, Purse, Thread, Pool, temporaries, most_calls, most_frames, most_threads, most_work, most_tokens}
use Rattle.model.specs.Pool.{frames, function_of, trees}

-- the value of an unbound temporary is 0
abbrev pub Blank : ℕ → List ℤ → Type 0
Blank Γ v̄ = (x : ℕ) → has Γ x ≡ false → get_or v̄ x (pos 0) ≡ pos 0

-- a frame's place in the table
pub record Stands (P : Program) (k : Frame) : Type 0 where
  pub function : Function
  pub found : function_of P k ≡ some function
  pub block : Block
  pub there : get_elem? function.blocks k.block ≡ some block
  pub done : k.done ≤ length block.code
  pub calls : Each (λ π. π < length function.spawns) k.calls

pub record IsFrame (P : Program) (k : Frame) : Type 0 where
  pub stands : Stands P k
  pub bound : k.bound < 2 ^ temporaries
  pub few : length k.calls ≤ most_calls
  pub promoted : k.promoted ≤ length k.calls
  pub sized : length k.values ≡ temporaries
  pub blanks : Blank k.bound k.values

pub record IsOlder (P : Program) (k : Frame) : Type 0 where
  pub frame : IsFrame P k
  pub fresh : k.done ≡ 0

-- all calls of a frame are promoted
abbrev pub Settled : Frame → Type 0
Settled k = k.promoted ≡ length k.calls

-- behind a promoted call, in older frames, stand promoted ones only
abbrev pub Ordered : List Frame → Type 0
Ordered [] = Unit {0}
Ordered (k ∷ K) = (0 < k.promoted → Each Settled K) × Ordered K

pub record IsPurse (e : Purse) : Type 0 where
  pub work : e.work ≤ most_work
  pub tokens : e.tokens ≤ most_tokens

pub record IsThread (P : Program) (t : Thread) : Type 0 where
  pub few : length (frames t) ≤ most_frames
  pub newest : IsFrame P t.newest
  pub older : Each (IsOlder P) t.older
  pub order : Ordered (frames t)
  pub purse : IsPurse t.purse

pub record IsPool (P : Program) (p : Pool) : Type 0 where
  pub few : length p ≤ most_threads
  pub each : Each (IsThread P) p
  pub tree : trees 1 p ≡ true

-- lists that are of the layout's sizes
pub record FrameFits (k : Frame) : Type 0 where
  pub calls : length k.calls ≤ most_calls
  pub values : length k.values ≡ temporaries

pub record ThreadFits (t : Thread) : Type 0 where
  pub few : length (frames t) ≤ most_frames
  pub each : Each FrameFits (frames t)

pub record PoolFits (p : Pool) : Type 0 where
  pub few : length p ≤ most_threads
  pub each : Each ThreadFits p
