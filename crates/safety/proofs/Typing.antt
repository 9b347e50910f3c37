-- What every choice keeps: each frame fits its code, each caller waits for what it is given, and the threads are the ones that
-- the promoted calls before them promise. A promise is a number of values.
use Prim.Native.Nat.{ℕ}
use mathlib.Core.Path.{◌≡◌}
use mathlib.Core.Option.{Option, none, some}
use mathlib.Core.List.{List, [], ◌∷◌, ◌++◌, map, reverse}
use lib.ListN.{length, get_elem?, take, drop}
use Rattle.model.specs.Syntax.{Block, SpawnCall, Function, Program}
use Rattle.model.specs.WellFormed.{env, WF-code}
use Rattle.model.specs.Pool.{Frame, Thread, frames}
use Rattle.model.proofs.Sets.{Part}

-- a frame of F that can go to block b with r values: the block is there and takes them, its nesting is the frame's open calls,
-- and its scope is bound. An older frame stands so to its own block
pub record Opens (P : Program) (F : Function) (k : Frame) (b r : ℕ) : Type 0 where
  pub function : get_elem? P k.function ≡ some F
  pub block : Block
  pub there : get_elem? F.blocks b ≡ some block
  pub takes : length block.head.parameters ≡ r
  pub nests : block.head.nesting ≡ k.calls
  pub scoped : Part block.head.scope k.bound

-- a newest frame of F: some set is bound, the block's scope lies in it, and under it the rest of the block's code is well formed
pub record Runs (P : Program) (F : Function) (k : Frame) : Type 0 where
  pub takes : ℕ
  pub opens : Opens P F k k.block takes
  pub scope : ℕ
  pub bound : Part scope k.bound
  pub within : Part opens.block.head.scope scope
  pub code : WF-code (env P F) scope k.calls (drop k.done opens.block.code) opens.block.transfer

-- callers, newest first: the newest waits for n values, each next one for what the one above it returns, and the last one
-- returns r; with no caller the n are the r
abbrev pub Callers : Program → ℕ → List Frame → ℕ → Type 0
Callers P n [] r = n ≡ r
Callers P n (k ∷ K) r = (F : Function) × Opens P F k k.block n × Callers P F.signature.returns K r

-- a thread that will end with r values
pub record Typed (P : Program) (r : ℕ) (t : Thread) : Type 0 where
  pub function : Function
  pub runs : Runs P function t.newest
  pub callers : Callers P function.signature.returns t.older r

-- how many values a spawn call of a function brings; 0 where one is missing
abbrev pub returns_of : Option Function → ℕ
returns_of none = 0
returns_of (some G) = G.signature.returns

abbrev pub of_spawn : Program → Option SpawnCall → ℕ
of_spawn P none = 0
of_spawn P (some S) = returns_of (get_elem? P S.function)

abbrev pub promise : Program → Option Function → ℕ → ℕ
promise P none π = 0
promise P (some F) π = of_spawn P (get_elem? F.spawns π)

-- what the first n of the open calls promise, newest first; what a frame's promoted calls promise, and those of frames
unfoldable pub owed : (ℕ → ℕ) → ℕ → List ℕ → List ℕ
owed f n ρ = reverse (map f (take n ρ))

abbrev pub own : Program → Frame → List ℕ
own P k = owed (promise P (get_elem? P k.function)) k.promoted k.calls

abbrev pub promised : Program → List Frame → List ℕ
promised P [] = []
promised P (k ∷ K) = own P k ++ promised P K

-- threads in preorder that end with these numbers of values, each followed by the ones that it promises
abbrev pub Forest : Program → List Thread → List ℕ → Type 0
Forest P [] [] = Unit {0}
Forest P [] (r ∷ rs) = ⊥
Forest P (t ∷ ts) [] = ⊥
Forest P (t ∷ ts) (r ∷ rs) = Typed P r t × Forest P ts (promised P (frames t) ++ rs)
