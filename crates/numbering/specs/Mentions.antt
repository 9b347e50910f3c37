-- What blocks and functions mention, from left to right as the bytes stand.
use Rattle.std.specs.Prelude.{ℕ, ◌<◌, ◌≡◌, List, [], ◌∷◌, ◌++◌, map, length}
use Rattle.std.proofs.Math.Option.{Option, none, some}
use Rattle.std.proofs.Math.ListN.{get_elem?}
use Rattle.model.specs.Lists.{Each, concat}
use Rattle.model.specs.Syntax.{Block, SpawnCall, Function, Program, targets, sporked_by, called_by}

-- what is said of a thing that is there; nothing of one that is not
unfoldable pub of : {A : Type 0} → (A → List ℕ) → Option A → List ℕ
of f none = []
of f (some a) = f a

-- the blocks that a block mentions, and block b of a function
unfoldable pub targets_of : Block → List ℕ
targets_of B = targets B.transfer

abbrev pub targets_in : Function → ℕ → List ℕ
targets_in F b = of targets_of (get_elem? F.blocks b)

-- the spawn calls that a block mentions: its nesting, then its transfer
unfoldable pub spawns_of : Block → List ℕ
spawns_of B = B.head.nesting ++ sporked_by B.transfer

abbrev pub spawns_in : Function → ℕ → List ℕ
spawns_in F b = of spawns_of (get_elem? F.blocks b)

-- the function that a spawn call mentions: "a spawn call's mention is also its function's"
unfoldable pub spawned : SpawnCall → List ℕ
spawned S = S.function ∷ []

abbrev pub spawned_by : Function → ℕ → List ℕ
spawned_by F π = of spawned (get_elem? F.spawns π)

-- the functions that a block mentions: by its nesting, then by its transfer, a spork's spawn call or a call
unfoldable pub functions_of : Function → Block → List ℕ
functions_of F B = concat (map (spawned_by F) (spawns_of B)) ++ called_by B.transfer

abbrev pub functions_in : Function → ℕ → List ℕ
functions_in F b = of (functions_of F) (get_elem? F.blocks b)

-- everything that a function of the program mentions is there, in any of its blocks
pub record ClosedIn (P : Program) (F : Function) : Type 0 where
  pub entry : 0 < length F.blocks
  pub blocks : (b : ℕ) (B : Block) → get_elem? F.blocks b ≡ some B → Each (λ c. c < length F.blocks) (targets_of B)
  pub spawns : (b : ℕ) (B : Block) → get_elem? F.blocks b ≡ some B → Each (λ π. π < length F.spawns) (spawns_of B)
  pub calls : (b : ℕ) (B : Block) → get_elem? F.blocks b ≡ some B → Each (λ g. g < length P) (called_by B.transfer)
  pub spawned : (π : ℕ) (S : SpawnCall) → get_elem? F.spawns π ≡ some S → S.function < length P

pub record Closed (P : Program) : Type 0 where
  pub main : 0 < length P
  pub functions : (f : ℕ) (F : Function) → get_elem? P f ≡ some F → ClosedIn P F
