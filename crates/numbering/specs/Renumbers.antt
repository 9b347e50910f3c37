-- One program under two numberings: Q has what is kept of P, under other numbers. Dead code is what is not kept; Q may have some too.
use Rattle.std.specs.Prelude.{ℕ, ◌≡◌, Bool, true, map}
use Rattle.std.proofs.Math.Option.{some}
use Rattle.std.proofs.Math.ListN.{get_elem?}
use Rattle.model.specs.Lists.{Each}
use Rattle.model.specs.Syntax.{Block, SpawnCall, Function, Program, called_by}
use Rattle.model.specs.Pool.{Frame, Thread, Pool}
use Rattle.numbering.specs.Renamed as Renamed
use Rattle.numbering.specs.Renamed.{Names}
use Rattle.numbering.specs.Mentions.{targets_of, spawns_of}

-- new numbers, and what is kept: of functions, and of the blocks and spawn calls of each function
pub record Numbering : Type 0 where
  pub function : ℕ → ℕ
  pub block : ℕ → ℕ → ℕ
  pub spawn : ℕ → ℕ → ℕ
  pub keeps_function : ℕ → Bool
  pub keeps_block : ℕ → ℕ → Bool
  pub keeps_spawn : ℕ → ℕ → Bool

abbrev pub names : Numbering → ℕ → Names
names R f = record { function = R.function; block = R.block f; spawn = R.spawn f }

-- a frame, a thread and a pool under the new numbers
unfoldable pub renamed_frame : Numbering → Frame → Frame
renamed_frame R k =
    record {
      function = R.function k.function;
      block = R.block k.function k.block;
      done = k.done;
      bound = k.bound;
      calls = map (R.spawn k.function) k.calls;
      promoted = k.promoted;
      values = k.values;
    }

unfoldable pub renamed_thread : Numbering → Thread → Thread
renamed_thread R t = record { newest = renamed_frame R t.newest; older = map (renamed_frame R) t.older; purse = t.purse }

abbrev pub renamed_pool : Numbering → Pool → Pool
renamed_pool R p = map (renamed_thread R) p

abbrev pub FunctionKept : Numbering → ℕ → Type 0
FunctionKept R f = R.keeps_function f ≡ true

abbrev pub BlockKept : Numbering → ℕ → ℕ → Type 0
BlockKept R f b = R.keeps_block f b ≡ true

abbrev pub SpawnKept : Numbering → ℕ → ℕ → Type 0
SpawnKept R f π = R.keeps_spawn f π ≡ true

-- block b of F is there, stands in G under its new number, with new names in it, and mentions kept things alone
pub record CopiedBlock (R : Numbering) (f : ℕ) (F G : Function) (b : ℕ) : Type 0 where
  pub block : Block
  pub old : get_elem? F.blocks b ≡ some block
  pub new : get_elem? G.blocks (R.block f b) ≡ some (Renamed.block (names R f) block)
  pub blocks : Each (BlockKept R f) (targets_of block)
  pub spawns : Each (SpawnKept R f) (spawns_of block)
  pub calls : Each (FunctionKept R) (called_by block.transfer)

-- and its spawn call π
pub record CopiedSpawn (R : Numbering) (f : ℕ) (F G : Function) (π : ℕ) : Type 0 where
  pub call : SpawnCall
  pub old : get_elem? F.spawns π ≡ some call
  pub new : get_elem? G.spawns (R.spawn f π) ≡ some (Renamed.spawn_call (names R f) call)
  pub function : FunctionKept R call.function

-- function f of P is there, and stands in Q under its new number with everything of it that is kept. Its entry is kept as the entry
pub record Copied (R : Numbering) (P Q : Program) (f : ℕ) : Type 0 where
  pub before : Function
  pub after : Function
  pub old : get_elem? P f ≡ some before
  pub new : get_elem? Q (R.function f) ≡ some after
  pub signature : after.signature ≡ before.signature
  pub entry_kept : BlockKept R f 0
  pub entry : R.block f 0 ≡ 0
  pub blocks : (b : ℕ) → BlockKept R f b → CopiedBlock R f before after b
  pub spawns : (π : ℕ) → SpawnKept R f π → CopiedSpawn R f before after π

abbrev pub Copies : Numbering → Program → Program → Type 0
Copies R P Q = (f : ℕ) → FunctionKept R f → Copied R P Q f

-- Q has what is kept of P under the new numbers, with main as main
pub record Renumbers (R : Numbering) (P Q : Program) : Type 0 where
  pub main_kept : FunctionKept R 0
  pub main : R.function 0 ≡ 0
  pub copies : Copies R P Q

-- no two kept things have one new number
pub record Apart (R : Numbering) : Type 0 where
  pub functions : (f g : ℕ) → FunctionKept R f → FunctionKept R g → R.function f ≡ R.function g → f ≡ g
  pub blocks : (f b c : ℕ) → FunctionKept R f → BlockKept R f b → BlockKept R f c → R.block f b ≡ R.block f c → b ≡ c
  pub spawns : (f π χ : ℕ) → FunctionKept R f → SpawnKept R f π → SpawnKept R f χ → R.spawn f π ≡ R.spawn f χ → π ≡ χ

-- everything of Q is a kept thing of P
pub record Onto (R : Numbering) (P Q : Program) : Type 0 where
  pub functions : (g : ℕ) (G : Function) → get_elem? Q g ≡ some G → (f : ℕ) × FunctionKept R f × (R.function f ≡ g)
  pub blocks : (f : ℕ) → FunctionKept R f → (G : Function) → get_elem? Q (R.function f) ≡ some G →
      (c : ℕ) (C : Block) → get_elem? G.blocks c ≡ some C → (b : ℕ) × BlockKept R f b × (R.block f b ≡ c)
  pub spawns : (f : ℕ) → FunctionKept R f → (G : Function) → get_elem? Q (R.function f) ≡ some G →
      (χ : ℕ) (S : SpawnCall) → get_elem? G.spawns χ ≡ some S → (π : ℕ) × SpawnKept R f π × (R.spawn f π ≡ χ)
