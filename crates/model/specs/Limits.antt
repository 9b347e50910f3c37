-- What every table that reads keeps to: temporaries below 16, and each count within document 01's range.
use Rattle.std.specs.Prelude.{ℕ, ◌≤◌, ◌<◌, ◌^◌, List, length}
use Rattle.model.specs.Lists.{Each}
use Rattle.model.specs.Syntax.{Statement, Transfer, Head, Block, SpawnCall, Function, Program, uses}
use Rattle.model.specs.Pool.{temporaries}

abbrev pub Temporaries : List ℕ → Type 0
Temporaries x̄ = Each (λ x. x < temporaries) x̄

-- an argument list of at most so many
pub record Arguments (most : ℕ) (x̄ : List ℕ) : Type 0 where
  pub each : Temporaries x̄
  pub few : length x̄ ≤ most

pub record InStatement (s : Statement) : Type 0 where
  pub target : s.target < temporaries
  pub source : Temporaries (uses s.source)

unfoldable pub InTransfer : Transfer → Type 0
InTransfer (Transfer.goto b x̄) = Arguments 8 x̄
InTransfer (Transfer.if e b c) = Temporaries (uses e)
InTransfer (Transfer.call g x̄ b) = Arguments 8 x̄
InTransfer (Transfer.return x̄) = Arguments 4 x̄
InTransfer (Transfer.spork b π) = Unit {0}
InTransfer (Transfer.spoin b c) = Unit {0}

pub record InHead (H : Head) : Type 0 where
  pub parameters : Arguments 8 H.parameters
  pub scope : H.scope < 2 ^ temporaries
  pub nesting : length H.nesting ≤ 4

pub record InBlock (B : Block) : Type 0 where
  pub head : InHead B.head
  pub few : length B.code ≤ 32
  pub code : Each InStatement B.code
  pub transfer : InTransfer B.transfer

abbrev pub InSpawn : SpawnCall → Type 0
InSpawn S = Arguments 8 S.arguments

pub record InFunction (F : Function) : Type 0 where
  pub parameters : F.signature.parameters ≤ 8
  pub returns : F.signature.returns ≤ 4
  pub few_spawns : length F.spawns ≤ 8
  pub spawns : Each InSpawn F.spawns
  pub some_block : 1 ≤ length F.blocks
  pub few_blocks : length F.blocks ≤ 32
  pub blocks : Each InBlock F.blocks

pub record Limits (P : Program) : Type 0 where
  pub some : 1 ≤ length P
  pub few : length P ≤ 16
  pub functions : Each InFunction P
