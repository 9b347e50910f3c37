-- A program of version 2 with scopes and nestings put into its blocks.
use Rattle.std.specs.Prelude.{ℕ, ◌+◌, ◌^◌, ◌≤◌, ◌<◌, List, [], ◌∷◌, length}
use Rattle.model.specs.Lists.{Each}
use Rattle.model.specs.Syntax.{Block, Function, Program}
use Rattle.model.specs.Pool.{temporaries}
use Rattle.model.specs.Write.{Name}

-- what version 2 leaves out of a block: its scope Γ and its nesting ρ
pub record Scoping : Type 0 where
  pub scope : ℕ
  pub nesting : List ℕ

-- what version 1 can hold: a scope of the temporaries that there are, and at most four names
pub record Holds (g : Scoping) : Type 0 where
  pub scope : g.scope < 2 ^ temporaries
  pub few : length g.nesting ≤ 4
  pub names : Each Name g.nesting

-- a block with them
unfoldable pub put : Scoping → Block → Block
put g B =
    record {
      head = record { parameters = B.head.parameters; scope = g.scope; nesting = g.nesting };
      code = B.code;
      transfer = B.transfer;
    }

-- blocks, numbered from b on, each with its own
unfoldable pub filled_from : (ℕ → Scoping) → ℕ → List Block → List Block
filled_from a b [] = []
filled_from a b (B ∷ B̄) = put (a b) B ∷ filled_from a (b + 1) B̄

-- a function, of which block b gets what `a b` says
unfoldable pub filled : (ℕ → Scoping) → Function → Function
filled a F = record { signature = F.signature; spawns = F.spawns; blocks = filled_from a 0 F.blocks }

-- functions, numbered from f on; and a program, of which block b of function f gets what `a f b` says
unfoldable pub each_filled : (ℕ → ℕ → Scoping) → ℕ → List Function → List Function
each_filled a f [] = []
each_filled a f (F ∷ F̄) = filled (a f) F ∷ each_filled a (f + 1) F̄

abbrev pub filled_all : (ℕ → ℕ → Scoping) → Program → Program
filled_all a P = each_filled a 0 P
