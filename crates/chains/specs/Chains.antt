-- Chains of calls: what S-1 of document 02 means.
use Rattle.std.specs.Prelude.{ℕ, zero, suc, ◌+◌, ◌≤◌, ◌<◌, ◌≡◌, List, length}
use Rattle.std.proofs.Math.Option.{some}
use Rattle.std.proofs.Math.ListN.{get_elem?}
use Rattle.model.specs.Syntax.{Transfer, Block, Function, Program}

-- function f calls function g: some block of f, reached or not, ends in a call of g. A spork is no call
pub record Calls (P : Program) (f g : ℕ) : Type 0 where
  pub function : Function
  pub there : get_elem? P f ≡ some function
  pub number : ℕ
  pub block : Block
  pub has : get_elem? function.blocks number ≡ some block
  pub arguments : List ℕ
  pub back : ℕ
  pub is : block.transfer ≡ Transfer.call g arguments back

-- a chain of n calls from f to h
unfoldable pub Chain : Program → ℕ → ℕ → ℕ → Type 0
Chain P f h zero = f ≡ h
Chain P f h (suc n) = (g : ℕ) × Calls P f g × Chain P g h n

-- some function reaches itself by calls
pub record Cyclic (P : Program) : Type 0 where
  pub function : ℕ
  pub more : ℕ
  pub chain : Chain P function function (suc more)

-- a chain from f needs d frames: one for f, and one for each call
pub record Needs (P : Program) (f d : ℕ) : Type 0 where
  pub last : ℕ
  pub calls : ℕ
  pub chain : Chain P f last calls
  pub frames : d ≡ calls + 1

-- the greatest number of frames that a chain can need, from f
pub record Longest (P : Program) (f d : ℕ) : Type 0 where
  pub needs : Needs P f d
  pub most : (e : ℕ) → Needs P f e → e ≤ d

-- and over every function as the first, also one that nothing mentions
pub record Deepest (P : Program) (d : ℕ) : Type 0 where
  pub first : ℕ
  pub there : first < length P
  pub needs : Needs P first d
  pub most : (f e : ℕ) → f < length P → Needs P f e → e ≤ d
