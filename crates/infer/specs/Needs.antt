-- What the code says of needs and scopes: an equation over what stands at an offset, for all bytes, with sets asked as the code asks
-- them; and for every program of which the places, or the transfers, are those.
use Rattle.std.specs.Prelude.{ℕ, ◌+◌, ◌*◌, ◌≤◌, ◌<◌, ◌≡◌, Bool, false, cond, List, [], ◌∷◌, length, get_or}
use Rattle.std.proofs.Math.Option.{none, some}
use Rattle.std.proofs.Math.ListN.{get_elem?}
use Rattle.model.specs.Sets.{below, with_all}
use Rattle.model.specs.Syntax.{Statement, Block, Function, Program, uses, targets}
use Rattle.bound.specs.Walks.{holds, binding}
use Rattle.code.specs.Code.{arguments_at, list_end, code_at, code_end, transfer_at}
use Rattle.inference.specs.Infer.{Mark, Needing, joined, used_by, joined_all, arguments_of, nesting_needs, nesting_of, bound_by, own, need}
use Rattle.inference.specs.Infer.{grow, downward, sweep, rounds}
use Rattle.scopings.specs.Words.{blocks}
use Rattle.scopings.specs.Changes.{Whole}
use Rattle.infer.specs.declared.Nesting.{Nesting}
use Rattle.infer.specs.declared.Needed.{Needed}
use Rattle.infer.specs.Nestings.{mark_by, Placed, Ended}

-- a set with more temporaries; what is needed, with those that are not bound
unfoldable pub binding_all : ℕ → List ℕ → ℕ
binding_all Γ [] = Γ
binding_all Γ (x ∷ x̄) = binding_all (binding Γ x) x̄

unfoldable pub lacking_in : ℕ → ℕ → List ℕ → ℕ
lacking_in Γ Δ [] = Δ
lacking_in Γ Δ (x ∷ x̄) = lacking_in Γ (cond (holds Γ x) Δ (binding Δ x)) x̄

unfoldable pub lacks : Needed → List ℕ → Needed
lacks n x̄ = record { bound = n.bound; needs = lacking_in n.bound n.needs x̄ }

-- statements: what is bound behind them, and what they need; and with the offset there
unfoldable pub needed_in : ℕ → ℕ → List Statement → Needing
needed_in Γ Δ [] = record { bound = Γ; needs = Δ }
needed_in Γ Δ (S ∷ C) = needed_in (binding Γ S.target) (lacking_in Γ Δ (uses S.source)) C

unfoldable pub needed_behind : Needed → List Statement → Needed
needed_behind n C = record { bound = (needed_in n.bound n.needs C).bound; needs = (needed_in n.bound n.needs C).needs }

unfoldable pub walked_at : Needed → List Statement → ℕ → Needed × ℕ
walked_at n C e = (needed_behind n C, e)

-- code at an offset, which ends in a transfer: what is bound behind it, and what it needs; a block, of which the parameters come first
unfoldable pub code_needs_at : List ℕ → ℕ → Needed → Needed
code_needs_at s at n = lacks (needed_behind n (code_at s at)) (used_by (transfer_at s (code_end s at)))

unfoldable pub block_needs_at : List ℕ → ℕ → ℕ → Needed
block_needs_at s at Δ = code_needs_at s (list_end s at) (record { bound = binding_all 0 (arguments_at s at); needs = Δ })

-- a scope; targets, by the scopes of blocks
unfoldable pub joining : Needed → ℕ → Needed
joining n Θ = record { bound = n.bound; needs = joined n.bound n.needs Θ }

unfoldable pub joins : Needed → (ℕ → ℕ) → List ℕ → Needed
joins n scope [] = n
joins n scope (b ∷ b̄) = joins (joining n (scope b)) scope b̄

-- the arguments of spawn call π are needed; those of a nesting
pub record Binds (s places : List ℕ) (f π Δ r : ℕ) : Type 0 where
  pub is : (P : Program) (F : Function) → Placed s places f P F → r ≡ with_all Δ (arguments_of (get_elem? F.spawns π))

pub record NestingNeeds (s places : List ℕ) (f : ℕ) (n : Nesting) (Δ r : ℕ) : Type 0 where
  pub is : (P : Program) (F : Function) → Placed s places f P F → r ≡ nesting_needs F Δ (nesting_of (mark_by n))

-- what block b binds, and its scope with what it needs itself
pub record Owns (s places : List ℕ) (f b : ℕ) (words : List ℕ) (r : Needed) : Type 0 where
  pub bound : (P : Program) (F : Function) → Placed s places f P F → (B : Block) → get_elem? F.blocks b ≡ some B → r.bound ≡ bound_by B
  pub needs : (P : Program) (F : Function) → Placed s places f P F → (B : Block) → get_elem? F.blocks b ≡ some B →
      (ms : List Mark) (Γs : List ℕ) → b < length ms → Whole words ms Γs → r.needs ≡ own F (nesting_of (get_or ms b none)) (get_or Γs b 0) B

-- the array has what each block binds, from block b on
pub record BoundFrom (F : Function) (b : ℕ) (bounds : List ℕ) : Type 0 where
  pub long : length bounds ≡ blocks
  pub is : (c : ℕ) (B : Block) → b ≤ c → get_elem? F.blocks c ≡ some B → get_or bounds c 0 ≡ bound_by B

-- block b has in its scope what it needs itself, and the array what it binds; every block, and the array of all
pub record NeedsOwn (s places : List ℕ) (f b : ℕ) (words bounds words' bounds' : List ℕ) : Type 0 where
  pub is : (P : Program) (F : Function) → Placed s places f P F → (ms : List Mark) (Γs : List ℕ) → length F.blocks ≡ length ms →
      b < length ms → Whole words ms Γs → Whole words' ms (need F ms b Γs)
  pub keeps : (P : Program) (F : Function) → Placed s places f P F → BoundFrom F (b + 1) bounds → BoundFrom F b bounds'

pub record NeedsAll (s places : List ℕ) (f n : ℕ) (words bounds words' bounds' : List ℕ) : Type 0 where
  pub is : (P : Program) (F : Function) → Placed s places f P F → (ms : List Mark) (Γs : List ℕ) → length F.blocks ≡ length ms →
      n ≡ length ms → Whole words ms Γs → Whole words' ms (sweep (need F ms) (downward n) Γs)
  pub keeps : (P : Program) (F : Function) → Placed s places f P F → n ≡ length F.blocks → length bounds ≡ blocks → BoundFrom F 0 bounds'

-- F is function f of a program of which the transfers are those, and the array has what its blocks bind
pub record Bounded (s transfers : List ℕ) (f : ℕ) (bounds : List ℕ) (P : Program) (F : Function) : Type 0 where
  pub ended : Ended s transfers f P F
  pub bound : BoundFrom F 0 bounds

-- the scope of block b, and what the scopes of its targets need and it does not bind
pub record Grown (s transfers : List ℕ) (f b : ℕ) (bounds words : List ℕ) (r : ℕ) : Type 0 where
  pub is : (P : Program) (F : Function) → Bounded s transfers f bounds P F → (B : Block) → get_elem? F.blocks b ≡ some B →
      (ms : List Mark) (Γs : List ℕ) → Whole words ms Γs → r ≡ joined_all (bound_by B) (get_or Γs b 0) Γs (targets B.transfer)

-- block b has it; every block has, after a round; and after sixteen times as many rounds as there are blocks
pub record Grows (s transfers : List ℕ) (f b : ℕ) (bounds words : List ℕ) (r : Bool) (words' : List ℕ) : Type 0 where
  pub is : (P : Program) (F : Function) → Bounded s transfers f bounds P F → (ms : List Mark) (Γs : List ℕ) →
      length F.blocks ≡ length ms → b < length ms → Whole words ms Γs → Whole words' ms (grow F b Γs)
  pub same : r ≡ false → words' ≡ words

pub record GrowsAll (s transfers : List ℕ) (f n : ℕ) (bounds words : List ℕ) (r : Bool) (words' : List ℕ) : Type 0 where
  pub is : (P : Program) (F : Function) → Bounded s transfers f bounds P F → (ms : List Mark) (Γs : List ℕ) →
      length F.blocks ≡ length ms → n ≡ length ms → Whole words ms Γs → Whole words' ms (sweep (grow F) (downward n) Γs)
  pub same : r ≡ false → words' ≡ words

pub record Settles (s transfers : List ℕ) (f n : ℕ) (bounds words words' : List ℕ) : Type 0 where
  pub is : (P : Program) (F : Function) → Bounded s transfers f bounds P F → (ms : List Mark) (Γs : List ℕ) →
      length F.blocks ≡ length ms → n ≡ length ms → Whole words ms Γs →
      Whole words' ms (rounds (sweep (grow F) (downward n)) (16 * n) Γs)

-- the entry's scope
pub record Enters (s places : List ℕ) (f r : ℕ) : Type 0 where
  pub is : (P : Program) (F : Function) → Placed s places f P F → r ≡ below F.signature.parameters
