-- How the scopes and nestings of a function's blocks are inferred: nestings go from the entry along the transfers, and mark what is
-- reached; a scope begins with what its block needs itself, and what the scopes of targets need goes back along the transfers. Each is a
-- step of one block, swept over all blocks as often as anything can change.
use Rattle.std.specs.Prelude.{ℕ, zero, suc, ◌+◌, ◌-◌, ◌*◌, cond, List, [], ◌∷◌, ◌++◌, map, ltb, length, get_or, set, replicate}
use Rattle.std.proofs.Math.Option.{Option, none, some}
use Rattle.std.specs.Int.Bits.{bit_and, bit_or}
use Rattle.std.proofs.Math.ListN.{get_elem?}
use Rattle.model.specs.Lists.{Snoc, unsnoc}
use Rattle.model.specs.Sets.{has, with, with_all, below}
use Rattle.model.specs.Syntax.{Statement, Transfer, Block, SpawnCall, Function, Program, uses, targets}
use Rattle.inference.specs.Filled.{Scoping, filled}

-- n blocks by number from b on; and n blocks from the last to the first
unfoldable pub upward : ℕ → ℕ → List ℕ
upward b zero = []
upward b (suc n) = b ∷ upward (b + 1) n

unfoldable pub downward : ℕ → List ℕ
downward zero = []
downward (suc n) = n ∷ downward n

-- a step of each block of a list, one after another; and n times
unfoldable pub sweep : {A : Type 0} → (ℕ → A → A) → List ℕ → A → A
sweep step [] σ = σ
sweep step (b ∷ b̄) σ = sweep step b̄ (step b σ)

unfoldable pub rounds : {A : Type 0} → (A → A) → ℕ → A → A
rounds f zero σ = σ
rounds f (suc n) σ = rounds f n (f σ)

-- a step of the block that is there
unfoldable pub at : {A : Type 0} → Option Block → (Block → A → A) → A → A
at none step σ = σ
at (some B) step σ = step B σ

-- NESTINGS. A block's mark: none, or the nesting with which it was reached first
abbrev pub Mark : Type 0
Mark = Option (List ℕ)

-- a nesting with one spawn call more, of which there are at most four; and with one less
unfoldable pub opened : List ℕ → ℕ → List ℕ
opened ρ π = cond (ltb (length ρ) 4) (ρ ++ (π ∷ [])) ρ

unfoldable pub front : Option (Snoc ℕ) → List ℕ
front none = []
front (some e) = e.front

unfoldable pub closed : List ℕ → List ℕ
closed ρ = front (unsnoc ρ)

-- the nesting of a transfer's targets, in a block under ρ
unfoldable pub under : List ℕ → Transfer → List ℕ
under ρ (Transfer.goto b x̄) = ρ
under ρ (Transfer.if e b c) = ρ
under ρ (Transfer.call g x̄ b) = ρ
under ρ (Transfer.return x̄) = ρ
under ρ (Transfer.spork b π) = opened ρ π
under ρ (Transfer.spoin b c) = closed ρ

-- the first mark stays; a name that no block has leads nowhere
unfoldable pub first : Mark → List ℕ → Mark
first none ρ = some ρ
first (some σ) ρ = some σ

unfoldable pub mark : List ℕ → List Mark → ℕ → List Mark
mark ρ ms b = set ms b (first (get_or ms b none) ρ)

unfoldable pub mark_all : List ℕ → List Mark → List ℕ → List Mark
mark_all ρ ms [] = ms
mark_all ρ ms (b ∷ b̄) = mark_all ρ (mark ρ ms b) b̄

-- a block that is reached marks its targets
unfoldable pub leads : Mark → Transfer → List Mark → List Mark
leads none T ms = ms
leads (some ρ) T ms = mark_all (under ρ T) ms (targets T)

unfoldable pub lead : Function → ℕ → List Mark → List Mark
lead F b ms = at (get_elem? F.blocks b) (λ B ms. leads (get_or ms b none) B.transfer ms) ms

-- at first the entry alone is reached, under no nesting
unfoldable pub entered : ℕ → List Mark
entered n = set (replicate n none) 0 (some [])

unfoldable pub marks : Function → List Mark
marks F = rounds (sweep (lead F) (upward 0 (length F.blocks))) (length F.blocks) (entered (length F.blocks))

-- SCOPES. Δ, and those of x̄ that are not in Γ; Δ, and what of Θ is not in Γ
unfoldable pub lacking : ℕ → ℕ → List ℕ → ℕ
lacking Γ Δ [] = Δ
lacking Γ Δ (x ∷ x̄) = lacking Γ (cond (has Γ x) Δ (with Δ x)) x̄

unfoldable pub joined : ℕ → ℕ → ℕ → ℕ
joined Γ Δ Θ = bit_or Δ (Θ - bit_and Θ Γ)

-- what is bound behind statements, and what they need besides
pub record Needing : Type 0 where
  pub bound : ℕ
  pub needs : ℕ

unfoldable pub needing : ℕ → ℕ → List Statement → Needing
needing Γ Δ [] = record { bound = Γ; needs = Δ }
needing Γ Δ (s ∷ C) = needing (with Γ s.target) (lacking Γ Δ (uses s.source)) C

-- the temporaries that a transfer uses itself
unfoldable pub used_by : Transfer → List ℕ
used_by (Transfer.goto b x̄) = x̄
used_by (Transfer.if e b c) = uses e
used_by (Transfer.call g x̄ b) = x̄
used_by (Transfer.return x̄) = x̄
used_by (Transfer.spork b π) = []
used_by (Transfer.spoin b c) = []

-- what the scopes of its targets need besides
unfoldable pub joined_all : ℕ → ℕ → List ℕ → List ℕ → ℕ
joined_all Γ Δ Γs [] = Δ
joined_all Γ Δ Γs (b ∷ b̄) = joined_all Γ (joined Γ Δ (get_or Γs b 0)) Γs b̄

-- what a nesting needs: the arguments of its spawn calls
unfoldable pub arguments_of : Option SpawnCall → List ℕ
arguments_of none = []
arguments_of (some S) = S.arguments

unfoldable pub nesting_needs : Function → ℕ → List ℕ → ℕ
nesting_needs F Δ [] = Δ
nesting_needs F Δ (π ∷ ρ) = nesting_needs F (with_all Δ (arguments_of (get_elem? F.spawns π))) ρ

-- the nesting of a mark
unfoldable pub nesting_of : Mark → List ℕ
nesting_of none = []
nesting_of (some ρ) = ρ

-- what a block binds: its parameters, and the targets of its statements
unfoldable pub bound_by : Block → ℕ
bound_by B = (needing (with_all 0 B.head.parameters) 0 B.code).bound

-- what a transfer behind statements needs besides them
unfoldable pub used_behind : Transfer → Needing → ℕ
used_behind T k = lacking k.bound k.needs (used_by T)

-- Δ, and what a block under the nesting ρ needs itself: the arguments of ρ's spawn calls, and what it uses and does not bind before
unfoldable pub own : Function → List ℕ → ℕ → Block → ℕ
own F ρ Δ B = used_behind B.transfer (needing (with_all 0 B.head.parameters) (nesting_needs F Δ ρ) B.code)

unfoldable pub need : Function → List Mark → ℕ → List ℕ → List ℕ
need F ms b Γs =
    at (get_elem? F.blocks b) (λ B Γs. set Γs b (own F (nesting_of (get_or ms b none)) (get_or Γs b 0) B)) Γs

-- a block's scope, and what the scopes of its targets need and it does not bind
unfoldable pub grow : Function → ℕ → List ℕ → List ℕ
grow F b Γs =
    at (get_elem? F.blocks b) (λ B Γs. set Γs b (joined_all (bound_by B) (get_or Γs b 0) Γs (targets B.transfer))) Γs

-- at first every scope is empty, but the entry's, which is given: its function's parameters
unfoldable pub given : Function → List ℕ
given F = set (replicate (length F.blocks) 0) 0 (below F.signature.parameters)

-- then each has what its block needs itself, and from there on what its targets need goes back to it
unfoldable pub needed : Function → List ℕ
needed F = sweep (need F (marks F)) (downward (length F.blocks)) (given F)

unfoldable pub scopes : Function → List ℕ
scopes F = rounds (sweep (grow F) (downward (length F.blocks))) (16 * length F.blocks) (needed F)

-- what is inferred of block b of a function; and the completed function and program
unfoldable pub infer : Function → ℕ → Scoping
infer F b = record { scope = get_or (scopes F) b 0; nesting = nesting_of (get_or (marks F) b none) }

unfoldable pub completed_function : Function → Function
completed_function F = filled (infer F) F

unfoldable pub completed : Program → Program
completed P = map completed_function P
