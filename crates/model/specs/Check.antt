-- The check: the first fault of a program in document 01's order, with its number (4 to 11) and its place.
use Rattle.std.specs.Prelude.{ℕ, ◌+◌, Bool, not, ◌&&◌, ◌||◌, List, [], ◌∷◌, ◌++◌, eqb, length}
use Rattle.std.proofs.Math.Option.{Option, none, some}
use Rattle.std.proofs.Math.ListN.{get_elem?}
use Rattle.model.specs.Numbers as No
use Rattle.model.specs.Answers.{Refusal, Answer}
use Rattle.model.specs.Lists.{all, equal, unsnoc}
use Rattle.model.specs.Sets.{has, with, with_all, within, below}
use Rattle.model.specs.Syntax.{Statement, Transfer, Head, Block, SpawnCall, Function, Program, uses}
use Rattle.model.specs.Tests.{Tests, ◌then◌, fault}
use Rattle.model.specs.WellFormed.{Env, env}

-- the temporaries are bound; a block takes r values; has the nesting ρ; has its scope within Γ
unfoldable pub bound : ℕ → List ℕ → Tests
bound Γ x̄ = Tests.need No.unbound (all (has Γ) x̄)

unfoldable pub takes : Head → ℕ → Tests
takes H r = Tests.need No.count (eqb (length H.parameters) r)

unfoldable pub nests : Head → List ℕ → Tests
nests H ρ = Tests.need No.nesting (equal H.nesting ρ)

unfoldable pub scoped : Head → ℕ → Tests
scoped H Γ = Tests.need No.scope (within H.scope Γ)

-- a transfer: temporaries, names, counts, nesting, scope, each over targets from left to right
unfoldable pub transfer : Env → ℕ → List ℕ → Transfer → Tests
transfer E Γ ρ (Transfer.goto b x̄) =
    bound Γ x̄ then
    Tests.given No.missing (E.block b) λ B.
    takes B (length x̄) then nests B ρ then scoped B Γ
transfer E Γ ρ (Transfer.if e b c) =
    bound Γ (uses e) then
    Tests.given No.missing (E.block b) λ B.
    Tests.given No.missing (E.block c) λ C.
    takes B 0 then takes C 0 then nests B ρ then nests C ρ then scoped B Γ then scoped C Γ
transfer E Γ ρ (Transfer.call g x̄ b) =
    bound Γ x̄ then
    Tests.given No.missing (E.function g) λ G.
    Tests.given No.missing (E.block b) λ B.
    Tests.need No.count (eqb (length x̄) G.parameters) then takes B G.returns then nests B ρ then scoped B Γ
transfer E Γ ρ (Transfer.return x̄) =
    bound Γ x̄ then
    Tests.need No.count (eqb (length x̄) E.own.returns) then Tests.need No.nesting (equal ρ [])
transfer E Γ ρ (Transfer.spork b π) =
    Tests.given No.missing (E.block b) λ B.
    Tests.given No.missing (E.spawn π) λ S.
    takes B 0 then nests B (ρ ++ (π ∷ [])) then scoped B Γ
transfer E Γ ρ (Transfer.spoin b c) =
    Tests.given No.missing (E.block b) λ B.
    Tests.given No.missing (E.block c) λ C.
    Tests.given No.nesting (unsnoc ρ) λ I.
    Tests.given No.missing (E.spawn I.last) λ S.
    Tests.given No.missing (E.function S.function) λ G.
    takes B 0 then takes C G.returns then nests B I.front then nests C I.front then scoped B Γ then scoped C Γ

-- the statements, operands before target, and then the transfer
unfoldable pub code : Env → ℕ → List ℕ → List Statement → Transfer → Tests
code E Γ ρ [] T = transfer E Γ ρ T
code E Γ ρ (s ∷ C) T =
    bound Γ (uses s.source) then
    Tests.need No.twice (not (has Γ s.target)) then
    code E (with Γ s.target) ρ C T

-- parameters are distinct and outside the scope
unfoldable pub fresh : ℕ → List ℕ → Tests
fresh Γ [] = Tests.fine
fresh Γ (x ∷ x̄) = Tests.need No.twice (not (has Γ x)) then fresh (with Γ x) x̄

-- a nesting's entry: the spawn call exists, and its arguments lie in the scope
unfoldable pub nested : Env → ℕ → ℕ → Tests
nested E Γ π = Tests.given No.missing (E.spawn π) λ S. Tests.need No.scope (all (has Γ) S.arguments)

-- no parameters, a scope of exactly the function's n parameters, no nesting
unfoldable pub is_entry : ℕ → Head → Bool
is_entry n H = equal H.parameters [] && eqb H.scope (below n) && equal H.nesting []

-- block b: entry, parameters, nesting, statements, transfer
unfoldable pub block : Env → ℕ → Block → Tests
block E b B =
    Tests.need No.entry (not (eqb b 0) || is_entry E.own.parameters B.head) then
    fresh B.head.scope B.head.parameters then
    Tests.each (nested E B.head.scope) B.head.nesting then
    code E (with_all B.head.scope B.head.parameters) B.head.nesting B.code B.transfer

-- a spawn call: the name before the count
unfoldable pub spawn : Env → SpawnCall → Tests
spawn E S =
    Tests.given No.missing (E.function S.function) λ G. Tests.need No.count (eqb (length S.arguments) G.parameters)

-- tests with their place: the function and the block, 255 for main's fault and for a spawn call
pub record Placed : Type 1 where
  pub function : ℕ
  pub block : ℕ
  pub tests : Tests

abbrev pub nowhere : ℕ
nowhere = 255

unfoldable pub of_blocks : Env → ℕ → ℕ → List Block → List Placed
of_blocks E f b [] = []
of_blocks E f b (B ∷ B̄) = record { function = f; block = b; tests = block E b B } ∷ of_blocks E f (b + 1) B̄

-- each function: its spawn calls, then its blocks
unfoldable pub of_functions : Program → ℕ → List Function → List Placed
of_functions P f [] = []
of_functions P f (F ∷ F̄) =
    record { function = f; block = nowhere; tests = Tests.each (spawn (env P F)) F.spawns } ∷
    of_blocks (env P F) f 0 F.blocks ++
    of_functions P (f + 1) F̄

-- main has no parameters
unfoldable pub of_main : Option Function → Tests
of_main none = Tests.fine
of_main (some F) = Tests.need No.main (eqb F.signature.parameters 0)

-- main; then each function
unfoldable pub tests : Program → List Placed
tests P = record { function = 0; block = nowhere; tests = of_main (get_elem? P 0) } ∷ of_functions P 0 P

unfoldable pub at : Placed → Option ℕ → Answer (Unit {0}) → Answer (Unit {0})
at p none a = a
at p (some n) a = Answer.refused (Refusal.fault n p.function p.block)

-- the first fault with its place, or accepted
unfoldable pub first_fault : List Placed → Answer (Unit {0})
first_fault [] = Answer.given tt
first_fault (p ∷ ps) = at p (fault p.tests) (first_fault ps)

unfoldable pub judge : Program → Answer (Unit {0})
judge P = first_fault (tests P)
