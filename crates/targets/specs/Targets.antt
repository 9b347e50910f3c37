-- What the lookups of targets and the tests of a transfer say, for every program that the places are those of.
use Rattle.std.specs.Prelude.{ℕ, ◌≡◌, Bool, List, [], ◌∷◌, ◌++◌, Option as Optional, Some, None, Result, Ok, Err}
use Rattle.std.proofs.Math.Option.{Option, none, some, map}
use Rattle.std.proofs.Math.ListN.{get_elem?}
use Rattle.model.specs.Lists.{equal}
use Rattle.model.specs.Syntax.{Transfer, Head, SpawnCall, Signature, Function, Program}
use Rattle.model.specs.Tests.{Tests, ◌then◌, fault}
use Rattle.model.specs.WellFormed.{Env, env, signature_of}
use Rattle.model.specs.Check as Check
use Rattle.model.specs.Limits.{InTransfer}
use Rattle.places.specs.Places.{Places}
use Rattle.code.specs.Code.{run, head_in}
use Rattle.code.specs.declared.Opening.{Opening}
use Rattle.answers.specs.declared.No.{No}
use Rattle.targets.specs.declared.Here.{Here}

-- no fault, or the first fault's number
abbrev pub Verdict : Type 0
Verdict = Result (Unit {0}) No

abbrev pub fails : ℕ → Verdict
fails n = Err (record { 0 = n })

-- the fault that a verdict gives
abbrev pub verdict_of : Verdict → Option ℕ
verdict_of (Ok _) = none
verdict_of (Err n) = some n.0

-- a target's head, and a function's numbers of parameters and of returned values; or that there is none
abbrev pub Target : Type 0
Target = Optional Opening

abbrev pub Callee : Type 0
Callee = Optional (ℕ × ℕ)

-- function f of a program that the places are those of is F
pub record Within (s places : List ℕ) (f : ℕ) (P : Program) (F : Function) : Type 0 where
  pub index : Places s P places
  pub there : get_elem? P f ≡ some F

-- a block by number: its head
abbrev pub target_of : List ℕ → Target → Option Head
target_of s (Some h) = some (head_in s h)
target_of s None = none

abbrev pub Targets : List ℕ → List ℕ → ℕ → ℕ → Target → Type 0
Targets s places f b r = (P : Program) (F : Function) → Within s places f P F → target_of s r ≡ (env P F).block b

-- a function by number: its signature
abbrev pub callee_of : Callee → Option Signature
callee_of (Some (n, m)) = some (record { parameters = n; returns = m })
callee_of None = none

abbrev pub Callees : List ℕ → List ℕ → ℕ → Callee → Type 0
Callees s places g r = (P : Program) → Places s P places → callee_of r ≡ map signature_of (get_elem? P g)

-- a spawn call by number: the signature of its function; none where either is not there
abbrev pub called_by : Env → Option SpawnCall → Option Signature
called_by E none = none
called_by E (some S) = E.function S.function

abbrev pub Spawns : List ℕ → List ℕ → ℕ → ℕ → Callee → Type 0
Spawns s places f π r = (P : Program) (F : Function) → Within s places f P F → callee_of r ≡ called_by (env P F) ((env P F).spawn π)

-- the nesting of where a transfer stands
abbrev pub nesting_of : List ℕ → Here → List ℕ
nesting_of s here = run s here.nesting here.depth

-- a target that takes n values, and two, under a nesting ρ and with Γ bound
abbrev pub one_tests : Head → ℕ → List ℕ → ℕ → Tests
one_tests B n ρ Γ = Check.takes B n then Check.nests B ρ then Check.scoped B Γ

abbrev pub both_tests : Head → ℕ → Head → ℕ → List ℕ → ℕ → Tests
both_tests B n C m ρ Γ =
    Check.takes B n then Check.takes C m then Check.nests B ρ then Check.nests C ρ then Check.scoped B Γ then Check.scoped C Γ

-- is the nesting of a head that of n names at an offset; is it that and x behind it
abbrev pub Keeps : List ℕ → Opening → ℕ → ℕ → Bool → Type 0
Keeps s h at n r = r ≡ equal (head_in s h).nesting (run s at n)

abbrev pub Adds : List ℕ → Opening → ℕ → ℕ → ℕ → Bool → Type 0
Adds s h at n x r = r ≡ equal (head_in s h).nesting (run s at n ++ (x ∷ []))

-- the verdict on a target, on two, and on a spork's body
abbrev pub One : List ℕ → Here → Opening → ℕ → Verdict → Type 0
One s here h n r = fault (one_tests (head_in s h) n (nesting_of s here) here.bound) ≡ verdict_of r

abbrev pub Both : List ℕ → Here → Opening → ℕ → Opening → ℕ → Verdict → Type 0
Both s here h n k m r = fault (both_tests (head_in s h) n (head_in s k) m (nesting_of s here) here.bound) ≡ verdict_of r

abbrev pub Grown : List ℕ → Here → Opening → ℕ → Verdict → Type 0
Grown s here h x r = fault (one_tests (head_in s h) 0 (nesting_of s here ++ (x ∷ [])) here.bound) ≡ verdict_of r

-- the verdict on a transfer whose temporaries are below 16
abbrev pub Judges : List ℕ → List ℕ → Here → Transfer → Verdict → Type 0
Judges s places here T r =
    (P : Program) (F : Function) → Within s places here.f P F → InTransfer T →
    fault (Check.transfer (env P F) here.bound (nesting_of s here) T) ≡ verdict_of r
