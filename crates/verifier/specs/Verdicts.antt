-- What each part of the check says, for every program that the places are those of: the first fault of what stands there.
use Rattle.std.specs.Prelude.{ℕ, ◌≡◌, Bool, not, ◌||◌, List, [], ◌∷◌, eqb, Result, Ok, Err}
use Rattle.model.specs.Answers.{Refusal, Answer}
use Rattle.model.specs.Syntax.{Function, Program}
use Rattle.model.specs.Tests.{Tests, fault}
use Rattle.model.specs.WellFormed.{env}
use Rattle.model.specs.Check as Check
use Rattle.model.specs.Check.{Placed, first_fault}
use Rattle.model.specs.Limits.{InBlock}
use Rattle.places.specs.Places.{Places}
use Rattle.code.specs.declared.Opening.{Opening}
use Rattle.code.specs.Code.{run, head_in, spawn_at, code_at, code_end, transfer_at, coded, block_at}
use Rattle.targets.specs.Targets.{Verdict, verdict_of, Within}
use Rattle.answers.specs.declared.No.{No}
use Rattle.answers.specs.declared.Refusal as Code
use Rattle.answers.specs.Answers.{answer_of}

-- the blocks of a function: none has a fault, or the first fault's number and block
abbrev pub Ranked : Type 0
Ranked = Result (Unit {0}) (No × ℕ)

-- the answer on the whole
abbrev pub Judgement : Type 0
Judgement = Result (Unit {0}) Code.Refusal

-- the answer of function f's blocks, before that of what follows
abbrev pub ranked_of : ℕ → Ranked → Answer (Unit {0}) → Answer (Unit {0})
ranked_of f (Ok _) a = a
ranked_of f (Err (n, b)) a = Answer.refused (Refusal.fault n.0 f b)

-- an entry of a nesting, and n of them
abbrev pub Nests : List ℕ → List ℕ → ℕ → ℕ → ℕ → Verdict → Type 0
Nests s places f π Γ r = (P : Program) (F : Function) → Within s places f P F → fault (Check.nested (env P F) Γ π) ≡ verdict_of r

abbrev pub NestsAll : List ℕ → List ℕ → ℕ → ℕ → ℕ → ℕ → Verdict → Type 0
NestsAll s places f at n Γ r =
    (P : Program) (F : Function) → Within s places f P F → fault (Tests.each (Check.nested (env P F) Γ) (run s at n)) ≡ verdict_of r

-- an entry; and block b, which has to be one where it is block 0
abbrev pub Entered : List ℕ → List ℕ → ℕ → Opening → Bool → Type 0
Entered s places f h r = (P : Program) (F : Function) → Within s places f P F → r ≡ Check.is_entry (env P F).own.parameters (head_in s h)

abbrev pub Enters : List ℕ → List ℕ → ℕ → ℕ → Opening → Bool → Type 0
Enters s places f b h r =
    (P : Program) (F : Function) → Within s places f P F → r ≡ (not (eqb b 0) || Check.is_entry (env P F).own.parameters (head_in s h))

-- a spawn call, and a function's
abbrev pub Spawns : List ℕ → List ℕ → ℕ → Verdict → Type 0
Spawns s places at r = (P : Program) (F : Function) → Places s P places → fault (Check.spawn (env P F) (spawn_at s at)) ≡ verdict_of r

abbrev pub SpawnsAll : List ℕ → List ℕ → ℕ → Verdict → Type 0
SpawnsAll s places f r =
    (P : Program) (F : Function) → Within s places f P F → fault (Tests.each (Check.spawn (env P F)) F.spawns) ≡ verdict_of r

-- what stands behind a head, and a block: with temporaries below 16
abbrev pub Codes : List ℕ → List ℕ → ℕ → Opening → ℕ → Verdict → Type 0
Codes s places f h Γ r =
    (P : Program) (F : Function) → Within s places f P F →
    InBlock (coded (head_in s h) s h.behind) →
    fault (Check.code (env P F) Γ (head_in s h).nesting (code_at s h.behind) (transfer_at s (code_end s h.behind))) ≡ verdict_of r

abbrev pub Blocks : List ℕ → List ℕ → ℕ → ℕ → ℕ → Verdict → Type 0
Blocks s places f b at r =
    (P : Program) (F : Function) → Within s places f P F → InBlock (block_at s at) →
    fault (Check.block (env P F) b (block_at s at)) ≡ verdict_of r

-- the first fault of placed tests, and without one the answer of what follows
unfoldable pub follow : List Placed → Answer (Unit {0}) → Answer (Unit {0})
follow [] a = a
follow (p ∷ ps) a = Check.at p (fault p.tests) (follow ps a)

-- a function's blocks, the functions, and the whole
abbrev pub BlocksAll : List ℕ → List ℕ → ℕ → Ranked → Type 0
BlocksAll s places f r =
    (P : Program) (F : Function) (a : Answer (Unit {0})) → Within s places f P F →
    follow (Check.of_blocks (env P F) f 0 F.blocks) a ≡ ranked_of f r a

abbrev pub FunctionsAll : List ℕ → List ℕ → Judgement → Type 0
FunctionsAll s places r = (P : Program) → Places s P places → first_fault (Check.of_functions P 0 P) ≡ answer_of r

abbrev pub Judges : List ℕ → List ℕ → Judgement → Type 0
Judges s places r = (P : Program) → Places s P places → Check.judge P ≡ answer_of r
