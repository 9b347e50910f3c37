-- What S-4 promises, in its own words: accepted exactly where every block is reached and some scopes and nestings pass the rules; then
-- the smallest scopes are written, as a table that the check accepts as it stands.
use Rattle.std.specs.Prelude.{ℕ, ◌≤◌, ◌<◌, ◌≡◌, true, List, length}
use Rattle.std.proofs.Math.Option.{some}
use Rattle.std.proofs.Math.ListN.{get_elem?}
use Rattle.model.specs.Numbers as No
use Rattle.model.specs.Answers.{Refusal, Answer}
use Rattle.model.specs.Lists.{pad}
use Rattle.model.specs.Sets.{◌⊆◌}
use Rattle.model.specs.Syntax.{Function, Program}
use Rattle.model.specs.WellFormed.{WF-fun, WF-prog}
use Rattle.model.specs.Read.{read_brief}
use Rattle.model.specs.Check.{nowhere}
use Rattle.model.specs.Calls.{read, check}
use Rattle.model.specs.Write as Write
use Rattle.numbering.specs.Mentions.{targets_in}
use Rattle.numbering.specs.Order as Order
use Rattle.inference.specs.Filled.{Scoping, Holds, filled, filled_all}
use Rattle.inference.specs.Complete.{output_bytes, enough, cleared, complete}

-- block b of F is the entry, or a target of the transfer of a block that is reached
abbrev pub Reached : Function → ℕ → Type 0
Reached F b = Order.Reached (targets_in F) b

-- the program's functions and blocks, by number
abbrev pub Function-of : Program → ℕ → Function → Type 0
Function-of P f F = get_elem? P f ≡ some F

-- every block of F is reached, and those of every function below n
abbrev pub ReachedAll : Function → Type 0
ReachedAll F = (b : ℕ) → b < length F.blocks → Reached F b

abbrev pub ReachedBelow : Program → ℕ → Type 0
ReachedBelow P n = (f : ℕ) (F : Function) → f < n → Function-of P f F → ReachedAll F

-- these scopes and nestings, which version 1 can hold, make function f of P pass the rules: of the other functions nothing is looked at
-- but their signatures. That main has no parameters is a rule of function 0
pub record Passes (P : Program) (f : ℕ) (F : Function) (a : ℕ → Scoping) : Type 0 where
  pub holds : (b : ℕ) → b < length F.blocks → Holds (a b)
  pub well_formed : WF-fun P (filled a F)
  pub starts : f ≡ 0 → F.signature.parameters ≡ 0

abbrev pub SomePasses : Program → ℕ → Function → Type 0
SomePasses P f F = (a : ℕ → Scoping) × Passes P f F a

-- these make the program well formed
pub record Completes (P : Program) (a : ℕ → ℕ → Scoping) : Type 0 where
  pub holds : (f b : ℕ) (F : Function) → Function-of P f F → b < length F.blocks → Holds (a f b)
  pub well_formed : WF-prog (filled_all a P)

-- a has the smallest scopes: every other that completes P has the same nestings, and contains its scopes block by block
abbrev pub Smallest : Program → (ℕ → ℕ → Scoping) → Type 0
Smallest P a =
    (c : ℕ → ℕ → Scoping) → Completes P c → (f b : ℕ) (F : Function) → Function-of P f F → b < length F.blocks →
    ((a f b).nesting ≡ (c f b).nesting) × ((a f b).scope ⊆ (c f b).scope)

-- a table is given exactly where it reads, every block is reached, and something completes it
pub record Accepted (s : List ℕ) : Type 0 where
  pub program : Program
  pub reads : read_brief s ≡ Answer.given program
  pub reached : ReachedBelow program (length program)
  pub some : (a : ℕ → ℕ → Scoping) × Completes program a

-- what is written then: the smallest completion, as a table of version 1 with 0 behind it, which reads and is accepted
pub record Written (s out' : List ℕ) (n : ℕ) : Type 0 where
  pub program : Program
  pub reads : read_brief s ≡ Answer.given program
  pub scoping : ℕ → ℕ → Scoping
  pub completes : Completes program scoping
  pub smallest : Smallest program scoping
  pub long : n ≡ length (Write.table (filled_all scoping program))
  pub fits : n ≤ output_bytes
  pub bytes : out' ≡ pad output_bytes 0 (Write.table (filled_all scoping program))
  pub reads-back : read (Write.table (filled_all scoping program)) ≡ Answer.given (filled_all scoping program)
  pub accepted : check (Write.table (filled_all scoping program)) ≡ Answer.given tt

-- 25: block b of function f is not reached, every lower block of it is, and all blocks of every lower function are
pub record Unreached (s : List ℕ) (f b : ℕ) : Type 0 where
  pub program : Program
  pub reads : read_brief s ≡ Answer.given program
  pub function : Function
  pub there : Function-of program f function
  pub inside : b < length function.blocks
  pub not : Reached function b → ⊥
  pub below : (c : ℕ) → c < b → Reached function c
  pub before : ReachedBelow program f

-- 26: every block is reached, no scopes and nestings make function f pass, and some make every lower function pass
pub record Impossible (s : List ℕ) (f : ℕ) : Type 0 where
  pub program : Program
  pub reads : read_brief s ≡ Answer.given program
  pub reached : ReachedBelow program (length program)
  pub function : Function
  pub there : Function-of program f function
  pub none : SomePasses program f function → ⊥
  pub before : (g : ℕ) (G : Function) → g < f → Function-of program g G → SomePasses program g G

-- the refusals behind reading, in their order; each means what it says, and nothing else is answered
pub data Says (s out words : List ℕ) : Answer ℕ → List ℕ → List ℕ → Type 0 where
  unread : {r : Refusal} → read_brief s ≡ Answer.refused r → Says s out words (Answer.refused r) out words
  lent : {P : Program} → read_brief s ≡ Answer.given P → (enough out words ≡ true → ⊥) →
      Says s out words (Answer.refused (Refusal.plain No.lent)) out words
  unreached : {f b : ℕ} → enough out words ≡ true → Unreached s f b →
      Says s out words (Answer.refused (Refusal.fault No.unreached f b)) out (cleared words)
  impossible : {f : ℕ} → enough out words ≡ true → Impossible s f →
      Says s out words (Answer.refused (Refusal.fault No.impossible f nowhere)) out (cleared words)
  given : {n : ℕ} {out' : List ℕ} → enough out words ≡ true → Accepted s → Written s out' n →
      Says s out words (Answer.given n) out' (cleared words)

-- for all bytes and words: the answer and the memory left are one of these; and what can be completed is
pub record Means : Type 0 where
  pub says : (s out words : List ℕ) →
      Says s out words (complete s out words).answer (complete s out words).out (complete s out words).words
  pub accepts : (s out words : List ℕ) → enough out words ≡ true → Accepted s →
      (n : ℕ) × ((complete s out words).answer ≡ Answer.given n)
