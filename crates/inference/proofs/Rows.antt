-- Completions by computation: what is inferred, which refusal comes first, and what is left of what is lent.
use Prim.Native.Nat.{ℕ, ◌+◌, ◌/◌, ◌%◌}
use mathlib.Core.Path.{◌≡◌, refl, sym}
use mathlib.Core.Bool.{true}
use mathlib.Core.List.{List, [], ◌∷◌, ◌++◌, map}
use lib.ListN.{length, replicate}
use Rattle.model.specs.Numbers as No
use Rattle.model.specs.Answers as Answers
use Rattle.model.specs.Answers.{Refusal, Answer}
use Rattle.model.specs.Lists.{concat, pad}
use Rattle.model.specs.Syntax as Syntax
use Rattle.model.specs.Syntax.{Program}
use Rattle.model.specs.Read as Read
use Rattle.model.specs.Read.{read_brief}
use Rattle.model.specs.Check.{nowhere}
use Rattle.model.specs.Write as Write
use Rattle.model.proofs.Facts.{given-injective, refused-given}
use Rattle.model.proofs.Runs.{all, A, B}
use Rattle.inference.specs.Filled as Filled
use Rattle.inference.specs.Infer as Infer
use Rattle.inference.specs.Complete as Complete
use Rattle.inference.specs.Complete.{Completed, output_bytes, enough, inferred, cleared, complete}

-- what is answered where enough is lent: a refusal, or the table that is written
unfoldable pub answered : List ℕ → Answer (List ℕ)
answered s = Answers.with (read_brief s) λ P. Answers.with (inferred P) λ Q. Answer.given (Write.table Q)

-- so the completion gives its length, and writes it with 0 behind it; or refuses, and leaves the output
module _ (s out words : List ℕ) (lent : enough out words ≡ true) where
  pub given-complete : (t : List ℕ) → answered s ≡ Answer.given t →
      complete s out words ≡ record { answer = Answer.given (length t); out = pad output_bytes 0 t; words = cleared words }
  unfolding answered complete Complete.lend Complete.finish Answers.with
  given-complete t e = go (read_brief s) e
    where
      done : (a : Answer Program) → Answers.with a (λ Q. Answer.given (Write.table Q)) ≡ Answer.given t →
          Complete.finish out words a ≡ record { answer = Answer.given (length t); out = pad output_bytes 0 t; words = cleared words }
      done (Answer.given Q) e = rw (← given-injective e)
      done (Answer.refused r) e = refused-given e

      go : (a : Answer Program) → Answers.with a (λ P. Answers.with (inferred P) (λ Q. Answer.given (Write.table Q))) ≡ Answer.given t →
          Complete.lend out words a ≡ record { answer = Answer.given (length t); out = pad output_bytes 0 t; words = cleared words }
      go (Answer.given P) e = rw lent (done (inferred P) e)
      go (Answer.refused r) e = refused-given e

  pub refused-complete : (r : Refusal) → answered s ≡ Answer.refused r →
      ((complete s out words).answer ≡ Answer.refused r) × ((complete s out words).out ≡ out)
  unfolding answered complete Complete.lend Complete.finish Answers.with
  refused-complete r e = go (read_brief s) e
    where
      done : (a : Answer Program) → Answers.with a (λ Q. Answer.given (Write.table Q)) ≡ Answer.refused r →
          ((Complete.finish out words a).answer ≡ Answer.refused r) × ((Complete.finish out words a).out ≡ out)
      done (Answer.given Q) e = refused-given (sym e)
      done (Answer.refused q) e = (cc, refl)

      go : (a : Answer Program) → Answers.with a (λ P. Answers.with (inferred P) (λ Q. Answer.given (Write.table Q))) ≡ Answer.refused r →
          ((Complete.lend out words a).answer ≡ Answer.refused r) × ((Complete.lend out words a).out ≡ out)
      go (Answer.given P) e = rw lent (done (inferred P) e)
      go (Answer.refused q) e = (cc, refl)

-- a block with its scope and nesting
record Drawn : Type 0 where
  parameters : List ℕ
  scope : ℕ
  nesting : List ℕ
  code : List (List ℕ)
  transfer : List ℕ

abbrev block : List ℕ → ℕ → List ℕ → List (List ℕ) → List ℕ → Drawn
block x̄ Γ ρ C T = record { parameters = x̄; scope = Γ; nesting = ρ; code = C; transfer = T }

-- nothing but a transfer
abbrev plain : List ℕ → Drawn
plain T = block [] 0 [] [] T

-- statements: x ← k, x ← y + y; transfers
abbrev set : ℕ → ℕ → List ℕ
set x k = x ∷ 0 ∷ 0 ∷ 0 ∷ 0 ∷ 0 ∷ k ∷ []

abbrev double : ℕ → ℕ → List ℕ
double x y = x ∷ 2 ∷ 1 ∷ y ∷ 1 ∷ y ∷ []

abbrev goto : ℕ → List ℕ → List ℕ
goto b x̄ = 0 ∷ b ∷ length x̄ ∷ x̄

abbrev if : ℕ → ℕ → ℕ → List ℕ
if x b c = 1 ∷ 0 ∷ 1 ∷ x ∷ b ∷ c ∷ []

abbrev always : ℕ → ℕ → List ℕ
always b c = 1 ∷ 0 ∷ 0 ∷ 0 ∷ 0 ∷ 0 ∷ 1 ∷ b ∷ c ∷ []

abbrev call : ℕ → List ℕ → ℕ → List ℕ
call g x̄ b = 2 ∷ g ∷ length x̄ ∷ (x̄ ++ (b ∷ []))

abbrev return : List ℕ → List ℕ
return x̄ = 3 ∷ length x̄ ∷ x̄

abbrev spork : ℕ → ℕ → List ℕ
spork b π = 4 ∷ b ∷ π ∷ []

abbrev spoin : ℕ → ℕ → List ℕ
spoin b c = 5 ∷ b ∷ c ∷ []

-- a function of so many parameters and values: its spawn calls and its blocks
record Written : Type 0 where
  parameters : ℕ
  returns : ℕ
  spawns : List (List ℕ)
  blocks : List Drawn

abbrev spawn : ℕ → List ℕ → List ℕ
spawn g x̄ = g ∷ length x̄ ∷ x̄

abbrev function : ℕ → ℕ → List (List ℕ) → List Drawn → Written
function n r π̄ B̄ = record { parameters = n; returns = r; spawns = π̄; blocks = B̄ }

-- a head in version 1 and in version 2
abbrev full : Drawn → List ℕ
full D =
    length D.parameters ∷ (D.parameters ++ (D.scope / 256 ∷ D.scope % 256 ∷ length D.nesting ∷ D.nesting))

abbrev bare : Drawn → List ℕ
bare D = length D.parameters ∷ D.parameters

abbrev block_by : (Drawn → List ℕ) → Drawn → List ℕ
block_by h D = h D ++ (length D.code ∷ (concat D.code ++ D.transfer))

abbrev function_by : (Drawn → List ℕ) → Written → List ℕ
function_by h F =
    F.parameters ∷ F.returns ∷ length F.blocks ∷ length F.spawns ∷
    (concat F.spawns ++ concat (map (block_by h) F.blocks))

abbrev sized : List ℕ → List ℕ
sized s = 0 ∷ 0 ∷ (length s + 4) / 256 ∷ (length s + 4) % 256 ∷ s

abbrev table : ℕ → (Drawn → List ℕ) → List Written → List ℕ
table v h F̄ = sized (v ∷ length F̄ ∷ concat (map (function_by h) F̄))

abbrev whole : List Written → List ℕ
whole F̄ = table 1 full F̄

abbrev brief : List Written → List ℕ
brief F̄ = table 2 bare F̄

pub record Row : Type 0 where
  pub bytes : List ℕ
  pub answer : Answer (List ℕ)

-- version 2 of what is drawn becomes its version 1; or block b of function f is not reached; or function f cannot pass
abbrev completes : List Written → Row
completes F̄ = record { bytes = brief F̄; answer = Answer.given (whole F̄) }

abbrev refuses : List Written → Refusal → Row
refuses F̄ r = record { bytes = brief F̄; answer = Answer.refused r }

abbrev lost : List Written → ℕ → ℕ → Row
lost F̄ f b = refuses F̄ (Refusal.fault No.unreached f b)

abbrev stuck : List Written → ℕ → Row
stuck F̄ f = refuses F̄ (Refusal.fault No.impossible f nowhere)

-- a function that returns at once; one without parameters and values
abbrev leaf : Written
leaf = function 0 0 [] (plain (return []) ∷ [])

abbrev main : List (List ℕ) → List Drawn → Written
main π̄ B̄ = function 0 0 π̄ B̄

-- the least table, and A and B of document 01 without scope and nesting, to the byte
abbrev least : List ℕ
least = 0 ∷ 0 ∷ 0 ∷ 14 ∷ 2 ∷ 1 ∷ 0 ∷ 0 ∷ 1 ∷ 0 ∷ 0 ∷ 0 ∷ 3 ∷ 0 ∷ []

abbrev least-whole : List ℕ
least-whole = 0 ∷ 0 ∷ 0 ∷ 17 ∷ 1 ∷ 1 ∷ 0 ∷ 0 ∷ 1 ∷ 0 ∷ 0 ∷ 0 ∷ 0 ∷ 0 ∷ 0 ∷ 3 ∷ 0 ∷ []

abbrev A-brief : List ℕ
A-brief =
    0 ∷ 0 ∷ 0 ∷ 27 ∷ 2 ∷ 1 ∷ 0 ∷ 1 ∷ 1 ∷ 0 ∷ 0 ∷ 1 ∷ 0 ∷ 2 ∷ 0 ∷ 0 ∷ 0 ∷ 0 ∷ 2 ∷ 0 ∷ 0 ∷ 0 ∷ 0 ∷ 3 ∷ 3 ∷ 1 ∷ 0 ∷ []

abbrev B-brief : List ℕ
B-brief =
    0 ∷ 0 ∷ 0 ∷ 56 ∷ 2 ∷ 2 ∷ 0 ∷ 1 ∷ 4 ∷ 1 ∷ 1 ∷ 0 ∷ 0 ∷ 0 ∷ 4 ∷ 1 ∷ 0 ∷ 0 ∷ 0 ∷ 5 ∷ 2 ∷ 3 ∷ 0 ∷ 1 ∷ 0 ∷ 0 ∷ 0 ∷ 0 ∷ 0 ∷ 0 ∷ 1 ∷ 3 ∷ 1 ∷ 0 ∷
    1 ∷ 0 ∷ 0 ∷ 3 ∷ 1 ∷ 0 ∷ 0 ∷ 1 ∷ 1 ∷ 0 ∷ 0 ∷ 1 ∷ 0 ∷ 0 ∷ 0 ∷ 0 ∷ 0 ∷ 0 ∷ 7 ∷ 3 ∷ 1 ∷ 0 ∷ []

-- four spawn calls open, one in another; and five
abbrev four : List Drawn
four =
    plain (spork 1 0) ∷ block [] 0 (0 ∷ []) [] (spork 2 1) ∷ block [] 0 (0 ∷ 1 ∷ []) [] (spork 3 0) ∷
    block [] 0 (0 ∷ 1 ∷ 0 ∷ []) [] (spork 4 1) ∷ block [] 0 (0 ∷ 1 ∷ 0 ∷ 1 ∷ []) [] (spoin 5 5) ∷
    block [] 0 (0 ∷ 1 ∷ 0 ∷ []) [] (spoin 6 6) ∷ block [] 0 (0 ∷ 1 ∷ []) [] (spoin 7 7) ∷ block [] 0 (0 ∷ []) [] (spoin 8 8) ∷
    plain (return []) ∷ []

abbrev five : List Drawn
five =
    plain (spork 1 0) ∷ plain (spork 2 0) ∷ plain (spork 3 0) ∷ plain (spork 4 0) ∷
    plain (spork 5 0) ∷ plain (spoin 6 6) ∷ plain (spoin 7 7) ∷ plain (spoin 8 8) ∷
    plain (spoin 9 9) ∷ plain (spoin 10 10) ∷ plain (return []) ∷ []

abbrev pub rows : List Row
rows =
    record { bytes = least; answer = Answer.given least-whole } ∷
    record { bytes = A-brief; answer = Answer.given A } ∷
    record { bytes = B-brief; answer = Answer.given B } ∷
    -- under a spawn call its arguments are in the scope, though nothing else uses them; behind it they are not
    completes
    (function 0 1 (spawn 1 (0 ∷ []) ∷ []) (
    block [] 0 [] (set 0 5 ∷ []) (spork 1 0) ∷ block [] 1 (0 ∷ []) [] (spoin 2 3) ∷ block [] 0 [] (set 1 1 ∷ []) (return (1 ∷ [])) ∷
    block (2 ∷ []) 0 [] [] (return (2 ∷ [])) ∷ [])
    ∷ function 1 1 [] (block [] 1 [] [] (return (0 ∷ [])) ∷ []) ∷ []) ∷
    -- a loop: block 2 needs what block 1 needs, which the sweep comes to later; and a chain that needs a round a block
    completes
    (main [] (
    block [] 0 [] (set 0 1 ∷ []) (goto 1 []) ∷ block [] 1 [] [] (if 0 2 3) ∷ block [] 1 [] [] (goto 1 []) ∷
    plain (return []) ∷ []) ∷ []) ∷
    completes
    (function 0 1 [] (
    block [] 0 [] (set 9 1 ∷ []) (goto 4 []) ∷ block [] 512 [] [] (return (9 ∷ [])) ∷ block [] 512 [] [] (goto 1 []) ∷
    block [] 512 [] [] (goto 2 []) ∷ block [] 512 [] [] (goto 3 []) ∷ []) ∷ []) ∷
    -- what each way needs: then and else; the block to return to, less its parameters; unpromoted and promoted
    completes
    (function 0 1 [] (
    block [] 0 [] (set 0 1 ∷ set 1 2 ∷ set 2 3 ∷ []) (goto 1 []) ∷ block [] 7 [] [] (if 2 2 3) ∷
    block [] 1 [] [] (return (0 ∷ [])) ∷ block [] 2 [] [] (return (1 ∷ [])) ∷ []) ∷ []) ∷
    completes
    (function 0 1 [] (
    block [] 0 [] (set 0 1 ∷ set 1 2 ∷ []) (goto 1 []) ∷ block [] 3 [] [] (call 1 (0 ∷ []) 2) ∷
    block (2 ∷ []) 2 [] (double 3 1 ∷ double 4 2 ∷ []) (return (3 ∷ [])) ∷ [])
    ∷ function 1 1 [] (block [] 1 [] [] (return (0 ∷ [])) ∷ []) ∷ []) ∷
    completes
    (function 0 1 (spawn 1 [] ∷ []) (
    block [] 0 [] (set 0 1 ∷ set 1 2 ∷ []) (spork 1 0) ∷ block [] 3 (0 ∷ []) [] (spoin 2 3) ∷ block [] 1 [] [] (return (0 ∷ [])) ∷
    block (2 ∷ []) 2 [] [] (return (1 ∷ [])) ∷ [])
    ∷ function 0 1 [] (block [] 0 [] (set 0 7 ∷ []) (return (0 ∷ [])) ∷ []) ∷ []) ∷
    -- arguments of a goto; what is bound in a block is not needed; a temporary bound twice, since no scope keeps the first
    completes
    (function 0 1 [] (
    block [] 0 [] (set 3 1 ∷ []) (goto 1 (3 ∷ [])) ∷ block (3 ∷ []) 0 [] (double 4 3 ∷ []) (goto 2 []) ∷
    block [] 16 [] (set 3 9 ∷ []) (goto 3 (4 ∷ 3 ∷ [])) ∷ block (4 ∷ 5 ∷ []) 0 [] [] (return (4 ∷ [])) ∷ []) ∷ []) ∷
    -- the entry's scope is given: all parameters, used or not, and a block that goes back there has them in its scope; it does not grow
    completes
    (leaf ∷ function 2 0 [] (block [] 3 [] [] (goto 1 []) ∷ block [] 3 [] [] (always 0 2) ∷ plain (return []) ∷ []) ∷ []) ∷
    stuck (main [] (block [] 0 [] (double 1 0 ∷ []) (return []) ∷ []) ∷ []) 0 ∷
    stuck
    (leaf ∷ function 1 0 [] (plain (goto 1 []) ∷ block [] 0 [] (double 2 1 ∷ []) (return []) ∷ []) ∷ []) 1 ∷
    -- bound on one of two ways; and needed before it is bound in the block
    stuck
    (main [] (
    plain (always 1 2) ∷ block [] 0 [] (set 0 1 ∷ []) (goto 3 []) ∷ plain (goto 3 []) ∷
    block [] 0 [] (double 1 0 ∷ []) (return []) ∷ []) ∷ []) 0 ∷
    stuck
    (main [] (
    block [] 0 [] (set 0 1 ∷ []) (goto 1 []) ∷ block [] 0 [] (double 1 0 ∷ set 0 2 ∷ []) (return []) ∷ []) ∷ []) 0 ∷
    -- an argument of a spawn call that is open, bound nowhere
    stuck
    (main (spawn 1 (0 ∷ []) ∷ []) (plain (spork 1 0) ∷ plain (spoin 2 2) ∷ plain (return []) ∷ [])
    ∷ function 1 0 [] (block [] 1 [] [] (return []) ∷ []) ∷ []) 0 ∷
    -- four deep, and five; two ways that disagree; under a spawn call at the end; none open
    completes (main (spawn 1 [] ∷ spawn 1 [] ∷ []) four ∷ leaf ∷ []) ∷
    stuck (main (spawn 1 [] ∷ []) five ∷ leaf ∷ []) 0 ∷
    stuck
    (main (spawn 1 [] ∷ []) (
    plain (always 1 2) ∷ plain (spork 2 0) ∷ plain (spoin 3 3) ∷ plain (return []) ∷ [])
    ∷ leaf ∷ []) 0 ∷
    stuck (main (spawn 1 [] ∷ []) (plain (spork 1 0) ∷ plain (return []) ∷ []) ∷ leaf ∷ []) 0 ∷
    -- no rule is looked at for what is reached: a spoin with none open and a spork of a missing spawn call lead on, and so do the ways
    -- to blocks that take other counts; a missing block leads nowhere
    stuck (main [] (plain (spoin 1 2) ∷ plain (return []) ∷ plain (return []) ∷ []) ∷ []) 0 ∷
    stuck (main [] (plain (spork 1 0) ∷ plain (return []) ∷ []) ∷ []) 0 ∷
    stuck (main [] (plain (goto 1 []) ∷ block (0 ∷ []) 0 [] [] (return []) ∷ []) ∷ []) 0 ∷
    stuck (main [] (plain (goto 1 []) ∷ []) ∷ []) 0 ∷
    stuck (main [] (plain (call 1 [] 1) ∷ plain (return []) ∷ []) ∷ []) 0 ∷
    -- main has a parameter; a spawn call's count, that nothing opens; the lowest function
    stuck (function 1 0 [] (block [] 1 [] [] (return []) ∷ []) ∷ []) 0 ∷
    stuck
    (leaf ∷ function 0 0 (spawn 0 (0 ∷ []) ∷ []) (plain (return []) ∷ [])
    ∷ main [] (plain (goto 1 []) ∷ []) ∷ []) 1 ∷
    -- not reached: the lowest function and its lowest block, before a lower function that cannot pass
    lost
    (function 1 0 [] (block [] 1 [] [] (return []) ∷ [])
    ∷ function 0 0 [] (
    plain (always 0 3) ∷ plain (goto 2 []) ∷ plain (goto 1 []) ∷ plain (return []) ∷ [])
    ∷ function 0 0 [] (plain (return []) ∷ plain (return []) ∷ []) ∷ []) 1 1 ∷
    lost
    (main [] (
    plain (goto 2 []) ∷ plain (return []) ∷ plain (goto 4 []) ∷ plain (return []) ∷ []) ∷ [])
    0 1 ∷
    -- reading comes first: 1, also above 12,800 bytes whatever the version, and not at 12,800; 2 for every version but 2; 3 with its place
    record { bytes = []; answer = Answer.refused (Refusal.plain No.size) } ∷
    record { bytes = sized (1 ∷ replicate 12796 0); answer = Answer.refused (Refusal.plain No.size) } ∷
    record { bytes = sized (1 ∷ replicate 12795 0); answer = Answer.refused (Refusal.plain No.version) } ∷
    record { bytes = A; answer = Answer.refused (Refusal.plain No.version) } ∷
    record { bytes = table 3 bare (leaf ∷ []); answer = Answer.refused (Refusal.plain No.version) } ∷
    record { bytes = table 2 full (leaf ∷ []); answer = Answer.refused (Refusal.byte 15) } ∷
    []

-- every definition that a completion computes with
unfoldable every : Type 0
unfolding all
    Read.bare read_brief Syntax.targets Write.half Write.word Write.counted Write.arguments Write.atom Write.expression Write.statement
    Write.transfer Write.head Write.block_by Write.spawn_call Write.function_by Write.program_by Write.table Filled.put Filled.filled_from
    Filled.filled Infer.upward Infer.downward Infer.sweep Infer.rounds Infer.at Infer.opened Infer.front Infer.closed Infer.under
    Infer.first Infer.mark Infer.mark_all Infer.leads Infer.lead Infer.entered Infer.marks Infer.lacking Infer.joined Infer.needing
    Infer.used_by Infer.joined_all Infer.arguments_of Infer.nesting_needs Infer.nesting_of Infer.bound_by Infer.used_behind Infer.own
    Infer.need Infer.grow Infer.given Infer.needed Infer.scopes Infer.infer Infer.completed_function Infer.completed Complete.unmarked
    Complete.reached_or Complete.reached Complete.impossible Complete.possible inferred enough cleared Complete.finish Complete.lend
    complete answered
every = Unit {0}

-- every row is right
pub right : map (λ r. answered r.bytes) rows ≡ map (λ r. r.answer) rows
unfolding every
right = refl

-- what is lent, and what is answered and left
pub record Lending : Type 0 where
  pub bytes : List ℕ
  pub out : List ℕ
  pub words : List ℕ
  pub left : Completed

abbrev output : List ℕ
output = replicate 16384 9

abbrev scratch : List ℕ
scratch = replicate 1024 7

-- refused, and all is left as it was; and refused, with the scratch cleared
abbrev untouched : List ℕ → List ℕ → List ℕ → Refusal → Lending
untouched s out words r =
    record { bytes = s; out = out; words = words; left = record { answer = Answer.refused r; out = out; words = words } }

abbrev cleaned : List ℕ → Refusal → Lending
cleaned s r =
    record {
      bytes = s;
      out = output;
      words = scratch;
      left = record { answer = Answer.refused r; out = output; words = replicate 1024 0 };
    }

abbrev litter : List ℕ
litter = brief (main [] (plain (return []) ∷ plain (return []) ∷ []) ∷ [])

abbrev pub lendings : List Lending
lendings =
    -- given: 0 behind the table, and the words behind the 1,024 stay
    record {
      bytes = least;
      out = output;
      words = scratch ++ (5 ∷ 6 ∷ []);
      left =
          record { answer = Answer.given 17; out = least-whole ++ replicate 16367 0; words = replicate 1024 0 ++ (5 ∷ 6 ∷ []) };
    } ∷
    -- 24, before 25 too; and 1 to 3 before it
    untouched least output (replicate 1023 7) (Refusal.plain No.lent) ∷
    untouched least (replicate 16383 9) scratch (Refusal.plain No.lent) ∷
    untouched least (9 ∷ output) scratch (Refusal.plain No.lent) ∷
    untouched litter [] [] (Refusal.plain No.lent) ∷
    untouched A [] [] (Refusal.plain No.version) ∷
    untouched [] output scratch (Refusal.plain No.size) ∷
    -- 25 and 26
    cleaned litter (Refusal.fault No.unreached 0 1) ∷
    cleaned (brief (main [] (plain (goto 1 []) ∷ []) ∷ [])) (Refusal.fault No.impossible 0 nowhere) ∷
    []

pub left-right : map (λ r. complete r.bytes r.out r.words) lendings ≡ map (λ r. r.left) lendings
unfolding every
left-right = refl
