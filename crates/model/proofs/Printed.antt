-- What the program prints for the marked runs that are runs of it, a table refused in each way, and every rule by its name: proved by
-- computation, byte for byte.
use Prim.Native.Nat.{ℕ}
use Prim.Native.String.{String}
use mathlib.Core.Path.{◌≡◌, refl}
use native.Mathlib.Omega.{arith}
use mathlib.Core.Bool.{Bool, true, false}
use mathlib.Core.List.{List, [], ◌∷◌, ◌++◌, map}
use lib.ListN.{replicate, set, take}
use Rattle.model.specs.Lists.{concat}
use Rattle.model.specs.Text as Text
use Rattle.model.specs.Text.{ascii, newline}
use Rattle.model.specs.Output as Output
use Rattle.model.specs.Output.{refusal, printed, output, verdict}
use Rattle.model.specs.Answers.{Refusal, Answer}
use Rattle.model.specs.Read.{length_field}
use Rattle.model.specs.Calls.{check, accepted}
use Rattle.model.proofs.Accepted.{accepts, refuses}
use Rattle.model.proofs.Runs.{all, A, B, swapped, sum, recursive, tree}

-- an input, what is printed of it, and whether everything was accepted and made
pub record Row : Type 0 where
  pub input : List ℕ
  pub prints : List String
  pub fine : Bool

abbrev row : List ℕ → List String → Bool → Row
row s t b = record { input = s; prints = t; fine = b }

-- lines, each with its end
abbrev lines : List String → List ℕ
lines ts = concat (map (λ t. ascii t ++ newline) ts)

-- main returns nothing
abbrev empty : List ℕ
empty =
    0x00 ∷ 0x00 ∷ 0x00 ∷ 0x11 ∷ 0x01 ∷ 0x01 ∷ 0x00 ∷ 0x00 ∷ 0x01 ∷ 0x00 ∷ 0x00 ∷ 0x00 ∷ 0x00 ∷ 0x00 ∷ 0x00 ∷ 0x03 ∷ 0x00 ∷ []

abbrev rows : List Row
rows =
    -- the run that document 01 shows whole; no choice, and a lone byte
    row (A ++ (0 ∷ 0 ∷ 0 ∷ 0 ∷ [])) ("accepted" ∷ "0 step 0 stmt" ∷ "1 step 0 refused 16" ∷ "result 5" ∷ []) false ∷
    row A ("accepted" ∷ "result open" ∷ []) true ∷
    row (A ++ (0 ∷ 0 ∷ 0 ∷ [])) ("accepted" ∷ "0 step 0 stmt" ∷ "result 5" ∷ []) true ∷
    -- a bad kind, and a thread that is not there: nothing is put after it
    row (A ++ (2 ∷ 9 ∷ 0 ∷ 0 ∷ [])) ("accepted" ∷ "0 2 9 refused 14" ∷ "result open" ∷ []) false ∷
    row (A ++ (0 ∷ 255 ∷ 0 ∷ 0 ∷ [])) ("accepted" ∷ "0 step 255 refused 15" ∷ "result open" ∷ []) false ∷
    row (A ++ (1 ∷ 0 ∷ [])) ("accepted" ∷ "0 promote 0 refused 20" ∷ "result open" ∷ []) false ∷
    -- refused tables: no input, too short an input, a length field outside the limits, a version, a byte, a fault
    row [] ("refused 1" ∷ []) false ∷
    row (take 29 A) ("refused 1" ∷ []) false ∷
    row (set A 0 1) ("refused 1" ∷ []) false ∷
    row (set A 4 9 ++ (0 ∷ 0 ∷ [])) ("refused 2" ∷ []) false ∷
    row (set A 5 0) ("refused 3 5" ∷ []) false ∷
    row (set A 6 1) ("refused 4 0 255" ∷ []) false ∷
    row (set A 29 1) ("refused 8 0 0" ∷ []) false ∷
    -- B unpromoted, promoted, and waiting; swapped arguments; an overflow; eight frames; no values
    row (B ++ (0 ∷ 0 ∷ 0 ∷ 0 ∷ 0 ∷ 0 ∷ [])) ("accepted" ∷ "0 step 0 spork" ∷ "1 step 0 unpr" ∷ "2 step 0 stmt" ∷ "result 1" ∷ []) true ∷
    row (B ++ (0 ∷ 0 ∷ 1 ∷ 0 ∷ 0 ∷ 1 ∷ 0 ∷ 0 ∷ []))
    ("accepted" ∷ "0 step 0 spork" ∷ "1 promote 0 promote" ∷ "2 step 1 stmt" ∷ "3 step 0 prom" ∷ "result 7" ∷ []) true ∷
    row (B ++ (0 ∷ 0 ∷ 1 ∷ 0 ∷ 0 ∷ 0 ∷ []))
    ("accepted" ∷ "0 step 0 spork" ∷ "1 promote 0 promote" ∷ "2 step 0 refused 17" ∷ "result open" ∷ []) false ∷
    row (swapped ++ replicate 10 0)
    ("accepted" ∷ "0 step 0 stmt" ∷ "1 step 0 stmt" ∷ "2 step 0 goto" ∷ "3 step 0 goto" ∷ "4 step 0 goto" ∷ "result 2 1" ∷ []) true ∷
    row (sum ++ (0 ∷ 0 ∷ [])) ("accepted" ∷ "0 step 0 refused 29" ∷ "result open" ∷ []) false ∷
    row (recursive ++ replicate 16 0)
    ("accepted" ∷ "0 step 0 call" ∷ "1 step 0 call" ∷ "2 step 0 call" ∷ "3 step 0 call" ∷ "4 step 0 call" ∷ "5 step 0 call"
    ∷ "6 step 0 call" ∷ "7 step 0 refused 18" ∷ "result open" ∷ [])
    false ∷
    row empty ("accepted" ∷ "result" ∷ []) true ∷
    -- then, else and return; an index of two digits
    row (tree ++ replicate 26 0)
    ("accepted" ∷ "0 step 0 stmt" ∷ "1 step 0 call" ∷ "2 step 0 else" ∷ "3 step 0 stmt" ∷ "4 step 0 spork" ∷ "5 step 0 call"
    ∷ "6 step 0 else" ∷ "7 step 0 stmt" ∷ "8 step 0 spork" ∷ "9 step 0 call" ∷ "10 step 0 then" ∷ "11 step 0 stmt" ∷ "12 step 0 return"
    ∷ "result open" ∷ [])
    true ∷
    []

-- every row is right
pub right : (map (λ r. output r.input) rows ≡ map (λ r. lines r.prints) rows)
    × (map (λ r. verdict r.input) rows ≡ map (λ r. r.fine) rows)
unfolding all
    Text.decimal_in Text.decimal Text.signed_decimal Text.part Text.signed_part Output.kind_name Output.rule_name Output.refusal
    Output.answered Output.told Output.choice_line Output.values_or_open Output.result_line Output.result Output.going_on Output.choices
    accepted Output.printed output Output.all_made Output.agreed verdict
right = (refl, refl)

-- the first line is the check's yes, and only that: of the front of the input that its length field says
pub says-yes : (s : List ℕ) → check (take (length_field s) s) ≡ Answer.given tt → take 9 (output s) ≡ ascii "accepted\n"
unfolding output printed
says-yes s e = rw (accepts (take (length_field s) s) e).is refl

pub yes-only : (s : List ℕ) → take 9 (output s) ≡ ascii "accepted\n" → check (take (length_field s) s) ≡ Answer.given tt
unfolding output printed refusal
yes-only s h = go (check (take (length_field s) s)) refl
  where
    no : (r : Refusal) → take 9 (refusal r ++ newline) ≡ ascii "accepted\n" → check (take (length_field s) s) ≡ Answer.given tt
    no (Refusal.plain n) e = let z : ◌≡◌ {A = ℕ} 114 97 = cc in absurd (omega arith)
    no (Refusal.byte at) e = let z : ◌≡◌ {A = ℕ} 114 97 = cc in absurd (omega arith)
    no (Refusal.fault n f b) e = let z : ◌≡◌ {A = ℕ} 114 97 = cc in absurd (omega arith)

    go : (a : Answer (Unit {0})) → check (take (length_field s) s) ≡ a → check (take (length_field s) s) ≡ Answer.given tt
    go (Answer.given u) e = e
    go (Answer.refused r) e = no r (rw (refuses (take (length_field s) s) r e) at h)
