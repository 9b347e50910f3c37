-- Sums and negations at both ends of 32 bits, in a statement and in an if, by computation: what the step is answered, main's values
-- behind it, and the words; what comes before an overflow, and what an overflow comes before.
use Prim.Native.Nat.{ℕ, ◌+◌}
use mathlib.Core.Path.{◌≡◌, refl}
use mathlib.Core.Option.{Option, none, some}
use mathlib.Core.List.{List, [], ◌∷◌, ◌++◌, map}
use lib.IntN.{ℤ, pos, negsuc}
use lib.ListN.{length}
use Rattle.model.specs.Numbers as No
use Rattle.model.specs.Answers.{Refusal, Answer}
use Rattle.model.specs.Calls.{Called, Choice, choose, schedule, values, which}
use Rattle.model.proofs.Runs.{all, begun}

-- atoms: the least and the greatest value, those next to them, 0, 1, -1, and a temporary that is not bound
abbrev least : List ℕ
least = 0 ∷ 0x80 ∷ 0x00 ∷ 0x00 ∷ 0x00 ∷ []

abbrev above : List ℕ
above = 0 ∷ 0x80 ∷ 0x00 ∷ 0x00 ∷ 0x01 ∷ []

abbrev below : List ℕ
below = 0 ∷ 0x7F ∷ 0xFF ∷ 0xFF ∷ 0xFE ∷ []

abbrev greatest : List ℕ
greatest = 0 ∷ 0x7F ∷ 0xFF ∷ 0xFF ∷ 0xFF ∷ []

abbrev nought : List ℕ
nought = 0 ∷ 0x00 ∷ 0x00 ∷ 0x00 ∷ 0x00 ∷ []

abbrev one : List ℕ
one = 0 ∷ 0x00 ∷ 0x00 ∷ 0x00 ∷ 0x01 ∷ []

abbrev minus_one : List ℕ
minus_one = 0 ∷ 0xFF ∷ 0xFF ∷ 0xFF ∷ 0xFF ∷ []

abbrev unbound : List ℕ
unbound = 1 ∷ 5 ∷ []

-- m, -m, m + n, m < n
abbrev itself : List ℕ → List ℕ
itself m = 0 ∷ m

abbrev minus : List ℕ → List ℕ
minus m = 1 ∷ m

abbrev plus : List ℕ → List ℕ → List ℕ
plus m n = 2 ∷ m ++ n

abbrev less : List ℕ → List ℕ → List ℕ
less m n = 3 ∷ m ++ n

-- main sets temporary 0 to an expression, and returns it
abbrev sets : List ℕ → List ℕ
sets e = 0 ∷ 0 ∷ 0 ∷ (19 + length e) ∷ 1 ∷ 1 ∷ 0 ∷ 1 ∷ 1 ∷ 0 ∷ 0 ∷ 0 ∷ 0 ∷ 0 ∷ 1 ∷ 0 ∷ e ++ (3 ∷ 1 ∷ 0 ∷ [])

-- main has one block, which goes to block b or to block c by an expression
abbrev tests : List ℕ → ℕ → ℕ → List ℕ
tests e b c = 0 ∷ 0 ∷ 0 ∷ (18 + length e) ∷ 1 ∷ 1 ∷ 0 ∷ 0 ∷ 1 ∷ 0 ∷ 0 ∷ 0 ∷ 0 ∷ 0 ∷ 0 ∷ 1 ∷ e ++ (b ∷ c ∷ [])

-- a choice put to a fresh pool, its answer, and main's values behind it
pub record Row : Type 0 where
  pub table : List ℕ
  pub kind : ℕ
  pub thread : ℕ
  pub answer : Answer ℕ
  pub result : Answer (Option (List ℤ))

abbrev gives : List ℕ → ℤ → Row
gives e v =
    record { table = sets e; kind = 0; thread = 0; answer = Answer.given No.stmt; result = Answer.given (some (v ∷ [])) }

abbrev makes : List ℕ → ℕ → Row
makes s rule = record { table = s; kind = 0; thread = 0; answer = Answer.given rule; result = Answer.given none }

abbrev refuses : List ℕ → ℕ → ℕ → ℕ → Row
refuses s kind i n = record { table = s; kind = kind; thread = i; answer = Answer.refused (Refusal.plain n); result = Answer.given none }

abbrev pub rows : List Row
rows =
    -- sums at the upper end and at the lower
    gives (plus greatest nought) (pos 2147483647) ∷
    gives (plus below one) (pos 2147483647) ∷
    refuses (sets (plus greatest one)) 0 0 No.overflow ∷
    refuses (sets (plus greatest greatest)) 0 0 No.overflow ∷
    gives (plus least nought) (negsuc 2147483647) ∷
    gives (plus above minus_one) (negsuc 2147483647) ∷
    refuses (sets (plus least minus_one)) 0 0 No.overflow ∷
    refuses (sets (plus least least)) 0 0 No.overflow ∷
    gives (plus greatest least) (negsuc 0) ∷
    -- negations
    gives (minus greatest) (negsuc 2147483646) ∷
    gives (minus above) (pos 2147483647) ∷
    gives (minus nought) (pos 0) ∷
    refuses (sets (minus least)) 0 0 No.overflow ∷
    -- an atom and a comparison never overflow
    gives (itself least) (negsuc 2147483647) ∷
    gives (itself greatest) (pos 2147483647) ∷
    gives (less least greatest) (pos 1) ∷
    gives (less greatest least) (pos 0) ∷
    -- an operand that is not bound is stuck, whatever the other is
    refuses (sets (plus greatest unbound)) 0 0 No.stuck ∷
    refuses (sets (plus unbound greatest)) 0 0 No.stuck ∷
    refuses (sets (minus unbound)) 0 0 No.stuck ∷
    -- an if: an overflow comes before its blocks are looked at, which may be missing; an operand that is not bound comes before both
    refuses (tests (plus greatest one) 0 0) 0 0 No.overflow ∷
    refuses (tests (plus greatest one) 9 9) 0 0 No.overflow ∷
    refuses (tests (minus least) 9 9) 0 0 No.overflow ∷
    refuses (tests (plus greatest unbound) 0 0) 0 0 No.stuck ∷
    refuses (tests (plus greatest nought) 9 0) 0 0 No.stuck ∷
    makes (tests (plus greatest nought) 0 9) No.then ∷
    makes (tests (plus one minus_one) 9 0) No.else ∷
    -- the kind and the thread come before; a promotion works nothing out
    refuses (sets (plus greatest one)) 2 0 No.kind ∷
    refuses (sets (plus greatest one)) 0 1 No.thread ∷
    refuses (sets (plus greatest one)) 1 0 No.promoted ∷
    []

abbrev done : Row → Called ℕ
done r = choose r.table (begun r.table) r.kind r.thread

pub answered : map (λ r. (done r).answer) rows ≡ map (λ r. r.answer) rows
unfolding all
answered = refl

pub resulted : map (λ r. values r.table (done r).after) rows ≡ map (λ r. r.result) rows
unfolding all
resulted = refl

-- a step that overflows leaves the words, and the thread is none that can step; a schedule stops there
abbrev overflowing : List ℕ
overflowing = sets (plus greatest one)

pub left : (choose overflowing (begun overflowing) 0 0).after ≡ begun overflowing
unfolding all
left = refl

pub nobody : which overflowing (begun overflowing) ≡ Answer.given none
unfolding all
nobody = refl

-- main sets temporary 0 to 1, and then 1 to the greatest value and temporary 0
abbrev second : List ℕ
second =
    0 ∷ 0 ∷ 0 ∷ 33 ∷ 1 ∷ 1 ∷ 0 ∷ 0 ∷ 1 ∷ 0 ∷ 0 ∷ 0 ∷ 0 ∷ 0 ∷ 2 ∷ 0 ∷ itself one ++ (1 ∷ plus greatest (1 ∷ 0 ∷ [])) ++ (3 ∷ 0 ∷ [])

abbrev step : Choice
step = record { kind = 0; thread = 0 }

pub stopped : schedule second (begun second) (step ∷ step ∷ step ∷ []) ≡
    record { answer = Answer.refused (Refusal.plain No.overflow); made = 1; after = (choose second (begun second) 0 0).after }
unfolding all
stopped = refl
