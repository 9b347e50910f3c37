-- What a call answers: what it was asked for, or a refusal with its number and, where document 01 has one, its place.
use Rattle.std.specs.Prelude.{ℕ, cond, List, ◌++◌, leb, length, drop}
use Rattle.model.specs.Numbers as No

pub data Refusal : Type 0 where
  plain : ℕ → Refusal  -- the number alone: 1, 2, 12 to 24, 27 and 28
  byte : ℕ → Refusal  -- 3, and the offset of the first bad byte
  fault : ℕ → ℕ → ℕ → Refusal  -- 4 to 11, 25 and 26, and the function and the block

-- the number of a refusal
unfoldable pub number_of : Refusal → ℕ
number_of (Refusal.plain n) = n
number_of (Refusal.byte at) = No.form
number_of (Refusal.fault n f b) = n

pub data Answer (A : Type 0) : Type 0 where
  given : A → Answer A
  refused : Refusal → Answer A

-- with what is given go on; a refusal stays
unfoldable pub with : {A B : Type 0} → Answer A → (A → Answer B) → Answer B
with (Answer.given a) k = k a
with (Answer.refused r) k = Answer.refused r

-- whether something is given, and not what
unfoldable pub outcome : {A : Type 0} → Answer A → Answer (Unit {0})
outcome (Answer.given a) = Answer.given tt
outcome (Answer.refused r) = Answer.refused r

-- the answer of a call that writes bytes, how many, and the lent bytes afterwards
pub record Wrote : Type 0 where
  pub answer : Answer ℕ
  pub after : List ℕ

-- bytes put into lent ones: their number, and what is behind them stays. Where they do not fit, nothing is written
unfoldable pub put : ℕ → List ℕ → List ℕ → Wrote
put refusal out bytes =
    cond (leb (length bytes) (length out))
    (record { answer = Answer.given (length bytes); after = bytes ++ drop (length bytes) out })
    (record { answer = Answer.refused (Refusal.plain refusal); after = out })
