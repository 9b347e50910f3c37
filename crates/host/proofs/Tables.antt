-- The refusals 1 to 3 as numbers: they fit into one, and what the macros then read.
use Prim.Native.Nat.{ℕ}
use mathlib.Core.List.{List}
use native.Mathlib.Omega.{arith}
use lib.Dec.{lit≤}
use Rattle.model.specs.Answers.{Refusal}
use Rattle.model.proofs.Numbers as Numbers
use Rattle.answers.specs.Coded.{code_of}
use Rattle.host.specs.Laws.{OfTable}
use Rattle.host.proofs.Codes.{Bare, Fits}

pub table_fits : {s : List ℕ} (q : Refusal) → Numbers.OfTable s q → Fits q
table_fits _ Numbers.OfTable.size = Bare.of_table (lit≤ tt, lit≤ tt)
table_fits _ Numbers.OfTable.version = Bare.of_table (lit≤ tt, lit≤ tt)
table_fits _ (Numbers.OfTable.form l w) = omega arith

pub table-told : {s : List ℕ} {q : Refusal} → Numbers.OfTable s q → OfTable s (code_of q)
table-told Numbers.OfTable.size = record { numbered = (lit≤ tt, lit≤ tt); placed = λ e. absurd (omega arith) }
table-told Numbers.OfTable.version = record { numbered = (lit≤ tt, lit≤ tt); placed = λ e. absurd (omega arith) }
table-told (Numbers.OfTable.form l w) = record { numbered = (omega arith, omega arith); placed = λ _. (omega arith, w) }
