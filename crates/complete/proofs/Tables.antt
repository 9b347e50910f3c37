-- The completed table: behind the length and the version the number of functions, and these.
use Prim.Native.Nat.{ℕ, ◌%◌}
use mathlib.Core.Path.{◌≡◌, ◌∙◌}
use mathlib.Core.List.{List, [], ◌∷◌, ◌++◌, map}
use native.Mathlib.Omega.{arith}
use lib.ListN.{length}
use Rattle.model.specs.Answers.{Answer}
use Rattle.model.specs.Lists.{concat}
use Rattle.model.specs.Syntax.{Program}
use Rattle.model.specs.Read as Read
use Rattle.model.specs.Write as Write
use Rattle.model.proofs.Guarantees.{brief-reads}
use Rattle.model.proofs.Undoing.{stands-byte, back}
use Rattle.model.proofs.Writing.{law-brief}
use Rattle.code.specs.Bytes.{byte_at}
use Rattle.puts.specs.Puts.{Puts}
use Rattle.puts.proofs.Laws.{then, same}
use Rattle.puts.proofs.Tables.{table-written}
use Rattle.inference.specs.Infer.{completed}
use Rattle.inference.proofs.Held.{completed-holds}
use Rattle.complete.specs.Writes.{PutsFunctions, PutsTable}
use Rattle.complete.proofs.Functions.{completed-length}

-- a table of version 2 has its number of functions behind the version
brief-count : (s : List ℕ) (P : Program) → Read.read_brief s ≡ Answer.given P → byte_at s 5 ≡ length P
unfolding Write.program_by Write.counted
brief-count s P e = stands-byte s 5 (length P) _ (back law-brief s 5 P _ (brief-reads s P e).program).stand

program-written : (P : Program) (n : ℕ) → n ≡ length P → (n ∷ []) ++ concat (map Write.function (completed P)) ≡ Write.program (completed P)
unfolding Write.program_by Write.counted
program-written P n e = rw (completed-length P, e)

pub table-put : (s places transfers words : List ℕ) {n : ℕ} {d d₁ d₂ d₃ d₄ : List ℕ} {first end k m : ℕ} → n ≡ byte_at s 5
    → Puts d 5 (n ∷ []) first d₁ → PutsFunctions s places transfers words d₁ first end d₂
    → Puts d₂ 0 (Write.word (end % 4294967296)) k d₃ → Puts d₃ k (1 ∷ []) m d₄
    → PutsTable s places transfers words d (end % 4294967296) d₄
table-put s places transfers words {n} e p u q v =
    record {
      is = λ P r g l.
          let short = (completed-holds s P r).short in
          table-written (completed P) (same (then p (u.is P g)) (program-written P n (e ∙ brief-count s P r))) q v short (omega arith)
          (omega arith);
    }
