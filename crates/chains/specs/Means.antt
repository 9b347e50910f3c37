-- What the depth of a table means: for an accepted one the greatest number of frames of a chain, or that there is a cycle, both ways.
use Rattle.std.specs.Prelude.{ℕ, ◌≡◌, ◌⊎◌, List}
use Rattle.model.specs.Numbers as No
use Rattle.model.specs.Numbers.{Within}
use Rattle.model.specs.Answers.{Refusal, Answer}
use Rattle.model.specs.Syntax.{Program}
use Rattle.model.specs.Calls.{read, check}
use Rattle.chains.specs.Chains.{Cyclic, Deepest}
use Rattle.chains.specs.Depth.{depth}

-- an accepted table, which reads to P: it is given d exactly where d is the greatest number of frames of a chain, which is 1 to 16,
-- and gets 22 exactly where some function reaches itself by calls; and one of the two it gets
pub record Accepted (s : List ℕ) (P : Program) : Type 0 where
  pub answered : ((d : ℕ) × (depth s ≡ Answer.given d)) ⊎ (depth s ≡ Answer.refused (Refusal.plain No.cycle))
  pub deep : (d : ℕ) → depth s ≡ Answer.given d → Deepest P d
  pub given : (d : ℕ) → Deepest P d → depth s ≡ Answer.given d
  pub within : (d : ℕ) → Deepest P d → Within 1 16 d
  pub cyclic : depth s ≡ Answer.refused (Refusal.plain No.cycle) → Cyclic P
  pub cycle : Cyclic P → depth s ≡ Answer.refused (Refusal.plain No.cycle)

-- the check's own refusals come first, and only an accepted table is given a depth
pub record Means : Type 0 where
  pub refused : (s : List ℕ) (r : Refusal) → check s ≡ Answer.refused r → depth s ≡ Answer.refused r
  pub accepted : (s : List ℕ) (P : Program) → check s ≡ Answer.given tt → read s ≡ Answer.given P → Accepted s P
  pub only : (s : List ℕ) (d : ℕ) → depth s ≡ Answer.given d → check s ≡ Answer.given tt
