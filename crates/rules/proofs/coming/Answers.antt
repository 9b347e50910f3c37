-- `rules::coming` meets its contract.
use borrow.Author.Rules.{rules}
use Rattle.rules.proofs.Steps.{coming-stmt, coming-if, coming-transfer}
use Rattle.rules.proofs.coming.Goals.{then-statement-via-then-statement, then-statement-via-else-statement+then-x-eq1}
use Rattle.rules.proofs.coming.Goals as goal

pub returns-then-statement : goal.returns-then-statement
returns-then-statement c =
    elim c.then-statement.branch [
      | then-statement-via-then-statement w ↦ search (coming-stmt, rules)
      | then-statement-via-else-statement+then-x-eq1 w ↦ search (coming-if, rules)
    ]

pub returns : goal.returns
returns c = search (coming-transfer)
