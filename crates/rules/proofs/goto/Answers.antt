-- `rules::goto` meets its contract.
use borrow.Author.Rules.{rules}
use Rattle.rules.proofs.Heads.{handed}
use Rattle.rules.proofs.Steps.{goto-stuck, goto-goes, goto-lost}
use Rattle.rules.proofs.goto.Goals as goal

pub returns-then-not-look_all : goal.returns-then-not-look_all
returns-then-not-look_all c = search (goto-stuck)

pub returns-in_err-entry : goal.returns-in_err-entry
returns-in_err-entry c = let h = handed _ _ c.from_residual.ensures.1 c.in_err-entry.was in search (goto-lost, rules)

pub returns : goal.returns
returns c = let h = c.in_ok-entry.was in search (goto-goes, rules)
