-- `beats::one` meets its contract.
use borrow.Author.Rules.{rules}
use Rattle.beats.proofs.Beating.{beating-made, beating-refused}
use Rattle.beats.proofs.one.Goals as goal

pub returns-in_err-rule-clause-is : goal.returns-in_err-rule-clause-is
returns-in_err-rule-clause-is c = beating-refused _ _ c.choice.result c.choice.ensures c.in_err-rule.was (search rules)

pub returns-clause-is : goal.returns-clause-is
returns-clause-is c =
    beating-made c.args.pace.n c.args.pace.c c.choice.result c.choice.ensures c.purse_at-behind.result c.purse_at-behind.ensures
    c.in_ok-rule.was c.brought.ensures.is c.earn.ensures c.spend-promotions.ensures.is
