-- `Purse::work_more` meets its contract.
use borrow.Author.Rules.{rules}
use Rattle.beats.proofs.Coming.{works-below, works-above}
use Rattle.beats.proofs.purse.Purse.work_more.Goals as goal

pub returns-then-work-pace : goal.returns-then-work-pace
returns-then-work-pace c =
    let a = c.args in
    works-below a.self.work a.self.tokens a.pace.n a.pace.c (search rules)

pub returns : goal.returns
returns c =
    let a = c.args in
    works-above a.self.work a.self.tokens a.pace.n a.pace.c (search rules) c.arrived.ensures
