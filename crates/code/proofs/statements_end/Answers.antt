-- `code::statements_end`: where the statements that are passed end.
use Rattle.std.proofs.Common.{sym, refl, ap, ◌∙◌}
use Rattle.code.specs.Code.{statement_end, statements_end}
use Rattle.code.proofs.Ends.{statements-more}
use Rattle.code.proofs.statements_end.Goals as goal

pub statements-init : goal.statements-init
unfolding statements_end
statements-init c = refl

pub statements-preserved : goal.statements-preserved
statements-preserved c =
    let a = c.args in
    c.statement_end-end.ensures
    ∙ ap (statement_end a.s.now) c.statements.invariant
    ∙ sym (statements-more a.s.now a.at c.statements.counter)
