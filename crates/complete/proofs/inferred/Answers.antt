-- `complete::inferred` meets its contract.
use Rattle.complete.proofs.Inferring.{tells-unreached, tells-impossible, tells-completed}
use borrow.Author.Rules.{rules}
use Rattle.complete.proofs.inferred.Goals as goal

pub returns-in_err-reached : goal.returns-in_err-reached
returns-in_err-reached c = tells-unreached _ _ _ _ _ c.in_err-reached.ensures (search rules)

pub returns-in-Err : goal.returns-in-Err
returns-in-Err c =
    tells-impossible _ _ _ _ _ c.in_ok-reached.ensures _ (search rules) c.put_table-length.ensures c.judged.ensures c.in-Err.is
    c.impossible.ensures

pub returns-in-Ok : goal.returns-in-Ok
returns-in-Ok c =
    tells-completed _ _ _ _ _ c.in_ok-reached.ensures _ (search rules) c.put_table-length.ensures c.judged.ensures c.in-Ok.is
