-- `table::walk::program`: the number of its functions, and they.
use borrow.Author.Rules.{rules}
use Rattle.table.proofs.Rules.{found-range}
use Rattle.table.proofs.Marks.{kept-bad, program-then, program-else, program-kept}
use Rattle.table.proofs.walk.program.Goals as goal

pub functions-requires : goal.functions-requires
functions-requires c = found-range 1 16 _ _ _ _ c.in_ok-n.ensures

pub returns : goal.returns
returns c =
    let is = c.in_ok-n.ensures in
    (program-then _ _ _ _ _ _ is c.functions.ensures.0, program-kept _ _ _ _ _ _ is _ _ c.functions.ensures.1)

pub returns-in_err-n : goal.returns-in_err-n
returns-in_err-n c = (program-else _ _ _ _ _ c.in_err-n.ensures (search rules), kept-bad _ _ _ (search rules))
