-- `valid::values`: the values before i are right, or not fine.
use native.Mathlib.Omega.{arith}
use borrow.Author.Rules.{sfits_of}
use Rattle.valid.proofs.Steps.{blank_turn, blank-end}
use Rattle.valid.proofs.values.Goals as goal

pub loop-i-preserved : goal.loop-i-preserved
loop-i-preserved c =
    let turn = c.loop-i in
    (omega arith, blank_turn _ _ turn.fine _ turn.invariant.1 (omega arith) (search (sfits_of)))

pub returns : goal.returns
returns c =
    let turn = c.loop-i in
    blank-end c.args.ws.now turn.i turn.fine _ turn.invariant.1 (omega arith)
