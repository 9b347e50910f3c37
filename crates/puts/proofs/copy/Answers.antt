-- `puts::copy`: the loop has put the first i bytes so far.
use Prim.Native.Nat.{◌+◌}
use native.Mathlib.Omega.{arith}
use lib.ListN.{get_or, length-set}
use Rattle.puts.proofs.Stores.{one_more, all-put}
use Rattle.puts.proofs.copy.Goals as goal

pub loop-i-preserved : goal.loop-i-preserved
loop-i-preserved c =
    let args = c.args in (
      omega (arith, length-set c.loop-i.out (args.at + c.loop-i.i) (get_or args.s.now c.loop-i.i 0)),
      one_more args.out.now args.at args.s.now c.loop-i.i c.loop-i.invariant.1 (omega arith),
    )

pub returns : goal.returns
returns c =
    let args = c.args in
    all-put args.out.now args.at args.s.now c.loop-i.i c.loop-i.invariant.1 (omega arith)
