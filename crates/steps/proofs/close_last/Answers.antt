use borrow.Author.Rules.{rules}
use native.Mathlib.Omega.{arith}
use Prim.Native.Nat.{◌≤◌}
use Rattle.pool.proofs.Readers.{calls-le}
use Rattle.steps.proofs.Writing.{was-closed, none-closed, none-joined}
use Rattle.steps.proofs.close_last.Goals as goal

pub close_call-requires : goal.close_call-requires
close_call-requires c =
    let h : c.opened-n.result ≤ 4 =
    omega (arith, c.opened-n.ensures, calls-le c.args.ws.now c.args.k) in
    search rules

pub returns-then-joined-p : goal.returns-then-joined-p
returns-then-joined-p c =
    was-closed c.opened-n.ensures c.promoted-p.ensures c.if-n-gt0.true
    c.close_call.ensures

pub returns-else-joined-p : goal.returns-else-joined-p
returns-else-joined-p c = none-joined c.opened-n.ensures c.promoted-p.ensures c.if-joined-p.false

pub returns-else-n-gt0 : goal.returns-else-n-gt0
returns-else-n-gt0 c = none-closed c.opened-n.ensures c.promoted-p.ensures c.if-n-gt0.false
