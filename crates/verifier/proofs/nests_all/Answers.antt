-- `verifier::nests_all` meets its contract.
use Prim.Native.Nat.{◌-◌}
use native.Mathlib.Omega.{arith}
use Rattle.bound.proofs.Exits.{exits}
use Rattle.verifier.proofs.Ranks.{nests-stop, nests-end, nests_on}
use Rattle.verifier.proofs.nests_all.Goals as goal

pub returns-in_err-nests : goal.returns-in_err-nests
returns-in_err-nests c =
    rw (exits c.from_residual.result c.from_residual.ensures.1)
    (nests-stop _ _ _ _ _ _ c.names.k (c.args.n - c.names.counter) c.names.invariant _
    (omega arith) c.byte.ensures c.nests.ensures c.in_err-nests.was)

pub names-preserved : goal.names-preserved
names-preserved c =
    nests_on _ _ _ _ _ _ c.names.k (c.args.n - c.names.counter) c.names.invariant _ (omega arith) c.byte.ensures
    c.nests.ensures c.in_ok-nests.was c.after-k.ensures (omega arith)

pub returns : goal.returns
returns c = nests-end _ _ _ _ _ _ c.names.k (c.args.n - c.names.counter) c.names.invariant (omega arith)
