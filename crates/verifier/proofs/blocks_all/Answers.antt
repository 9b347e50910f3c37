-- `verifier::blocks_all` meets its contract.
use mathlib.Core.Path.{◌≡◌}
use native.Mathlib.Omega.{arith}
use borrow.Author.Rules.{rules}
use Rattle.std.specs.Prelude.{Ok}
use Rattle.std.specs.Result.{MatchResult, IsErrAnd}
use Rattle.bound.proofs.Exits.{exits, mapped}
use Rattle.verifier.proofs.Ranks.{blocks-none, blocks-stop, blocks_end, blocks-on}
use Rattle.verifier.proofs.blocks_all.Goals as goal

pub returns-in_default : goal.returns-in_default
returns-in_default c = search blocks-none

pub returns-in_err-map_err : goal.returns-in_err-map_err
returns-in_err-map_err c =
    let h : MatchResult c.blocks-in-loop-b.result (λ x. c.map_err.result ≡ Ok x)
    (λ n. IsErrAnd c.map_err.result (λ r. r ≡ (n, c.loop-b.b-counter))) = search rules in
    let (n, z, e) = mapped c.blocks-in-loop-b.result c.map_err.result (λ n r. r ≡ (n, c.loop-b.b-counter)) h c.in_err-map_err.was in
    rw (exits c.from_residual.result c.from_residual.ensures.1, e) (search (blocks-stop, z))

pub loop-b-preserved : goal.loop-b-preserved
loop-b-preserved c =
    let z : c.blocks-in-loop-b.result ≡ Ok tt = grind arith in
    search blocks-on

pub returns : goal.returns
returns c = search (arith, blocks_end)
