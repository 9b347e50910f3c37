-- `verifier::functions` meets its contract.
use mathlib.Core.Path.{◌≡◌}
use native.Mathlib.Omega.{arith}
use borrow.Author.Rules.{rules}
use Rattle.std.specs.Prelude.{Ok}
use Rattle.std.specs.Result.{MatchResult, IsErrAnd}
use Rattle.model.specs.Check.{nowhere}
use Rattle.answers.specs.declared.Refusal.TheVariants.{Fault}
use Rattle.bound.proofs.Exits.{exits, mapped}
use Rattle.verifier.proofs.Ranks.{functions-none, functions-spawn, functions-block, functions-end, functions-on}
use Rattle.verifier.proofs.functions.Goals as goal

pub returns-in_default : goal.returns-in_default
returns-in_default c = search functions-none

pub returns-in_err-map_err : goal.returns-in_err-map_err
returns-in_err-map_err c =
    let h : MatchResult c.spawns_all.result (λ x. c.map_err.result ≡ Ok x)
    (λ n. IsErrAnd c.map_err.result (λ r. r ≡ Fault n c.loop-f.f-counter nowhere)) = search rules in
    let (n, z, e) = mapped c.spawns_all.result c.map_err.result (λ n r. r ≡ Fault n c.loop-f.f-counter nowhere) h c.in_err-map_err.was in
    rw (exits c.from_residual.result c.from_residual.ensures.1, e) (search (functions-spawn, z))

pub returns-in_err-map_err-2 : goal.returns-in_err-map_err-2
returns-in_err-map_err-2 c =
    let spawns : c.spawns_all.result ≡ Ok tt = grind arith in
    let h : MatchResult c.blocks_all.result (λ x. c.map_err-in-loop-f.result ≡ Ok x)
    (λ n. IsErrAnd c.map_err-in-loop-f.result (λ r. r ≡ Fault n.0 c.loop-f.f-counter n.1)) = search rules in
    let (n, z, e) = mapped c.blocks_all.result c.map_err-in-loop-f.result (λ n r. r ≡ Fault n.0 c.loop-f.f-counter n.1) h
    c.in_err-map_err-2.was in
    rw (exits c.from_residual-in_err-map_err-2.result c.from_residual-in_err-map_err-2.ensures.1, e)
    (search (functions-block, spawns, z))

pub loop-f-preserved : goal.loop-f-preserved
loop-f-preserved c =
    let spawns : c.spawns_all.result ≡ Ok tt = grind arith in
    let blocks : c.blocks_all.result ≡ Ok tt = grind arith in
    search (functions-on, spawns, blocks)

pub returns : goal.returns
returns c = search (arith, functions-end)
