-- `flow::put`: by the phase, and by whether the kind has come.
use Rattle.std.proofs.Common.{rules, ◌≡◌}
use Rattle.flow.proofs.Standing.{put-taking, put-choice, put-half, half-is, put-closed}
use Rattle.flow.specs.declared.Phase.TheVariants.{Choosing}
use Rattle.flow.proofs.put.Goals as goal

pub returns-in-Taking : goal.returns-in-Taking
returns-in-Taking c = put-taking _ _ _ _ _ _ _ (search rules) c.take.ensures

pub returns-in-Some : goal.returns-in-Some
returns-in-Some c = put-choice _ _ _ _ _ _ _ _ _ _ _ c.front.ensures (search rules) c.in-Some.is c.choose.ensures

pub returns-in-None : goal.returns-in-None
returns-in-None c =
    let e : c.args.run.phase ≡ Choosing = search rules in
    put-half _ _ _ _ _ e c.in-None.is (half-is c.args.run c.args.b e)

pub returns-in-Stopped : goal.returns-in-Stopped
returns-in-Stopped c = put-closed _ _ _ _ c.in-Stopped.is
