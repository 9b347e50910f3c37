-- `lines::values`: the loop has put the values before this one.
use mathlib.Core.Path.{◌≡◌, ap, ◌∙◌}
use lib.IntN.{pos}
use lib.ListN.{length, get_or, take}
use mir.Facts.{to_z-of_z}
use mir.Syntax.{w32}
use mir.Val.{SFits}
use borrow.Author.Rules.{rules}
use Rattle.model.specs.Text.{signed_part}
use Rattle.puts.proofs.Laws.{same}
use Rattle.lines.proofs.Spelt.{nothing, turned, all-turned, few}
use Rattle.lines.proofs.values.Goals as goal

pub loop-x-init : goal.loop-x-init
loop-x-init c = nothing (take c.min.result c.args.v.at)

pub loop-x-preserved : goal.loop-x-preserved
loop-x-preserved c =
    let fits : SFits w32 (get_or (take c.min.result c.args.v.at) c.loop-x.x-index (pos 0)) = search rules in
    turned _ _ c.loop-x.invariant c.loop-x-test.true (same c.signed_part-k.ensures (ap signed_part (to_z-of_z fits)))

pub returns : goal.returns
returns c =
    let all = c.args.v.at in
    let long : length all ≡ 8 = search rules in
    all-turned _ _ _ c.loop-x.invariant c.loop-x-test.false (ap (λ n. take n all) c.min.ensures ∙ few all c.args.v.count 8 long)
