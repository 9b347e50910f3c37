-- `listing::bindings`: the temporaries from x on are left.
use native.Mathlib.Omega.{arith}
use mir.Facts.{to_z-of_z}
use mir.Syntax.{w32}
use borrow.Author.Rules.{sfits_of}
use Rattle.puts.proofs.Laws.{same}
use Rattle.puts.proofs.Left.{all_left}
use Rattle.listing.proofs.Frames.{values_length}
use Rattle.listing.proofs.Texts.{one-temporary, no-temporary, same-binding}
use Rattle.listing.proofs.bindings.Goals as goal

pub loop-x-init : goal.loop-x-init
loop-x-init c = all_left

pub loop-x-preserved : goal.loop-x-preserved
loop-x-preserved c =
    let l = values_length c.args.ws.now c.args.frame c.requires in
    one-temporary _ _ c.loop-x.x (omega arith) c.value.ensures c.loop-x.invariant
    (same c.binding-k.ensures (same-binding _ c.bound-bound.ensures (to_z-of_z {w = w32} (sfits_of c.value.type_inv))))

pub returns : goal.returns
returns c =
    no-temporary _ _ c.loop-x.x (omega (arith, values_length c.args.ws.now c.args.frame c.requires)) c.loop-x.invariant
