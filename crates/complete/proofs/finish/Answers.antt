-- `complete::finish` meets its contract.
use Prim.Native.Nat.{ℕ}
use native.Mathlib.Omega.{arith}
use mathlib.Core.Path.{◌≡◌, ◌∙◌}
use lib.ListN.{length, take}
use lib.Seq.{length-take-le}
use borrow.Author.Rules.{rules}
use Rattle.complete.proofs.Finishing.{finish-put}
use Rattle.complete.proofs.finish.Goals as goal

pub returns : goal.returns
returns c =
    let lent : length (take 64 c.args.words.now) ≡ 64 =
    length-take-le {A = ℕ} 64 c.args.words.now (omega (arith, c.requires.1)) in
    finish-put _ _ _ _ c.none-transfers.ensures c.find.ensures c.zeros-buffer.ensures _
    c.inferred-r.new.words _ _ _ lent c.inferred-r.ensures
    (c.inferred-r.auto.words ∙ lent) (search rules) c.clear.ensures
    c.hand_over.ensures c.requires.0
