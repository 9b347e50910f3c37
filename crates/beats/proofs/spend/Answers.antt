-- `beats::spend` meets its contract.
use borrow.Author.Rules.{rules}
use Rattle.beats.proofs.Paying.{spending-none, spending-more, spending-stops, spending-all}
use Rattle.beats.proofs.spend.Goals as goal

pub loop-made-init : goal.loop-made-init
loop-made-init c = spending-none _ _ _ _

pub returns-then-not-pay : goal.returns-then-not-pay
returns-then-not-pay c = record {
  is = spending-stops c.loop-made.invariant c.pay.result c.if-not-pay.true c.pay.ensures;
  few = search rules;
}

pub loop-made-preserved : goal.loop-made-preserved
loop-made-preserved c =
    spending-more c.loop-made.invariant c.pay.result c.if-not-pay.false (search rules) c.pay.ensures

pub returns : goal.returns
returns c = record { is = spending-all c.loop-made.invariant (search rules); few = search rules }
