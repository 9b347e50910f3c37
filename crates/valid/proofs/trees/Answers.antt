-- `valid::trees`: the threads before i are right, and `demands` trees are still to come.
use native.Mathlib.Omega.{arith}
use Rattle.valid.proofs.Turns.{few-are, are-answers, bad-answers, no-demand, no-thread, thread-goes, trees-end}
use Rattle.valid.proofs.trees.Goals as goal

pub returns-then-demands-lt1 : goal.returns-then-demands-lt1
returns-then-demands-lt1 c P h = no-demand P _ _ _ _ (c.loop-i.invariant.2 P h) (omega arith) (omega arith)

pub returns-in_default : goal.returns-in_default
returns-in_default c P h =
    no-thread P _ _ _ _ (c.loop-i.invariant.2 P h) (omega arith) (bad-answers _ _ _ c.in_default.is (c.thread.ensures.1 P h))

pub loop-i-preserved : goal.loop-i-preserved
loop-i-preserved c = (
  omega arith,
  omega (arith, few-are _ c.in-Some.is c.thread.ensures.0),
  λ P h.
      thread-goes P _ _ _ _ (c.loop-i.invariant.2 P h) (omega arith) (λ z. omega arith) _
      (are-answers _ _ _ _ c.in-Some.is (c.thread.ensures.1 P h)),
)

pub returns : goal.returns
returns c P h = trees-end P _ _ _ _ (c.loop-i.invariant.2 P h) (omega arith)
