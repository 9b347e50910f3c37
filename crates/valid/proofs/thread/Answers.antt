-- `valid::thread`: the count, the purse, the words behind the frames, and the frames.
use native.Mathlib.Omega.{arith}
use Rattle.valid.proofs.Turns.{not-thread, not-purse, not_behind, thread-answer}
use mathlib.Core.Bool.{not}
use mathlib.Core.Path.{ap}
use Rattle.valid.proofs.thread.Goals as goal

pub returns-then-n-eq0 : goal.returns-then-n-eq0
returns-then-n-eq0 c =
    (tt, λ P h. not-thread P _ c.requires (λ t. omega (arith, t.some, c.number-n.ensures.is)))

pub returns-then-n-gt-FRAMES : goal.returns-then-n-gt-FRAMES
returns-then-n-gt-FRAMES c =
    (tt, λ P h. not-thread P _ c.requires (λ t. omega (arith, t.few, c.number-n.ensures.is)))

pub returns-then-not-purse : goal.returns-then-not-purse
returns-then-not-purse c =
    (tt, λ P h. not-purse P _ c.requires _ c.purse.ensures (ap not c.if-not-purse.true))

pub returns-then-not-zeros : goal.returns-then-not-zeros
returns-then-not-zeros c =
    (tt, λ P h. not_behind P _ c.requires _ _ c.number-n.ensures.is c.zeros.ensures (ap not c.if-not-zeros.true))

pub returns : goal.returns
returns c = (
  c.frames.ensures.0,
  λ P h.
      thread-answer P _ c.requires _ _ c.number-n.ensures.is c.zeros.ensures c.frames.result
      c.if-n-eq0.false (omega arith) _ c.purse.ensures (ap not c.if-not-purse.false) (ap not c.if-not-zeros.false) (c.frames.ensures.1 P h),
)
