-- `valid::frame`: each failing test answers no; where none fails, the values decide.
use native.Mathlib.Omega.{arith}
use Rattle.valid.proofs.FrameWords.{not-frame, not-placed, not-calls, not_zeros, all-looked}
use mathlib.Core.Bool.{not}
use mathlib.Core.Path.{ap}
use Rattle.valid.proofs.frame.Goals as goal

pub returns-then-opened-gt-CALLS : goal.returns-then-opened-gt-CALLS
returns-then-opened-gt-CALLS c P h = not-frame P _ c.requires (λ t. omega (arith, t.few))

pub returns-then-opened-number : goal.returns-then-opened-number
returns-then-opened-number c P h = not-frame P _ c.requires (λ t. omega (arith, t.promoted))

pub returns-then-bound-gt65535 : goal.returns-then-bound-gt65535
returns-then-bound-gt65535 c P h = not-frame P _ c.requires (λ t. omega (arith, t.bound))

pub returns-then-not-place : goal.returns-then-not-place
returns-then-not-place c P h =
    not-placed P _ c.requires _ _ _ _ c.number-f.ensures.is
    c.number-2.ensures.is c.number-3.ensures.is (c.place.ensures P h)
    (ap not c.if-not-place.true)

pub returns-then-not-calls : goal.returns-then-not-calls
returns-then-not-calls c P h =
    not-calls P _ c.requires _ _ _ c.number-f.ensures.is c.number-opened.ensures.is
    (c.calls.ensures _ P h) (ap not c.if-not-calls.true)

pub returns-then-not-zeros : goal.returns-then-not-zeros
returns-then-not-zeros c P h =
    not_zeros P _ c.requires _ _ c.number-opened.ensures.is c.zeros.ensures (ap not c.if-not-zeros.true)

pub returns : goal.returns
returns c P h =
    all-looked P _ c.requires h.limits _ _ _ _ _ _ _ _ _ _
    (record {
      function = c.number-f.ensures.is;
      block = c.number-2.ensures.is;
      done = c.number-3.ensures.is;
      bound = c.number-bound.ensures.is;
      calls = c.number-opened.ensures.is;
      promoted = c.number.ensures.is;
      few = c.if-opened-gt-CALLS.false;
      order = c.if-opened-number.false;
      set = c.if-bound-gt65535.false;
      stands = c.place.ensures P h;
      placed = (ap not c.if-not-place.false);
      slots = c.calls.ensures _ P h;
      called = (ap not c.if-not-calls.false);
      behind = c.zeros.ensures;
      zeros = (ap not c.if-not-zeros.false);
      blanks = c.values.ensures;
    })
