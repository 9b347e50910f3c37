-- `depth::frames` meets its contract: the functions left are its measure.
use Prim.Native.Nat.{◌+◌, max}
use mathlib.Core.Path.{◌≡◌, ◌∙◌, ap}
use native.Mathlib.Omega.{arith}
use Rattle.std.specs.Prelude.{Some}
use borrow.Author.Rules.{rules}
use Rattle.depth.proofs.Memory.{known-works}
use Rattle.depth.proofs.Loops.{spent}
use Rattle.depth.proofs.Loops.{left-first, left-none, left-on, left-endless, left-call, left_end}
use Rattle.depth.proofs.+frames.Goals.{in-Some-called+in_ok-n, in_default-called, else-loop-b-test, then-loop-b-test+in_default}
use Rattle.depth.proofs.+frames.Goals as goal

pub returns-then-left-eq0-clause-is : goal.returns-then-left-eq0-clause-is
returns-then-left-eq0-clause-is t c = search spent

pub returns-then-d-ne0-clause-is : goal.returns-then-d-ne0-clause-is
returns-then-d-ne0-clause-is t c = search known-works

pub loop-b-init : goal.loop-b-init
loop-b-init t c = (search rules, search rules, search rules, search left-first)

pub returns-in_err-n-clause-is : goal.returns-in_err-n-clause-is
returns-in_err-n-clause-is t c =
    let (long, least, fits, left) = c.loop-b.invariant in
    let called : c.call_of.result ≡ Some (Some c.in-Some-called.g) = c.in-Some.is ∙ ap Some c.in-Some-called.is in
    rw c.from_residual.ensures
    (left-endless _ _ _ _ _ _ _ _ left c.call_of.ensures _ c.frames.result called c.frames.ensures.is c.in_err-n.was)

pub loop-b-preserved : goal.loop-b-preserved
loop-b-preserved t c =
    let (long, least, fits, left) = c.loop-b.invariant in
    elim c.match-called.branch [
      | in-Some-called+in_ok-n w ↦
          let called : c.call_of.result ≡ Some (Some w.in-Some-called.g) = c.in-Some.is ∙ ap Some w.in-Some-called.is in
          let m : c.match-called.most ≡ max c.loop-b.most (w.in_ok-n.n + 1) = grind arith in
          let n = w.in_ok-n.ensures.within in (
            search rules,
            omega arith,
            omega arith,
            rw w.known-is
                (left-call _ _ _ _ _ _ _ _ left c.call_of.ensures w.frames.new.known w.frames.result called w.frames.ensures.is
                w.in_ok-n.n c.match-called.most w.in_ok-n.was m),
          )
      | in_default-called w ↦ (
        search rules,
        omega arith,
        omega arith,
        rw (w.known-is, w.most-is)
            (left-on _ _ _ _ _ _ _ _ left c.call_of.ensures (c.in-Some.is ∙ ap Some w.in_default-called.is)),
      )
    ]

pub returns-clause-is : goal.returns-clause-is
returns-clause-is t c =
    let (long, least, fits, left) = c.loop-b.invariant in
    elim c.loop-b-test.branch [
      | else-loop-b-test w ↦ left_end _ _ _ _ _ _ _ _ left _ w.loop-b-test.false least c.put.ensures
      | then-loop-b-test+in_default w ↦ left-none _ _ _ _ _ _ _ _ left w.call_of.ensures _ w.in_default.is least c.put.ensures
    ]
