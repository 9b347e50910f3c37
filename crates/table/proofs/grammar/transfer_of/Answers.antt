-- `table::grammar::transfer_of`: by the kind.
use mathlib.Core.Logic.{inl, inr}
use Rattle.table.proofs.Rules.{goto-skip, if-skip, call-skip, return-skip, spork-skip, spoin-skip}
use Rattle.table.proofs.grammar.transfer_of.Goals as goal

pub returns-in-Goto : goal.returns-in-Goto
returns-in-Goto c = rw c.in-Goto.is (goto-skip _ _ _ c.spawn_call.ensures)

pub returns-in-If : goal.returns-in-If
returns-in-If c = rw c.in-If.is (if-skip _ _ _ c.branch-s.ensures)

pub returns-in-Call : goal.returns-in-Call
returns-in-Call c = rw c.in-Call.is (call-skip _ _ _ c.call.ensures)

pub returns-in-Return : goal.returns-in-Return
returns-in-Return c = rw c.in-Return.is (return-skip _ _ _ c.counted.ensures)

pub returns-in-Spork : goal.returns-in-Spork
returns-in-Spork c =
    elim c.in-Spork.is [
      | inl e ↦ rw e (spork-skip _ _ _ c.pass.ensures)
      | inr e ↦ rw e (spoin-skip _ _ _ c.pass.ensures)
    ]
