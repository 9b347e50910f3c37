-- `code::kind_end` meets its contract.
use Rattle.std.proofs.Common.{rules, ap}
use Rattle.code.specs.Kinds.{number_of}
use Rattle.code.proofs.KindLaws.{names-two}
use Rattle.code.proofs.Ends.{ends-goto, ends-if, ends-call, ends_return, ends-names}
use Rattle.code.proofs.kind_end.Goals as goal

pub returns-in-Goto : goal.returns-in-Goto
returns-in-Goto c = ends-goto _ _ (ap number_of c.in-Goto.is) c.spawn_end.ensures

pub returns-in-If : goal.returns-in-If
returns-in-If c = let h = ap number_of c.in-If.is in search (rules, ends-if)

pub returns-in-Call : goal.returns-in-Call
returns-in-Call c = let h = ap number_of c.in-Call.is in search (rules, ends-call)

pub returns-in-Return : goal.returns-in-Return
returns-in-Return c = ends_return _ _ (ap number_of c.in-Return.is) c.list_end.ensures

pub returns-in-Spork : goal.returns-in-Spork
returns-in-Spork c = ends-names _ _ _ (names-two c.in-Spork.is) c.after-in-Spork.ensures c.after-in-Spork-2.ensures
