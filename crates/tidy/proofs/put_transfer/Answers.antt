-- `tidy::put_transfer` meets its contract.
use borrow.Author.Rules.{rules}
use Rattle.tidy.proofs.Renaming.{goto-put, if-put, call-put, return-put, spork-put, spoin-put}
use Rattle.tidy.proofs.put_transfer.Goals as goal

pub returns-in-Goto : goal.returns-in-Goto
returns-in-Goto c = search (rules, goto-put)

pub returns-in-If : goal.returns-in-If
returns-in-If c = search (rules, if-put)

pub returns-in-Call : goal.returns-in-Call
returns-in-Call c = search (rules, call-put)

pub returns-in-Return : goal.returns-in-Return
returns-in-Return c = search (rules, return-put)

pub returns-in-Spork : goal.returns-in-Spork
returns-in-Spork c = search (rules, spork-put)

pub returns-in-Spoin : goal.returns-in-Spoin
returns-in-Spoin c = search (rules, spoin-put)
