-- `kept::called` meets its contract.
use Rattle.kept.proofs.Names.{called-one, called-spork, called-none}
use Rattle.kept.proofs.called.Goals as goal

pub returns-in-Call : goal.returns-in-Call
returns-in-Call c = search called-one

pub returns-in-Spork : goal.returns-in-Spork
returns-in-Spork c = search called-spork

pub returns-in-Goto : goal.returns-in-Goto
returns-in-Goto c = search called-none
