-- `kept::sporked` meets its contract.
use Rattle.kept.proofs.Names.{sporked-none, sporked-one}
use Rattle.kept.proofs.sporked.Goals as goal

pub returns-in-Spork : goal.returns-in-Spork
returns-in-Spork c = search sporked-one

pub returns-in_default : goal.returns-in_default
returns-in_default c = search sporked-none
