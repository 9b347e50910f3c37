-- `kept::functions_in` meets its contract.
use Rattle.kept.proofs.Names.{functions-nowhere, functions-at}
use Rattle.kept.proofs.functions_in.Goals as goal

pub returns-in_default : goal.returns-in_default
returns-in_default c = search functions-nowhere

pub returns-in-Some : goal.returns-in-Some
returns-in-Some c = search functions-at
