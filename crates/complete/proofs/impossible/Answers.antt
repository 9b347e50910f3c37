-- `complete::impossible` meets its contract.
use mathlib.Core.Path.{refl}
use Rattle.complete.proofs.Answering.{stays, now-impossible}
use Rattle.complete.proofs.impossible.Goals as goal

pub returns-in-Plain : goal.returns-in-Plain
returns-in-Plain c = stays _ c.in-Plain.is

pub returns-in-Fault : goal.returns-in-Fault
returns-in-Fault c = now-impossible _ refl refl c.in-Fault.is
