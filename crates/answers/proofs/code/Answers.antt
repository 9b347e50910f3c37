use Rattle.answers.proofs.Told.{told}
use Rattle.answers.proofs.code.Goals as goal

pub returns-in-Byte : goal.returns-in-Byte
returns-in-Byte c = told c.in-Byte.is c.bad_byte.ensures

pub returns-in-Fault : goal.returns-in-Fault
returns-in-Fault c = told c.in-Fault.is c.fault.ensures
