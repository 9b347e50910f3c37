-- `code::atom_end` meets its contract.
use Rattle.code.proofs.Ends.{atom-end-value, atom-end-temporary}
use Rattle.code.proofs.atom_end.Goals as goal

pub returns-then-byte-eq0 : goal.returns-then-byte-eq0
returns-then-byte-eq0 c = search (atom-end-value)

pub returns-else-byte-eq0 : goal.returns-else-byte-eq0
returns-else-byte-eq0 c = search (atom-end-temporary)
