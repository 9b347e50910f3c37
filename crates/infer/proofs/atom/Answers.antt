-- `infer::atom` meets its contract.
use Rattle.infer.proofs.Needing.{atom-value, atom-temporary}
use Rattle.infer.proofs.atom.Goals as goal

pub returns-then-byte-eq0 : goal.returns-then-byte-eq0
returns-then-byte-eq0 c = search atom-value

pub returns-else-byte-eq0 : goal.returns-else-byte-eq0
returns-else-byte-eq0 c = search atom-temporary
