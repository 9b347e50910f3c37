-- `bound::atom` meets its contract.
use Rattle.bound.proofs.Looks.{atom-free, atom_as}
use Rattle.bound.proofs.atom.Goals as goal

pub returns-then-byte-eq0 : goal.returns-then-byte-eq0
returns-then-byte-eq0 c = search atom-free

pub returns : goal.returns
returns c = rw c.then_some.ensures (search atom_as)
