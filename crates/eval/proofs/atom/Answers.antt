-- `eval::atom` meets its contract.
use borrow.Author.Rules.{sfits_of}
use Rattle.eval.proofs.Leaves.{atom-value, atom-temporary}
use Rattle.eval.proofs.atom.Goals as goal

pub returns-then-byte-eq0 : goal.returns-then-byte-eq0
returns-then-byte-eq0 c = search (atom-value, sfits_of)

pub returns : goal.returns
returns c = search (atom-temporary)
