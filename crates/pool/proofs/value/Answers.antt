-- `pool::value`: the word of a temporary.
use borrow.Author.Rules.{sfits_of}
use Rattle.pool.proofs.Readers.{value-at}
use Rattle.pool.proofs.value.Goals as goal

pub returns : goal.returns
returns c = search (value-at, sfits_of)
