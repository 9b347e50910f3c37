-- `valid::number`: the word, or what is above every limit.
use borrow.Author.Rules.{sfits_of}
use Rattle.valid.proofs.Steps.{number-read}
use Rattle.valid.proofs.number.Goals as goal

pub returns : goal.returns
returns c = search (number-read, sfits_of)
