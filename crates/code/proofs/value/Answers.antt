-- `code::value` meets its contract.
use Rattle.code.proofs.Ends.{word-is}
use borrow.Author.Rules.{sfits_of}
use Rattle.code.proofs.value.Goals as goal

pub returns : goal.returns
returns c = word-is (sfits_of c.signed.type_inv) c.word.ensures c.signed.ensures
