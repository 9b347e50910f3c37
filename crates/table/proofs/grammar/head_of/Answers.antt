-- `table::grammar::head_of`: by the version.
use borrow.Author.Rules.{rules}
use Rattle.table.proofs.Rules.{bare-skip}
use Rattle.table.proofs.grammar.head_of.Goals as goal

pub returns-in-Two : goal.returns-in-Two
returns-in-Two c = search (rules, bare-skip)
