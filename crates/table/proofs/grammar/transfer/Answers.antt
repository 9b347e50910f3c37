-- `table::grammar::transfer`: a kind, then what follows it.
use borrow.Author.Rules.{rules}
use Rattle.model.specs.Read as Read
use Rattle.table.proofs.Laws.{byte-then, skips}
use Rattle.table.proofs.Rules.{kind-found}
use Rattle.table.proofs.grammar.transfer.Goals as goal

pub returns-in_err-k : goal.returns-in_err-k
unfolding Read.transfer
returns-in_err-k c = search (rules, skips, c.in_err-k.ensures)

pub returns : goal.returns
unfolding Read.transfer
returns c =
    let e = kind-found _ _ _ _ _ c.in_ok-k.ensures c.kind_at.ensures in
    byte-then _ _ _ _ _ _ c.in_ok-k.ensures (rw (← e) c.transfer_of.ensures)
