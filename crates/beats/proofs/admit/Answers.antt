-- `beats::admit` meets its contract.
use borrow.Author.Rules.{rules}
use Rattle.beats.proofs.Lending.{admit-unlent, admit-paced}
use Rattle.beats.proofs.admit.Goals as goal

pub returns-in_err-pool : goal.returns-in_err-pool
returns-in_err-pool c = admit-unlent _ _ _ c.in_err-pool.ensures (search rules)

pub returns : goal.returns
returns c = rw c.ok_or.ensures.value (admit-paced _ _ c.in_ok-pool.ensures c.of.result c.of.ensures)
