-- `calls::start` meets its contract.
use borrow.Author.Rules.{rules}
use Rattle.lend.proofs.Lending.{refused-words, given-words, long-words}
use Rattle.calls.proofs.Lent.{start-refused, start-given}
use Rattle.calls.proofs.start.Goals as goal

pub unwrap-ws-requires : goal.unwrap-ws-requires
unwrap-ws-requires c = let h = long-words _ _ _ _ c.in_ok-words.ensures in search rules

pub returns-in_err-words : goal.returns-in_err-words
returns-in_err-words c =
    start-refused _ _ c.in_err-words.field-0.0 (refused-words _ _ _ _ _ c.in_err-words.ensures) (search rules)

pub returns : goal.returns
returns c = start-given _ _ (given-words _ _ _ _ c.in_ok-words.ensures) c.start_pool.ensures
