-- `lend::pool` meets its contract.
use mathlib.Core.Path.{refl}
use borrow.Author.Rules.{rules}
use Rattle.lend.proofs.Lending.{pool-unlent, pool-given, pool-refused}
use Rattle.lend.proofs.pool.Goals as goal

pub returns-in_err-words : goal.returns-in_err-words
returns-in_err-words c = pool-unlent _ _ _ _ _ _ c.in_err-words.ensures (search rules)

pub returns-then-not-is_pool : goal.returns-then-not-is_pool
returns-then-not-is_pool c = pool-refused _ _ _ _ c.in_ok-words.ensures _ c.is_pool.ensures _ refl c.if-not-is_pool.true

pub returns : goal.returns
returns c = pool-given _ _ _ _ c.in_ok-words.ensures _ c.is_pool.ensures c.if-not-is_pool.false
