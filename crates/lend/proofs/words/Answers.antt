-- `lend::words` meets its contract.
use mathlib.Core.Path.{refl}
use native.Mathlib.Omega.{arith}
use borrow.Author.Rules.{rules}
use Rattle.lend.proofs.Lending.{words-unread, words-given, words-refused}
use Rattle.lend.proofs.words.Goals as goal

pub returns-in_err-read : goal.returns-in_err-read
returns-in_err-read c = words-unread _ _ _ _ _ _ c.in_err-read.ensures (search rules)

pub returns-then-pool-ne-WORDS : goal.returns-then-pool-ne-WORDS
returns-then-pool-ne-WORDS c = words-refused _ _ _ _ c.in_ok-read.ensures _ refl c.if-pool-ne-WORDS.true

pub returns : goal.returns
returns c = words-given _ _ _ _ c.in_ok-read.ensures (omega arith)
