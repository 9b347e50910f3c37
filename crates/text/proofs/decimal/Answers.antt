-- `text::decimal`: a number below 10 is its digit, and else the digits that `io::decimal` gives are the number's decimal.
use borrow.Author.Rules.{rules}
use mathlib.Core.Path.{◌∙◌}
use Rattle.puts.proofs.Laws.{same}
use Rattle.text.proofs.Digits.{tied, single}
use Rattle.text.proofs.decimal.Goals as goal

pub returns-then-n-lt10 : goal.returns-then-n-lt10
returns-then-n-lt10 c = same c.byte.ensures (single _ (search rules))

pub returns : goal.returns
returns c =
    let made = c.decimal-k in
    same c.bytes.ensures (made.ensures.digits ∙ tied _ _ (search rules) made.ensures.len)
