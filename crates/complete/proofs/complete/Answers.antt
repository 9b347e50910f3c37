-- `complete::complete` meets its contract.
use mathlib.Core.Path.{refl}
use borrow.Author.Rules.{rules}
use Rattle.complete.proofs.Completing.{complete-unread, too_few, other_length, finished}
use Rattle.complete.proofs.complete.Goals as goal

pub returns-in_err-read_brief : goal.returns-in_err-read_brief
returns-in_err-read_brief c = complete-unread _ _ _ c.none-places.ensures _ _ c.in_err-read_brief.ensures (search rules)

pub returns-then-words-lt-WORDS : goal.returns-then-words-lt-WORDS
returns-then-words-lt-WORDS c = too_few _ _ _ c.none-places.ensures _ _ c.in_ok-read_brief.ensures refl c.if-words-lt-WORDS.true

pub returns-then-out-ne-BYTES : goal.returns-then-out-ne-BYTES
returns-then-out-ne-BYTES c = other_length _ _ _ c.none-places.ensures _ _ c.in_ok-read_brief.ensures refl c.if-out-ne-BYTES.true

pub returns : goal.returns
returns c =
    finished _ _ _ c.none-places.ensures _ _ c.in_ok-read_brief.ensures c.if-words-lt-WORDS.false c.if-out-ne-BYTES.false c.finish.ensures
