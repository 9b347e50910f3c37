-- `table::grammar::NameItem::skip`: one byte.
use mathlib.Core.Path.{sym, ◌∙◌}
use Rattle.model.specs.Read as Read
use Rattle.table.proofs.Rules.{name-bytes}
use Rattle.table.proofs.grammar.NameItem.skip.Goals as goal

pub returns : goal.returns
unfolding Read.name
returns c = c.pass.ensures ∙ sym (name-bytes _ _)
