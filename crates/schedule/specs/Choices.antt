-- The choices that are lent, in the model's terms.
use Rattle.std.specs.Prelude.{List, map}
use Rattle.model.specs.Calls.{Choice}
use Rattle.schedule.specs.declared.Choice.{Choice as Lent}

unfoldable pub choice_of : Lent → Choice
choice_of c = record { kind = c.kind; thread = c.thread }

unfoldable pub choices_of : List Lent → List Choice
choices_of cs = map choice_of cs
