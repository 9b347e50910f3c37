-- `lines::choice`: five texts one behind the other.
use Rattle.model.specs.Output.{choice_line}
use Rattle.puts.proofs.Laws.{then}
use Rattle.lines.proofs.choice.Goals as goal

pub returns : goal.returns
unfolding choice_line
returns c =
    then (then (then (then c.decimal-k.ensures c.kind_name-k.ensures) c.part-k.ensures) c.told-k.ensures)
    c.line.ensures
