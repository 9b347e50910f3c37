-- `puts::stretch` meets its contract.
use Rattle.puts.proofs.Parts.{outside, inside}
use Rattle.puts.proofs.Laws.{same}
use Rattle.puts.proofs.stretch.Goals as goal

pub returns-in-Some : goal.returns-in-Some
returns-in-Some c =
    let h = c.in-Some.ensures.lookup.0 in
    inside _ _ _ h.0 h.1 (same c.bytes.ensures h.2)

pub returns-in-None : goal.returns-in-None
returns-in-None c = outside _ _ _ c.in-None.ensures.lookup.0
