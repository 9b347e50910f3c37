-- `starts::main`: the bytes that it prints are `printed`.
use Rattle.std.proofs.Common.{rules}
use Rattle.starts.proofs.Printed.{holds}
use Rattle.starts.proofs.main.Goals as goal

pub slice_bounds-out-end : goal.slice_bounds-out-end
slice_bounds-out-end c = (holds c.lines-n.ensures (search rules)).within

pub slice_bounds-print-end : goal.slice_bounds-print-end
slice_bounds-print-end c = (holds c.lines-n.ensures (search rules)).long

pub print-requires : goal.print-requires
print-requires c = (holds c.lines-n.ensures (search rules)).is
