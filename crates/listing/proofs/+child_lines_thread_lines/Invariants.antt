-- `listing::thread_lines` and `listing::child_lines`, which call each other: the threads that are not listed yet fall.
use Prim.Native.Nat.{◌+◌, ◌*◌, ◌-◌}
use Rattle.model.specs.Pool.{most_threads}
use Rattle.listing.proofs.+child_lines_thread_lines.Given as goal

-- twice the threads that are not listed yet, and one more for those of children
abbrev pub decreases-child_lines : goal.decreases-child_lines
decreases-child_lines l = 2 * (most_threads - l.next) + 1

abbrev pub decreases-thread_lines : goal.decreases-thread_lines
decreases-thread_lines l = 2 * (most_threads - l.thread)
