-- `listing::thread_lines` and `listing::child_lines`, which call each other, meet their contracts.
use Rattle.listing.proofs.Lists.{no-child, past_all, one-child, one-thread}
use Rattle.listing.proofs.+child_lines_thread_lines.Goals as goal

pub child_lines-returns-then-count-eq0-clause-is : goal.child_lines-returns-then-count-eq0-clause-is
child_lines-returns-then-count-eq0-clause-is t c = search no-child

pub child_lines-returns-then-thread_count-next-clause-is : goal.child_lines-returns-then-thread_count-next-clause-is
child_lines-returns-then-thread_count-next-clause-is t c = search past_all

pub child_lines-returns-clause-is : goal.child_lines-returns-clause-is
child_lines-returns-clause-is t c = search one-child

pub thread_lines-returns-clause-is : goal.thread_lines-returns-clause-is
thread_lines-returns-clause-is t c = search one-thread
