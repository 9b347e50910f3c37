-- `valid::is_pool`: the length, the count, the words behind the threads, and the threads.
use native.Mathlib.Omega.{arith}
use Rattle.valid.proofs.Turns.{not-pool, not-pool-behind, pool-answer}
use mathlib.Core.Bool.{not}
use mathlib.Core.Path.{ap}
use Rattle.valid.proofs.is_pool.Goals as goal

pub returns-then-ws-ne-WORDS : goal.returns-then-ws-ne-WORDS
returns-then-ws-ne-WORDS c P h = not-pool P _ (λ l t. c.if-ws-ne-WORDS.true l)

pub returns-then-n-gt-THREADS : goal.returns-then-n-gt-THREADS
returns-then-n-gt-THREADS c P h = not-pool P _ (λ l t. omega (arith, t.few, c.number-n.ensures.is))

pub returns-then-not-zeros : goal.returns-then-not-zeros
returns-then-not-zeros c P h =
    not-pool-behind P _ c.if-ws-ne-WORDS.false _ c.number-n.ensures.is (omega arith) _ c.zeros.ensures (ap not c.if-not-zeros.true)

pub returns : goal.returns
returns c P h =
    pool-answer P _ c.if-ws-ne-WORDS.false _ c.number-n.ensures.is (omega arith) _ c.zeros.ensures _ (ap not c.if-not-zeros.false)
    (c.trees.ensures P h)
