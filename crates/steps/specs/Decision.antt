-- What a step would do to a thread and the threads behind it, decided before anything is written; and what comes of it.
use Rattle.std.specs.Prelude.{ℕ, ◌≡◌, List, [], ◌∷◌, ◌++◌}
use Rattle.model.specs.Numbers as No
use Rattle.model.specs.Syntax.{Program}
use Rattle.model.specs.Pool.{Frame, Thread, Pool, restacked}
use Rattle.model.specs.Rules.{Result, step}

-- it is refused; the newest frame is replaced, by a rule; the caller and the callee stand for the newest frame; the newest frame
-- goes, and this is its caller; the thread directly behind goes, and this is the newest frame
pub data Decision : Type 0 where
  refuse : ℕ → Decision
  replace : ℕ → Frame → Decision
  push : Frame → Frame → Decision
  pop : Frame → Decision
  join : Frame → Decision

-- what comes of it, for the thread t and the threads behind
unfoldable pub popped : Thread → List Frame → List Thread → Frame → Result
popped t [] ts k = Result.refused No.ended
popped t (l ∷ K) ts k = Result.made No.return (restacked t (k ∷ K) ∷ ts)

unfoldable pub joined : Thread → List Thread → Frame → Result
joined t [] k = Result.refused No.waits
joined t (u ∷ ts) k = Result.made No.prom (restacked t (k ∷ t.older) ∷ ts)

unfoldable pub effected : Thread → List Thread → Decision → Result
effected t ts (Decision.refuse n) = Result.refused n
effected t ts (Decision.replace rule k) = Result.made rule (restacked t (k ∷ t.older) ∷ ts)
effected t ts (Decision.push k l) = Result.made No.call (restacked t (l ∷ k ∷ t.older) ∷ ts)
effected t ts (Decision.pop k) = popped t t.older ts k
effected t ts (Decision.join k) = joined t ts k

-- the decision is that of the step
pub record Decides (P : Program) (t : Thread) (ts : List Thread) (d : Decision) : Type 0 where
  pub is : step P t ts ≡ effected t ts d

-- the threads before
unfoldable pub before : Pool → Result → Result
before a (Result.made rule ts) = Result.made rule (a ++ ts)
before a (Result.refused n) = Result.refused n
