-- `mezdaulk_which` meets its contract: the first thread that can step is one of the eight.
use native.Mathlib.Omega.{arith}
use Rattle.mezdaulk.proofs.Threads.{which-there}
use Rattle.mezdaulk.proofs.mezdaulk_which.Goals as goal

pub overflow_cast-i : goal.overflow_cast-i
overflow_cast-i c = record { fits = omega (arith, which-there _ _ c.in-Ok-Some.ensures c.in-Ok-Some.field-0-is) }
