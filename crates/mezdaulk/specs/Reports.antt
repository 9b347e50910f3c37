-- The report of a list of choices and of a run: the number of its answer, and how many were made, whatever words it leaves.
use Rattle.std.specs.Prelude.{ℕ, List, ℤ}
use Rattle.host.specs.Exports.{Tells, Runs}
use Rattle.schedule.specs.declared.Scheduled.{Scheduled}
use Rattle.schedule.specs.Runs.{scheduled_of}
use Rattle.beats.specs.declared.Ran.{Ran}
use Rattle.beats.specs.Beating.{told_of}

abbrev pub Reports : Scheduled → ℕ → ℕ → Type 0
Reports answer r made = (ws : List ℤ) → Tells (scheduled_of answer ws) r made ws

abbrev pub RunReports : Ran → ℕ → List ℕ → Type 0
RunReports answer r made = (ws : List ℤ) → Runs (told_of answer ws) r made ws
