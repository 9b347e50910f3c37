-- What a schedule answers: what is lent is refused and nothing is made, or what the run leaves.
use Prim.Native.Nat.{ℕ}
use mathlib.Core.Path.{◌≡◌, sym, ◌∙◌, ap}
use mathlib.Core.List.{List}
use lib.IntN.{ℤ}
use Rattle.model.specs.Answers.{Answer}
use Rattle.model.specs.Calls.{Choice, Lent, scheduled, schedule}
use Rattle.std.specs.Prelude.{Ok, Err}
use Rattle.answers.specs.declared.Refusal.{Refusal}
use Rattle.places.specs.Marks.{nowhere}
use Rattle.lend.specs.Lent.{LendsPool}
use Rattle.lend.proofs.Lending.{refused-pool, given-pool}
use Rattle.schedule.specs.declared.Scheduled.{Scheduled}
use Rattle.schedule.specs.Runs.{Ran, ended_of, scheduled_of, Runs}

module _ {s before places : List ℕ} {ws : List ℤ} (cs : List Choice) (o : before ≡ nowhere) where
  pub schedule-refused : (why : Refusal) → LendsPool s ws before places (Err why)
      → scheduled_of (record { made = 0; answer = Err why }) ws ≡ schedule s ws cs
  unfolding scheduled_of schedule scheduled
  schedule-refused why h = sym (ap (λ (l : Answer Lent). scheduled ws l cs) (refused-pool s before places ws o why h))

  pub schedule-run : LendsPool s ws before places (Ok tt) → (r : Ran) (ws' : List ℤ) → Runs s places ws cs r ws' → {x : Scheduled}
      → x ≡ ended_of r → scheduled_of x ws' ≡ schedule s ws cs
  unfolding schedule scheduled
  schedule-run h r ws' e {x} q =
      let l = given-pool s before places ws o h in
      ap (λ (y : Scheduled). scheduled_of y ws') q
      ∙ e.is l.what.table l.what.pool l.table l.words l.valid
      ∙ sym (ap (λ (k : Answer Lent). scheduled ws k cs) l.is)
