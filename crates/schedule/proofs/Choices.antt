-- The choices from the n-th on: the next one and those behind it, or none.
use mathlib.Core.Path.{◌≡◌, refl}
use Prim.Native.Nat.{ℕ, zero, suc, ◌+◌, ◌≤◌, ◌<◌}
use mathlib.Core.List.{List, [], ◌∷◌}
use native.Mathlib.Nat.{suc-add}
use native.Mathlib.Omega.{arith}
use lib.ListN.{length, get_or, drop}
use Rattle.schedule.specs.declared.Choice.{Choice}
use Rattle.schedule.specs.Choices.{choice_of, choices_of}

pub next-choice : (cs : List Choice) (n : ℕ) (d : Choice) → n < length cs
    → drop n (choices_of cs) ≡ choice_of (get_or cs n d) ∷ drop (n + 1) (choices_of cs)
unfolding choices_of
next-choice [] n d h = absurd (omega arith)
next-choice (c ∷ cs) zero d h = refl
next-choice (c ∷ cs) (suc n) d h = rw (suc-add n 1) (next-choice cs n d (omega arith))

pub no-more-choices : (cs : List Choice) (n : ℕ) → length cs ≤ n → drop n (choices_of cs) ≡ []
unfolding choices_of
no-more-choices [] zero h = refl
no-more-choices [] (suc n) h = refl
no-more-choices (c ∷ cs) zero h = absurd (omega arith)
no-more-choices (c ∷ cs) (suc n) h = no-more-choices cs n (omega arith)
