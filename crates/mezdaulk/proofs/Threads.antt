-- The first thread that can step is one of the eight.
use Prim.Native.Nat.{ℕ, ◌<◌}
use mathlib.Core.Path.{◌≡◌, sym, ◌∙◌, ap, subst}
use mathlib.Core.Option.{Option}
use mathlib.Core.List.{List}
use lib.IntN.{ℤ}
use Rattle.model.specs.Answers.{Answer}
use Rattle.model.specs.Pool.{most_threads}
use Rattle.model.specs.Calls.{which}
use Rattle.model.proofs.Kept.{OnSome}
use Rattle.model.proofs.Numbers.{Can, OfLent, which-can}
use Rattle.std.specs.Prelude.{Option as Found, Some, Ok}
use Rattle.calls.specs.Calls.{stepping_of}

pub which-there : (s : List ℕ) (ws : List ℤ) {o : Found ℕ} {i : ℕ} → stepping_of (Ok o) ≡ which s ws → o ≡ Some i → i < most_threads
which-there s ws h e =
    subst (λ (a : Answer (Option ℕ)). Can (OnSome (λ j. j < most_threads)) (OfLent s) a)
    (sym h ∙ ap (λ (o : Found ℕ). stepping_of (Ok o)) e) (which-can s ws)
