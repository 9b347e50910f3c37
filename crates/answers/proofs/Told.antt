-- The number of a refusal, from the case that the code found.
use Prim.Native.Nat.{ℕ}
use mathlib.Core.Path.{◌≡◌, sym, ap, ◌∙◌}
use Rattle.answers.specs.declared.Refusal.{Refusal}
use Rattle.answers.specs.Answers.{refusal_of}
use Rattle.answers.specs.Coded.{code_of}

pub told : {r q : Refusal} {n : ℕ} → r ≡ q → n ≡ code_of (refusal_of q) → n ≡ code_of (refusal_of r)
told e d = d ∙ ap (λ (x : Refusal). code_of (refusal_of x)) (sym e)
