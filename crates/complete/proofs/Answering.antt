-- The faults of what is inferred are answered as 26.
use Prim.Native.Nat.{ℕ}
use mathlib.Core.Path.{◌≡◌}
use mathlib.Core.Logic.{inl, inr}
use Rattle.std.specs.Prelude.{◌⊎◌}
use Rattle.model.specs.Numbers as No
use Rattle.model.specs.Answers.{Refusal}
use Rattle.model.specs.Check.{nowhere}
use Rattle.answers.specs.declared.No as Code
use Rattle.answers.specs.declared.Refusal as Why
use Rattle.answers.specs.declared.Refusal.TheVariants.{Plain, Byte, Fault}
use Rattle.answers.specs.Answers.{refusal_of}
use Rattle.inference.specs.Complete.{impossible}

-- a refusal's 26
module _ (why : Why.Refusal) where
  pub stays : ((n : Code.No) × (why ≡ Plain n)) ⊎ ((at : ℕ) × (why ≡ Byte at)) → refusal_of why ≡ impossible (refusal_of why)
  unfolding impossible
  stays (inl (n, e)) = rw e
  stays (inr (at, e)) = rw e

  pub now-impossible : {number n : Code.No} {f b at : ℕ} → number.0 ≡ No.impossible → at ≡ nowhere → why ≡ Fault n f b
      → Refusal.fault number.0 f at ≡ impossible (refusal_of why)
  unfolding impossible
  now-impossible h i e = rw (e, h, i)
