-- What the code's answers stand for, in the model's terms.
use Rattle.std.specs.Prelude.{ℕ, zero, suc, ◌<◌, ◌≤◌, Bool, true, false, ◌≡◌, List, [], ◌∷◌, ℤ, pos, length, take}
use Rattle.std.specs.Prelude.{Option, Some, None}
use Rattle.std.proofs.Math.Option.{Option as Maybe, none, some}
use Rattle.model.specs.Values as Values
use Rattle.model.specs.Values.{Worked}
use Rattle.model.specs.Lists.{Each, pad}
use Rattle.model.specs.Pool.{Frame, temporaries, begin}
use Rattle.model.specs.Frames.{look, look_all, bind_all}
use Rattle.words.specs.Runs.{pasted}
use Rattle.pool.specs.InPlace.{FrameHeld, Became, Bound}
use Rattle.code.specs.Code.{most, count_at, arguments_at}
use Rattle.eval.specs.declared.Evaluated.{Evaluated}
use Rattle.eval.specs.declared.Evaluated.TheVariants.{Value, Overflow, Unbound}
use Rattle.eval.specs.declared.Values.{Values}

-- what is there, by a flag
abbrev pub optional : {A : Type 0} → Bool → A → Maybe A
optional true a = some a
optional false a = none

-- what an operand and an expression come to, as the code has it
unfoldable pub operand_as : Maybe ℤ → Option ℤ
operand_as none = None
operand_as (some v) = Some v

unfoldable pub evaluated_as : Maybe Worked → Evaluated
evaluated_as none = Unbound
evaluated_as (some (Worked.value v)) = Value v
evaluated_as (some Worked.overflow) = Overflow

-- a number that is worked out in 32 bits, if they hold it
unfoldable pub worked_as : Option ℤ → Evaluated
worked_as None = Overflow
worked_as (Some v) = Value v

abbrev pub values_of : Values → List ℤ
values_of v = take v.count v.at

abbrev pub looked_of : Option Values → Maybe (List ℤ)
looked_of None = none
looked_of (Some v) = some (values_of v)

-- values, or none, as the code has them: with 0 behind the last of them
unfoldable pub values_as : List ℤ → Values
values_as v̄ = record { count = length v̄; at = pad most (pos 0) v̄ }

unfoldable pub looked_as : Maybe (List ℤ) → Option Values
looked_as none = None
looked_as (some v̄) = Some (values_as v̄)

-- the values of an argument list, in a buffer, by a flag
abbrev pub looked_in : List ℕ → ℕ → Bool → List ℤ → Maybe (List ℤ)
looked_in s at r out = optional r (take (count_at s at) out)

-- X(x̄), up to the first temporary that is not bound
abbrev pub and_on : Maybe ℤ → List ℤ → List ℤ
and_on none v̄ = []
and_on (some v) v̄ = v ∷ v̄

unfoldable pub bound_part : Frame → List ℕ → List ℤ
bound_part m [] = []
bound_part m (x ∷ x̄) = and_on (look m x) (bound_part m x̄)

-- a buffer, with those values over its first words
unfoldable pub filled : Frame → List ℕ → List ℤ → List ℤ
filled m x̄ out = pasted out 0 (bound_part m x̄)

-- the values of an argument list in the frame m, by a flag, and what is left in the buffer, whether they are all bound or not
pub record Looks (m : Frame) (s : List ℕ) (at : ℕ) (out : List ℤ) (r : Bool) (out' : List ℤ) : Type 0 where
  pub is : looked_in s at r out' ≡ look_all m (arguments_at s at)
  pub left : out' ≡ filled m (arguments_at s at) out

-- what an expression of a kind comes to, from the values of its atoms
unfoldable pub applied : ℕ → ℤ → ℤ → Worked
applied zero m n = Worked.value m
applied (suc zero) m n = Values.minus m
applied (suc (suc zero)) m n = Values.plus m n
applied (suc (suc (suc kind))) m n = Worked.value (Values.less m n)

-- the frame at k has a temporary bound; what is no temporary changes nothing
pub record Binds (ws : List ℤ) (k x : ℕ) (v : ℤ) (ws' : List ℤ) : Type 0 where
  pub bound : x < temporaries → Bound ws k x v ws'
  pub kept : temporaries ≤ x → ws' ≡ ws

-- it has all of an argument list bound, each to its value of a buffer
abbrev pub BindsAll : List ℕ → ℕ → List ℤ → ℕ → List ℤ → List ℤ → Type 0
BindsAll s at ws k v̄ ws' =
    (m : Frame) → FrameHeld ws k m → Each (λ x. x < temporaries) (arguments_at s at) →
    Became ws k (bind_all m (arguments_at s at) (take (count_at s at) v̄)) ws'

-- the empty frame at k is the first one of function g, with the first values of a buffer
abbrev pub Begins : List ℤ → ℕ → ℕ → ℕ → List ℤ → List ℤ → Type 0
Begins ws k g n v̄ ws' = FrameHeld ws k (begin 0 []) → Became ws k (begin g (take n v̄)) ws'
