-- Working on a frame: the values of temporaries, X ⊢ e ⇓ v or an overflow, binding, entering a block, and a callee's first frame.
use Rattle.std.specs.Prelude.{ℕ, Bool, true, false, List, [], ◌∷◌, eqb, ℤ, pos, length, get_or, set}
use Rattle.std.proofs.Math.Option.{Option, none, some}
use Rattle.std.proofs.Math.ListN.{get_elem?}
use Rattle.model.specs.Values as Values
use Rattle.model.specs.Values.{Worked}
use Rattle.model.specs.Sets.{has, with}
use Rattle.model.specs.Syntax.{Atom, Expression, Block, Program}
use Rattle.model.specs.Pool.{Frame, begin, block_of}

-- what is there, or nothing
abbrev pub ◌>>=◌ : {A B : Type 0} → Option A → (A → Option B) → Option B
◌>>=◌ none k = none
◌>>=◌ (some a) k = k a

-- a need: the test holds, or nothing
unfoldable pub when : {A : Type 0} → Bool → Option A → Option A
when true o = o
when false o = none

-- X(x), X(x̄): the values of bound temporaries
unfoldable pub look : Frame → ℕ → Option ℤ
look k x = when (has k.bound x) (some (get_or k.values x (pos 0)))

unfoldable pub look_all : Frame → List ℕ → Option (List ℤ)
look_all k [] = some []
look_all k (x ∷ x̄) = do
  v ← look k x
  v̄ ← look_all k x̄
  some (v ∷ v̄)

-- X ⊢ e ⇓ v, or e overflows; nothing where a temporary of e is not bound
unfoldable pub eval_atom : Frame → Atom → Option ℤ
eval_atom k (Atom.value v) = some v
eval_atom k (Atom.temporary x) = look k x

unfoldable pub eval : Frame → Expression → Option Worked
eval k (Expression.atom m) = do
  v ← eval_atom k m
  some (Worked.value v)
eval k (Expression.minus m) = do
  v ← eval_atom k m
  some (Values.minus v)
eval k (Expression.plus m n) = do
  v ← eval_atom k m
  w ← eval_atom k n
  some (Values.plus v w)
eval k (Expression.less m n) = do
  v ← eval_atom k m
  w ← eval_atom k n
  some (Worked.value (Values.less v w))

-- X[x ↪ v], X[ȳ ↪ v̄]: all values were read before; a repeated parameter keeps the last
unfoldable pub bind : Frame → ℕ → ℤ → Frame
bind k x v =
    record {
      function = k.function;
      block = k.block;
      done = k.done;
      bound = with k.bound x;
      calls = k.calls;
      promoted = k.promoted;
      values = set k.values x v;
    }

unfoldable pub bind_all : Frame → List ℕ → List ℤ → Frame
bind_all k [] v̄ = k
bind_all k (y ∷ ȳ) [] = k
bind_all k (y ∷ ȳ) (v ∷ v̄) = bind_all (bind k y v) ȳ v̄

-- the frame at statement n of block b
unfoldable pub go_to : Frame → ℕ → ℕ → Frame
go_to k b n =
    record {
      function = k.function;
      block = b;
      done = n;
      bound = k.bound;
      calls = k.calls;
      promoted = k.promoted;
      values = k.values;
    }

-- the frame with another spawn deque
unfoldable pub deque : Frame → List ℕ → ℕ → Frame
deque k ρ n =
    record {
      function = k.function;
      block = k.block;
      done = k.done;
      bound = k.bound;
      calls = ρ;
      promoted = n;
      values = k.values;
    }

-- the frame at the head of block b, with the values v̄ for its parameters: block b(ȳ){C} ∈ f, of as many parameters
unfoldable pub entering : Frame → ℕ → List ℤ → Block → Option Frame
entering k b v̄ B = when (eqb (length B.head.parameters) (length v̄)) (some (bind_all (go_to k b 0) B.head.parameters v̄))

unfoldable pub enter : Program → Frame → ℕ → List ℤ → Option Frame
enter P k b v̄ = do
  B ← block_of P k b
  entering k b v̄ B

-- the first frame of a call of g with the values v̄: fun g(ȳ), of as many parameters
unfoldable pub callee : Program → ℕ → List ℤ → Option Frame
callee P g v̄ = do
  G ← get_elem? P g
  when (eqb G.signature.parameters (length v̄)) (some (begin g v̄))
