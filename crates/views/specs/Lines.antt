-- The lines of a listing: S-8 of document 02. Who is shown a line, and what stands in it.
use Rattle.std.specs.Prelude.{ℕ, ◌+◌, cond, List, [], ◌∷◌, ◌++◌, ℤ, length, replicate}
use Rattle.model.specs.Text.{newline, decimal, part, signed_part}
use Rattle.model.specs.Sets.{has}
use Rattle.model.specs.Pool.{Frame, Thread, frames}

-- the dish operator may see where a job has got to, and not its numbers; the customer sees these too
pub data Viewer : Type 0 where
  operator : Viewer
  customer : Viewer

-- one space for each level
abbrev pub indent : ℕ → List ℕ
indent d = replicate d 32

-- the numbers of a frame: the function, the block, the statements done, the open calls, promoted ones among them, and the promoted ones
abbrev pub position : Frame → List ℕ
position k = part k.function ++ part k.block ++ part k.done ++ part (length k.calls) ++ part k.promoted

-- the operator's seven numbers, of thread i: the thread, its frames, and those of its newest frame
unfoldable pub standing : ℕ → Thread → List ℕ
standing i t = decimal i ++ part (length (frames t)) ++ position t.newest

-- the bound temporaries from x on, ascending, each with its value
unfoldable pub bindings : ℕ → ℕ → List ℤ → List ℕ
bindings Γ x [] = []
bindings Γ x (v ∷ v̄) = cond (has Γ x) (part x ++ signed_part v) [] ++ bindings Γ (x + 1) v̄

-- what a viewer is shown of the newest frame besides
unfoldable pub values : Viewer → Frame → List ℕ
values Viewer.operator k = []
values Viewer.customer k = bindings k.bound 0 k.values

-- the line of thread i, d levels deep
unfoldable pub line : Viewer → ℕ → ℕ → Thread → List ℕ
line who d i t = indent d ++ standing i t ++ values who t.newest ++ newline
