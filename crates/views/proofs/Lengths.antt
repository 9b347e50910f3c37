-- How long a line gets, whatever its values are: an operator's at most 24 bytes, newline included, and a customer's 424.
use Prim.Native.Nat.{ℕ, ◌+◌, ◌*◌, ◌≤◌, ◌<◌}
use mathlib.Core.Bool.{cond}
use mathlib.Core.List.{List, [], ◌∷◌, ◌++◌}
use native.Mathlib.Omega.{arith}
use lib.IntN.{ℤ, pos, negsuc}
use lib.ListN.{length, length-append, length-replicate}
use Rattle.model.specs.Sets.{has}
use Rattle.model.specs.Text.{signed_decimal, part, signed_part}
use Rattle.model.specs.Syntax.{Program}
use Rattle.model.specs.Limits.{InFunction, InBlock, Limits}
use Rattle.model.specs.Pool.{Frame, Thread, frames, temporaries, most_threads, function_of}
use Rattle.model.specs.Valid.{IsFrame, IsThread}
use Rattle.model.proofs.Facts.{at-below, each_at}
use Rattle.model.proofs.Texts.{either, decimal-most, decimal-below, part-below}
use Rattle.views.specs.Lines.{Viewer, standing, bindings, values, line}

-- a value has at most twenty digits, a sign and a space before it
signed-most : (z : ℤ) → length (signed_part z) ≤ 22
unfolding signed_part signed_decimal
signed-most (pos n) = let d = decimal-most n in omega arith
signed-most (negsuc n) = let d = decimal-most (n + 1) in omega arith

-- a temporary that is bound, and all of them
binding-most : (Γ x : ℕ) (v : ℤ) → x < temporaries → length (cond (has Γ x) (part x ++ signed_part v) []) ≤ 25
binding-most Γ x v h =
    let a = part-below 1 x (omega arith) in
    let b = signed-most v in
    let e = length-append (part x) (signed_part v) in
    either (λ t. length t ≤ 25) (has Γ x) (part x ++ signed_part v) [] (omega arith) (omega arith)

bindings-most : (Γ x : ℕ) (v̄ : List ℤ) → x + length v̄ ≤ temporaries → length (bindings Γ x v̄) ≤ 25 * length v̄
unfolding bindings
bindings-most Γ x [] h = omega arith
bindings-most Γ x (v ∷ v̄) h =
    let a = binding-most Γ x v (omega arith) in
    let b = bindings-most Γ (x + 1) v̄ (omega arith) in
    let e = length-append (cond (has Γ x) (part x ++ signed_part v) []) (bindings Γ (x + 1) v̄) in
    omega arith

-- the numbers of a frame of a table that reads
record Placed (k : Frame) : Type 0 where
  function : k.function < 16
  block : k.block < 32
  done : k.done ≤ 32

placed : (P : Program) (k : Frame) → Limits P → IsFrame P k → Placed k
unfolding function_of
placed P k L h =
    let S = h.stands in
    let F = each_at InFunction P k.function L.functions S.found in
    let B = each_at InBlock S.function.blocks k.block F.blocks S.there in
    record {
      function = omega (arith, at-below P k.function S.found, L.few);
      block = omega (arith, at-below S.function.blocks k.block S.there, F.few_blocks);
      done = omega (arith, S.done, B.few);
    }

-- a line, at most seven levels deep
abbrev pub most : Viewer → ℕ
most Viewer.operator = 24
most Viewer.customer = 424

module _ (P : Program) (L : Limits P) (t : Thread) (h : IsThread P t) where
  standing-most : (i : ℕ) → i < most_threads → length (standing i t) ≤ 16
  unfolding standing
  standing-most i b =
      let k = t.newest in
      let q = placed P k L h.newest in
      let a₀ = decimal-below 0 i (omega arith) in
      let a₁ = part-below 0 (length (frames t)) (omega (arith, h.few)) in
      let a₂ = part-below 1 k.function (omega (arith, q.function)) in
      let a₃ = part-below 1 k.block (omega (arith, q.block)) in
      let a₄ = part-below 1 k.done (omega (arith, q.done)) in
      let a₅ = part-below 0 (length k.calls) (omega (arith, h.newest.few)) in
      let a₆ = part-below 0 k.promoted (omega (arith, h.newest.few, h.newest.promoted)) in
      simp length-append (omega arith)

  values-most : (who : Viewer) → length (values who t.newest) + 24 ≤ most who
  unfolding values
  values-most Viewer.operator = omega arith
  values-most Viewer.customer =
      let n = h.newest.sized in
      let b = bindings-most t.newest.bound 0 t.newest.values (omega arith) in
      omega arith

  pub line-most : (who : Viewer) (i : ℕ) → i < most_threads → (d : ℕ) → d < most_threads → length (line who d i t) ≤ most who
  unfolding line
  line-most who i b d c =
      let s = standing-most i b in
      let v = values-most who in
      simp (length-append, length-replicate) (omega arith)
