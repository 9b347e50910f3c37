-- What `stretch`, `half` and `word` put; and what a stretch is, where something stands between two offsets.
use Prim.Native.Nat.{ℕ, ◌+◌, ◌-◌, ◌^◌, ◌≤◌, ◌<◌}
use mathlib.Core.Path.{◌≡◌, refl, ap, ap₂, ◌∙◌}
use mathlib.Core.Bool.{Bool, true, false, cond}
use mathlib.Core.Logic.{◌⊎◌, inl, inr}
use mathlib.Core.List.{List, [], ◌∷◌}
use native.Mathlib.Omega.{arith}
use lib.Dec.{ltb}
use lib.ListN.{length, take, drop, length-append, length-drop}
use lib.Seq.{take-append_seam}
use borrow.Author.Tests.{lt-ltb, le-ltb}
use Rattle.std.specs.Int.{w16, w32, to_be_bytes}
use Rattle.model.specs.Write as Write
use Rattle.model.proofs.Undoing.{Between}
use Rattle.puts.specs.Puts.{Puts, stretch}
use Rattle.puts.proofs.Laws.{none, same}

nothing : (b : Bool) → cond {A = List ℕ} b [] [] ≡ []
nothing true = refl
nothing false = refl

-- a stretch that is none, and one that is
module _ (s : List ℕ) (from to : ℕ) {d : List ℕ} {k : ℕ} where
  pub outside : (to < from) ⊎ (length s < to) → Puts d k (stretch s from to) k d
  unfolding stretch
  outside (inl h) = rw (lt-ltb to from h) none
  outside (inr h) = rw (lt-ltb (length s) to h, nothing (ltb to from)) none

  pub inside : {r : ℕ} {d' : List ℕ} → from ≤ to → to ≤ length s → Puts d k (take (to - from) (drop from s)) r d'
      → Puts d k (stretch s from to) r d'
  unfolding stretch
  inside g h p = rw (le-ltb to from g, le-ltb (length s) to h) p

-- numbers of two and of four bytes
half-is : (n : ℕ) → n < 2 ^ 16 → to_be_bytes w16 n ≡ Write.half n
unfolding Write.half
half-is n h = ap₂ {C = List ℕ} ◌∷◌ (omega arith) (ap₂ {C = List ℕ} ◌∷◌ (omega arith) refl)

word-is : (n : ℕ) → n < 2 ^ 32 → to_be_bytes w32 n ≡ Write.word n
unfolding Write.word Write.half
word-is n h =
    ap₂ {C = List ℕ} ◌∷◌ (omega arith)
    (ap₂ {C = List ℕ} ◌∷◌ (omega arith) (ap₂ {C = List ℕ} ◌∷◌ (omega arith) (ap₂ {C = List ℕ} ◌∷◌ (omega arith) refl)))

module _ (n : ℕ) {d xs : List ℕ} {k r : ℕ} {d' : List ℕ} where
  pub half-put : n < 2 ^ 16 → xs ≡ to_be_bytes w16 n → Puts d k xs r d' → Puts d k (Write.half n) r d'
  half-put h e p = same p (e ∙ half-is n h)

  pub word-put : n < 2 ^ 32 → xs ≡ to_be_bytes w32 n → Puts d k xs r d' → Puts d k (Write.word n) r d'
  word-put h e p = same p (e ∙ word-is n h)

-- what stands from an offset of s on ends within s
pub between-inside : (s : List ℕ) (at k : ℕ) (xs : List ℕ) → at ≤ length s → Between s at k xs → k ≤ length s
between-inside s at k xs h b =
    omega
    (arith, b.end, length-drop at s, length-drop (at + length xs) s, ap length b.stand.is ∙ length-append xs _)

-- and is the stretch between the two
pub stretch-is : {s : List ℕ} {at k : ℕ} {xs : List ℕ} → at ≤ length s → Between s at k xs → stretch s at k ≡ xs
unfolding stretch
stretch-is {s} {at} {k} {xs} h b =
    let n : k - at ≡ length xs = omega (arith, b.end) in
    rw (le-ltb k at (omega (arith, b.end)), le-ltb (length s) k (between-inside s at k xs h b), n, b.stand.is)
    (take-append_seam xs _)
