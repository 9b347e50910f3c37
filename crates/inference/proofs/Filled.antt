-- Laws of scopes and nestings put into blocks: as many blocks, and each where it stood.
use Prim.Native.Nat.{ℕ, zero, suc, ◌+◌, ◌<◌}
use mathlib.Core.Path.{◌≡◌, refl, sym, ◌∙◌, ap}
use mathlib.Core.Option.{some, map}
use mathlib.Core.List.{List, [], ◌∷◌}
use native.Mathlib.Nat.{zero-add}
use native.Mathlib.Omega.{arith}
use lib.ListN.{length, get_elem?}
use Rattle.model.specs.Syntax.{Block, Function, Program}
use Rattle.model.proofs.Facts.{map-some}
use Rattle.inference.specs.Filled.{Scoping, put, filled_from, filled, each_filled}

-- as many blocks
filled_from-length : (a : ℕ → Scoping) (k : ℕ) (B̄ : List Block) → length (filled_from a k B̄) ≡ length B̄
unfolding filled_from
filled_from-length a k [] = refl
filled_from-length a k (B ∷ B̄) = ap suc (filled_from-length a (k + 1) B̄)

pub filled-length : (a : ℕ → Scoping) (F : Function) → length (filled a F).blocks ≡ length F.blocks
unfolding filled
filled-length a F = filled_from-length a 0 F.blocks

-- block b of it is block b, with what it gets; and is missing where that is
filled_from-at : (a : ℕ → Scoping) (k : ℕ) (B̄ : List Block) (b : ℕ) →
    get_elem? (filled_from a k B̄) b ≡ map (put (a (k + b))) (get_elem? B̄ b)
unfolding filled_from
filled_from-at a k [] b = refl
filled_from-at a k (B ∷ B̄) zero =
    let e : k ≡ k + 0 = omega arith in
    ap (λ (n : ℕ). some (put (a n) B)) e
filled_from-at a k (B ∷ B̄) (suc b) =
    let e : k + 1 + b ≡ k + suc b = omega arith in
    filled_from-at a (k + 1) B̄ b ∙ ap (λ (n : ℕ). map (put (a n)) (get_elem? B̄ b)) e

pub filled_at : (a : ℕ → Scoping) (F : Function) (b : ℕ) →
    get_elem? (filled a F).blocks b ≡ map (put (a b)) (get_elem? F.blocks b)
unfolding filled
filled_at a F b = filled_from-at a 0 F.blocks b ∙ ap (λ (n : ℕ). map (put (a n)) (get_elem? F.blocks b)) (zero-add b)

pub filled-block : (a : ℕ → Scoping) (F : Function) (b : ℕ) (B : Block) → get_elem? F.blocks b ≡ some B →
    get_elem? (filled a F).blocks b ≡ some (put (a b) B)
filled-block a F b B e = filled_at a F b ∙ ap (map (put (a b))) e

pub block-filled : (a : ℕ → Scoping) (F : Function) (b : ℕ) (C : Block) → get_elem? (filled a F).blocks b ≡ some C →
    (B : Block) × (get_elem? F.blocks b ≡ some B) × (put (a b) B ≡ C)
block-filled a F b C e = map-some (put (a b)) (get_elem? F.blocks b) (sym (filled_at a F b) ∙ e)

-- the same of the functions of a program
each_filled-from : (a : ℕ → ℕ → Scoping) (k : ℕ) (P : Program) (f : ℕ) →
    get_elem? (each_filled a k P) f ≡ map (filled (a (k + f))) (get_elem? P f)
unfolding each_filled
each_filled-from a k [] f = refl
each_filled-from a k (F ∷ P) zero =
    let e : k ≡ k + 0 = omega arith in
    ap (λ (n : ℕ). some (filled (a n) F)) e
each_filled-from a k (F ∷ P) (suc f) =
    let e : k + 1 + f ≡ k + suc f = omega arith in
    each_filled-from a (k + 1) P f ∙ ap (λ (n : ℕ). map (filled (a n)) (get_elem? P f)) e

each_filled-at : (a : ℕ → ℕ → Scoping) (P : Program) (f : ℕ) →
    get_elem? (each_filled a 0 P) f ≡ map (filled (a f)) (get_elem? P f)
each_filled-at a P f = each_filled-from a 0 P f ∙ ap (λ (n : ℕ). map (filled (a n)) (get_elem? P f)) (zero-add f)

pub filled-function : (a : ℕ → ℕ → Scoping) (P : Program) (f : ℕ) (F : Function) → get_elem? P f ≡ some F →
    get_elem? (each_filled a 0 P) f ≡ some (filled (a f) F)
filled-function a P f F e = each_filled-at a P f ∙ ap (map (filled (a f))) e

-- blocks that are filled in two ways which agree
from-agrees : (a a' : ℕ → Scoping) (c : ℕ) (B̄ : List Block) → ((i : ℕ) → i < length B̄ → a (c + i) ≡ a' (c + i)) →
    filled_from a c B̄ ≡ filled_from a' c B̄
unfolding filled_from
from-agrees a a' c [] h = refl
from-agrees a a' c (B ∷ B̄) h =
    let e : c + 0 ≡ c = omega arith in
    let here : a c ≡ a' c = rw e at (h 0 (omega arith)) in
    let more : (i : ℕ) → i < length B̄ → a (c + 1 + i) ≡ a' (c + 1 + i) =
    λ i l. let z : c + suc i ≡ c + 1 + i = omega arith in rw z at (h (suc i) (omega arith)) in
    rw (here, from-agrees a a' (c + 1) B̄ more)

pub filled-agrees : (a a' : ℕ → Scoping) (F : Function) → ((b : ℕ) → b < length F.blocks → a b ≡ a' b) → filled a F ≡ filled a' F
unfolding filled
filled-agrees a a' F h =
    let e = from-agrees a a' 0 F.blocks (λ i l. h (0 + i) (omega arith)) in
    λ i. record { signature = F.signature; spawns = F.spawns; blocks = e i }
