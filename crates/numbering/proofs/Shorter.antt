-- A tidy table is never longer: things under other numbers take as many bytes, and those picked by distinct numbers no more than all.
use Prim.Native.Nat.{ℕ, suc, ◌≤◌}
use mathlib.Core.Path.{◌≡◌, refl, ap}
use mathlib.Core.List.{List, [], ◌∷◌, map}
use native.Mathlib.Omega.{arith}
use lib.ListN.{length, length-append}
use Rattle.model.specs.Lists.{concat}
use Rattle.model.specs.Syntax.{Transfer, Block, SpawnCall, Function, Program}
use Rattle.model.specs.Write as Write
use Rattle.numbering.specs.Renamed as Renamed
use Rattle.numbering.specs.Renamed.{Names}
use Rattle.numbering.specs.Tidy.{Distinct, kept_blocks, kept_spawns, kept_functions, picked, names_in, tidy_function, tidied}
use Rattle.numbering.proofs.Lists.{amount, amount-picked, amount-less}
use Rattle.numbering.proofs.Kept.{blocks-distinct, spawns-distinct, functions-distinct}

-- how much is written of a list; and of what g makes of it
written : {A : Type 0} (w : A → List ℕ) (xs : List A) → length (concat (map w xs)) ≡ amount (λ x. length (w x)) xs
unfolding concat amount
written w [] = refl
written w (x ∷ xs) = omega (arith, length-append (w x) (concat (map w xs)), written w xs)

amount-map : {A B : Type 0} (f : B → ℕ) (g : A → B) (xs : List A) → amount f (map g xs) ≡ amount (λ x. f (g x)) xs
unfolding amount
amount-map f g [] = refl
amount-map f g (x ∷ xs) = omega (arith, amount-map f g xs)

-- where g makes nothing longer, what it makes of those picked by distinct numbers takes no more than all
picked-shorter : {A B : Type 0} (w : A → List ℕ) (v : B → List ℕ) (g : A → B) → ((x : A) → length (v (g x)) ≤ length (w x)) →
    (xs : List A) (ī : List ℕ) → Distinct ī → length (concat (map v (map g (picked xs ī)))) ≤ length (concat (map w xs))
picked-shorter w v g h xs ī d =
    omega (
      arith,
      written v (map g (picked xs ī)),
      amount-map (λ y. length (v y)) g (picked xs ī),
      amount-less (λ x. length (v (g x))) (λ x. length (w x)) (picked xs ī) h,
      amount-picked (λ x. length (w x)) xs ī d,
      written w xs,
    )

-- names under other numbers
names-length : (f : ℕ → ℕ) (xs : List ℕ) → length (Write.arguments (map f xs)) ≡ length (Write.arguments xs)
unfolding Write.arguments Write.counted concat
names-length f [] = refl
names-length f (x ∷ xs) = ap suc (names-length f xs)

-- transfers, blocks and spawn calls under other numbers
module _ (N : Names) where
  transfer-length : (T : Transfer) → length (Write.transfer (Renamed.transfer N T)) ≡ length (Write.transfer T)
  unfolding Write.transfer Renamed.transfer
  transfer-length (Transfer.goto b x̄) = refl
  transfer-length (Transfer.if e b c) = simp length-append
  transfer-length (Transfer.call g x̄ b) = simp length-append
  transfer-length (Transfer.return x̄) = refl
  transfer-length (Transfer.spork b π) = refl
  transfer-length (Transfer.spoin b c) = refl

  block-length : (B : Block) → length (Write.block (Renamed.block N B)) ≡ length (Write.block B)
  unfolding Write.block_by Write.head Renamed.block Renamed.head
  block-length B = simp (length-append, names-length, transfer-length)

  spawn-length : (S : SpawnCall) → length (Write.spawn_call (Renamed.spawn_call N S)) ≡ length (Write.spawn_call S)
  unfolding Write.spawn_call Renamed.spawn_call
  spawn-length S = refl

-- a function with what is kept of it, and the table
function-shorter : (fs : List ℕ) (F : Function) → length (Write.function (tidy_function fs F)) ≤ length (Write.function F)
unfolding Write.function_by tidy_function
function-shorter fs F =
    let N : Names = names_in fs F in
    let s : length (concat (map Write.spawn_call (map (Renamed.spawn_call N) (picked F.spawns (kept_spawns F))))) ≤
    length (concat (map Write.spawn_call F.spawns)) =
    picked-shorter Write.spawn_call Write.spawn_call (Renamed.spawn_call N) (λ S. omega (arith, spawn-length N S))
    F.spawns (kept_spawns F) (spawns-distinct F) in
    let b : length (concat (map Write.block (map (Renamed.block N) (picked F.blocks (kept_blocks F))))) ≤
    length (concat (map Write.block F.blocks)) =
    picked-shorter Write.block Write.block (Renamed.block N) (λ B. omega (arith, block-length N B))
    F.blocks (kept_blocks F) (blocks-distinct F) in
    simp length-append (omega arith)

pub tidied-shorter : (P : Program) → length (Write.table (tidied P)) ≤ length (Write.table P)
unfolding Write.table Write.program_by Write.counted Write.word Write.half tidied
tidied-shorter P =
    let fs : List ℕ = kept_functions P in
    omega (
      arith,
      picked-shorter Write.function Write.function (tidy_function fs) (function-shorter fs) P fs (functions-distinct P),
    )
