-- What the writers put of a function is what is written of it with what is kept, under the new numbers: the lists have them.
use Prim.Native.Nat.{ℕ, ◌<◌}
use mathlib.Core.Path.{◌≡◌, refl, sym, ◌∙◌, ap}
use mathlib.Core.Bool.{true}
use mathlib.Core.Option.{Option, none, some}
use mathlib.Core.List.{List, [], ◌∷◌, ◌++◌, map, map-map}
use lib.ListN.{length, get_elem?, length-map}
use Rattle.model.specs.Lists.{concat}
use Rattle.model.specs.Limits.{Limits}
use Rattle.model.specs.Syntax.{Block, SpawnCall, Function, Program, called_by}
use Rattle.model.specs.Write as Write
use Rattle.model.proofs.Facts.{each_map}
use Rattle.numbering.specs.Renamed as Renamed
use Rattle.numbering.specs.Renamed.{Names}
use Rattle.numbering.specs.Mentions.{of, targets_of, spawns_of, Closed}
use Rattle.numbering.specs.Tidy.{member, kept_blocks, kept_spawns, kept_functions, place, before, picked, names_in, tidy_function}
use Rattle.numbering.proofs.Lists.{each_member, member-each, picked-length}
use Rattle.numbering.proofs.Kept.{kept-blocks, kept-spawns, kept-functions}
use Rattle.kept.specs.declared.Kept.{Kept}
use Rattle.kept.specs.Kept.{most, number_in, Lists}
use Rattle.tidy.specs.declared.Numbering.{Numbering}
use Rattle.tidy.specs.Writes.{names_by}
use Rattle.tidy.specs.Tables.{spawn_bytes, block_bytes, spawn_in, block_in, counts_of, each_spawn, each_block}
use Rattle.numbering.proofs.Agreeing.{map-agrees, block-agrees, spawn-agrees}

-- a list has the new number of what is in it
number_is : {list : Kept} {xs : List ℕ} → Lists list xs → (x : ℕ) → member x xs ≡ true → number_in list x ≡ place xs x
number_is {list} {xs} l x m = l.numbers x (each_member (λ y. y < most) xs x l.each m) ∙ rw m

-- what is written of those picked: for each number what is written of the thing
pub picked-written : {A : Type 0} (w : A → List ℕ) (xs : List A) (ī : List ℕ) →
    concat (map w (picked xs ī)) ≡ concat (map (λ i. of w (get_elem? xs i)) ī)
unfolding concat picked before of
picked-written w xs [] = refl
picked-written {A} w xs (i ∷ ī) = go (get_elem? xs i) (picked-written w xs ī)
  where
    go : (o : Option A) → concat (map w (picked xs ī)) ≡ concat (map (λ i. of w (get_elem? xs i)) ī) →
        concat (map w (before o (picked xs ī))) ≡ of w o ++ concat (map (λ i. of w (get_elem? xs i)) ī)
    go none e = e
    go (some x) e = ap (λ (l : List ℕ). w x ++ l) e

-- the new numbers that are written of a function
abbrev tidy_names : Program → Function → Names
tidy_names P F = names_in (kept_functions P) F

-- a kept function: its kept spawn calls and blocks mention what is kept, where the lists have the numbers that are written
module _ (P : Program) (C : Closed P) (L : Limits P) (f : ℕ) (F : Function) (e : get_elem? P f ≡ some F)
    (k : member f (kept_functions P) ≡ true) (numbers : Numbering) (l : Lists numbers.functions (kept_functions P)) where
  -- a kept spawn call, and all of them
  spawn-same : (π : ℕ) → member π (kept_spawns F) ≡ true → each_spawn numbers F π ≡ spawn_in (tidy_names P F) F π
  unfolding of spawn_bytes names_in
  spawn-same π m = go (get_elem? F.spawns π) refl
    where
      go : (o : Option SpawnCall) → get_elem? F.spawns π ≡ o →
          of (spawn_bytes (names_by numbers)) o ≡ of (spawn_bytes (names_in (kept_functions P) F)) o
      go none q = refl
      go (some S) q =
          ap Write.spawn_call
          (spawn-agrees (names_by numbers) (names_in (kept_functions P) F) S
          (number_is l S.function ((kept-functions P C L).spawned f F k e π S m q)))

  spawns-written : concat (map (each_spawn numbers F) (kept_spawns F)) ≡
      concat (map Write.spawn_call (map (Renamed.spawn_call (tidy_names P F)) (picked F.spawns (kept_spawns F))))
  unfolding spawn_bytes
  spawns-written =
      ap concat (map-agrees (each_spawn numbers F) (spawn_in (tidy_names P F) F) (kept_spawns F)
      (member-each (λ π. each_spawn numbers F π ≡ spawn_in (tidy_names P F) F π) (kept_spawns F) spawn-same))
      ∙ sym (picked-written (spawn_bytes (tidy_names P F)) F.spawns (kept_spawns F))
      ∙ sym (ap concat (map-map Write.spawn_call (Renamed.spawn_call (tidy_names P F)) (picked F.spawns (kept_spawns F))))

  module _ (lb : Lists numbers.blocks (kept_blocks F)) (ls : Lists numbers.spawns (kept_spawns F)) where
    -- a kept block, and all of them
    block_same : (x : ℕ) → member x (kept_blocks F) ≡ true → each_block numbers F x ≡ block_in (tidy_names P F) F x
    unfolding of block_bytes names_in
    block_same x m = go (get_elem? F.blocks x) refl
      where
        go : (o : Option Block) → get_elem? F.blocks x ≡ o →
            of (block_bytes (names_by numbers)) o ≡ of (block_bytes (names_in (kept_functions P) F)) o
        go none q = refl
        go (some B) q =
            ap Write.block
            (block-agrees (names_by numbers) (names_in (kept_functions P) F) B
            (each_map (number_is lb) (targets_of B) ((kept-blocks P C L f F e).targets x B m q))
            (each_map (number_is ls) (spawns_of B) ((kept-spawns P C L f F e).mentioned x B m q))
            (each_map (number_is l) (called_by B.transfer) ((kept-functions P C L).called f F k e x B m q)))

    blocks-written : concat (map (each_block numbers F) (kept_blocks F)) ≡
        concat (map Write.block (map (Renamed.block (tidy_names P F)) (picked F.blocks (kept_blocks F))))
    unfolding block_bytes
    blocks-written =
        ap concat (map-agrees (each_block numbers F) (block_in (tidy_names P F) F) (kept_blocks F)
        (member-each (λ x. each_block numbers F x ≡ block_in (tidy_names P F) F x) (kept_blocks F) block_same))
        ∙ sym (picked-written (block_bytes (tidy_names P F)) F.blocks (kept_blocks F))
        ∙ sym (ap concat (map-map Write.block (Renamed.block (tidy_names P F)) (picked F.blocks (kept_blocks F))))

    -- the function
    pub function-written :
        counts_of numbers.blocks.count numbers.spawns.count F ++
        (concat (map (each_spawn numbers F) (kept_spawns F)) ++ concat (map (each_block numbers F) (kept_blocks F)))
        ≡ Write.function (tidy_function (kept_functions P) F)
    unfolding Write.function_by tidy_function
    function-written =
        let nb : length (map (Renamed.block (tidy_names P F)) (picked F.blocks (kept_blocks F))) ≡ numbers.blocks.count =
        length-map (picked F.blocks (kept_blocks F)) (Renamed.block (tidy_names P F))
        ∙ picked-length F.blocks (kept_blocks F) (kept-blocks P C L f F e).below ∙ sym lb.count in
        let ns : length (map (Renamed.spawn_call (tidy_names P F)) (picked F.spawns (kept_spawns F))) ≡ numbers.spawns.count =
        length-map (picked F.spawns (kept_spawns F)) (Renamed.spawn_call (tidy_names P F))
        ∙ picked-length F.spawns (kept_spawns F) (kept-spawns P C L f F e).below ∙ sym ls.count in
        rw (spawns-written, blocks-written, nb, ns)
