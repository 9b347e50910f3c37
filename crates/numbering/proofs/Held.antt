-- The tidy table is within the limits, and a table can hold it.
use Prim.Native.Nat.{ℕ, ◌≤◌}
use mathlib.Core.Path.{◌≡◌}
use mathlib.Core.Option.{some}
use mathlib.Core.List.{List, [], ◌∷◌, map}
use native.Mathlib.Omega.{arith}
use lib.ListN.{length, get_elem?, length-map}
use Rattle.model.specs.Lists.{Each}
use Rattle.model.specs.Syntax.{Transfer, Block, SpawnCall, Function, Program}
use Rattle.model.specs.Limits.{Limits, InTransfer, InBlock, InSpawn, InFunction}
use Rattle.model.specs.Write.{Name, HoldsTransfer, HoldsBlock, HoldsFunction, Holds}
use Rattle.model.proofs.Facts.{none-some, some-injective, each_map, each_at, at_each, below_at}
use Rattle.numbering.specs.Renamed as Renamed
use Rattle.numbering.specs.Renamed.{Names}
use Rattle.numbering.specs.Mentions.{Closed}
use Rattle.numbering.specs.Tidy.{kept_blocks, kept_spawns, kept_functions, place, before, picked, names_in, tidy_function, tidied}
use Rattle.numbering.proofs.Lists.{place-most, picked-each, picked-few, distinct-few}
use Rattle.numbering.proofs.Kept.{blocks-distinct, blocks-entry, spawns-distinct, functions-distinct, functions-main}
use Rattle.numbering.proofs.Kept.{kept-functions, kept-blocks, kept-spawns}
use Rattle.numbering.proofs.Mentioned.{map_each}
use Rattle.numbering.proofs.Shorter.{tidied-shorter}

-- what is picked by 0 first is not nothing
picked-some : {A : Type 0} (xs : List A) (ī : List ℕ) → get_elem? ī 0 ≡ some 0 → 1 ≤ length xs → 1 ≤ length (picked xs ī)
unfolding picked before
picked-some xs [] e l = none-some e
picked-some xs (i ∷ ī) e l =
    let (x, h) = below_at xs 0 l in
    rw (some-injective e, h) (omega arith)

-- under other numbers a transfer, a block and a spawn call stay within the limits
module _ (N : Names) where
  in-transfer : (T : Transfer) → InTransfer T → InTransfer (Renamed.transfer N T)
  unfolding InTransfer Renamed.transfer
  in-transfer (Transfer.goto b x̄) h = h
  in-transfer (Transfer.if e b c) h = h
  in-transfer (Transfer.call g x̄ b) h = h
  in-transfer (Transfer.return x̄) h = h
  in-transfer (Transfer.spork b π) h = h
  in-transfer (Transfer.spoin b c) h = h

  in_block : (B : Block) → InBlock B → InBlock (Renamed.block N B)
  unfolding Renamed.block Renamed.head
  in_block B h =
      record {
        head = record {
          parameters = h.head.parameters;
          scope = h.head.scope;
          nesting = rw length-map h.head.nesting;
        };
        few = h.few;
        code = h.code;
        transfer = in-transfer B.transfer h.transfer;
      }

  in-spawn : (S : SpawnCall) → InSpawn S → InSpawn (Renamed.spawn_call N S)
  unfolding Renamed.spawn_call
  in-spawn S h = h

-- and so do a function with what is kept of it, and the program
in-function : (fs : List ℕ) (F : Function) → InFunction F → InFunction (tidy_function fs F)
unfolding tidy_function
in-function fs F h =
    let N : Names = names_in fs F in
    let ss : List SpawnCall = picked F.spawns (kept_spawns F) in
    let bs : List Block = picked F.blocks (kept_blocks F) in
    record {
      parameters = h.parameters;
      returns = h.returns;
      few_spawns = omega (arith, length-map ss (Renamed.spawn_call N), picked-few F.spawns (kept_spawns F) (spawns-distinct F));
      spawns = map_each InSpawn (Renamed.spawn_call N) ss
          (each_map (in-spawn N) ss (picked-each InSpawn F.spawns (kept_spawns F) h.spawns));
      some_block =
          omega (arith, length-map bs (Renamed.block N), picked-some F.blocks (kept_blocks F) (blocks-entry F) h.some_block);
      few_blocks = omega (arith, length-map bs (Renamed.block N), picked-few F.blocks (kept_blocks F) (blocks-distinct F));
      blocks = map_each InBlock (Renamed.block N) bs
          (each_map (in_block N) bs (picked-each InBlock F.blocks (kept_blocks F) h.blocks));
    }

pub tidied-limits : (P : Program) → Limits P → Limits (tidied P)
unfolding tidied
tidied-limits P h =
    let fs : List ℕ = kept_functions P in
    let l = length-map (picked P fs) (tidy_function fs) in
    record {
      some = omega (arith, l, picked-some P fs (functions-main P) h.some);
      few = omega (arith, l, picked-few P fs (functions-distinct P));
      functions = map_each InFunction (tidy_function fs) (picked P fs)
          (each_map (in-function fs) (picked P fs) (picked-each InFunction P fs h.functions));
    }

-- where the new numbers are bytes, a table can hold a transfer, a block and a spawn call under them
module _ (N : Names) (function : (g : ℕ) → Name (N.function g)) (block : (b : ℕ) → Name (N.block b))
    (spawn : (π : ℕ) → Name (N.spawn π)) where
  holds-transfer : (T : Transfer) → HoldsTransfer T → HoldsTransfer (Renamed.transfer N T)
  unfolding HoldsTransfer Renamed.transfer
  holds-transfer (Transfer.goto b x̄) h = block b
  holds-transfer (Transfer.if e b c) h = (h.0, block b, block c)
  holds-transfer (Transfer.call g x̄ b) h = (function g, block b)
  holds-transfer (Transfer.return x̄) h = h
  holds-transfer (Transfer.spork b π) h = (block b, spawn π)
  holds-transfer (Transfer.spoin b c) h = (block b, block c)

  each-name : (xs : List ℕ) → Each Name (map N.spawn xs)
  each-name [] = tt
  each-name (x ∷ xs) = (spawn x, each-name xs)

  holds-block : (B : Block) → HoldsBlock B → HoldsBlock (Renamed.block N B)
  unfolding Renamed.block Renamed.head
  holds-block B h =
      record { nesting = each-name B.head.nesting; code = h.code; transfer = holds-transfer B.transfer h.transfer }

  holds-spawn : (S : SpawnCall) → Name S.function → Name (Renamed.spawn_call N S).function
  unfolding Renamed.spawn_call
  holds-spawn S h = function S.function

-- places are no further than how many are kept, and so are bytes; values and temporaries stay
module _ (P : Program) (C : Closed P) where
  holds-function : Holds P → (f : ℕ) (F : Function) → get_elem? P f ≡ some F → HoldsFunction (tidy_function (kept_functions P) F)
  unfolding tidy_function names_in
  holds-function H f F e =
      let fs : List ℕ = kept_functions P in
      let L = H.limits in
      let I : InFunction F = each_at InFunction P f L.functions e in
      let K = kept-functions P C L in
      let Kb = kept-blocks P C L f F e in
      let Ks = kept-spawns P C L f F e in
      let N : Names = names_in fs F in
      let h : HoldsFunction F = each_at HoldsFunction P f H.functions e in
      let function : (g : ℕ) → Name (place fs g) =
      λ g. omega (arith, place-most fs g, distinct-few (length P) fs K.distinct K.below, L.few) in
      let block : (b : ℕ) → Name (place (kept_blocks F) b) =
      λ b. omega (
        arith,
        place-most (kept_blocks F) b,
        distinct-few (length F.blocks) (kept_blocks F) Kb.distinct Kb.below,
        I.few_blocks,
      ) in
      let spawn : (π : ℕ) → Name (place (kept_spawns F) π) =
      λ π. omega (
        arith,
        place-most (kept_spawns F) π,
        distinct-few (length F.spawns) (kept_spawns F) Ks.distinct Ks.below,
        I.few_spawns,
      ) in
      let ss : List SpawnCall = picked F.spawns (kept_spawns F) in
      let bs : List Block = picked F.blocks (kept_blocks F) in
      record {
        spawns = map_each (λ S. Name S.function) (Renamed.spawn_call N) ss
            (each_map (holds-spawn N function block spawn) ss
            (picked-each (λ S. Name S.function) F.spawns (kept_spawns F) h.spawns));
        blocks = map_each HoldsBlock (Renamed.block N) bs
            (each_map (holds-block N function block spawn) bs (picked-each HoldsBlock F.blocks (kept_blocks F) h.blocks));
      }

  pub tidied-holds : Holds P → Holds (tidied P)
  unfolding tidied
  tidied-holds H =
      let fs : List ℕ = kept_functions P in
      let Q : Function → Type 0 = λ F. HoldsFunction (tidy_function fs F) in
      record {
        limits = tidied-limits P H.limits;
        functions = map_each HoldsFunction (tidy_function fs) (picked P fs) (picked-each Q P fs (at_each Q P (holds-function H)));
        short = omega (arith, tidied-shorter P, H.short);
      }
