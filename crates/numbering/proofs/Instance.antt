-- The tidy table has what is kept of the program under its new numbers, the places in the lists of what is kept; no two kept things
-- have one number, and it has nothing else.
use Prim.Native.Nat.{ℕ}
use mathlib.Core.Path.{◌≡◌, refl, sym, ◌∙◌}
use mathlib.Core.Bool.{true}
use mathlib.Core.Option.{some}
use lib.ListN.{get_elem?}
use Rattle.model.specs.Syntax.{Block, SpawnCall, Function, Program}
use Rattle.model.specs.Limits.{Limits}
use Rattle.model.proofs.Facts.{some-injective, each_map, below_at}
use Rattle.numbering.specs.Renamed as Renamed
use Rattle.numbering.specs.Mentions.{of, targets_of, spawns_of, Closed}
use Rattle.numbering.specs.Tidy.{member, kept_blocks, kept_spawns, kept_functions, place, names_in, tidy_function, tidied}
use Rattle.numbering.specs.Renumbers.{Numbering, BlockKept, SpawnKept, CopiedBlock, CopiedSpawn, Copied}
use Rattle.numbering.specs.Renumbers.{Renumbers, Apart, Onto}
use Rattle.numbering.proofs.Lists.{each_member, at-member, place_of, place-apart, picked-place, picked-from}
use Rattle.numbering.proofs.Kept.{kept-functions, kept-blocks, kept-spawns}

-- the new numbers of a tidy table, and what it keeps: of a missing function nothing
abbrev pub tidy_numbers : Program → Numbering
tidy_numbers P =
    record {
      function = place (kept_functions P);
      block = λ f. place (of kept_blocks (get_elem? P f));
      spawn = λ f. place (of kept_spawns (get_elem? P f));
      keeps_function = λ f. member f (kept_functions P);
      keeps_block = λ f b. member b (of kept_blocks (get_elem? P f));
      keeps_spawn = λ f π. member π (of kept_spawns (get_elem? P f));
    }

module _ (P : Program) (C : Closed P) (L : Limits P) where
  -- a kept function, and each kept block and spawn call of it, is copied
  module _ (f : ℕ) (F : Function) (k : member f (kept_functions P) ≡ true) (e : get_elem? P f ≡ some F) where
    copied-block : (b : ℕ) → BlockKept (tidy_numbers P) f b → CopiedBlock (tidy_numbers P) f F (tidy_function (kept_functions P) F) b
    unfolding of tidy_function names_in
    copied-block b h =
        let K = kept-blocks P C L f F e in
        let S = kept-spawns P C L f F e in
        let j : member b (kept_blocks F) ≡ true = rw e at h in
        let (B, at) = below_at F.blocks b (each_member (λ b. _) (kept_blocks F) b K.below j) in
        record {
          block = B;
          old = at;
          new = rw e (picked-place (Renamed.block (names_in (kept_functions P) F)) F.blocks (kept_blocks F) K.below b j at);
          blocks = each_map (λ c m. rw e m) (targets_of B) (K.targets b B j at);
          spawns = each_map (λ π m. rw e m) (spawns_of B) (S.mentioned b B j at);
          calls = (kept-functions P C L).called f F k e b B j at;
        }

    copied-spawn : (π : ℕ) → SpawnKept (tidy_numbers P) f π → CopiedSpawn (tidy_numbers P) f F (tidy_function (kept_functions P) F) π
    unfolding of tidy_function names_in
    copied-spawn π h =
        let K = kept-spawns P C L f F e in
        let j : member π (kept_spawns F) ≡ true = rw e at h in
        let (S, at) = below_at F.spawns π (each_member (λ π. _) (kept_spawns F) π K.below j) in
        record {
          call = S;
          old = at;
          new = rw e (picked-place (Renamed.spawn_call (names_in (kept_functions P) F)) F.spawns (kept_spawns F) K.below π j at);
          function = (kept-functions P C L).spawned f F k e π S j at;
        }

    copied : Copied (tidy_numbers P) P (tidied P) f
    unfolding of tidied tidy_function
    copied =
        let K = kept-blocks P C L f F e in
        record {
          before = F;
          after = tidy_function (kept_functions P) F;
          old = e;
          new = picked-place (tidy_function (kept_functions P)) P (kept_functions P) (kept-functions P C L).below f k e;
          signature = refl;
          entry_kept = rw e (at-member (kept_blocks F) 0 K.entry);
          entry = rw e (place_of (kept_blocks F) 0 K.distinct K.entry);
          blocks = copied-block;
          spawns = copied-spawn;
        }

    -- what stands under the function's new number, and what is there
    after_is : {G : Function} → get_elem? (tidied P) (place (kept_functions P) f) ≡ some G → G ≡ tidy_function (kept_functions P) F
    unfolding copied
    after_is h = some-injective (sym h ∙ copied.new)

    from_block : (G : Function) → get_elem? (tidied P) (place (kept_functions P) f) ≡ some G →
        (c : ℕ) (B : Block) → get_elem? G.blocks c ≡ some B →
        (b : ℕ) × BlockKept (tidy_numbers P) f b × ((tidy_numbers P).block f b ≡ c)
    unfolding of tidy_function
    from_block G h c B at =
        let K = kept-blocks P C L f F e in
        let new : get_elem? (tidy_function (kept_functions P) F).blocks c ≡ some B = rw (after_is h) at at in
        rw e
        (picked-from (Renamed.block (names_in (kept_functions P) F)) F.blocks (kept_blocks F) K.below c K.distinct new)

    from-spawn : (G : Function) → get_elem? (tidied P) (place (kept_functions P) f) ≡ some G →
        (χ : ℕ) (S : SpawnCall) → get_elem? G.spawns χ ≡ some S →
        (π : ℕ) × SpawnKept (tidy_numbers P) f π × ((tidy_numbers P).spawn f π ≡ χ)
    unfolding of tidy_function
    from-spawn G h χ S at =
        let K = kept-spawns P C L f F e in
        let new : get_elem? (tidy_function (kept_functions P) F).spawns χ ≡ some S = rw (after_is h) at at in
        rw e
        (picked-from (Renamed.spawn_call (names_in (kept_functions P) F)) F.spawns (kept_spawns F) K.below χ K.distinct new)

  -- a kept function is there
  there : (f : ℕ) → member f (kept_functions P) ≡ true → (F : Function) × (get_elem? P f ≡ some F)
  there f k = below_at P f (each_member (λ f. _) (kept_functions P) f (kept-functions P C L).below k)

  -- the tidy table under its numbers, and that it has nothing else
  pub tidied-renumbers : Renumbers (tidy_numbers P) P (tidied P)
  tidied-renumbers =
      let K = kept-functions P C L in
      record {
        main_kept = at-member (kept_functions P) 0 K.main;
        main = place_of (kept_functions P) 0 K.distinct K.main;
        copies = λ f k. let (F, e) = there f k in copied f F k e;
      }

  pub tidied-onto : Onto (tidy_numbers P) P (tidied P)
  unfolding tidied
  tidied-onto =
      let K = kept-functions P C L in
      record {
        functions = λ g G e. picked-from (tidy_function (kept_functions P)) P (kept_functions P) K.below g K.distinct e;
        blocks = λ f k. let (F, e) = there f k in from_block f F k e;
        spawns = λ f k. let (F, e) = there f k in from-spawn f F k e;
      }

-- no two kept things have one place
pub tidied-apart : (P : Program) → Apart (tidy_numbers P)
tidied-apart P =
    record {
      functions = place-apart (kept_functions P);
      blocks = λ f b c k. place-apart (of kept_blocks (get_elem? P f)) b c;
      spawns = λ f π χ k. place-apart (of kept_spawns (get_elem? P f)) π χ;
    }
