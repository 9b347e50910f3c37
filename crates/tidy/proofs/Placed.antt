-- What stands at a place is put: a function's counts, a spawn call, a block.
use Prim.Native.Nat.{ℕ}
use mathlib.Core.Path.{◌≡◌, sym, ◌∙◌, subst}
use mathlib.Core.Option.{none, some}
use mathlib.Core.List.{List, [], ◌∷◌}
use Rattle.std.specs.Prelude.{Some, None}
use lib.ListN.{get_elem?}
use Rattle.model.specs.Pool as Pool
use Rattle.model.proofs.Facts.{none-some, some-injective}
use Rattle.code.specs.Bytes.{past}
use Rattle.places.specs.Places as Places
use Rattle.places.specs.Places.{Place, FindsFunction, FindsBlock, FindsSpawn}
use Rattle.puts.specs.Puts.{Puts, stretch}
use Rattle.puts.proofs.Laws as Puts-laws
use Rattle.puts.proofs.Laws.{then, same}
use Rattle.numbering.specs.Mentions.{of}
use Rattle.numbering.proofs.Kept.{of_some}
use Rattle.tidy.specs.declared.Numbering.{Numbering}
use Rattle.kept.specs.Kept.{number_in}
use Rattle.tidy.specs.Writes.{renamed_applied, names_by, PutsBlock}
use Rattle.tidy.specs.Tables.{PutsIn, counts_of, spawn_bytes, block_bytes, spawn_of, block_of}
use Rattle.tidy.proofs.Renaming.{spawn-put, signature-put}

-- a function's counts
module _ (s places : List ℕ) (f blocks spawns : ℕ) {q : Place} (find : FindsFunction places f q) {d : List ℕ} {k : ℕ} where
  pub counts-nowhere : q ≡ None → PutsIn s places f (counts_of blocks spawns) d k k d
  counts-nowhere e = record { is = λ P F p g. none-some (sym (subst (FindsFunction places f) e find s P _ p) ∙ g) }

  pub counts-at : {at to m n r : ℕ} {d₁ d₂ d₃ : List ℕ} → q ≡ Some at → to ≡ past at 2 → Puts d k (stretch s at to) m d₁
      → Puts d₁ m (blocks ∷ []) n d₂ → Puts d₂ n (spawns ∷ []) r d₃ → PutsIn s places f (counts_of blocks spawns) d k r d₃
  counts-at {at} e h p u v =
      record {
        is = λ P F w g.
            let (G, j, t) = subst (FindsFunction places f) e find s P _ w in
            let z : G ≡ F = some-injective (sym j ∙ g) in
            same (then p (then u v))
            (rw (h, signature-put s at G t.behind w.short t.is, z));
      }

-- a spawn call
module _ (s places : List ℕ) (numbers : Numbering) (f π : ℕ) {q : Place} (find : FindsSpawn places f π q) {d : List ℕ} {k : ℕ} where
  pub spawn-nowhere : q ≡ None → PutsIn s places f (spawn_of numbers π) d k k d
  unfolding of Places.spawn_in
  spawn-nowhere e =
      record {
        is = λ P F p g.
            let z : get_elem? F.spawns π ≡ none = rw g at (subst (FindsSpawn places f π) e find s P _ p) in
            same Puts-laws.none (rw z);
      }

  pub spawn-at : {at r : ℕ} {d' : List ℕ} → q ≡ Some at → Puts d k (renamed_applied (number_in numbers.functions) s at) r d'
      → PutsIn s places f (spawn_of numbers π) d k r d'
  unfolding Places.spawn_in spawn_bytes
  spawn-at {at} e p =
      record {
        is = λ P F w g.
            let (S, j, t) = subst (FindsSpawn places f π) e find s P _ w in
            let z : get_elem? F.spawns π ≡ some S = rw g at j in
            same p
            (spawn-put (names_by numbers) s at S t.behind w.short t.is
            ∙ sym (of_some (spawn_bytes (names_by numbers)) (get_elem? F.spawns π) z));
      }

-- a block
module _ (s places : List ℕ) (numbers : Numbering) (f b : ℕ) {q : Place} (find : FindsBlock places f b q) {d : List ℕ} {k : ℕ} where
  pub block-nowhere : q ≡ None → PutsIn s places f (block_of numbers b) d k k d
  unfolding of Pool.block_in
  block-nowhere e =
      record {
        is = λ P F p g.
            let z : get_elem? F.blocks b ≡ none = rw g at (subst (FindsBlock places f b) e find s P _ p) in
            same Puts-laws.none (rw z);
      }

  pub block-at : {at r : ℕ} {d' : List ℕ} → q ≡ Some at → PutsBlock s at (names_by numbers) d k r d'
      → PutsIn s places f (block_of numbers b) d k r d'
  unfolding Pool.block_in block_bytes
  block-at e p =
      record {
        is = λ P F w g.
            let (B, j, t) = subst (FindsBlock places f b) e find s P _ w in
            let z : get_elem? F.blocks b ≡ some B = rw g at j in
            same (p B t.behind t.is w.short)
            (sym (of_some (block_bytes (names_by numbers)) (get_elem? F.blocks b) z));
      }
