-- What stands at a place is put: a spawn call, a block; and all of them.
use Prim.Native.Nat.{ℕ, ◌≤◌}
use denote.Ref.{MutBor}
use mathlib.Core.Path.{◌≡◌, sym, ◌∙◌, subst}
use mathlib.Core.Option.{none, some}
use mathlib.Core.List.{List, map}
use native.Mathlib.Omega.{arith}
use Rattle.std.specs.Prelude.{Some, None}
use lib.ListN.{length, get_elem?, length-map}
use Rattle.model.specs.Lists.{concat}
use Rattle.model.specs.Limits.{InFunction}
use Rattle.model.specs.Pool as Pool
use Rattle.model.specs.Write as Write
use Rattle.model.specs.Syntax.{Function}
use Rattle.model.proofs.Facts.{each_at}
use Rattle.code.specs.Code.{spawn_end}
use Rattle.places.specs.Places as Places
use Rattle.places.specs.Places.{Place, PlacesBy, FindsBlock, FindsSpawn}
use Rattle.puts.specs.Puts.{Puts, stretch}
use Rattle.puts.proofs.Laws as Puts-laws
use Rattle.puts.proofs.Laws.{same}
use Rattle.numbering.specs.Mentions.{of}
use Rattle.numbering.proofs.Kept.{of_some}
use Rattle.inference.proofs.Filled.{filled-length, filled_at}
use Rattle.complete.specs.Writes.{scoping_in, PutsBlock, PutsIn, PutsEach, spawn_of, filled_by, block_of}
use Rattle.complete.proofs.Lists.{written-at}
use Rattle.complete.proofs.Putting.{spawn-put}

-- a spawn call
module _ (s places : List ℕ) (f π : ℕ) {q : Place} (find : FindsSpawn places f π q) {d : List ℕ} {k : ℕ} where
  pub spawn-nowhere : q ≡ None → PutsIn s places f (spawn_of π) d k k d
  unfolding of Places.spawn_in
  spawn-nowhere e =
      record {
        is = λ P F p g.
            let z : get_elem? F.spawns π ≡ none = rw g at (subst (FindsSpawn places f π) e find s P _ p) in
            same Puts-laws.none (rw z);
      }

  pub spawn-at : {at to r : ℕ} {d' : List ℕ} → q ≡ Some at → to ≡ spawn_end s at → Puts d k (stretch s at to) r d'
      → PutsIn s places f (spawn_of π) d k r d'
  unfolding Places.spawn_in
  spawn-at {at} e h p =
      record {
        is = λ P F w g.
            let (S, j, t) = subst (FindsSpawn places f π) e find s P _ w in
            let z : get_elem? F.spawns π ≡ some S = rw g at j in
            same p (rw h (spawn-put s at S t.behind w.short t.is) ∙ sym (of_some Write.spawn_call (get_elem? F.spawns π) z));
      }

-- block b, with what the words have for it
module _ (s places words : List ℕ) (f b : ℕ) {q : Place} (find : FindsBlock places f b q) {d : List ℕ} {k : ℕ} where
  pub block-nowhere : q ≡ None → PutsIn s places f (block_of words b) d k k d
  unfolding of Pool.block_in
  block-nowhere e =
      record {
        is = λ P F p g.
            let z : get_elem? F.blocks b ≡ none = rw g at (subst (FindsBlock places f b) e find s P _ p) in
            same Puts-laws.none (rw (filled_at (scoping_in words) F b, z));
      }

  pub block-at : {at r : ℕ} {d' : List ℕ} → q ≡ Some at → PutsBlock s at (scoping_in words b) d k r d'
      → PutsIn s places f (block_of words b) d k r d'
  unfolding of Pool.block_in
  block-at e p =
      record {
        is = λ P F w g.
            let (B, j, t) = subst (FindsBlock places f b) e find s P _ w in
            let z : get_elem? F.blocks b ≡ some B = rw g at j in
            same (p.is B t.behind t.is w.short) (rw (filled_at (scoping_in words) F b, z));
      }

-- all things of a function: what is put for each number
module _ (s places : List ℕ) (f : ℕ) {A : Type 0} (w : A → List ℕ) (things : Function → List A)
    {post : ℕ → MutBor (List ℕ) → ℕ → ℕ → MutBor (List ℕ) → Type 0}
    (put : (i : ℕ) (d : MutBor (List ℕ)) (k r : ℕ) (d' : MutBor (List ℕ)) → post i d k r d' →
    PutsIn s places f (λ F. of w (get_elem? (things F) i)) d.now k r d'.now) {n : ℕ}
    (few : (F : Function) → InFunction F → length (things F) ≤ n) where
  pub all-put : {d : List ℕ} {k r : ℕ} {d' : List ℕ} → PutsEach post n d k r d'
      → PutsIn s places f (λ F. concat (map w (things F))) d k r d'
  all-put p =
      record {
        is = λ P F h g.
            let l : length (things F) ≤ n = few F (each_at InFunction P f h.limits.functions g) in
            p.is (map w (things F)) (λ i d k r d' b c. rw (written-at w (things F) i) ((put i d k r d' c).is P F h g))
            (omega (arith, l, length-map (things F) w));
      }

pub spawns-few : (F : Function) → InFunction F → length F.spawns ≤ 8
spawns-few F l = l.few_spawns

pub blocks-few : (words : List ℕ) (F : Function) → InFunction F → length (filled_by words F) ≤ 32
blocks-few words F l = omega (arith, l.few_blocks, filled-length (scoping_in words) F)
