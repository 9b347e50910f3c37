-- What the lookups find, as what stands at the places.
use Prim.Native.Nat.{ℕ}
use mathlib.Core.Path.{◌≡◌, ◌∙◌, ap, subst}
use mathlib.Core.Option.{Option, none, some}
use mathlib.Core.List.{List}
use lib.ListN.{get_elem?}
use Rattle.model.specs.Syntax.{Block, SpawnCall, Function, Program}
use Rattle.model.specs.Read as Read
use Rattle.model.specs.Pool.{block_in}
use Rattle.model.specs.WellFormed.{env}
use Rattle.std.specs.Prelude.{Some, None}
use Rattle.places.specs.Places.{Place, Places, Found, spawn_in, FindsFunction, FindsBlock, FindsSpawn}
use Rattle.code.specs.Bytes.{byte_at, past}
use Rattle.code.specs.declared.Opening.{Opening}
use Rattle.code.specs.Code.{opening_at, spawn_at, signature_at, block_at}
use Rattle.code.proofs.Ends.{opening-is}
use Rattle.code.proofs.Decoding.{block-is, spawn-is, signature-is}
use Rattle.targets.specs.Targets.{Callee, Within, Targets, Callees, Spawns}

-- functions by number
module _ (s places : List ℕ) (g : ℕ) {r : Place} (find : FindsFunction places g r) (P : Program) (I : Places s P places) where
  pub no-function : r ≡ None → get_elem? P g ≡ none
  no-function e = subst (λ (q : Place). Found Read.function s q (get_elem? P g)) e (find s P Read.head I)

  pub function-at : {at : ℕ} → r ≡ Some at → (F : Function) × (get_elem? P g ≡ some F) × (F.signature ≡ signature_at s at)
  function-at {at} e =
      let (F, there, reads) = subst (λ (q : Place). Found Read.function s q (get_elem? P g)) e (find s P Read.head I) in
      (F, there, signature-is s at F reads.behind I.short reads.is)

-- blocks by number
module _ (s places : List ℕ) (f b : ℕ) {r : Place} (find : FindsBlock places f b r) {P : Program} {F : Function}
    (W : Within s places f P F) where
  block-found : (q : Place) → r ≡ q → Found Read.block s q (get_elem? F.blocks b)
  unfolding block_in
  block-found q e =
      subst (λ (o : Option Function). Found Read.block s q (block_in o b)) W.there
      (subst (λ (q : Place). Found Read.block s q (block_in (get_elem? P f) b)) e (find s P Read.head W.index))

  pub no_block : r ≡ None → get_elem? F.blocks b ≡ none
  no_block e = block-found None e

  pub block-at : {at : ℕ} → r ≡ Some at → get_elem? F.blocks b ≡ some (block_at s at)
  block-at {at} e =
      let (B, there, reads) = block-found (Some at) e in
      there ∙ ap {B = Option Block} some (block-is s at B reads.behind W.index.short reads.is)

-- spawn calls by number
module _ (s places : List ℕ) (f π : ℕ) {r : Place} (find : FindsSpawn places f π r) {P : Program} {F : Function}
    (W : Within s places f P F) where
  spawn-found : (q : Place) → r ≡ q → Found Read.spawn_call s q (get_elem? F.spawns π)
  unfolding spawn_in
  spawn-found q e =
      subst (λ (o : Option Function). Found Read.spawn_call s q (spawn_in o π)) W.there
      (subst (λ (q : Place). Found Read.spawn_call s q (spawn_in (get_elem? P f) π)) e (find s P Read.head W.index))

  pub no-spawn : r ≡ None → get_elem? F.spawns π ≡ none
  no-spawn e = spawn-found None e

  pub spawn-at : {at : ℕ} → r ≡ Some at → get_elem? F.spawns π ≡ some (spawn_at s at)
  spawn-at {at} e =
      let (S, there, reads) = spawn-found (Some at) e in
      there ∙ ap {B = Option SpawnCall} some (spawn-is s at S reads.behind W.index.short reads.is)

-- the same, as the code has them
module _ (s places : List ℕ) (g : ℕ) {r : Place} (h : FindsFunction places g r) where
  pub callee-none : r ≡ None → Callees s places g None
  callee-none e P I = rw (no-function s places g h P I e)

  pub callee-there : {at k n m : ℕ} → r ≡ Some at → n ≡ byte_at s at → k ≡ past at 1 → m ≡ byte_at s k → Callees s places g (Some (n, m))
  unfolding signature_at
  callee-there e p q d P I =
      let (F, there, is) = function-at s places g h P I e in
      rw (there, is, p, d, q)

module _ (s places : List ℕ) (f b : ℕ) {r : Place} (h : FindsBlock places f b r) where
  pub target_none : r ≡ None → Targets s places f b None
  unfolding env
  target_none e P F W = rw (no_block s places f b h W e)

  pub target-there : {at : ℕ} {o : Opening} → r ≡ Some at → o ≡ opening_at s at → Targets s places f b (Some o)
  unfolding env block_at
  target-there {at} e d P F W = rw (block-at s places f b h W e, d, opening-is s at)

module _ (s places : List ℕ) (f π : ℕ) {r : Place} (h : FindsSpawn places f π r) where
  pub spawned-none : r ≡ None → Spawns s places f π None
  unfolding env
  spawned-none e P F W = rw (no-spawn s places f π h W e)

  pub spawned-there : (q : Callee) {at x : ℕ} → r ≡ Some at → x ≡ byte_at s at → Callees s places x q → Spawns s places f π q
  unfolding env spawn_at
  spawned-there q e p o P F W = rw (spawn-at s places f π h W e, ← p) (o P W.index)
