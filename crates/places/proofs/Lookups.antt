-- What the three lookups find, from the array's entry, and where the number is out of range.
use Prim.Native.Nat.{ℕ, zero, suc, ◌*◌, ◌/◌, ◌%◌, ◌^◌, ◌≤◌, ◌<◌}
use mathlib.Core.Path.{◌≡◌, refl, ap}
use mathlib.Core.Bool.{cond}
use mathlib.Core.Option.{Option, none, some}
use mathlib.Core.List.{List}
use native.Mathlib.Omega.{arith}
use lib.Dec.{eqb}
use lib.ListN.{get_or, get_elem?}
use Rattle.model.specs.Syntax.{Head, Block, Function, Program}
use Rattle.model.specs.Read.{Parser, block_by, function_by, spawn_call}
use Rattle.model.specs.Pool.{block_in}
use Rattle.model.specs.Limits.{InFunction, Limits}
use Rattle.model.proofs.Facts.{each_at, past-at, eq-eqb, ne_eqb}
use Rattle.std.specs.Prelude.{None}
use Rattle.places.specs.Layout.{functions, spawns, blocks, absent, function_index, block_index, spawn_index, length_index}
use Rattle.places.specs.Marks.{length_of}
use Rattle.places.specs.Places.{Place, place_of, code_of, Heads, FoundCode, FindsCode, spawn_in, Entry, Found, FindsFunction}
use Rattle.places.specs.Places.{FindsBlock, FindsSpawn}

-- an entry is the place of what is there
pub found : {A : Type 0} (p : Parser A) (s : List ℕ) (at : ℕ) (o : Option A) → Entry p s at o → Found p s (place_of at) o
found p s at none h = rw (eq-eqb at absent h) refl
found p s at (some a) h = rw (ne_eqb at absent (λ e. omega arith)) (a, refl, h.1)

coded : (p : Parser Head) (s : List ℕ) (at b both : ℕ) (o : Option Block) → Entry (block_by p) s at o → Heads p s at (length_of b both) o
    → FoundCode p s (code_of at b both) o
coded p s at b both none h g = rw (eq-eqb at absent h) refl
coded p s at b both (some B) h g =
    rw (ne_eqb at absent (λ e. omega arith)) (B, refl, record { at = at; block = h.1; head = g })

-- a function, a block or a spawn call past the end of those that are there
module _ (P : Program) (L : Limits P) (f : ℕ) where
  no-function : functions ≤ f → get_elem? P f ≡ none
  no-function l = past-at P f (omega (arith, L.few))

  within : {F : Function} → get_elem? P f ≡ some F → InFunction F
  within e = each_at InFunction P f L.functions e

  no_block : (b : ℕ) → blocks ≤ b → block_in (get_elem? P f) b ≡ none
  unfolding block_in
  no_block b l = go (get_elem? P f) refl
    where
      go : (o : Option Function) → get_elem? P f ≡ o → block_in o b ≡ none
      go none e = refl
      go (some F) e = past-at F.blocks b (omega (arith, (within e).few_blocks))

  no-spawn : (π : ℕ) → spawns ≤ π → spawn_in (get_elem? P f) π ≡ none
  unfolding spawn_in
  no-spawn π l = go (get_elem? P f) refl
    where
      go : (o : Option Function) → get_elem? P f ≡ o → spawn_in o π ≡ none
      go none e = refl
      go (some F) e = past-at F.spawns π (omega (arith, (within e).few_spawns))

-- for any head
module _ (places : List ℕ) (f : ℕ) where
  pub function-at : {r : Place} → r ≡ place_of (get_or places (function_index f) 0) → f < functions → FindsFunction places f r
  function-at e l s P p h = rw e (found (function_by p) s (get_or places (function_index f) 0) (get_elem? P f) (h.functions f l))

  pub function-past : functions ≤ f → FindsFunction places f None
  function-past l s P p h = no-function P h.limits f l

  pub block-at : (b : ℕ) {r : Place} → r ≡ place_of (get_or places (block_index f b) 0) → f < functions → b < blocks
      → FindsBlock places f b r
  block-at b e l m s P p h =
      rw e (found (block_by p) s (get_or places (block_index f b) 0) (block_in (get_elem? P f) b) (h.blocks f b l m))

  pub code_at : (b : ℕ) {r : Place} → r ≡ code_of (get_or places (block_index f b) 0) b (get_or places (length_index f b) 0)
      → f < functions → b < blocks → FindsCode places f b r
  code_at b e l m s P p h =
      rw e
      (coded p s (get_or places (block_index f b) 0) b (get_or places (length_index f b) 0) (block_in (get_elem? P f) b) (h.blocks f b l m)
      (h.heads f b l m))

  pub code-past : (b : ℕ) → blocks ≤ b → FindsCode places f b None
  code-past b l s P p h = no_block P h.limits f b l

  pub code-none : (b : ℕ) → functions ≤ f → FindsCode places f b None
  unfolding block_in
  code-none b l s P p h = rw (no-function P h.limits f l) refl

  pub block-past : (b : ℕ) → blocks ≤ b → FindsBlock places f b None
  block-past b l s P p h = no_block P h.limits f b l

  pub block_none : (b : ℕ) → functions ≤ f → FindsBlock places f b None
  unfolding block_in
  block_none b l s P p h = rw (no-function P h.limits f l) refl

  pub spawn-at : (π : ℕ) {r : Place} → r ≡ place_of (get_or places (spawn_index f π) 0) → f < functions → π < spawns
      → FindsSpawn places f π r
  spawn-at π e l m s P p h =
      rw e (found spawn_call s (get_or places (spawn_index f π) 0) (spawn_in (get_elem? P f) π) (h.spawns f π l m))

  pub spawn-past : (π : ℕ) → spawns ≤ π → FindsSpawn places f π None
  spawn-past π l s P p h = no-spawn P h.limits f π l

  pub spawn-none : (π : ℕ) → functions ≤ f → FindsSpawn places f π None
  unfolding spawn_in
  spawn-none π l s P p h = rw (no-function P h.limits f l) refl

-- a length by the block's parity: so many bits down, and eight of them
pub length-shifted : (b both : ℕ) → both < 65536 → both / 2 ^ (8 * (b % 2)) % 256 ≡ length_of b both
length-shifted b both h = go (b % 2) (mod-lt b)
  where
    mod-lt : (n : ℕ) → n % 2 < 2
    mod-lt n = omega arith

    go : (i : ℕ) → i < 2 → both / 2 ^ (8 * i) % 256 ≡ cond (eqb i 0) (both % 256) (both / 256)
    go zero l = let z : both / 1 ≡ both = omega arith in ap (λ (n : ℕ). n % 256) z
    go (suc zero) l = omega arith
    go (suc (suc i)) l = absurd (omega arith)
