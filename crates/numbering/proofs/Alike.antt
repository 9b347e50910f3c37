-- One program under two numberings has one tidy table: what is kept comes in the same order under both, so that it gets the same new
-- numbers. The tidy table is its own tidy table, since it is such a program.
use Prim.Native.Nat.{ℕ, zero, suc, ◌+◌}
use mathlib.Core.Path.{◌≡◌, refl, sym, ◌∙◌, ap}
use mathlib.Core.Bool.{Bool, true, false, cond}
use mathlib.Core.Option
use mathlib.Core.Option.{Option, none, some}
use mathlib.Core.List.{List, [], ◌∷◌, ◌++◌, map, map-append}
use lib.Dec.{eqb}
use lib.ListN.{get_elem?}
use Rattle.model.specs.Lists.{Each, concat}
use Rattle.model.specs.Syntax.{Block, SpawnCall, Function, Program, called_by}
use Rattle.model.proofs.Facts.{each_map, each_append, each_at, eqb-true, eqb-false, eq-eqb, ne_eqb, map_at}
use Rattle.numbering.specs.Renamed as Renamed
use Rattle.numbering.specs.Renamed.{Names}
use Rattle.numbering.specs.Mentions.{of, targets_of, targets_in, spawns_of, spawns_in, spawned, spawned_by, functions_of, functions_in}
use Rattle.numbering.specs.Renumbers.{Numbering, names, FunctionKept, BlockKept, SpawnKept, Renumbers, Apart}
use Rattle.numbering.specs.Tidy.{member, mention, mentions, onward, grown, kept_blocks, kept_spawns, mentioned_in, kept_functions, place}
use Rattle.numbering.specs.Tidy.{before, picked, names_in, tidy_function, tidied}
use Rattle.numbering.proofs.Agreeing.{block-agrees, spawn-agrees, then, block-then, spawn-then}
use Rattle.numbering.proofs.Lists.{concat-each, mention-each, mentions-each, grown-each}
use Rattle.numbering.proofs.Kept.{of_some}
use Rattle.numbering.proofs.Mentioned.{targets-renamed, spawns-renamed, calls-renamed}

-- h tells apart what is in K
module _ (h : ℕ → ℕ) (K : ℕ → Type 0) (apart : (x y : ℕ) → K x → K y → h x ≡ h y → x ≡ y) where
  eqb-map : (x y : ℕ) → K x → K y → eqb (h x) (h y) ≡ eqb x y
  eqb-map x y k j = go (eqb x y) refl
    where
      go : (b : Bool) → eqb x y ≡ b → eqb (h x) (h y) ≡ b
      go true e = eq-eqb (h x) (h y) (ap h (eqb-true x y e))
      go false e = ne_eqb (h x) (h y) (λ p. eqb-false x y e (apart x y k j p))

  -- members, places, mentions
  member-map : (x : ℕ) (xs : List ℕ) → K x → Each K xs → member (h x) (map h xs) ≡ member x xs
  unfolding member
  member-map x [] k ks = refl
  member-map x (y ∷ xs) k ks = rw (eqb-map x y k ks.0, member-map x xs k ks.1)

  place_map : (xs : List ℕ) (x : ℕ) → Each K xs → K x → place (map h xs) (h x) ≡ place xs x
  unfolding place
  place_map [] x ks k = refl
  place_map (y ∷ xs) x ks k = rw (eqb-map x y k ks.0, place_map xs x ks.1 k)

  mention-map : (xs : List ℕ) (x : ℕ) → Each K xs → K x → mention (map h xs) (h x) ≡ map h (mention xs x)
  unfolding mention
  mention-map xs x ks k = rw (member-map x xs k ks) (go (member x xs))
    where
      go : (b : Bool) → cond b (map h xs) (map h xs ++ (h x ∷ [])) ≡ map h (cond b xs (xs ++ (x ∷ [])))
      go true = refl
      go false = sym (map-append h xs (x ∷ []))

  mentions-map : (xs ys : List ℕ) → Each K xs → Each K ys → mentions (map h xs) (map h ys) ≡ map h (mentions xs ys)
  unfolding mentions
  mentions-map xs [] ks js = refl
  mentions-map xs (y ∷ ys) ks js =
      ap (λ (l : List ℕ). mentions l (map h ys)) (mention-map xs y ks js.0) ∙
      mentions-map (mention xs y) ys (mention-each K xs y ks js.0) js.1

  -- lists that grow
  module _ (next next' : ℕ → List ℕ) (same : (x : ℕ) → K x → next' (h x) ≡ map h (next x)) (on : (x : ℕ) → K x → Each K (next x)) where
    grown-map : (left i : ℕ) (xs : List ℕ) → Each K xs → grown next' left i (map h xs) ≡ map h (grown next left i xs)
    unfolding grown onward
    grown-map zero i xs ks = refl
    grown-map (suc left) i xs ks =
        rw (map_at h xs i)
        (go (get_elem? xs i) refl
        (λ x k. grown-map left (i + 1) (mentions xs (next x)) (mentions-each K xs (next x) ks (on x k))))
      where
        go : (o : Option ℕ) → get_elem? xs i ≡ o →
            ((x : ℕ) → K x →
            grown next' left (i + 1) (map h (mentions xs (next x))) ≡ map h (grown next left (i + 1) (mentions xs (next x)))) →
            onward (map h xs) (λ x. grown next' left (i + 1) (mentions (map h xs) (next' x))) (Option.map h o) ≡
            map h (onward xs (λ x. grown next left (i + 1) (mentions xs (next x))) o)
        go none e more = refl
        go (some x) e more =
            let k : K x = each_at K xs i ks e in
            rw (same x k, mentions-map xs (next x) ks (on x k)) (more x k)

-- what numbers lead to, and what is picked by them
module _ (h : ℕ → ℕ) (K : ℕ → Type 0) where
  concat-map : (g : ℕ → ℕ) (f f' : ℕ → List ℕ) → ((x : ℕ) → K x → f' (h x) ≡ map g (f x)) → (xs : List ℕ) → Each K xs →
      concat (map f' (map h xs)) ≡ map g (concat (map f xs))
  unfolding concat
  concat-map g f f' same [] ks = refl
  concat-map g f f' same (x ∷ xs) ks =
      rw (same x ks.0, concat-map g f f' same xs ks.1) (sym (map-append g (f x) (concat (map f xs))))

  -- at each kept number something stands, and under its new number something of which the same is made
  picked-map : {A B D : Type 0} (g : A → D) (g' : B → D) (xs : List A) (ys : List B) →
      ((i : ℕ) → K i → (x : A) × (y : B) × (get_elem? xs i ≡ some x) × (get_elem? ys (h i) ≡ some y) × (g' y ≡ g x)) →
      (ī : List ℕ) → Each K ī → map g' (picked ys (map h ī)) ≡ map g (picked xs ī)
  unfolding picked before
  picked-map g g' xs ys same [] ks = refl
  picked-map g g' xs ys same (i ∷ ī) ks =
      let (x, y, e, e', p) = same i ks.0 in
      rw (e, e', p, picked-map g g' xs ys same ī ks.1)

  picked_same : {A B D : Type 0} (g : A → D) (g' : B → D) (xs : List A) (ys : List B) →
      ((i : ℕ) → K i → (x : A) × (y : B) × (get_elem? xs i ≡ some x) × (get_elem? ys (h i) ≡ some y) × (g' y ≡ g x)) →
      (ī j̄ : List ℕ) → Each K ī → j̄ ≡ map h ī → map g' (picked ys j̄) ≡ map g (picked xs ī)
  picked_same g g' xs ys same ī j̄ ks e = ap (λ (l : List ℕ). map g' (picked ys l)) e ∙ picked-map g g' xs ys same ī ks

module _ (R : Numbering) (P Q : Program) (S : Renumbers R P Q) (A : Apart R) where
  module _ (f : ℕ) (k : FunctionKept R f) where
    -- the function before and after
    abbrev old : Function
    old = (S.copies f k).before

    abbrev new : Function
    new = (S.copies f k).after

    -- what is said of a kept block, or a kept spawn call, before and after
    block-old : (g : Block → List ℕ) (b : ℕ) (j : BlockKept R f b) →
        of g (get_elem? old.blocks b) ≡ g ((S.copies f k).blocks b j).block
    block-old g b j = of_some g (get_elem? old.blocks b) ((S.copies f k).blocks b j).old

    block_new : (g : Block → List ℕ) (b : ℕ) (j : BlockKept R f b) →
        of g (get_elem? new.blocks (R.block f b)) ≡ g (Renamed.block (names R f) ((S.copies f k).blocks b j).block)
    block_new g b j = of_some g (get_elem? new.blocks (R.block f b)) ((S.copies f k).blocks b j).new

    -- kept blocks
    targets-kept : (b : ℕ) → BlockKept R f b → Each (BlockKept R f) (targets_in old b)
    targets-kept b j = rw (block-old targets_of b j) ((S.copies f k).blocks b j).blocks

    targets-map : (b : ℕ) → BlockKept R f b → targets_in new (R.block f b) ≡ map (R.block f) (targets_in old b)
    targets-map b j =
        block_new targets_of b j ∙ targets-renamed (names R f) ((S.copies f k).blocks b j).block ∙
        ap (map (R.block f)) (sym (block-old targets_of b j))

    blocks-kept : Each (BlockKept R f) (kept_blocks old)
    unfolding kept_blocks
    blocks-kept = grown-each (targets_in old) (BlockKept R f) targets-kept 32 0 (0 ∷ []) ((S.copies f k).entry_kept, tt)

    blocks-map : kept_blocks new ≡ map (R.block f) (kept_blocks old)
    unfolding kept_blocks
    blocks-map =
        ap (λ (x : ℕ). grown (targets_in new) 32 0 (x ∷ [])) (sym (S.copies f k).entry) ∙
        grown-map (R.block f) (BlockKept R f) (λ b c. A.blocks f b c k) (targets_in old) (targets_in new) targets-map targets-kept
        32 0 (0 ∷ []) ((S.copies f k).entry_kept, tt)

    -- kept spawn calls
    spawns-in-kept : (b : ℕ) → BlockKept R f b → Each (SpawnKept R f) (spawns_in old b)
    spawns-in-kept b j = rw (block-old spawns_of b j) ((S.copies f k).blocks b j).spawns

    spawns-in-map : (b : ℕ) → BlockKept R f b → spawns_in new (R.block f b) ≡ map (R.spawn f) (spawns_in old b)
    spawns-in-map b j =
        block_new spawns_of b j ∙ spawns-renamed (names R f) ((S.copies f k).blocks b j).block ∙
        ap (map (R.spawn f)) (sym (block-old spawns_of b j))

    among-kept : Each (SpawnKept R f) (concat (map (spawns_in old) (kept_blocks old)))
    among-kept = concat-each (SpawnKept R f) (spawns_in old) (kept_blocks old) (each_map spawns-in-kept (kept_blocks old) blocks-kept)

    spawns-kept : Each (SpawnKept R f) (kept_spawns old)
    unfolding kept_spawns
    spawns-kept = mentions-each (SpawnKept R f) [] (concat (map (spawns_in old) (kept_blocks old))) tt among-kept

    spawns-map : kept_spawns new ≡ map (R.spawn f) (kept_spawns old)
    unfolding kept_spawns
    spawns-map =
        ap (λ (l : List ℕ). mentions [] (concat (map (spawns_in new) l))) blocks-map ∙
        ap (mentions [])
        (concat-map (R.block f) (BlockKept R f) (R.spawn f) (spawns_in old) (spawns_in new) spawns-in-map (kept_blocks old) blocks-kept) ∙
        mentions-map (R.spawn f) (SpawnKept R f) (λ π χ. A.spawns f π χ k) [] (concat (map (spawns_in old) (kept_blocks old))) tt among-kept

    -- the functions that the kept blocks mention
    spawned-kept : (π : ℕ) → SpawnKept R f π → Each (FunctionKept R) (spawned_by old π)
    unfolding spawned
    spawned-kept π j =
        let Y = (S.copies f k).spawns π j in
        rw (of_some spawned (get_elem? old.spawns π) Y.old) (Y.function, tt)

    spawned-map : (π : ℕ) → SpawnKept R f π → spawned_by new (R.spawn f π) ≡ map R.function (spawned_by old π)
    unfolding spawned Renamed.spawn_call
    spawned-map π j =
        let Y = (S.copies f k).spawns π j in
        of_some spawned (get_elem? new.spawns (R.spawn f π)) Y.new ∙
        ap (map R.function) (sym (of_some spawned (get_elem? old.spawns π) Y.old))

    functions-of-kept : (B : Block) → Each (SpawnKept R f) (spawns_of B) → Each (FunctionKept R) (called_by B.transfer) →
        Each (FunctionKept R) (functions_of old B)
    unfolding functions_of
    functions-of-kept B s c =
        each_append (FunctionKept R) (concat (map (spawned_by old) (spawns_of B))) (called_by B.transfer)
        (concat-each (FunctionKept R) (spawned_by old) (spawns_of B) (each_map spawned-kept (spawns_of B) s)) c

    functions-of-map : (B : Block) → Each (SpawnKept R f) (spawns_of B) →
        functions_of new (Renamed.block (names R f) B) ≡ map R.function (functions_of old B)
    unfolding functions_of Renamed.block
    functions-of-map B s =
        rw (
          spawns-renamed (names R f) B,
          calls-renamed (names R f) B.transfer,
          concat-map (R.spawn f) (SpawnKept R f) R.function (spawned_by old) (spawned_by new) spawned-map (spawns_of B) s,
        )
        (sym (map-append R.function (concat (map (spawned_by old) (spawns_of B))) (called_by B.transfer)))

    functions-in-kept : (b : ℕ) → BlockKept R f b → Each (FunctionKept R) (functions_in old b)
    functions-in-kept b j =
        let Y = (S.copies f k).blocks b j in
        rw (block-old (functions_of old) b j) (functions-of-kept Y.block Y.spawns Y.calls)

    functions-in-map : (b : ℕ) → BlockKept R f b → functions_in new (R.block f b) ≡ map R.function (functions_in old b)
    functions-in-map b j =
        let Y = (S.copies f k).blocks b j in
        block_new (functions_of new) b j ∙ functions-of-map Y.block Y.spawns ∙
        ap (map R.function) (sym (block-old (functions_of old) b j))

    mentioned-kept : Each (FunctionKept R) (mentioned_in old)
    unfolding mentioned_in
    mentioned-kept =
        concat-each (FunctionKept R) (functions_in old) (kept_blocks old) (each_map functions-in-kept (kept_blocks old) blocks-kept)

    mentioned-map : mentioned_in new ≡ map R.function (mentioned_in old)
    unfolding mentioned_in
    mentioned-map =
        ap (λ (l : List ℕ). concat (map (functions_in new) l)) blocks-map ∙
        concat-map (R.block f) (BlockKept R f) R.function (functions_in old) (functions_in new) functions-in-map (kept_blocks old)
        blocks-kept

  -- kept functions
  function-mentions : (f : ℕ) (k : FunctionKept R f) → of mentioned_in (get_elem? P f) ≡ mentioned_in (old f k)
  function-mentions f k = of_some mentioned_in (get_elem? P f) (S.copies f k).old

  function-mentions-kept : (f : ℕ) → FunctionKept R f → Each (FunctionKept R) (of mentioned_in (get_elem? P f))
  function-mentions-kept f k = rw (function-mentions f k) (mentioned-kept f k)

  function-mentions-map : (f : ℕ) → FunctionKept R f →
      of mentioned_in (get_elem? Q (R.function f)) ≡ map R.function (of mentioned_in (get_elem? P f))
  function-mentions-map f k =
      of_some mentioned_in (get_elem? Q (R.function f)) (S.copies f k).new ∙ mentioned-map f k ∙
      ap (map R.function) (sym (function-mentions f k))

  functions-kept : Each (FunctionKept R) (kept_functions P)
  unfolding kept_functions
  functions-kept =
      grown-each (λ f. of mentioned_in (get_elem? P f)) (FunctionKept R) function-mentions-kept 16 0 (0 ∷ []) (S.main_kept, tt)

  functions-map : kept_functions Q ≡ map R.function (kept_functions P)
  unfolding kept_functions
  functions-map =
      ap (λ (x : ℕ). grown (λ f. of mentioned_in (get_elem? Q f)) 16 0 (x ∷ [])) (sym S.main) ∙
      grown-map R.function (FunctionKept R) A.functions (λ f. of mentioned_in (get_elem? P f)) (λ f. of mentioned_in (get_elem? Q f))
      function-mentions-map function-mentions-kept 16 0 (0 ∷ []) (S.main_kept, tt)

  -- a kept thing gets one new number under both
  function-place : (g : ℕ) → FunctionKept R g → place (kept_functions Q) (R.function g) ≡ place (kept_functions P) g
  function-place g k = rw functions-map (place_map R.function (FunctionKept R) A.functions (kept_functions P) g functions-kept k)

  module _ (f : ℕ) (k : FunctionKept R f) where
    block-place : (b : ℕ) → BlockKept R f b → place (kept_blocks (new f k)) (R.block f b) ≡ place (kept_blocks (old f k)) b
    block-place b j =
        rw (blocks-map f k)
        (place_map (R.block f) (BlockKept R f) (λ b c. A.blocks f b c k) (kept_blocks (old f k)) b (blocks-kept f k) j)

    spawn-place : (π : ℕ) → SpawnKept R f π → place (kept_spawns (new f k)) (R.spawn f π) ≡ place (kept_spawns (old f k)) π
    spawn-place π j =
        rw (spawns-map f k)
        (place_map (R.spawn f) (SpawnKept R f) (λ π χ. A.spawns f π χ k) (kept_spawns (old f k)) π (spawns-kept f k) j)

    -- so the function is tidied to the same
    abbrev names_new : Names
    names_new = names_in (kept_functions Q) (new f k)

    abbrev names_old : Names
    names_old = names_in (kept_functions P) (old f k)

    blocks-same : map (Renamed.block names_new) (picked (new f k).blocks (kept_blocks (new f k))) ≡
        map (Renamed.block names_old) (picked (old f k).blocks (kept_blocks (old f k)))
    unfolding names_in
    blocks-same =
        picked_same (R.block f) (BlockKept R f) (Renamed.block names_old) (Renamed.block names_new) (old f k).blocks (new f k).blocks
        (λ b j.
        let Y = (S.copies f k).blocks b j in
        let B : Block = Y.block in (
          B,
          Renamed.block (names R f) B,
          Y.old,
          Y.new,
          block-then (names R f) names_new B ∙ block-agrees (then (names R f) names_new) names_old B
              (each_map block-place (targets_of B) Y.blocks)
              (each_map spawn-place (spawns_of B) Y.spawns)
              (each_map function-place (called_by B.transfer) Y.calls),
        ))
        (kept_blocks (old f k)) (kept_blocks (new f k)) (blocks-kept f k) (blocks-map f k)

    spawns-same : map (Renamed.spawn_call names_new) (picked (new f k).spawns (kept_spawns (new f k))) ≡
        map (Renamed.spawn_call names_old) (picked (old f k).spawns (kept_spawns (old f k)))
    unfolding names_in
    spawns-same =
        picked_same (R.spawn f) (SpawnKept R f) (Renamed.spawn_call names_old) (Renamed.spawn_call names_new) (old f k).spawns
        (new f k).spawns
        (λ π j.
        let Y = (S.copies f k).spawns π j in
        let T : SpawnCall = Y.call in (
          T,
          Renamed.spawn_call (names R f) T,
          Y.old,
          Y.new,
          spawn-then (names R f) names_new T ∙
              spawn-agrees (then (names R f) names_new) names_old T (function-place T.function Y.function),
        ))
        (kept_spawns (old f k)) (kept_spawns (new f k)) (spawns-kept f k) (spawns-map f k)

    function-same : tidy_function (kept_functions Q) (new f k) ≡ tidy_function (kept_functions P) (old f k)
    unfolding tidy_function
    function-same = rw ((S.copies f k).signature, spawns-same, blocks-same)

  -- and the programs have one tidy table
  pub tidied-alike : tidied Q ≡ tidied P
  unfolding tidied
  tidied-alike =
      picked_same R.function (FunctionKept R) (tidy_function (kept_functions P)) (tidy_function (kept_functions Q)) P Q
      (λ f k. (old f k, new f k, (S.copies f k).old, (S.copies f k).new, function-same f k)) (kept_functions P) (kept_functions Q)
      functions-kept functions-map
