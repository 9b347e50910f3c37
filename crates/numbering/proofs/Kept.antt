-- What a tidy table keeps, where everything mentioned is there and there is no more of it than a table can hold: distinct numbers of
-- things that are there, the entry and main first, and whatever a kept thing mentions is kept.
use Prim.Native.Nat.{ℕ, ◌≤◌, ◌<◌}
use mathlib.Core.Path.{◌≡◌, refl, ap}
use mathlib.Core.Bool.{true}
use mathlib.Core.Option.{Option, none, some}
use mathlib.Core.List.{List, [], ◌∷◌, map}
use lib.ListN.{length, get_elem?}
use Rattle.model.specs.Lists.{Each, concat}
use Rattle.model.specs.Syntax.{Block, SpawnCall, Function, Program, called_by}
use Rattle.model.specs.Limits.{InFunction, Limits}
use Rattle.model.proofs.Facts.{each_map, each_append, each_at}
use Rattle.numbering.specs.Mentions.{of, targets_of, targets_in, spawns_of, spawns_in, spawned, spawned_by, functions_of, functions_in}
use Rattle.numbering.specs.Mentions.{ClosedIn, Closed}
use Rattle.numbering.specs.Tidy.{member, Distinct, kept_blocks, kept_spawns, mentioned_in, kept_functions}
use Rattle.numbering.proofs.Lists.{member-head, member-left, member_right, each_member, member-each, each-self}
use Rattle.numbering.proofs.Lists.{concat-member, concat-each, mentions-has, mentions-each, mentions-distinct}
use Rattle.numbering.proofs.Lists.{begins-at, grown-begins, grown-each, grown-distinct, grown-closed}

-- the kept blocks of a function: those that kept ones go to are kept
pub record TidyBlocks (F : Function) : Type 0 where
  pub distinct : Distinct (kept_blocks F)
  pub below : Each (λ b. b < length F.blocks) (kept_blocks F)
  pub entry : get_elem? (kept_blocks F) 0 ≡ some 0
  pub targets : (b : ℕ) (B : Block) → member b (kept_blocks F) ≡ true → get_elem? F.blocks b ≡ some B →
      Each (λ c. member c (kept_blocks F) ≡ true) (targets_of B)

-- its kept spawn calls: those that kept blocks mention
pub record TidySpawns (F : Function) : Type 0 where
  pub distinct : Distinct (kept_spawns F)
  pub below : Each (λ π. π < length F.spawns) (kept_spawns F)
  pub mentioned : (b : ℕ) (B : Block) → member b (kept_blocks F) ≡ true → get_elem? F.blocks b ≡ some B →
      Each (λ π. member π (kept_spawns F) ≡ true) (spawns_of B)

-- the kept functions of a program: those that kept blocks of kept functions call, and those of their kept spawn calls, are kept
pub record TidyFunctions (P : Program) : Type 0 where
  pub distinct : Distinct (kept_functions P)
  pub below : Each (λ f. f < length P) (kept_functions P)
  pub main : get_elem? (kept_functions P) 0 ≡ some 0
  pub called : (f : ℕ) (F : Function) → member f (kept_functions P) ≡ true → get_elem? P f ≡ some F →
      (b : ℕ) (B : Block) → member b (kept_blocks F) ≡ true → get_elem? F.blocks b ≡ some B →
      Each (λ g. member g (kept_functions P) ≡ true) (called_by B.transfer)
  pub spawned : (f : ℕ) (F : Function) → member f (kept_functions P) ≡ true → get_elem? P f ≡ some F →
      (π : ℕ) (S : SpawnCall) → member π (kept_spawns F) ≡ true → get_elem? F.spawns π ≡ some S →
      member S.function (kept_functions P) ≡ true

-- what holds of each that is said of a thing, where it is there
of-each : {A : Type 0} (Q : ℕ → Type 0) (f : A → List ℕ) (o : Option A) → ((a : A) → o ≡ some a → Each Q (f a)) → Each Q (of f o)
unfolding of
of-each Q f none h = tt
of-each Q f (some a) h = h a refl

-- what is said of a thing that is there
pub of_some : {A : Type 0} (f : A → List ℕ) (o : Option A) {a : A} → o ≡ some a → of f o ≡ f a
unfolding of
of_some f o e = ap (of f) e

-- distinct, and nothing more
pub distinct-first : Distinct (0 ∷ [])
unfolding Distinct member
distinct-first = (refl, tt)

-- no kept number comes twice, whatever the function mentions; and the entry comes first
pub blocks-distinct : (F : Function) → Distinct (kept_blocks F)
unfolding kept_blocks
blocks-distinct F = grown-distinct (targets_in F) 32 0 (0 ∷ []) distinct-first

pub blocks-entry : (F : Function) → get_elem? (kept_blocks F) 0 ≡ some 0
unfolding kept_blocks
blocks-entry F = begins-at (grown-begins (targets_in F) 32 0 (0 ∷ [])) 0 refl

pub spawns-distinct : (F : Function) → Distinct (kept_spawns F)
unfolding kept_spawns Distinct
spawns-distinct F = mentions-distinct [] _ tt

pub functions-distinct : (P : Program) → Distinct (kept_functions P)
unfolding kept_functions
functions-distinct P = grown-distinct (λ f. of mentioned_in (get_elem? P f)) 16 0 (0 ∷ []) distinct-first

pub functions-main : (P : Program) → get_elem? (kept_functions P) 0 ≡ some 0
unfolding kept_functions
functions-main P = begins-at (grown-begins (λ f. of mentioned_in (get_elem? P f)) 16 0 (0 ∷ [])) 0 refl

module _ (P : Program) (F : Function) (C : ClosedIn P F) where
  -- the blocks that a block goes to are there
  pub targets-inside : (b : ℕ) → b < length F.blocks → Each (λ c. c < length F.blocks) (targets_in F b)
  targets-inside b l = of-each (λ c. c < length F.blocks) targets_of (get_elem? F.blocks b) (C.blocks b)

  -- so the kept ones are there
  blocks-below : Each (λ b. b < length F.blocks) (kept_blocks F)
  unfolding kept_blocks
  blocks-below = grown-each (targets_in F) (λ b. b < length F.blocks) targets-inside 32 0 (0 ∷ []) (C.entry, tt)

  -- all of the kept blocks
  pub tidy-blocks : length F.blocks ≤ 32 → TidyBlocks F
  unfolding kept_blocks
  tidy-blocks few =
      record {
        distinct = blocks-distinct F;
        below = blocks-below;
        entry = blocks-entry F;
        targets = λ b B k e.
            rw (← (of_some targets_of (get_elem? F.blocks b) e))
            (grown-closed (targets_in F) (length F.blocks) targets-inside 32 (0 ∷ []) distinct-first (C.entry, tt) few b k);
      }

  -- the spawn calls that its kept blocks mention are there
  pub spawns-inside : Each (λ π. π < length F.spawns) (concat (map (spawns_in F) (kept_blocks F)))
  spawns-inside =
      concat-each (λ π. π < length F.spawns) (spawns_in F) (kept_blocks F)
      (each_map (λ b l. of-each (λ π. π < length F.spawns) spawns_of (get_elem? F.blocks b) (C.spawns b)) (kept_blocks F) blocks-below)

  -- what a kept block mentions is among what all of them mention
  spawn-among : (b π : ℕ) (B : Block) → member b (kept_blocks F) ≡ true → get_elem? F.blocks b ≡ some B → member π (spawns_of B) ≡ true →
      member π (concat (map (spawns_in F) (kept_blocks F))) ≡ true
  spawn-among b π B k e h =
      concat-member (spawns_in F) (kept_blocks F) b π k (rw (of_some spawns_of (get_elem? F.blocks b) e) h)

  -- all of the kept spawn calls
  pub tidy-spawns : TidySpawns F
  unfolding kept_spawns
  tidy-spawns =
      record {
        distinct = spawns-distinct F;
        below = mentions-each (λ π. π < length F.spawns) [] _ tt spawns-inside;
        mentioned = λ b B k e.
            let among : List ℕ = concat (map (spawns_in F) (kept_blocks F)) in
            member-each (λ π. member π (kept_spawns F) ≡ true) (spawns_of B)
            (λ π h.
            each_member (λ π. member π (kept_spawns F) ≡ true) among π (mentions-has [] among) (spawn-among b π B k e h));
      }

  -- the functions that a function mentions are there
  functions-of : (b : ℕ) (B : Block) → get_elem? F.blocks b ≡ some B → Each (λ g. g < length P) (functions_of F B)
  unfolding functions_of spawned
  functions-of b B e =
      each_append (λ g. g < length P) (concat (map (spawned_by F) (spawns_of B))) (called_by B.transfer)
      (concat-each (λ g. g < length P) (spawned_by F) (spawns_of B)
      (each_map
      (λ π l. of-each (λ g. g < length P) spawned (get_elem? F.spawns π) (λ S h. (C.spawned π S h, tt)))
      (spawns_of B) (C.spawns b B e)))
      (C.calls b B e)

  pub mentioned-inside : Each (λ g. g < length P) (mentioned_in F)
  unfolding mentioned_in
  mentioned-inside =
      concat-each (λ g. g < length P) (functions_in F) (kept_blocks F)
      (each_map (λ b l. of-each (λ g. g < length P) (functions_of F) (get_elem? F.blocks b) (functions-of b)) (kept_blocks F)
      blocks-below)

-- all of the kept functions
module _ (P : Program) (C : Closed P) where
  -- the functions that a function mentions are there, and so the kept ones
  pub functions-inside : (f : ℕ) → f < length P → Each (λ g. g < length P) (of mentioned_in (get_elem? P f))
  functions-inside f l =
      of-each (λ g. g < length P) mentioned_in (get_elem? P f) (λ F e. mentioned-inside P F (C.functions f F e))

  functions-below : Each (λ f. f < length P) (kept_functions P)
  unfolding kept_functions
  functions-below =
      grown-each (λ f. of mentioned_in (get_elem? P f)) (λ f. f < length P) functions-inside 16 0 (0 ∷ []) (C.main, tt)

  module _ (few : length P ≤ 16) where
    -- what a kept function mentions is kept
    mentioned-kept : (f : ℕ) (F : Function) → member f (kept_functions P) ≡ true → get_elem? P f ≡ some F →
        Each (λ g. member g (kept_functions P) ≡ true) (mentioned_in F)
    unfolding kept_functions
    mentioned-kept f F k e =
        rw (← (of_some mentioned_in (get_elem? P f) e))
        (grown-closed (λ f. of mentioned_in (get_elem? P f)) (length P) functions-inside 16 (0 ∷ []) distinct-first (C.main, tt) few f k)

    module _ (f : ℕ) (F : Function) (k : member f (kept_functions P) ≡ true) (e : get_elem? P f ≡ some F) where
      -- what its kept blocks mention: functions that they name themselves, or by a call
      function-kept : (b : ℕ) (B : Block) → member b (kept_blocks F) ≡ true → get_elem? F.blocks b ≡ some B →
          (g : ℕ) → member g (functions_of F B) ≡ true → member g (kept_functions P) ≡ true
      unfolding mentioned_in
      function-kept b B j h g i =
          each_member (λ g. member g (kept_functions P) ≡ true) (mentioned_in F) g (mentioned-kept f F k e)
          (concat-member (functions_in F) (kept_blocks F) b g j (rw (of_some (functions_of F) (get_elem? F.blocks b) h) i))

      called-kept : (b : ℕ) (B : Block) → member b (kept_blocks F) ≡ true → get_elem? F.blocks b ≡ some B →
          Each (λ g. member g (kept_functions P) ≡ true) (called_by B.transfer)
      unfolding functions_of
      called-kept b B j h =
          member-each (λ g. member g (kept_functions P) ≡ true) (called_by B.transfer)
          (λ g i. function-kept b B j h g (member_right g (concat (map (spawned_by F) (spawns_of B))) (called_by B.transfer) i))

      -- the function of each kept spawn call
      spawned-kept : Each (λ π. (S : SpawnCall) → get_elem? F.spawns π ≡ some S → member S.function (kept_functions P) ≡ true)
          (kept_spawns F)
      unfolding kept_spawns functions_of spawned
      spawned-kept =
          mentions-each Q [] _ tt
          (concat-each Q (spawns_in F) (kept_blocks F)
          (each_map
          (λ b j. of-each Q spawns_of (get_elem? F.blocks b)
          (λ B h. member-each Q (spawns_of B) (λ π i S s. function-kept b B j h S.function (among b B π S i s))))
          (kept_blocks F) (each-self (kept_blocks F))))
        where
          Q : ℕ → Type 0
          Q π = (S : SpawnCall) → get_elem? F.spawns π ≡ some S → member S.function (kept_functions P) ≡ true

          among : (b : ℕ) (B : Block) (π : ℕ) (S : SpawnCall) → member π (spawns_of B) ≡ true → get_elem? F.spawns π ≡ some S →
              member S.function (functions_of F B) ≡ true
          among b B π S i s =
              member-left S.function (concat (map (spawned_by F) (spawns_of B))) (called_by B.transfer)
              (concat-member (spawned_by F) (spawns_of B) π S.function i
              (rw (of_some spawned (get_elem? F.spawns π) s) (member-head S.function [])))

    pub tidy-functions : TidyFunctions P
    tidy-functions =
        record {
          distinct = functions-distinct P;
          below = functions-below;
          main = functions-main P;
          called = called-kept;
          spawned = λ f F k e π S j s.
              each_member
              (λ π. (S : SpawnCall) → get_elem? F.spawns π ≡ some S → member S.function (kept_functions P) ≡ true)
              (kept_spawns F) π (spawned-kept f F k e) j S s;
        }

-- all of it, of a program within the limits
module _ (P : Program) (C : Closed P) (L : Limits P) where
  pub kept-functions : TidyFunctions P
  kept-functions = tidy-functions P C L.few

  module _ (f : ℕ) (F : Function) (e : get_elem? P f ≡ some F) where
    pub kept-blocks : TidyBlocks F
    kept-blocks = tidy-blocks P F (C.functions f F e) (each_at InFunction P f L.functions e).few_blocks

    pub kept-spawns : TidySpawns F
    kept-spawns = tidy-spawns P F (C.functions f F e)
