-- What the code at an offset names: of a transfer, kind by kind, and of a block.
use Prim.Native.Nat.{ℕ, ◌^◌, ◌<◌, min}
use mathlib.Core.Path.{◌≡◌, refl, sym, ◌∙◌, ap, subst}
use mathlib.Core.Logic.{◌⊎◌, inl, inr}
use mathlib.Core.Option.{none, some}
use mathlib.Core.List.{List, [], ◌∷◌, ◌++◌, map, append_assoc, append-nil}
use Rattle.std.specs.Prelude.{Some, None}
use native.Mathlib.Omega.{arith}
use lib.ListN.{length, get_elem?}
use Rattle.model.specs.Lists.{concat}
use Rattle.model.specs.Syntax.{Transfer, Function, Program, targets, sporked_by, called_by}
use Rattle.model.specs.Pool.{block_in}
use Rattle.code.specs.declared.Opening.{Opening}
use Rattle.code.specs.declared.Kind.{Kind}
use Rattle.code.specs.declared.Kind.TheVariants.{Goto, If, Call, Return, Spork, Spoin}
use Rattle.code.specs.Kinds.{number_of}
use Rattle.code.proofs.KindLaws.{kind-other, by-kind}
use Rattle.code.specs.Bytes.{byte_at, past}
use Rattle.code.specs.Code.{run, arguments_at, head_at, opening_at, spawn_at, spawn_end, expression_end, transfer_of, transfer_at, block_at}
use Rattle.code.proofs.Decoding.{block-is, spawn-is, no-spork}
use Rattle.code.proofs.Targets.{past-past, is-of, names-goto, names-if, names-call, names-return, names-spork, names-spoin}
use Rattle.places.specs.Places.{Place, Places, spawn_in, FindsBlock, FindsSpawn}
use Rattle.transfers.specs.Transfers.{Transfers, transfer_in, FindsTransfer}
use Rattle.transfers.proofs.Blocks.{transfer-is}
use Rattle.numbering.specs.Mentions.{of, spawns_of, spawned, spawned_by, functions_of}
use Rattle.kept.specs.declared.Kept.{Kept}
use Rattle.kept.specs.Kept.{Adds, Placed, Ended, Known, AddsIn, spawns_by, functions_by, spawned_of, spawned_from}
use Rattle.kept.specs.Kept.{called_from, by_transfer, called_in}
use Rattle.kept.proofs.Arrays.{no_names, then, same}

-- two names
pub two-names : (s : List ℕ) (at : ℕ) {l a b : Kept} {x k y : ℕ} → x ≡ byte_at s at → Adds l (x ∷ []) a
    → k ≡ past at 1 → y ≡ byte_at s k → Adds a (y ∷ []) b → Adds l (run s at 2) b
unfolding run
two-names s at e p f g q = same (then p q) (rw (e, g, f))

-- the blocks that a transfer names
module _ (s : List ℕ) (at : ℕ) {first : ℕ} {kind : Kind} (f : first ≡ past at 1) (k : number_of kind ≡ min (byte_at s at) 5)
    {l : Kept} where
  pub targets-return : kind ≡ Return → Adds l (targets (transfer_at s at)) l
  targets-return z = same no_names (sym (names-return s at f k z))

  module _ {a : Kept} where
    pub targets-goto : {x : ℕ} → kind ≡ Goto → x ≡ byte_at s first → Adds l (x ∷ []) a → Adds l (targets (transfer_at s at)) a
    targets-goto z e p = same p (rw (names-goto s at f k z, e))

    pub targets-if : {x : ℕ} → kind ≡ If → x ≡ expression_end s first → Adds l (run s x 2) a → Adds l (targets (transfer_at s at)) a
    targets-if z e p = same p (sym (names-if s at f k z e))

    pub targets-call : {e x : ℕ} → kind ≡ Call → e ≡ spawn_end s first → x ≡ byte_at s e → Adds l (x ∷ []) a
        → Adds l (targets (transfer_at s at)) a
    targets-call z e d p = same p (rw (names-call s at f k z e, d))

    pub targets-spork : {x : ℕ} → kind ≡ Spork → x ≡ byte_at s first → Adds l (x ∷ []) a → Adds l (targets (transfer_at s at)) a
    targets-spork z e p = same p (rw (names-spork s at f k z, e))

    pub targets-spoin : kind ≡ Spoin → Adds l (run s first 2) a → Adds l (targets (transfer_at s at)) a
    targets-spoin z p = same p (sym (names-spoin s at f k z))

-- the spawn call that a transfer names, if it is a spork
module _ (s : List ℕ) (at : ℕ) {kind : Kind} (k : number_of kind ≡ min (byte_at s at) 5) {l : Kept} where
  pub sporked-none : (kind ≡ Spork → ⊥) → Adds l (sporked_by (transfer_at s at)) l
  sporked-none h = same no_names (sym (ap sporked_by (is-of s at refl refl) ∙ no-spork _ s (past at 1) (kind-other k h (omega arith))))

  pub sporked-one : {a : Kept} {j x : ℕ} → kind ≡ Spork → j ≡ past at 2 → x ≡ byte_at s j → Adds l (x ∷ []) a
      → Adds l (sporked_by (transfer_at s at)) a
  unfolding transfer_of sporked_by
  sporked-one z d e p = same p (rw (by-kind s at k refl z, ← past-past at, e, d))

-- the functions that a transfer names
module _ (s places : List ℕ) (f at : ℕ) {kind : Kind} (k : number_of kind ≡ min (byte_at s at) 5) {l : Kept} where
  no-function : {j : Kind} → kind ≡ j → called_by (transfer_of (number_of j) s (past at 1)) ≡ []
      → sporked_by (transfer_of (number_of j) s (past at 1)) ≡ [] → AddsIn (Placed s places) f (called_from s at) l l
  unfolding concat
  no-function e h g = record { is = λ P F p i c. same no_names (rw (by-kind s at k refl e, h, g)) }

  pub called-none : (kind ≡ Goto) ⊎ ((kind ≡ If) ⊎ ((kind ≡ Return) ⊎ (kind ≡ Spoin)))
      → AddsIn (Placed s places) f (called_from s at) l l
  unfolding transfer_of sporked_by called_by
  called-none (inl e) = no-function e refl refl
  called-none (inr (inl e)) = no-function e refl refl
  called-none (inr (inr (inl e))) = no-function e refl refl
  called-none (inr (inr (inr e))) = no-function e refl refl

  module _ {a : Kept} where
    pub called-one : {j x : ℕ} → kind ≡ Call → j ≡ past at 1 → x ≡ byte_at s j → Adds l (x ∷ []) a
        → AddsIn (Placed s places) f (called_from s at) l a
    unfolding concat transfer_of sporked_by called_by
    called-one z d e q = record { is = λ P F p h c. same q (rw (by-kind s at k refl z, e, d)) }

    pub called-spork : {j x : ℕ} → kind ≡ Spork → j ≡ past at 2 → x ≡ byte_at s j → AddsIn (Placed s places) f (spawned_of x) l a
        → AddsIn (Placed s places) f (called_from s at) l a
    unfolding concat transfer_of sporked_by called_by
    called-spork z d e q =
        record {
          is = λ P F p h c.
              same (q.is P F p h c)
              (rw (by-kind s at k refl z, ← past-past at, ← d, ← e) (sym (append-nil _ ∙ append-nil _)));
        }

-- the transfer of block b of a function, and what it names
module _ (s places transfers : List ℕ) (f b : ℕ) {r : Place} (find : FindsTransfer transfers f b r) where
  no-transfer : r ≡ None → (P : Program) (F : Function) → Transfers s P transfers → get_elem? P f ≡ some F
      → transfer_in (get_elem? F.blocks b) ≡ none
  unfolding block_in
  no-transfer e P F t h = rw h at (subst (FindsTransfer transfers f b) e find s P t)

  the-transfer : {at : ℕ} → r ≡ Some at → (P : Program) (F : Function) → length s < 2 ^ 64 → Transfers s P transfers
      → get_elem? P f ≡ some F → transfer_in (get_elem? F.blocks b) ≡ some (transfer_at s at)
  unfolding block_in
  the-transfer {at} e P F short t h =
      let (T, g, w) = subst (FindsTransfer transfers f b) e find s P t in
      let g' : transfer_in (get_elem? F.blocks b) ≡ some T = rw h at g in
      g' ∙ ap some (transfer-is s at T short w)

  module _ {l : Kept} where
    pub transfer-nowhere : (names : Transfer → List ℕ) → r ≡ None → AddsIn (Ended s transfers) f (by_transfer names b) l l
    unfolding by_transfer of
    transfer-nowhere names e = record { is = λ P F w h c. same no_names (rw (no-transfer e P F w.1 h)) }

    pub called-nowhere : r ≡ None → AddsIn (Known s places transfers) f (called_in b) l l
    unfolding by_transfer of
    called-nowhere e = record { is = λ P F w h c. same no_names (rw (no-transfer e P F w.1 h)) }

    module _ {a : Kept} {at : ℕ} (e : r ≡ Some at) where
      pub transfer-names : (names : Transfer → List ℕ) → Adds l (names (transfer_at s at)) a
          → AddsIn (Ended s transfers) f (by_transfer names b) l a
      unfolding by_transfer of
      transfer-names names q = record { is = λ P F w h c. same q (rw (the-transfer e P F w.0 w.1 h)) }

      pub called_at : AddsIn (Placed s places) f (called_from s at) l a → AddsIn (Known s places transfers) f (called_in b) l a
      unfolding by_transfer of
      called_at q =
          record { is = λ P F w h c. same (q.is P F w.0 h c) (rw (the-transfer e P F w.0.short w.1 h)) }

-- the function of a spawn call
module _ (s places : List ℕ) (f π : ℕ) {r : Place} (find : FindsSpawn places f π r) {l : Kept} where
  pub spawned-nowhere : r ≡ None → AddsIn (Placed s places) f (spawned_of π) l l
  unfolding spawn_in of
  spawned-nowhere e =
      record {
        is = λ P F p h c.
            let q : get_elem? F.spawns π ≡ none = rw h at (subst (FindsSpawn places f π) e find s P _ p) in
            same no_names (rw q);
      }

  pub spawned-at : {a : Kept} {at x : ℕ} → r ≡ Some at → x ≡ byte_at s at → Adds l (x ∷ []) a
      → AddsIn (Placed s places) f (spawned_of π) l a
  unfolding spawn_in of spawned spawn_at
  spawned-at e d q =
      record {
        is = λ P F p h c.
            let (S, g, t) = subst (FindsSpawn places f π) e find s P _ p in
            let g' : get_elem? F.spawns π ≡ some S = rw h at g in
            same q (rw (g', spawn-is s _ S t.behind p.short t.is, d));
      }

-- what comes of one list and then of another
concat-append : {A : Type 0} (g : ℕ → List A) (xs ys : List ℕ) → concat (map g (xs ++ ys)) ≡ concat (map g xs) ++ concat (map g ys)
unfolding concat
concat-append g [] ys = refl
concat-append g (x ∷ xs) ys = rw (concat-append g xs ys) (sym (append_assoc (g x) _ _))

-- block b of a function
module _ (s places : List ℕ) (f b : ℕ) {r : Place} (find : FindsBlock places f b r) where
  no_block : r ≡ None → (P : Program) (F : Function) → Places s P places → get_elem? P f ≡ some F → get_elem? F.blocks b ≡ none
  unfolding block_in
  no_block e P F p h = rw h at (subst (FindsBlock places f b) e find s P _ p)

  the_block : {at : ℕ} → r ≡ Some at → (P : Program) (F : Function) → Places s P places → get_elem? P f ≡ some F
      → get_elem? F.blocks b ≡ some (block_at s at)
  unfolding block_in
  the_block e P F p h =
      let (B, g, t) = subst (FindsBlock places f b) e find s P _ p in
      let g' : get_elem? F.blocks b ≡ some B = rw h at g in
      g' ∙ ap some (block-is s _ B t.behind p.short t.is)

  -- the spawn calls and the functions that it names: by its nesting, then by its transfer
  module _ (transfers : List ℕ) where
    pub spawns-nowhere : {l : Kept} → r ≡ None → AddsIn (Known s places transfers) f (spawns_by b) l l
    unfolding of
    spawns-nowhere e = record { is = λ P F w h c. same no_names (rw (no_block e P F w.0 h)) }

    pub functions-nowhere : {l : Kept} → r ≡ None → AddsIn (Known s places transfers) f (functions_by b) l l
    unfolding of
    functions-nowhere e = record { is = λ P F w h c. same no_names (rw (no_block e P F w.0 h)) }

    module _ {l a a' : Kept} {at : ℕ} {h : Opening} (e : r ≡ Some at) (o : h ≡ opening_at s at) where
      pub spawns-at : Adds l (run s h.nesting h.depth) a → AddsIn (Ended s transfers) f (by_transfer sporked_by b) a a'
          → AddsIn (Known s places transfers) f (spawns_by b) l a'
      unfolding by_transfer transfer_in of spawns_of block_at head_at arguments_at opening_at
      spawns-at p q =
          record {
            is = λ P F w g c. same (then p (q.is P F (w.0.short, w.1) g c)) (rw (the_block e P F w.0 g, o));
          }

      pub functions-at : AddsIn (Placed s places) f (spawned_from s h.nesting h.depth) l a
          → AddsIn (Known s places transfers) f (called_in b) a a' → AddsIn (Known s places transfers) f (functions_by b) l a'
      unfolding by_transfer transfer_in of functions_of spawns_of block_at head_at arguments_at opening_at
      functions-at p q =
          record {
            is = λ P F w g c.
                same (then (p.is P F w.0 g c) (q.is P F w g c))
                (rw (the_block e P F w.0 g, o, concat-append (spawned_by F), append_assoc));
          }
