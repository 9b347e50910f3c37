-- The scopes that are inferred: as many as blocks, small, parts of those of whatever passes with the same nestings; and with them the
-- function passes, where anything does.
use Prim.Native.Nat.{ℕ, zero, suc, ◌*◌, ◌^◌, ◌≤◌, ◌<◌}
use mathlib.Core.Path.{◌≡◌, refl, sym, ◌∙◌, ap, subst}
use mathlib.Core.Logic.{◌⊎◌, inl}
use mathlib.Core.Option.{Option, none, some, map}
use mathlib.Core.List.{List, [], ◌∷◌}
use native.Mathlib.Omega.{arith}
use lib.ListN.{length, get_or, get_elem?, set, replicate, length-set, length-replicate}
use lib.Seq.{get_or-set_same}
use Rattle.model.specs.Pool.{temporaries}
use Rattle.model.specs.Sets.{below, ◌⊆◌}
use Rattle.model.specs.Syntax.{Head, Block, Function, Program}
use Rattle.model.specs.Limits.{InBlock, InFunction}
use Rattle.model.specs.WellFormed.{head_of, env, Callee, WF-block, WF-fun}
use Rattle.model.proofs.Facts.{map-some, each_map, each_at, at_each, at-below, same_at}
use Rattle.model.proofs.Members.{below-lt}
use Rattle.model.proofs.Sets.{Part, part-refl, part-trans}
use Rattle.inference.specs.Filled.{Scoping, put, filled}
use Rattle.inference.specs.Infer.{downward, sweep, rounds, at, Mark, marks, nesting_of, own, need, grow, given, needed, scopes, infer}
use Rattle.inference.proofs.Rounds.{Climbs, sweep-keep, rounds-keep, downward-ends, downward-makes}
use Rattle.inference.proofs.Filled.{filled-block, block-filled}
use Rattle.inference.proofs.ScopesSets.{within-part, part_same, part_none, below-part, part-below, total, total-most, total-climbs}
use Rattle.inference.proofs.ScopesNeeds.{Suits, from_targets, own-more, own-least, targets-more, targets-least, both-suit}
use Rattle.inference.proofs.ScopesPassing.{rescoped, passing-suits, suits-passing, small-suits}

module _ {A : Type 0} where
  -- what holds of the item at each index, where one is set to another of which it holds
  set_keeps : (Q : ℕ → A → Type 0) (d : A) (l : List A) (i : ℕ) (v : A) → Q i v → ((j : ℕ) → Q j (get_or l j d)) →
      (j : ℕ) → Q j (get_or (set l i v) j d)
  set_keeps Q d [] i v q h j = h j
  set_keeps Q d (x ∷ l) zero v q h zero = q
  set_keeps Q d (x ∷ l) zero v q h (suc j) = h (suc j)
  set_keeps Q d (x ∷ l) (suc i) v q h zero = h 0
  set_keeps Q d (x ∷ l) (suc i) v q h (suc j) = set_keeps (λ k y. Q (suc k) y) d l i v q (λ k. h (suc k)) j

-- A step that sets the scope of its block, where it is there, to what `v` says: `need` and `grow` are two
module _ (F : Function) (v : ℕ → Block → List ℕ → ℕ) where
  abbrev setting : ℕ → List ℕ → List ℕ
  setting b Γs = at (get_elem? F.blocks b) (λ B Γs. set Γs b (v b B Γs)) Γs

  setting-some : (b : ℕ) (Γs : List ℕ) {B : Block} → get_elem? F.blocks b ≡ some B → setting b Γs ≡ set Γs b (v b B Γs)
  unfolding at
  setting-some b Γs e = rw e

  setting-none : (b : ℕ) (Γs : List ℕ) → get_elem? F.blocks b ≡ none → setting b Γs ≡ Γs
  unfolding at
  setting-none b Γs e = rw e

  -- so what holds where a block's scope is set, or nothing is, holds of a step
  setting-either : (I : List ℕ → Type 0) (b : ℕ) (Γs : List ℕ) → I Γs →
      ((B : Block) → get_elem? F.blocks b ≡ some B → I (set Γs b (v b B Γs))) → I (setting b Γs)
  setting-either I b Γs i k = go (get_elem? F.blocks b) refl
    where
      go : (o : Option Block) → get_elem? F.blocks b ≡ o → I (setting b Γs)
      go none e = subst I (sym (setting-none b Γs e)) i
      go (some B) e = subst I (sym (setting-some b Γs e)) (k B e)

  -- as many scopes as before
  setting-length : (b : ℕ) (Γs : List ℕ) → length (setting b Γs) ≡ length Γs
  setting-length b Γs = setting-either (λ Δs. length Δs ≡ length Γs) b Γs refl (λ B e. length-set Γs b (v b B Γs))

  -- that of the block is the one that is set
  setting-there : (b : ℕ) (Γs : List ℕ) {B : Block} → get_elem? F.blocks b ≡ some B → length Γs ≡ length F.blocks →
      get_or (setting b Γs) b 0 ≡ v b B Γs
  setting-there b Γs {B} e n =
      ap (λ (Δs : List ℕ). get_or Δs b 0) (setting-some b Γs e) ∙
      get_or-set_same Γs b (v b B Γs) 0 (subst (λ (k : ℕ). b < k) (sym n) (at-below F.blocks b e))

  -- what holds of the scope of each block, where it holds of each that is set
  abbrev Keeps : (ℕ → ℕ → Type 0) → Type 0
  Keeps Q = (b : ℕ) (B : Block) (Γs : List ℕ) → get_elem? F.blocks b ≡ some B → ((j : ℕ) → Q j (get_or Γs j 0)) → Q b (v b B Γs)

  setting-keeps : (Q : ℕ → ℕ → Type 0) → Keeps Q → (b : ℕ) (Γs : List ℕ) → ((j : ℕ) → Q j (get_or Γs j 0)) →
      (j : ℕ) → Q j (get_or (setting b Γs) j 0)
  setting-keeps Q k b Γs h =
      setting-either (λ Δs. (j : ℕ) → Q j (get_or Δs j 0)) b Γs h (λ B e. set_keeps Q 0 Γs b (v b B Γs) (k b B Γs e h) h)

  -- where what is set is never less, no scope gets smaller
  setting-more : ((b : ℕ) (B : Block) (Γs : List ℕ) → Part (get_or Γs b 0) (v b B Γs)) → (X j b : ℕ) (Γs : List ℕ) →
      Part X (get_or Γs j 0) → Part X (get_or (setting b Γs) j 0)
  setting-more m X j b Γs p =
      part-trans p
      (setting-either (λ Δs. (i : ℕ) → Part (get_or Γs i 0) (get_or Δs i 0)) b Γs (λ i. part-refl (get_or Γs i 0))
      (λ B e. set_keeps (λ i Δ. Part (get_or Γs i 0) Δ) 0 Γs b (v b B Γs) (m b B Γs) (λ i. part-refl (get_or Γs i 0))) j)

module _ (F : Function) (ms : List Mark) where
  -- how many blocks there are; the nesting of block b; its scope after its step of the sweep, and after one of the rounds; the scopes
  -- after the sweep, and after all rounds
  abbrev number : ℕ
  number = length F.blocks

  abbrev nests : ℕ → List ℕ
  nests b = nesting_of (get_or ms b none)

  abbrev needs : ℕ → Block → List ℕ → ℕ
  needs b B Γs = own F (nests b) (get_or Γs b 0) B

  abbrev grows : ℕ → Block → List ℕ → ℕ
  grows b B Γs = from_targets Γs (get_or Γs b 0) B

  abbrev needed_by : List ℕ
  needed_by = sweep (setting F needs) (downward number) (given F)

  abbrev pub scopes_by : List ℕ
  scopes_by = rounds (sweep (setting F grows) (downward number)) (16 * number) needed_by

  needs-more : (b : ℕ) (B : Block) (Γs : List ℕ) → Part (get_or Γs b 0) (needs b B Γs)
  needs-more b B Γs = own-more F (nests b) B (get_or Γs b 0)

  grows-more : (b : ℕ) (B : Block) (Γs : List ℕ) → Part (get_or Γs b 0) (grows b B Γs)
  grows-more b B Γs = targets-more Γs (get_or Γs b 0) B

  -- what every step of the sweep keeps, and what every step of the rounds keeps
  swept : (I : List ℕ → Type 0) → ((b : ℕ) (Γs : List ℕ) → I Γs → I (setting F needs b Γs)) → I (given F) → I needed_by
  swept I k = sweep-keep (setting F needs) I k (downward number) (given F)

  rounded : (I : List ℕ → Type 0) → ((b : ℕ) (Γs : List ℕ) → I Γs → I (setting F grows b Γs)) → I needed_by → I scopes_by
  rounded I k = rounds-keep (setting F grows) I k (downward number) (16 * number) needed_by

  -- one scope for each block
  abbrev One : List ℕ → Type 0
  One Γs = length Γs ≡ number

  setting-one : (v : ℕ → Block → List ℕ → ℕ) (b : ℕ) (Γs : List ℕ) → One Γs → One (setting F v b Γs)
  setting-one v b Γs e = setting-length F v b Γs ∙ e

  given-one : One (given F)
  unfolding given
  given-one = length-set (replicate number 0) 0 (below F.signature.parameters) ∙ length-replicate number 0

  needed-one : One needed_by
  needed-one = swept One (setting-one needs) given-one

  by_one : One scopes_by
  by_one = rounded One (setting-one grows) needed-one

  -- what holds of the scope of each block, where it holds of each that is set
  each_needed : (Q : ℕ → ℕ → Type 0) → Keeps F needs Q → ((j : ℕ) → Q j (get_or (given F) j 0)) → (j : ℕ) → Q j (get_or needed_by j 0)
  each_needed Q k = swept (λ Γs. (j : ℕ) → Q j (get_or Γs j 0)) (setting-keeps F needs Q k)

  each-scope : (Q : ℕ → ℕ → Type 0) → Keeps F grows Q → ((j : ℕ) → Q j (get_or needed_by j 0)) → (j : ℕ) → Q j (get_or scopes_by j 0)
  each-scope Q k = rounded (λ Γs. (j : ℕ) → Q j (get_or Γs j 0)) (setting-keeps F grows Q k)

  -- and at first, where it holds of the entry's parameters and of nothing
  given-each : (Q : ℕ → ℕ → Type 0) → Q 0 (below F.signature.parameters) → ((j : ℕ) → Q j 0) → (j : ℕ) → Q j (get_or (given F) j 0)
  unfolding given
  given-each Q q z =
      set_keeps Q 0 (replicate number 0) 0 (below F.signature.parameters) q (λ j. subst (Q j) (sym (same_at number j 0)) (z j))

  -- the entry has its parameters throughout
  entry_has : 0 < number → Part (below F.signature.parameters) (get_or scopes_by 0 0)
  unfolding given
  entry_has l =
      let Γ = below F.signature.parameters in
      let l' : 0 < length {A = ℕ} (replicate number 0) = rw (length-replicate {A = ℕ} number 0) l in
      let I : List ℕ → Type 0 = λ Γs. Part Γ (get_or Γs 0 0) in
      rounded I (setting-more F grows grows-more Γ 0)
      (swept I (setting-more F needs needs-more Γ 0) (rw (get_or-set_same (replicate number 0) 0 Γ 0 l') (part-refl Γ)))

  -- from its step in the sweep on, a block has what it needs itself
  abbrev Owned : ℕ → List ℕ → Type 0
  Owned b Γs = (B : Block) → get_elem? F.blocks b ≡ some B → (Δ : ℕ) × Part (own F (nests b) Δ B) (get_or Γs b 0)

  owned-stays : (v : ℕ → Block → List ℕ → ℕ) → ((b : ℕ) (B : Block) (Γs : List ℕ) → Part (get_or Γs b 0) (v b B Γs)) →
      (b c : ℕ) (Γs : List ℕ) → Owned b Γs → Owned b (setting F v c Γs)
  owned-stays v m b c Γs o B e = let k = o B e in (k.0, setting-more F v m (own F (nests b) k.0 B) b c Γs k.1)

  owned-made : (b : ℕ) (Γs : List ℕ) → One Γs → Owned b (setting F needs b Γs)
  owned-made b Γs n B e =
      (get_or Γs b 0, subst (λ (Γ : ℕ). Part (needs b B Γs) Γ) (sym (setting-there F needs b Γs e n)) (part-refl (needs b B Γs)))

  by-owned : (b : ℕ) → b < number → Owned b scopes_by
  by-owned b l =
      rounded (Owned b) (owned-stays grows grows-more b)
      (downward-makes (setting F needs) One Owned (setting-one needs) owned-made (owned-stays needs needs-more) number (given F) given-one
      b l)

  module _ (L : InFunction F) where
    -- scopes of the temporaries that there are
    abbrev Small : ℕ → ℕ → Type 0
    Small j Γ = Part Γ (below temporaries)

    all-suits : (b : ℕ) (B : Block) (Γs : List ℕ) → get_elem? F.blocks b ≡ some B → ((j : ℕ) → Small j (get_or Γs j 0)) →
        Suits F (nests b) Γs (below temporaries) B
    all-suits b B Γs e h = small-suits F L Γs h (nests b) B (each_at InBlock F.blocks b L.blocks e)

    needs-small : Keeps F needs Small
    needs-small b B Γs e h = own-least F (nests b) B Γs (h b) (all-suits b B Γs e h)

    grows-small : Keeps F grows Small
    grows-small b B Γs e h = targets-least F (nests b) B Γs (h b) (all-suits b B Γs e h)

    given-small : (j : ℕ) → Small j (get_or (given F) j 0)
    given-small =
        given-each Small (below-part temporaries (below-lt F.signature.parameters temporaries (omega (arith, L.parameters))))
        (λ j. part_none _)

    needed-small : (j : ℕ) → Small j (get_or needed_by j 0)
    needed-small = each_needed Small needs-small given-small

    by-small : (j : ℕ) → Small j (get_or scopes_by j 0)
    by-small = each-scope Small grows-small needed-small

    -- the steps of the rounds climb, so that none changes anything in the end
    Sized : List ℕ → Type 0
    Sized Γs = One Γs × ((j : ℕ) → Small j (get_or Γs j 0))

    climbs : Climbs (setting F grows) Sized total (16 * number)
    unfolding Sized
    climbs =
        record {
          keeps = λ b Γs i. (setting-one grows b Γs i.0, setting-keeps F grows Small grows-small b Γs i.1);
          climbs = λ b Γs i.
              setting-either F grows (λ Δs. (Δs ≡ Γs) ⊎ (total Γs < total Δs)) b Γs (inl refl)
              (λ B e.
              total-climbs Γs b (grows b B Γs) (grows-more b B Γs) (part-below temporaries (i.1 b))
              (part-below temporaries (grows-small b B Γs e i.1)));
          most = λ Γs i. subst (λ (n : ℕ). total Γs ≤ 16 * n) i.0 (total-most Γs);
        }

    -- then each block has all that it needs in its scope
    by-suits : (b : ℕ) (B : Block) → get_elem? F.blocks b ≡ some B → Suits F (nests b) scopes_by (get_or scopes_by b 0) B
    unfolding Sized
    by-suits b B e =
        let l : b < number = at-below F.blocks b e in
        let f : setting F grows b scopes_by ≡ scopes_by = downward-ends climbs number needed_by (needed-one, needed-small) b l in
        let g : grows b B scopes_by ≡ get_or scopes_by b 0 =
        sym (setting-there F grows b scopes_by e by_one) ∙ ap (λ (Γs : List ℕ). get_or Γs b 0) f
        in
        let o = by-owned b l B e in
        both-suit F (nests b) B scopes_by o.0 (get_or scopes_by b 0) o.1
        (subst (λ (Γ : ℕ). Part (grows b B scopes_by) Γ) g (part-refl (grows b B scopes_by)))

-- Where F passes with a, whose nestings are those of ms, each of these scopes is a part of a's; and F passes with them
module _ (P : Program) (F : Function) (ms : List Mark) (a : ℕ → Scoping) (W : WF-fun P (filled a F))
    (same : (b : ℕ) → b < length F.blocks → nesting_of (get_or ms b none) ≡ (a b).nesting) where
  passes : (b : ℕ) (B : Block) → get_elem? F.blocks b ≡ some B → WF-block (env P (filled a F)) (put (a b) B)
  passes b B e = each_at (WF-block (env P (filled a F))) (filled a F).blocks b W.blocks (filled-block a F b B e)

  spawns-same : (π : ℕ) → (env P (filled a F)).spawn π ≡ get_elem? F.spawns π
  unfolding env filled
  spawns-same π = refl

  -- the head of a block is that of a block of F, filled
  head-of : (b : ℕ) (H : Head) → (env P (filled a F)).block b ≡ some H →
      (B : Block) × (get_elem? F.blocks b ≡ some B) × ((put (a b) B).head ≡ H)
  unfolding env
  head-of b H e =
      let C = map-some head_of (get_elem? (filled a F).blocks b) e in
      let B = block-filled a F b C.0 C.1 in
      (B.0, B.1, ap head_of B.2 ∙ C.2)

  -- each scope is a part of a's
  abbrev Smaller : ℕ → ℕ → Type 0
  Smaller b Γ = b < length F.blocks → Part Γ (a b).scope

  smaller-heads : (Γs : List ℕ) → ((j : ℕ) → Smaller j (get_or Γs j 0)) → (b : ℕ) (H : Head) → (env P (filled a F)).block b ≡ some H →
      Part (get_or Γs b 0) H.scope
  unfolding put
  smaller-heads Γs h b H e =
      let B = head-of b H e in
      subst (λ (I : Head). Part (get_or Γs b 0) I.scope) B.2 (h b (at-below F.blocks b B.1))

  -- the entry's is given
  entry-scope : (a 0).scope ≡ below F.signature.parameters
  unfolding put filled
  entry-scope =
      let B = block-filled a F 0 W.entry W.first in
      ap (λ (C : Block). C.head.scope) B.2 ∙ W.enters.scope

  -- what a's scope has suits, whatever parts of a's the scopes of the targets are
  part-suits : (b : ℕ) (B : Block) (Γs : List ℕ) → get_elem? F.blocks b ≡ some B → ((j : ℕ) → Smaller j (get_or Γs j 0)) →
      b < length F.blocks → Suits F (nesting_of (get_or ms b none)) Γs (a b).scope B
  part-suits b B Γs e h l =
      subst (λ (ρ : List ℕ). Suits F ρ Γs (a b).scope B) (sym (same b l))
      (passing-suits F (env P (filled a F)) Γs spawns-same (smaller-heads Γs h) (a b) B (passes b B e))

  by-least : (b : ℕ) → b < length F.blocks → Part (get_or (scopes_by F ms) b 0) (a b).scope
  by-least =
      each-scope F ms Smaller (λ b B Γs e h l. targets-least F (nesting_of (get_or ms b none)) B Γs (h b l) (part-suits b B Γs e h l))
      (each_needed F ms Smaller (λ b B Γs e h l. own-least F (nesting_of (get_or ms b none)) B Γs (h b l) (part-suits b B Γs e h l))
      (given-each F ms Smaller (λ l. subst (λ (Γ : ℕ). Part Γ (a 0).scope) entry-scope (part-refl (a 0).scope))
      (λ j l. part_none (a j).scope)))

  -- what is put into the blocks
  abbrev fitting : ℕ → Scoping
  fitting b = record { scope = get_or (scopes_by F ms) b 0; nesting = nesting_of (get_or ms b none) }

  fitting-heads : (b : ℕ) (H : Head) → (env P (filled a F)).block b ≡ some H →
      map head_of (get_elem? (filled fitting F).blocks b) ≡ some (rescoped (get_or (scopes_by F ms) b 0) H)
  unfolding put
  fitting-heads b H e =
      let B = head-of b H e in
      let l = at-below F.blocks b B.1 in
      ap (map head_of) (filled-block fitting F b B.0 B.1) ∙
      ap (λ (ρ : List ℕ). some (record { parameters = B.0.head.parameters; scope = get_or (scopes_by F ms) b 0; nesting = ρ })) (same b l) ∙
      ap (λ (I : Head). some (rescoped (get_or (scopes_by F ms) b 0) I)) B.2

  fitting-callee : {g n : ℕ} → Callee (env P (filled a F)) g n → Callee (env P (filled fitting F)) g n
  unfolding env
  fitting-callee k = record { signature = k.signature; there = k.there; takes = k.takes }

  module _ (L : InFunction F) where
    fitting-block : (b : ℕ) (B : Block) → get_elem? F.blocks b ≡ some B → WF-block (env P (filled fitting F)) (put (fitting b) B)
    unfolding env filled
    fitting-block b B e =
        let l = at-below F.blocks b e in
        let Γs = scopes_by F ms in
        let Γ = get_or Γs b 0 in
        let s : Suits F (a b).nesting Γs Γ B = subst (λ (ρ : List ℕ). Suits F ρ Γs Γ B) (same b l) (by-suits F ms L b B e) in
        subst (λ (ρ : List ℕ). WF-block (env P (filled fitting F)) (put (record { scope = Γ; nesting = ρ }) B)) (sym (same b l))
        (suits-passing F (env P (filled a F)) Γs spawns-same (λ c. map head_of (get_elem? (filled fitting F).blocks c)) fitting-heads
        (a b) Γ B (by-least b l) s (passes b B e))

    by-pass : WF-fun P (filled fitting F)
    unfolding put filled
    by-pass =
        let first = block-filled a F 0 W.entry W.first in
        let B : Block = first.0 in
        let l : 0 < length F.blocks = at-below F.blocks 0 first.1 in
        let head : (put (a 0) B).head ≡ W.entry.head = ap head_of first.2 in
        record {
          spawns = each_map (λ S k. fitting-callee k) F.spawns W.spawns;
          entry = put (fitting 0) B;
          first = filled-block fitting F 0 B first.1;
          enters =
              record {
                parameters = ap (λ (H : Head). H.parameters) head ∙ W.enters.parameters;
                scope =
                    part_same (subst (λ (Γ : ℕ). Part (get_or (scopes_by F ms) 0 0) Γ) entry-scope (by-least 0 l)) (entry_has F ms l);
                nesting = same 0 l ∙ ap (λ (H : Head). H.nesting) head ∙ W.enters.nesting;
              };
          blocks =
              at_each (WF-block (env P (filled fitting F))) (filled fitting F).blocks
              (λ b C e.
              let D = block-filled fitting F b C e in
              subst (WF-block (env P (filled fitting F))) D.2 (fitting-block b D.0 D.1));
        }

-- The same of the scopes that are inferred, under the marks
pub scopes-small : (F : Function) → InFunction F → (b : ℕ) → get_or (scopes F) b 0 < 2 ^ 16
unfolding scopes needed need grow
scopes-small F L b = part-below temporaries (by-small F (marks F) L b)

-- a's scopes and nestings make F pass, and its nestings are those that are inferred
module _ (P : Program) (F : Function) (a : ℕ → Scoping) where
  pub scopes-least : WF-fun P (filled a F) → ((b : ℕ) → b < length F.blocks → nesting_of (get_or (marks F) b none) ≡ (a b).nesting) →
      (b : ℕ) → b < length F.blocks → get_or (scopes F) b 0 ⊆ (a b).scope
  unfolding scopes needed need grow
  scopes-least W same b l = within-part (by-least P F (marks F) a W same b l)

  pub scopes-pass : InFunction F → WF-fun P (filled a F) →
      ((b : ℕ) → b < length F.blocks → nesting_of (get_or (marks F) b none) ≡ (a b).nesting) → WF-fun P (filled (infer F) F)
  unfolding scopes needed need grow infer
  scopes-pass L W same = by-pass P F (marks F) a W same L
