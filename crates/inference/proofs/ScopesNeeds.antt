-- What a block needs of its scope: what it needs itself (`own`), and what the scopes of its targets need besides (`joined_all`). Each
-- makes the least set over Δ that has it, and a set that has both suits.
use Prim.Native.Nat.{ℕ}
use mathlib.Core.Path.{◌≡◌, refl}
use mathlib.Core.Logic.{inl, inr}
use mathlib.Core.Bool.{Bool, true, false, cond}
use mathlib.Core.List.{List, [], ◌∷◌}
use lib.ListN.{get_or, get_elem?}
use Rattle.model.specs.Lists.{Each}
use Rattle.model.specs.Sets.{has, with, with_all, ◌∈◌}
use Rattle.model.specs.Syntax.{Statement, Transfer, Block, Function, uses, targets}
use Rattle.model.proofs.Facts.{true-false, each_map}
use Rattle.model.proofs.Sets.{Part, part-refl, part-trans, part-more, part-all, part-each, with-same}
use Rattle.inference.specs.Infer.{lacking, joined, needing, used_by, joined_all, arguments_of, nesting_needs, bound_by, used_behind, own}
use Rattle.inference.proofs.ScopesSets.{Among, part-add, joined-more, joined-has, joined-least}

-- in Γ, or in a part of Λ
among-part : (Γ x : ℕ) {Δ Λ : ℕ} → Part Δ Λ → Among Γ Δ x → Among Γ Λ x
among-part Γ x p (inl h) = inl h
among-part Γ x p (inr h) = inr (p.each x h)

-- Each of what follows adds to a set Δ. It keeps what is in Δ, has what it is to add, and is a part of every set that has both.
-- One temporary, where it is not in Γ
module _ (Γ Δ x : ℕ) where
  wanted-more : Part Δ (cond (has Γ x) Δ (with Δ x))
  wanted-more = go (has Γ x)
    where
      go : (b : Bool) → Part Δ (cond b Δ (with Δ x))
      go true = part-refl Δ
      go false = part-more Δ x

  wanted-has : Among Γ (cond (has Γ x) Δ (with Δ x)) x
  wanted-has = go (has Γ x) refl
    where
      go : (b : Bool) → has Γ x ≡ b → Among Γ (cond b Δ (with Δ x)) x
      go true e = inl e
      go false e = inr (with-same Δ x)

  wanted-least : {Λ : ℕ} → Part Δ Λ → Among Γ Λ x → Part (cond (has Γ x) Δ (with Δ x)) Λ
  wanted-least {Λ} p m = go (has Γ x) refl m
    where
      go : (b : Bool) → has Γ x ≡ b → Among Γ Λ x → Part (cond b Δ (with Δ x)) Λ
      go true e m = p
      go false e (inl h) = true-false (has Γ x) h e
      go false e (inr h) = part-add x p h

-- those of a list
lacking-more : (Γ Δ : ℕ) (x̄ : List ℕ) → Part Δ (lacking Γ Δ x̄)
unfolding lacking
lacking-more Γ Δ [] = part-refl Δ
lacking-more Γ Δ (x ∷ x̄) = part-trans (wanted-more Γ Δ x) (lacking-more Γ (cond (has Γ x) Δ (with Δ x)) x̄)

lacking-has : (Γ Δ : ℕ) (x̄ : List ℕ) → Each (Among Γ (lacking Γ Δ x̄)) x̄
unfolding lacking
lacking-has Γ Δ [] = tt
lacking-has Γ Δ (x ∷ x̄) =
    let Θ : ℕ = cond (has Γ x) Δ (with Δ x) in
    (among-part Γ x (lacking-more Γ Θ x̄) (wanted-has Γ Δ x), lacking-has Γ Θ x̄)

lacking-least : (Γ Δ : ℕ) {Λ : ℕ} (x̄ : List ℕ) → Part Δ Λ → Each (Among Γ Λ) x̄ → Part (lacking Γ Δ x̄) Λ
unfolding lacking
lacking-least Γ Δ [] p h = p
lacking-least Γ Δ (x ∷ x̄) p h = lacking-least Γ (cond (has Γ x) Δ (with Δ x)) x̄ (wanted-least Γ Δ x p h.0) h.1

-- what is in block b's scope is in Γ or in Λ
abbrev pub Brings : ℕ → ℕ → List ℕ → ℕ → Type 0
Brings Γ Λ Γs b = (x : ℕ) → x ∈ get_or Γs b 0 → Among Γ Λ x

-- the scopes of blocks, but for what is in Γ
module _ (Γ : ℕ) (Γs : List ℕ) where
  joined_all-more : (Δ : ℕ) (b̄ : List ℕ) → Part Δ (joined_all Γ Δ Γs b̄)
  unfolding joined_all
  joined_all-more Δ [] = part-refl Δ
  joined_all-more Δ (b ∷ b̄) = part-trans (joined-more Γ Δ (get_or Γs b 0)) (joined_all-more (joined Γ Δ (get_or Γs b 0)) b̄)

  joined_all-has : (Δ : ℕ) (b̄ : List ℕ) → Each (Brings Γ (joined_all Γ Δ Γs b̄) Γs) b̄
  unfolding joined_all
  joined_all-has Δ [] = tt
  joined_all-has Δ (b ∷ b̄) =
      let Θ : ℕ = joined Γ Δ (get_or Γs b 0) in
      (λ x h. among-part Γ x (joined_all-more Θ b̄) (joined-has Γ Δ (get_or Γs b 0) x h), joined_all-has Θ b̄)

  joined_all-least : (Δ : ℕ) {Λ : ℕ} (b̄ : List ℕ) → Part Δ Λ → Each (Brings Γ Λ Γs) b̄ → Part (joined_all Γ Δ Γs b̄) Λ
  unfolding joined_all
  joined_all-least Δ [] p h = p
  joined_all-least Δ (b ∷ b̄) p h =
      joined_all-least (joined Γ Δ (get_or Γs b 0)) b̄ (joined-least Γ (get_or Γs b 0) p h.0) h.1

-- all of a list
with_all-has : (Δ : ℕ) (x̄ : List ℕ) → Each (λ x. x ∈ with_all Δ x̄) x̄
unfolding with_all
with_all-has Δ [] = tt
with_all-has Δ (x ∷ x̄) = ((part-all (with Δ x) x̄).each x (with-same Δ x), with_all-has (with Δ x) x̄)

with_all-least : (Δ : ℕ) {Λ : ℕ} (x̄ : List ℕ) → Part Δ Λ → Each (λ x. x ∈ Λ) x̄ → Part (with_all Δ x̄) Λ
unfolding with_all
with_all-least Δ [] p h = p
with_all-least Δ (x ∷ x̄) p h = with_all-least (with Δ x) x̄ (part-add x p h.0) h.1

-- the arguments of F's spawn call π are in Λ
abbrev pub Spawns : Function → ℕ → ℕ → Type 0
Spawns F Λ π = Each (λ x. x ∈ Λ) (arguments_of (get_elem? F.spawns π))

-- the arguments of a nesting's spawn calls
module _ (F : Function) where
  nesting-more : (Δ : ℕ) (ρ : List ℕ) → Part Δ (nesting_needs F Δ ρ)
  unfolding nesting_needs
  nesting-more Δ [] = part-refl Δ
  nesting-more Δ (π ∷ ρ) =
      let x̄ : List ℕ = arguments_of (get_elem? F.spawns π) in
      part-trans (part-all Δ x̄) (nesting-more (with_all Δ x̄) ρ)

  nesting-has : (Δ : ℕ) {Λ : ℕ} (ρ : List ℕ) → Part (nesting_needs F Δ ρ) Λ → Each (Spawns F Λ) ρ
  unfolding nesting_needs
  nesting-has Δ [] p = tt
  nesting-has Δ (π ∷ ρ) p =
      let x̄ : List ℕ = arguments_of (get_elem? F.spawns π) in
      (part-each x̄ (part-trans (nesting-more (with_all Δ x̄) ρ) p) (with_all-has Δ x̄), nesting-has (with_all Δ x̄) ρ p)

  nesting-least : (Δ : ℕ) {Λ : ℕ} (ρ : List ℕ) → Part Δ Λ → Each (Spawns F Λ) ρ → Part (nesting_needs F Δ ρ) Λ
  unfolding nesting_needs
  nesting-least Δ [] p h = p
  nesting-least Δ (π ∷ ρ) p h =
      let x̄ : List ℕ = arguments_of (get_elem? F.spawns π) in
      nesting-least (with_all Δ x̄) ρ (with_all-least Δ x̄ p h.0) h.1

-- with Γ bound before statements and a transfer, all that they need besides is in Λ
unfoldable pub Met : ℕ → ℕ → List ℕ → List Statement → Transfer → Type 0
Met Γ Λ Γs [] T = Each (Among Γ Λ) (used_by T) × Each (Brings Γ Λ Γs) (targets T)
Met Γ Λ Γs (s ∷ C) T = Each (Among Γ Λ) (uses s.source) × Met (with Γ s.target) Λ Γs C T

-- what statements and a transfer need themselves
module _ (T : Transfer) where
  code-more : (Γ Δ : ℕ) (C : List Statement) → Part Δ (used_behind T (needing Γ Δ C))
  unfolding needing used_behind
  code-more Γ Δ [] = lacking-more Γ Δ (used_by T)
  code-more Γ Δ (s ∷ C) =
      let x̄ : List ℕ = uses s.source in
      part-trans (lacking-more Γ Δ x̄) (code-more (with Γ s.target) (lacking Γ Δ x̄) C)

  module _ (Γs : List ℕ) where
    code-least : (Γ Δ : ℕ) {Λ : ℕ} (C : List Statement) → Part Δ Λ → Met Γ Λ Γs C T → Part (used_behind T (needing Γ Δ C)) Λ
    unfolding needing used_behind Met
    code-least Γ Δ [] p m = lacking-least Γ Δ (used_by T) p m.0
    code-least Γ Δ (s ∷ C) p m =
        let x̄ : List ℕ = uses s.source in
        code-least (with Γ s.target) (lacking Γ Δ x̄) C (lacking-least Γ Δ x̄ p m.0) m.1

    -- what the scopes of the targets need, with all bound that the statements bind, whatever they need themselves
    code-brings : (Γ Θ Λ : ℕ) (C : List Statement) → Met Γ Λ Γs C T → Each (Brings (needing Γ Θ C).bound Λ Γs) (targets T)
    unfolding needing Met
    code-brings Γ Θ Λ [] m = m.1
    code-brings Γ Θ Λ (s ∷ C) m = code-brings (with Γ s.target) (lacking Γ Θ (uses s.source)) Λ C m.1

    -- both together
    code-has : (Γ Δ Θ : ℕ) {Λ : ℕ} (C : List Statement) → Part (used_behind T (needing Γ Δ C)) Λ →
        Each (Brings (needing Γ Θ C).bound Λ Γs) (targets T) → Met Γ Λ Γs C T
    unfolding needing used_behind Met
    code-has Γ Δ Θ [] p f = (each_map (λ x m. among-part Γ x p m) (used_by T) (lacking-has Γ Δ (used_by T)), f)
    code-has Γ Δ Θ (s ∷ C) p f =
        let x̄ : List ℕ = uses s.source in
        let q = part-trans (code-more (with Γ s.target) (lacking Γ Δ x̄) C) p in (
          each_map (λ x m. among-part Γ x q m) x̄ (lacking-has Γ Δ x̄),
          code-has (with Γ s.target) (lacking Γ Δ x̄) (lacking Γ Θ x̄) C p f,
        )

-- all that a block under ρ needs of its scope is in Λ, where the scopes of its targets are in Γs
pub record Suits (F : Function) (ρ Γs : List ℕ) (Λ : ℕ) (B : Block) : Type 0 where
  pub spawns : Each (Spawns F Λ) ρ
  pub code : Met (with_all 0 B.head.parameters) Λ Γs B.code B.transfer

-- Δ, and what the scopes of a block's targets need and it does not bind
abbrev pub from_targets : List ℕ → ℕ → Block → ℕ
from_targets Γs Δ B = joined_all (bound_by B) Δ Γs (targets B.transfer)

pub targets-more : (Γs : List ℕ) (Δ : ℕ) (B : Block) → Part Δ (from_targets Γs Δ B)
targets-more Γs Δ B = joined_all-more (bound_by B) Γs Δ (targets B.transfer)

module _ (F : Function) (ρ : List ℕ) (B : Block) where
  pub own-more : (Δ : ℕ) → Part Δ (own F ρ Δ B)
  unfolding own
  own-more Δ = part-trans (nesting-more F Δ ρ) (code-more B.transfer (with_all 0 B.head.parameters) (nesting_needs F Δ ρ) B.code)

  -- both are parts of what suits
  module _ (Γs : List ℕ) {Δ Λ : ℕ} (p : Part Δ Λ) (s : Suits F ρ Γs Λ B) where
    pub own-least : Part (own F ρ Δ B) Λ
    unfolding own
    own-least =
        code-least B.transfer Γs (with_all 0 B.head.parameters) (nesting_needs F Δ ρ) B.code
        (nesting-least F Δ ρ p s.spawns) s.code

    pub targets-least : Part (from_targets Γs Δ B) Λ
    unfolding bound_by
    targets-least =
        joined_all-least (bound_by B) Γs Δ (targets B.transfer) p
        (code-brings B.transfer Γs (with_all 0 B.head.parameters) 0 Λ B.code s.code)

  -- and what has both suits
  pub both-suit : (Γs : List ℕ) (Δ Θ : ℕ) {Λ : ℕ} → Part (own F ρ Δ B) Λ → Part (from_targets Γs Θ B) Λ → Suits F ρ Γs Λ B
  unfolding own bound_by
  both-suit Γs Δ Θ p q =
      let Γ : ℕ = with_all 0 B.head.parameters in
      let Ψ : ℕ = nesting_needs F Δ ρ in
      record {
        spawns = nesting-has F Δ ρ (part-trans (code-more B.transfer Γ Ψ B.code) p);
        code =
            code-has B.transfer Γs Γ Ψ 0 B.code p
            (each_map (λ b f x h. among-part (bound_by B) x q (f x h)) (targets B.transfer)
            (joined_all-has (bound_by B) Γs Θ (targets B.transfer)));
      }
