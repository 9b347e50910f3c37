-- What a nesting needs, what a block binds and needs itself, and the sweep that gives it to every scope.
use Prim.Native.Nat.{ℕ, zero, suc, ◌+◌, ◌-◌, ◌/◌, ◌%◌, ◌^◌, ◌≤◌, ◌<◌}
use mathlib.Core.Path.{◌≡◌, refl, sym, ◌∙◌, ap, subst}
use mathlib.Core.Option.{none, some}
use mathlib.Core.List.{List}
use native.Mathlib.Omega.{arith}
use Rattle.std.specs.Prelude.{Some, None}
use native.Mathlib.Decide.{ℕ_discrete}
use lib.ListN.{length, get_or, get_elem?, set, length-set}
use lib.Seq.{get_or-set_same, get_or-set_other}
use Rattle.model.specs.Syntax.{Block, SpawnCall, Function, Program}
use Rattle.model.specs.Sets.{with_all}
use Rattle.model.specs.Limits.{InSpawn, InBlock, InFunction}
use Rattle.model.specs.Read as Read
use Rattle.model.specs.Read.{Parsed}
use Rattle.model.specs.Pool.{block_in}
use Rattle.model.proofs.Facts.{none-some, some-injective, each_at, at-below, below_at}
use Rattle.model.proofs.Reading.{next-ok, counted-ok}
use Rattle.code.specs.Bytes.{past}
use Rattle.code.specs.Code.{arguments_at, bare_at, list_end, coded, spawn_at}
use Rattle.code.proofs.Decoding.{decodes-bare, decodes-block_by, spawn-is}
use Rattle.places.specs.Places.{Place, spawn_in, FindsBlock, FindsSpawn}
use Rattle.inference.specs.Infer.{Mark, arguments_of, nesting_needs, nesting_of, at, bound_by, own, need, downward}
use Rattle.scopings.specs.Words.{blocks, digits, mark_of, scope_in}
use Rattle.scopings.specs.Changes.{level_in, names_in, scoped, Whole}
use Rattle.scopings.proofs.Changing.{whole-scope, whole-scoped}
use Rattle.infer.specs.declared.Nesting.{Nesting}
use Rattle.infer.specs.declared.Needed.{Needed}
use Rattle.infer.specs.Nestings.{mark_by, Placed}
use Rattle.infer.specs.Needs.{binding_all, block_needs_at, Binds, NestingNeeds, Owns, BoundFrom, NeedsOwn, NeedsAll}
use Rattle.infer.proofs.Sweeps.{Sweeping, downward-goes, downward-none, sweep-all, sweep-next, sweep-end}
use Rattle.infer.proofs.Marking.{mark-there}
use Rattle.infer.proofs.Needing.{bindings, bound-is, needs-is}

-- what every function of such a program keeps to
limited : {s places : List ℕ} {f : ℕ} {P : Program} {F : Function} → Placed s places f P F → InFunction F
limited {s} {places} {f} {P} w = each_at InFunction P f w.placed.limits.functions w.there

-- the arguments of a spawn call
module _ (s places : List ℕ) (f π Δ : ℕ) {r : Place} (find : FindsSpawn places f π r) where
  pub spawn-nowhere : r ≡ None → Binds s places f π Δ Δ
  unfolding spawn_in arguments_of with_all
  spawn-nowhere e =
      record {
        is = λ P F w.
            let q : get_elem? F.spawns π ≡ none = rw w.there at (subst (FindsSpawn places f π) e find s P Read.bare w.placed) in
            rw q refl;
      }

  pub spawn-at : {p k v : ℕ} → r ≡ Some p → k ≡ past p 1 → v ≡ binding_all Δ (arguments_at s k) → Binds s places f π Δ v
  unfolding spawn_in arguments_of spawn_at
  spawn-at {p} {k} {v} e d c =
      record {
        is = λ P F w.
            let (S, g, t) = subst (FindsSpawn places f π) e find s P Read.bare w.placed in
            let q : get_elem? F.spawns π ≡ some S = rw w.there at g in
            let z : S ≡ spawn_at s p = spawn-is s p S t.behind w.placed.short t.is in
            let y : S.arguments ≡ arguments_at s k = ap (λ (S : SpawnCall). S.arguments) z ∙ rw d in
            let x = each_at InSpawn F.spawns π (limited w).spawns q in
            c ∙ rw (q, ← y) (bindings Δ S.arguments x.each);
      }

-- the names of a nesting, outermost first, of which so many are left
pub record NestingLeft (s places : List ℕ) (f : ℕ) (n : Nesting) (Δ₀ left names Δ : ℕ) : Type 0 where
  pub is : (P : Program) (F : Function) → Placed s places f P F →
      nesting_needs F Δ₀ (nesting_of (mark_by n)) ≡ nesting_needs F Δ (digits left names)

module _ {s places : List ℕ} {f : ℕ} (n : Nesting) {Δ₀ : ℕ} where
  pub nesting-first : NestingLeft s places f n Δ₀ (n.level - 1) n.names Δ₀
  unfolding nesting_of mark_of digits
  nesting-first = record { is = λ P F w. ap (nesting_needs F Δ₀) (go n.level) }
    where
      go : (k : ℕ) → nesting_of (mark_of k n.names) ≡ digits (k - 1) n.names
      go zero = refl
      go (suc k) = let e : suc k - 1 ≡ k = omega arith in rw e refl

  module _ {k names Δ : ℕ} (t : NestingLeft s places f n Δ₀ (n.level - k) names Δ) where
    pub nesting-next : {Θ : ℕ} → k < n.level → Binds s places f (names % 256) Δ Θ
        → NestingLeft s places f n Δ₀ (n.level - (k + 1)) (names / 256) Θ
    unfolding nesting_needs digits
    nesting-next {Θ} l p =
        let e : n.level - k ≡ suc (n.level - (k + 1)) = omega arith in
        record { is = λ P F w. t.is P F w ∙ rw (e, p.is P F w) refl }

    pub nesting-end : n.level ≤ k → NestingNeeds s places f n Δ₀ Δ
    unfolding nesting_needs digits
    nesting-end l = let e : n.level - k ≡ 0 = omega arith in record { is = λ P F w. sym (t.is P F w ∙ rw e) }

-- a block of version 2
block_inside : (s : List ℕ) (at : ℕ) {B : Block} {k : ℕ} → Read.block_by Read.bare s at ≡ Parsed.ok B k → at < length s
unfolding Read.block_by Read.bare Read.arguments
block_inside s at e =
    let t = next-ok (Read.bare s at) _ e in
    let u = next-ok (Read.arguments s at) _ t.first in
    (counted-ok 8 Read.temporary s at u.first).0.inside

block-is : (s : List ℕ) (at : ℕ) (B : Block) (k : ℕ) → length s < 2 ^ 64 → Read.block_by Read.bare s at ≡ Parsed.ok B k
    → B ≡ coded (bare_at s at) s (list_end s at)
block-is s at B k short e =
    let i = block_inside s at e in
    (decodes-block_by decodes-bare).value s at B k e (record { within = omega arith; short = short })

-- what a block binds, and what it needs itself
module _ (s : List ℕ) (p : ℕ) (B : Block) (i : InBlock B) (e : B ≡ coded (bare_at s p) s (list_end s p)) where
  inside : InBlock (coded (bare_at s p) s (list_end s p))
  inside = subst InBlock e i

  bound_of : (Δ : ℕ) → (block_needs_at s p Δ).bound ≡ bound_by B
  unfolding bound_by bare_at
  bound_of Δ = bound-is s p Δ inside.head.parameters.each inside.code ∙ rw e

  own_of : (F : Function) (ρ : List ℕ) (Δ : ℕ) → (block_needs_at s p (nesting_needs F Δ ρ)).needs ≡ own F ρ Δ B
  unfolding own bare_at
  own_of F ρ Δ = needs-is s p (nesting_needs F Δ ρ) inside.head.parameters.each inside.code inside.transfer ∙ rw e

module _ (s places : List ℕ) (f b : ℕ) {r : Place} (find : FindsBlock places f b r) where
  no_own : r ≡ None → {P : Program} {F : Function} → Placed s places f P F → {B : Block} → get_elem? F.blocks b ≡ some B
      → {A : Type 0} → A
  unfolding block_in
  no_own e {P} {F} w g =
      let q : get_elem? F.blocks b ≡ none = rw w.there at (subst (FindsBlock places f b) e find s P Read.bare w.placed) in
      none-some (sym q ∙ g)

  pub own-nowhere : (words : List ℕ) {v : Needed} → r ≡ None → Owns s places f b words v
  own-nowhere words e = record { bound = λ P F w B g. no_own e w g; needs = λ P F w B g ms Γs l h. no_own e w g }

  there : {p : ℕ} → r ≡ Some p → {P : Program} {F : Function} → Placed s places f P F → {B : Block} → get_elem? F.blocks b ≡ some B
      → B ≡ coded (bare_at s p) s (list_end s p)
  unfolding block_in
  there {p} e {P} {F} w {B} g =
      let (C, j, t) = subst (FindsBlock places f b) e find s P Read.bare w.placed in
      let q : get_elem? F.blocks b ≡ some C = rw w.there at j in
      let u : B ≡ C = some-injective (sym g ∙ q) in
      u ∙ block-is s p C t.behind w.placed.short t.is

  pub own_at : (words : List ℕ) {p level names Δ Θ : ℕ} {n : Nesting} {v : Needed} → r ≡ Some p → level ≡ level_in words b
      → names ≡ names_in words b → n ≡ record { level = level; names = names } → Δ ≡ scope_in words b → NestingNeeds s places f n Δ Θ
      → v ≡ block_needs_at s p Θ → Owns s places f b words v
  own_at words {p} {level} {names} {Δ} {Θ} {n} {v} e d c k y needs z =
      record {
        bound = λ P F w B g.
            rw z (bound_of s p B (each_at InBlock F.blocks b (limited w).blocks g) (there e w g) Θ);
        needs = λ P F w B g ms Γs l h.
            let m : mark_by n ≡ get_or ms b none = rw (k, d, c) (sym (mark-there h b l)) in
            let x : Δ ≡ get_or Γs b 0 = y ∙ whole-scope h b in
            let o : Θ ≡ nesting_needs F (get_or Γs b 0) (nesting_of (get_or ms b none)) = needs.is P F w ∙ rw (x, m) in
            rw (z, o)
            (own_of s p B (each_at InBlock F.blocks b (limited w).blocks g) (there e w g) F (nesting_of (get_or ms b none))
            (get_or Γs b 0));
      }

-- a block that gets what it needs itself, and keeps what it binds
module _ {s places : List ℕ} {f b : ℕ} {words : List ℕ} {o : Needed} (p : Owns s places f b words o) where
  need-is : {P : Program} {F : Function} → Placed s places f P F → {ms : List Mark} {Γs : List ℕ} → length F.blocks ≡ length ms
      → b < length ms → Whole words ms Γs → need F ms b Γs ≡ set Γs b o.needs
  unfolding need at
  need-is {P} {F} w {ms} {Γs} d l h =
      let (B, q) = below_at F.blocks b (omega arith) in
      rw (q, ← p.needs P F w B q ms Γs l h) refl

  kept : {P : Program} {F : Function} → Placed s places f P F → {bounds : List ℕ} → BoundFrom F (b + 1) bounds
      → BoundFrom F b (set bounds b o.bound)
  kept {P} {F} w {bounds} k =
      record {
        long = length-set bounds b o.bound ∙ k.long;
        is = λ c B l g. go c B l g (ℕ_discrete c b);
      }
    where
      go : (c : ℕ) (B : Block) → b ≤ c → get_elem? F.blocks c ≡ some B → Dec (c ≡ b) → get_or (set bounds b o.bound) c 0 ≡ bound_by B
      go c B l g (yes e) =
          let j : b < length bounds = omega (arith, at-below F.blocks c g, (limited w).few_blocks, k.long) in
          rw (e, get_or-set_same bounds b o.bound 0 j) (p.bound P F w B (rw e at g))
      go c B l g (no n) =
          let j : b + 1 ≤ c = ≤-other b c l n in
          get_or-set_other bounds b c o.bound 0 n ∙ k.is c B j g
        where
          ≤-other : (b c : ℕ) → b ≤ c → (c ≡ b → ⊥) → b + 1 ≤ c
          ≤-other b c l n = omega arith

  pub need-own : {bounds words' bounds' : List ℕ} → o.needs < 65536 → bounds' ≡ set bounds b o.bound
      → words' ≡ scoped words b o.needs → NeedsOwn s places f b words bounds words' bounds'
  need-own k d e =
      record {
        is = λ P F w ms Γs j l h. rw (need-is w j l h, e) (whole-scoped h b o.needs l k);
        keeps = λ P F w t. rw d (kept w t);
      }

-- what the words hold while the marks stay
abbrev pub Scopes : List Mark → List ℕ → List ℕ → Type 0
Scopes ms words Γs = Whole words ms Γs

-- the sweep, block by block
pub record NeedsLeft (s places : List ℕ) (f n : ℕ) (words₀ bounds₀ words bounds : List ℕ) (left : ℕ) : Type 0 where
  pub is : (P : Program) (F : Function) → Placed s places f P F → (ms : List Mark) → length F.blocks ≡ length ms → n ≡ length ms →
      Sweeping (Scopes ms) (need F ms) (downward n) (downward left) words₀ words
  pub keeps : (P : Program) (F : Function) → Placed s places f P F → n ≡ length F.blocks → length bounds₀ ≡ blocks →
      BoundFrom F left bounds

module _ {s places : List ℕ} {f n : ℕ} {words₀ bounds₀ : List ℕ} where
  pub needs-first : NeedsLeft s places f n words₀ bounds₀ words₀ bounds₀ n
  needs-first =
      record {
        is = λ P F w ms d l. sweep-all (Scopes ms);
        keeps = λ P F w d l. record { long = l; is = λ c B j g. absurd (omega (arith, at-below F.blocks c g)) };
      }

  module _ {words bounds : List ℕ} {left : ℕ} (t : NeedsLeft s places f n words₀ bounds₀ words bounds left) where
    pub needs-next : {words' bounds' : List ℕ} → 0 < left → left ≤ n → NeedsOwn s places f (left - 1) words bounds words' bounds'
        → NeedsLeft s places f n words₀ bounds₀ words' bounds' (left - 1)
    needs-next k j p =
        let e : left ≡ left - 1 + 1 = omega arith in
        record {
          is = λ P F w ms d l.
              sweep-next (Scopes ms) (t.is P F w ms d l) (downward-goes left k) (λ Γs h. p.is P F w ms Γs d (omega arith) h);
          keeps = λ P F w d l. p.keeps P F w (subst (λ (m : ℕ). BoundFrom F m bounds) e (t.keeps P F w d l));
        }

    pub needs-end : left ≤ 0 → NeedsAll s places f n words₀ bounds₀ words bounds
    needs-end k =
        let e : left ≡ 0 = omega arith in
        record {
          is = λ P F w ms Γs d l h. sweep-end (Scopes ms) (t.is P F w ms d l) (downward-none left k) Γs h;
          keeps = λ P F w d l. subst (λ (m : ℕ). BoundFrom F m bounds) e (t.keeps P F w d l);
        }
