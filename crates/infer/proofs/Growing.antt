-- What the scopes of a block's targets need, and rounds over the blocks.
use Prim.Native.Nat.{ℕ, ◌*◌, ◌-◌, ◌≤◌, ◌<◌}
use mathlib.Core.Path.{◌≡◌, refl, sym, ◌∙◌, ap, subst}
use mathlib.Core.Bool.{Bool, true, false, ◌||◌}
use mathlib.Core.Option.{none, some}
use mathlib.Core.List.{List}
use native.Mathlib.Omega.{arith}
use Rattle.std.specs.Prelude.{Some, None}
use lib.ListN.{length, get_or, get_elem?, set}
use lib.Seq.{set-get_or}
use Rattle.model.specs.Syntax.{Function, Program, targets}
use Rattle.model.specs.Pool.{block_in}
use Rattle.model.proofs.Facts.{none-some, some-injective, below_at}
use Rattle.code.specs.Code.{transfer_at}
use Rattle.places.specs.Places.{Place}
use Rattle.transfers.specs.Transfers.{transfer_in, FindsTransfer}
use Rattle.transfers.proofs.Blocks.{transfer-is}
use Rattle.inference.specs.Infer.{Mark, at, grow, downward, sweep}
use Rattle.scopings.specs.Words.{scope_in}
use Rattle.scopings.specs.Changes.{scoped, Whole}
use Rattle.scopings.proofs.Changing.{whole-scope, whole-scoped, one-scopes}
use Rattle.infer.specs.declared.Needed.{Needed}
use Rattle.infer.specs.Needs.{joins, Bounded, Grown, Grows, GrowsAll, Settles}
use Rattle.infer.proofs.Sweeps.{Sweeping, downward-goes, downward-none, still, sweep-all, sweep-next, sweep-end, rounds-taken}
use Rattle.infer.specs.Rounds.{RoundsBy}
use denote.Ref.{MutBor}
use Rattle.infer.proofs.Leading.{no_block, the_block}
use Rattle.infer.proofs.Needing.{joineds}
use Rattle.infer.proofs.Owning.{Scopes}

-- a block's scope, and what the scopes of its targets need
module _ (s transfers : List ℕ) (f b : ℕ) (bounds words : List ℕ) {r : Place} (find : FindsTransfer transfers f b r) where
  pub grown-nowhere : r ≡ None → Grown s transfers f b bounds words 0
  unfolding block_in
  grown-nowhere e =
      record {
        is = λ P F w B g ms Γs h.
            let q : transfer_in (get_elem? F.blocks b) ≡ none =
            rw w.ended.there at (subst (FindsTransfer transfers f b) e find s P w.ended.ends) in
            none-some (sym (no_block (get_elem? F.blocks b) q) ∙ g);
      }

  pub grown-at : {p Γ Δ : ℕ} {v : Needed} → r ≡ Some p → Γ ≡ get_or bounds b 0 → Δ ≡ scope_in words b
      → v ≡ joins (record { bound = Γ; needs = Δ }) (scope_in words) (targets (transfer_at s p))
      → Grown s transfers f b bounds words v.needs
  unfolding block_in
  grown-at {p} {Γ} {Δ} {v} e d c z =
      record {
        is = λ P F w B g ms Γs h.
            let (T, i, y) = subst (FindsTransfer transfers f b) e find s P w.ended.ends in
            let i' : transfer_in (get_elem? F.blocks b) ≡ some T = rw w.ended.there at i in
            let (C, j, t) = the_block (get_elem? F.blocks b) i' in
            let u : B ≡ C = some-injective (sym g ∙ j) in
            let q : B.transfer ≡ transfer_at s p = rw u (t ∙ transfer-is s p T w.ended.short y) in
            ap (λ (n : Needed). n.needs) z
            ∙ rw (d ∙ w.bound.is b B (omega arith) g, c ∙ whole-scope h b, q)
            (joineds _ (scope_in words) Γs (targets (transfer_at s p)) (whole-scope h));
      }

-- a block that has it already, and one that gets it
module _ {s transfers : List ℕ} {f b : ℕ} {bounds words : List ℕ} {new : ℕ} (p : Grown s transfers f b bounds words new) where
  grow-is : {P : Program} {F : Function} → Bounded s transfers f bounds P F → {ms : List Mark} {Γs : List ℕ}
      → length F.blocks ≡ length ms → b < length ms → Whole words ms Γs → grow F b Γs ≡ set Γs b new
  unfolding grow at
  grow-is {P} {F} w {ms} {Γs} d l h =
      let (B, q) = below_at F.blocks b (omega arith) in
      rw (q, ← p.is P F w B q ms Γs h) refl

  pub grow-same : {old : ℕ} → old ≡ scope_in words b → new ≡ old → Grows s transfers f b bounds words false words
  grow-same e z =
      record {
        is = λ P F w ms Γs d l h.
            let y : new ≡ get_or Γs b 0 = z ∙ e ∙ whole-scope h b in
            rw (grow-is w d l h, y, set-get_or Γs b 0) h;
        same = λ q. refl;
      }

  pub grow-new : {words' : List ℕ} → new < 65536 → words' ≡ scoped words b new → Grows s transfers f b bounds words true words'
  grow-new k e =
      record {
        is = λ P F w ms Γs d l h. rw (grow-is w d l h, e) (whole-scoped h b new l k);
        same = λ q. let y : ◌≡◌ {A = ℕ} 0 1 = cc in absurd (omega arith);
      }

-- a round, block by block
pub record GrowsLeft (s transfers : List ℕ) (f n : ℕ) (bounds words₀ words : List ℕ) (changed : Bool) (left : ℕ) : Type 0 where
  pub is : (P : Program) (F : Function) → Bounded s transfers f bounds P F → (ms : List Mark) → length F.blocks ≡ length ms →
      n ≡ length ms → Sweeping (Scopes ms) (grow F) (downward n) (downward left) words₀ words
  pub same : changed ≡ false → words ≡ words₀

module _ {s transfers : List ℕ} {f n : ℕ} {bounds words₀ : List ℕ} where
  pub grows-first : GrowsLeft s transfers f n bounds words₀ words₀ false n
  grows-first = record { is = λ P F w ms d l. sweep-all (Scopes ms); same = λ q. refl }

  module _ {words : List ℕ} {changed : Bool} {left : ℕ} (t : GrowsLeft s transfers f n bounds words₀ words changed left) where
    pub grows-next : {words' : List ℕ} {m r : Bool} → 0 < left → left ≤ n → Grows s transfers f (left - 1) bounds words m words'
        → r ≡ (changed || m) → GrowsLeft s transfers f n bounds words₀ words' r (left - 1)
    grows-next k j p e =
        record {
          is = λ P F w ms d l.
              sweep-next (Scopes ms) (t.is P F w ms d l) (downward-goes left k) (λ Γs h. p.is P F w ms Γs d (omega arith) h);
          same = still t.same p.same e;
        }

    pub grows_end : left ≤ 0 → GrowsAll s transfers f n bounds words₀ changed words
    grows_end k =
        record {
          is = λ P F w ms Γs d l h. sweep-end (Scopes ms) (t.is P F w ms d l) (downward-none left k) Γs h;
          same = t.same;
        }

-- rounds, in each of which all scopes grow
module _ {s transfers : List ℕ} {f n : ℕ} {bounds : List ℕ} (post : MutBor (List ℕ) → Bool → MutBor (List ℕ) → Type 0)
    (all : (p : MutBor (List ℕ)) (r : Bool) (p' : MutBor (List ℕ)) → post p r p' → GrowsAll s transfers f n bounds p.now r p'.now) where
  pub settles : {words words' : List ℕ} → RoundsBy post (16 * n) words words' → Settles s transfers f n bounds words words'
  settles t =
      record {
        is = λ P F w ms Γs d l h.
            rounds-taken (Scopes ms) post (sweep (grow F) (downward n)) (λ ws Γs Δs g k. one-scopes g.held k.held)
            (λ p r p' c. let u = all p r p' c in (λ Γs h. u.is P F w ms Γs d l h, u.same)) (16 * n) t Γs h;
      }
