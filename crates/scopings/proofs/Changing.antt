-- How the words change, and what they hold then.
use Prim.Native.Nat.{ℕ, zero, suc, ◌+◌, ◌*◌, ◌/◌, ◌%◌, ◌≤◌, ◌<◌}
use mathlib.Core.Path.{◌≡◌, refl, sym, ◌∙◌, ap}
use mathlib.Core.Bool.{Bool, true, false}
use mathlib.Core.Option.{none}
use mathlib.Core.List.{List}
use native.Mathlib.Omega.{arith}
use native.Mathlib.Decide.{ℕ_discrete}
use lib.Dec.{ltb}
use lib.ListN.{length, get_or, set, replicate, length-set, length-replicate, get_or-eq_default}
use lib.Seq.{get_or-set_same, get_or-set_other, set_out, ext_get_or}
use Rattle.model.proofs.Facts.{ltb-true, ltb-false, same_at}
use Rattle.inference.specs.Infer.{Mark}
use Rattle.scopings.specs.Words.{len, blocks, digits, mark_of, scope_in, mark_in, Held}
use Rattle.scopings.specs.Changes.{level_in, names_in, Cleared, marked, scoped, Whole}

-- a block's mark, by its two numbers
pub mark-is : (words : List ℕ) (b : ℕ) → mark_in words b ≡ mark_of (level_in words b) (names_in words b)
unfolding mark_in level_in names_in
mark-is words b = refl

-- what stands in the words of block c when those of block b have changed
module _ (words : List ℕ) (b : ℕ) where
  module _ (level names : ℕ) where
    pub marked-length : length (marked words b level names) ≡ length words
    unfolding marked
    marked-length = length-set (set words (2 * b) _) (2 * b + 1) names ∙ length-set words (2 * b) _

    pub marked_other : (c : ℕ) → (c ≡ b → ⊥) → mark_in (marked words b level names) c ≡ mark_in words c
    unfolding marked mark_in
    marked_other c n =
        rw (
          get_or-set_other (set words (2 * b) (scope_in words b + 65536 * level)) (2 * b + 1) (2 * c) names 0 (λ e. omega arith),
          get_or-set_other (set words (2 * b) (scope_in words b + 65536 * level)) (2 * b + 1) (2 * c + 1) names 0 (λ e. n (omega arith)),
          get_or-set_other words (2 * b) (2 * c) (scope_in words b + 65536 * level) 0 (λ e. n (omega arith)),
          get_or-set_other words (2 * b) (2 * c + 1) (scope_in words b + 65536 * level) 0 (λ e. omega arith),
        )

    pub marked-same : 2 * b + 1 < length words → mark_in (marked words b level names) b ≡ mark_of level names
    unfolding marked mark_in scope_in
    marked-same l =
        let z : (get_or words (2 * b) 0 % 65536 + 65536 * level) / 65536 ≡ level = omega arith in
        rw (
          get_or-set_other (set words (2 * b) (scope_in words b + 65536 * level)) (2 * b + 1) (2 * b) names 0 (λ e. omega arith),
          get_or-set_same (set words (2 * b) (scope_in words b + 65536 * level)) (2 * b + 1) names 0
              (omega (arith, length-set words (2 * b) (scope_in words b + 65536 * level))),
          get_or-set_same words (2 * b) (scope_in words b + 65536 * level) 0 (omega arith),
          z,
        )

    pub marked-scope : (c : ℕ) → scope_in (marked words b level names) c ≡ scope_in words c
    unfolding marked scope_in
    marked-scope c =
        rw (get_or-set_other (set words (2 * b) (scope_in words b + 65536 * level)) (2 * b + 1) (2 * c) names 0 (λ e. omega arith))
        (go (ℕ_discrete c b) (ltb (2 * b) (length words)) refl)
      where
        go : Dec (c ≡ b) → (t : Bool) → ltb (2 * b) (length words) ≡ t
            → get_or (set words (2 * b) (get_or words (2 * b) 0 % 65536 + 65536 * level)) (2 * c) 0 % 65536 ≡ get_or words (2 * c) 0 % 65536
        go (yes e) true q =
            rw (e, get_or-set_same words (2 * b) (get_or words (2 * b) 0 % 65536 + 65536 * level) 0 (ltb-true (2 * b) (length words) q))
            (omega arith)
        go (yes e) false q =
            rw (set_out words (2 * b) (get_or words (2 * b) 0 % 65536 + 65536 * level) (ltb-false (2 * b) (length words) q)) refl
        go (no n) t q =
            rw (get_or-set_other words (2 * b) (2 * c) (get_or words (2 * b) 0 % 65536 + 65536 * level) 0 (λ e. n (omega arith))) refl

  module _ (Γ : ℕ) where
    pub scoped-length : length (scoped words b Γ) ≡ length words
    unfolding scoped
    scoped-length = length-set words (2 * b) _

    pub scoped-other : (c : ℕ) → (c ≡ b → ⊥) → scope_in (scoped words b Γ) c ≡ scope_in words c
    unfolding scoped scope_in
    scoped-other c n = rw (get_or-set_other words (2 * b) (2 * c) (Γ + 65536 * level_in words b) 0 (λ e. n (omega arith))) refl

    pub scoped-same : Γ < 65536 → 2 * b < length words → scope_in (scoped words b Γ) b ≡ Γ
    unfolding scoped scope_in
    scoped-same h l = rw (get_or-set_same words (2 * b) (Γ + 65536 * level_in words b) 0 l) (omega arith)

    pub scoped-mark : Γ < 65536 → (c : ℕ) → mark_in (scoped words b Γ) c ≡ mark_in words c
    unfolding scoped mark_in level_in
    scoped-mark h c =
        rw (get_or-set_other words (2 * b) (2 * c + 1) (Γ + 65536 * (get_or words (2 * b) 0 / 65536)) 0 (λ e. omega arith))
        (ap (λ (k : ℕ). mark_of k (get_or words (2 * c + 1) 0)) (go (ℕ_discrete c b) (ltb (2 * b) (length words)) refl))
      where
        go : Dec (c ≡ b) → (t : Bool) → ltb (2 * b) (length words) ≡ t
            → get_or (set words (2 * b) (Γ + 65536 * (get_or words (2 * b) 0 / 65536))) (2 * c) 0 / 65536 ≡ get_or words (2 * c) 0 / 65536
        go (yes e) true q =
            rw (e, get_or-set_same words (2 * b) (Γ + 65536 * (get_or words (2 * b) 0 / 65536)) 0 (ltb-true (2 * b) (length words) q))
            (omega arith)
        go (yes e) false q =
            rw (set_out words (2 * b) (Γ + 65536 * (get_or words (2 * b) 0 / 65536)) (ltb-false (2 * b) (length words) q)) refl
        go (no n) t q =
            rw (get_or-set_other words (2 * b) (2 * c) (Γ + 65536 * (get_or words (2 * b) 0 / 65536)) 0 (λ e. n (omega arith))) refl

-- nothing is reached and every scope is empty
pub whole-cleared : (words₀ words : List ℕ) (n : ℕ) → Cleared words₀ words → length words₀ ≡ len → n ≤ blocks
    → Whole words (replicate n none) (replicate n 0)
unfolding mark_in mark_of scope_in
whole-cleared words₀ words n c l few =
    record {
      held =
          record {
            long = c.long ∙ l;
            few = rw (length-replicate {A = Mark} n none) few;
            same = length-replicate {A = ℕ} n 0 ∙ sym (length-replicate {A = Mark} n none);
            marks = λ b h. rw (c.zero (2 * b), same_at {A = Mark} n b none) refl;
            scopes = λ b h. rw (c.zero (2 * b), same_at {A = ℕ} n b 0) refl;
          };
      rest = λ b h. rw (c.zero (2 * b)) refl;
    }

module _ {words : List ℕ} {ms : List Mark} {Γs : List ℕ} (w : Whole words ms Γs) where
  -- the scope of every block, of those too that are not there
  pub whole-scope : (b : ℕ) → scope_in words b ≡ get_or Γs b 0
  whole-scope b = go (ltb b (length ms)) refl
    where
      go : (t : Bool) → ltb b (length ms) ≡ t → scope_in words b ≡ get_or Γs b 0
      go true q = w.held.scopes b (ltb-true b (length ms) q)
      go false q =
          let l : length ms ≤ b = ltb-false b (length ms) q in
          w.rest b l ∙ sym (get_or-eq_default Γs 0 {n = b} (omega (arith, w.held.same)))

  -- another mark, of any block
  pub whole-marked : (b level names : ℕ) → Whole (marked words b level names) (set ms b (mark_of level names)) Γs
  whole-marked b level names =
      let e = length-set ms b (mark_of level names) in
      record {
        held =
            record {
              long = marked-length words b level names ∙ w.held.long;
              few = omega (arith, e, w.held.few);
              same = w.held.same ∙ sym e;
              marks = λ c h. go c (omega (arith, e)) (ℕ_discrete c b);
              scopes = λ c h. marked-scope words b level names c ∙ w.held.scopes c (omega (arith, e));
            };
        rest = λ c h. marked-scope words b level names c ∙ w.rest c (omega (arith, e));
      }
    where
      go : (c : ℕ) → c < length ms → Dec (c ≡ b) → mark_in (marked words b level names) c ≡ get_or (set ms b (mark_of level names)) c none
      go c h (yes e) =
          rw e
          (marked-same words b level names (omega (arith, w.held.long, w.held.few))
          ∙ sym (get_or-set_same ms b (mark_of level names) none (omega arith)))
      go c h (no n) =
          marked_other words b level names c n ∙ w.held.marks c h ∙ sym (get_or-set_other ms b c (mark_of level names) none n)

  -- another scope, of a block that is there
  pub whole-scoped : (b Γ : ℕ) → b < length ms → Γ < 65536 → Whole (scoped words b Γ) ms (set Γs b Γ)
  whole-scoped b Γ l h =
      let e = length-set Γs b Γ in
      record {
        held =
            record {
              long = scoped-length words b Γ ∙ w.held.long;
              few = w.held.few;
              same = e ∙ w.held.same;
              marks = λ c k. scoped-mark words b Γ h c ∙ w.held.marks c k;
              scopes = λ c k. go c k (ℕ_discrete c b);
            };
        rest = λ c k. scoped-other words b Γ c (λ e. omega arith) ∙ w.rest c k;
      }
    where
      go : (c : ℕ) → c < length ms → Dec (c ≡ b) → scope_in (scoped words b Γ) c ≡ get_or (set Γs b Γ) c 0
      go c k (yes e) =
          rw e
          (scoped-same words b Γ h (omega (arith, w.held.long, w.held.few))
          ∙ sym (get_or-set_same Γs b Γ 0 (omega (arith, w.held.same))))
      go c k (no n) = scoped-other words b Γ c n ∙ w.held.scopes c k ∙ sym (get_or-set_other Γs b c Γ 0 n)

-- the words say which marks they hold, and which scopes
pub one-marks : {words : List ℕ} {ms ns : List Mark} {Γs : List ℕ} → Held words ms Γs → Held words ns Γs → ms ≡ ns
one-marks {words} {ms} {ns} h g =
    let e : length ms ≡ length ns = sym h.same ∙ g.same in
    ext_get_or none ms ns e (λ b l. sym (h.marks b l) ∙ g.marks b (omega arith))

pub one-scopes : {words : List ℕ} {ms : List Mark} {Γs Δs : List ℕ} → Held words ms Γs → Held words ms Δs → Γs ≡ Δs
one-scopes {words} {ms} {Γs} {Δs} h g =
    let e : length Γs ≡ length Δs = h.same ∙ sym g.same in
    ext_get_or 0 Γs Δs e (λ b l. sym (h.scopes b (omega (arith, h.same))) ∙ g.scopes b (omega (arith, h.same)))

-- how many names there are
pub digits-length : (d names : ℕ) → length (digits d names) ≡ d
unfolding digits
digits-length zero names = refl
digits-length (suc d) names = ap suc (digits-length d (names / 256))
