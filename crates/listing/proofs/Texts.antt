-- Texts of a line that are put in a loop: spaces, and the bound temporaries with their values.
use Prim.Native.Nat.{ℕ, suc, ◌+◌, ◌-◌, ◌/◌, ◌%◌, ◌^◌, ◌≤◌, ◌<◌}
use native.Mathlib.Omega.{arith}
use native.Mathlib.Numerals.{add-one}
use mathlib.Core.Path.{◌≡◌, refl, ap, subst, ◌∙◌}
use mathlib.Core.Bool.{cond}
use mathlib.Core.List.{List, [], ◌∷◌, ◌++◌}
use lib.IntN.{ℤ, pos}
use lib.ListN.{length, get_or, drop}
use lib.Seq.{drop-cons, drop-length}
use borrow.Author.Tests.{eq-eqb, ne_eqb}
use Rattle.model.specs.Sets.{has}
use Rattle.model.specs.Text.{part, signed_part}
use Rattle.puts.specs.Puts.{Puts}
use Rattle.puts.proofs.Laws.{none, then}
use Rattle.puts.proofs.Left.{Left, less-left, none_left}
use Rattle.views.specs.Lines.{indent, bindings}

module _ {d : List ℕ} {at : ℕ} {xs : List ℕ} where
  -- of n spaces all are left, one fewer, and none
  pub all-spaces : {d' : List ℕ} {k : ℕ} (n : ℕ) → Left d at xs d' k (indent n) → Left d at xs d' k (indent (n - 0))
  all-spaces {d'} {k} n l = let e : n ≡ n - 0 = omega arith in subst (λ (j : ℕ). Left d at xs d' k (indent j)) e l

  pub one-space : {d' d'' : List ℕ} {k m : ℕ} (n i : ℕ) → i < n → Left d at xs d' k (indent (n - i)) → Puts d' k (32 ∷ []) m d''
      → Left d at xs d'' m (indent (n - (i + 1)))
  one-space {d'} {k = k} n i h l p =
      let e : n - i ≡ suc (n - (i + 1)) = omega arith in
      less-left (32 ∷ []) (indent (n - (i + 1))) (subst (λ (j : ℕ). Left d at xs d' k (indent j)) e l) p

  pub no-space : {d' : List ℕ} {k : ℕ} (n i : ℕ) → n ≤ i → Left d at xs d' k (indent (n - i)) → Puts d at xs k d'
  no-space {d'} {k} n i h l = let e : n - i ≡ 0 = omega arith in none_left (subst (λ (j : ℕ). Left d at xs d' k (indent j)) e l)

-- a temporary that is bound, and one that is not
module _ (Γ x : ℕ) (v : ℤ) {d : List ℕ} {at : ℕ} where
  pub put-bound : {d' d'' : List ℕ} {k r : ℕ} → Γ / 2 ^ x % 2 ≡ 1 → Puts d at (part x) k d' → Puts d' k (signed_part v) r d''
      → Puts d at (cond (has Γ x) (part x ++ signed_part v) []) r d''
  unfolding has
  put-bound e p q = rw (eq-eqb (Γ / 2 ^ x % 2) 1 e) (then p q)

  pub put-unbound : (Γ / 2 ^ x % 2 ≡ 1 → ⊥) → Puts d at (cond (has Γ x) (part x ++ signed_part v) []) at d
  unfolding has
  put-unbound n = rw (ne_eqb (Γ / 2 ^ x % 2) 1 n) none

pub same-binding : {Γ Δ : ℕ} (x : ℕ) {v w : ℤ} → Γ ≡ Δ → v ≡ w
    → cond (has Γ x) (part x ++ signed_part v) [] ≡ cond (has Δ x) (part x ++ signed_part w) []
same-binding x e f = rw (e, f) refl

-- the temporaries from x on
module _ {d : List ℕ} {at : ℕ} {xs : List ℕ} (Γ : ℕ) (v̄ : List ℤ) where
  pub one-temporary : {d' : List ℕ} {k : ℕ} (x : ℕ) {v : ℤ} {m : ℕ} {d'' : List ℕ} → x < length v̄ → v ≡ get_or v̄ x (pos 0)
      → Left d at xs d' k (bindings Γ x (drop x v̄)) → Puts d' k (cond (has Γ x) (part x ++ signed_part v) []) m d''
      → Left d at xs d'' m (bindings Γ (x + 1) (drop (x + 1) v̄))
  unfolding bindings
  one-temporary {d'} {k} x {v} {m} {d''} h e l p =
      let c : drop x v̄ ≡ v ∷ drop (x + 1) v̄ =
      drop-cons v̄ x (pos 0) h ∙ rw (e, add-one x) refl in
      less-left (cond (has Γ x) (part x ++ signed_part v) []) (bindings Γ (x + 1) (drop (x + 1) v̄))
      (subst (λ (w̄ : List ℤ). Left d at xs d' k (bindings Γ x w̄)) c l) p

  pub no-temporary : {d' : List ℕ} {k : ℕ} (x : ℕ) → x ≡ length v̄ → Left d at xs d' k (bindings Γ x (drop x v̄)) → Puts d at xs k d'
  unfolding bindings
  no-temporary {d'} {k} x h l =
      none_left (subst (λ (w̄ : List ℤ). Left d at xs d' k (bindings Γ x w̄)) (ap (λ (n : ℕ). drop n v̄) h ∙ drop-length v̄) l)
