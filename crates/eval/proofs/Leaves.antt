-- Facts that the code's leaves rest on: sets of temporaries, and the values of expressions by kind.
use Prim.Native.Nat.{ℕ, zero, suc, ◌/◌, ◌%◌, ◌^◌, ◌≤◌, ◌<◌}
use mathlib.Core.Path.{◌≡◌, refl, sym, ap, ◌∙◌}
use mathlib.Core.Option.{Option as Maybe, none, some}
use Rattle.std.specs.Prelude.{Option, Some, None}
use mathlib.Core.List.{List}
use native.Mathlib.Nat.{div-eq_of_lt}
use native.Mathlib.Omega.{arith}
use borrow.Author.Tests.{eq-eqb, ne_eqb}
use mir.Val.{SFits, to_z, of_z}
use mir.Facts.{to_z-of_z}
use mir.Syntax.{w32}
use lib.Pow.{pow_mono}
use lib.IntN.{ℤ, pos}
use lib.ListN.{get_or}
use Rattle.model.specs.Values as Values
use Rattle.model.specs.Values.{Worked}
use Rattle.model.specs.Sets.{has}
use Rattle.model.specs.Syntax.{Atom}
use Rattle.model.specs.Pool as Pool
use Rattle.model.specs.Frames.{when, look, eval_atom, eval}
use Rattle.eval.specs.declared.Evaluated.{Evaluated}
use Rattle.eval.specs.declared.Evaluated.TheVariants.{Value, Overflow, Unbound}
use Rattle.code.specs.Bytes.{byte_at, past, word_at, operands}
use Rattle.code.specs.Code.{atom_of, atom_at, atom_end, expression_of, second_at, expression_at}
use Rattle.eval.specs.Given.{operand_as, evaluated_as, applied}

-- the value of a temporary: bound, unbound, no temporary at all
module _ (k : Pool.Frame) (x : ℕ) {Γ : ℕ} (e : Γ ≡ k.bound) where
  pub look-bound : {v : ℤ} → Γ / 2 ^ x % 2 ≡ 1 → SFits w32 v → v ≡ get_or k.values x (pos 0)
      → Some (to_z w32 (of_z w32 v)) ≡ operand_as (look k x)
  unfolding look has when operand_as
  look-bound h f d = rw (← e, eq-eqb (Γ / 2 ^ x % 2) 1 h, ← d, to_z-of_z f)

  pub look-unbound : (Γ / 2 ^ x % 2 ≡ 1 → ⊥) → None ≡ operand_as (look k x)
  unfolding look has when operand_as
  look-unbound h = rw (← e, ne_eqb (Γ / 2 ^ x % 2) 1 h)

pub look-high : (k : Pool.Frame) (x : ℕ) → k.bound < 2 ^ 16 → 16 ≤ x → None ≡ operand_as (look k x)
look-high k x h l =
    let m : 2 ^ 16 ≤ 2 ^ x = pow_mono l in
    let z : k.bound / 2 ^ x ≡ 0 = div-eq_of_lt (omega arith) in
    look-unbound k x refl (λ e. let o : 0 % 2 ≡ 1 = ap (λ (n : ℕ). n % 2) (sym z) ∙ e in omega arith)

-- what an operand came to, in each arm
pub none_is : (v : Option ℤ) (o : Maybe ℤ) → v ≡ operand_as o → v ≡ None → o ≡ none
unfolding operand_as
none_is v none e h = refl
none_is v (some w) e h = cc

pub value-is : (v : Option ℤ) (o : Maybe ℤ) {w : ℤ} → v ≡ operand_as o → v ≡ Some w → o ≡ some w
unfolding operand_as
value-is v none e h = cc
value-is v (some u) e h = cc

-- what an expression came to, in each arm
pub unbound-is : (v : Evaluated) (o : Maybe Worked) → v ≡ evaluated_as o → v ≡ Unbound → o ≡ none
unfolding evaluated_as
unbound-is v none e h = refl
unbound-is v (some (Worked.value w)) e h = cc
unbound-is v (some Worked.overflow) e h = cc

pub overflow-is : (v : Evaluated) (o : Maybe Worked) → v ≡ evaluated_as o → v ≡ Overflow → o ≡ some Worked.overflow
unfolding evaluated_as
overflow-is v none e h = cc
overflow-is v (some (Worked.value w)) e h = cc
overflow-is v (some Worked.overflow) e h = refl

pub worked-is : (v : Evaluated) (o : Maybe Worked) {w : ℤ} → v ≡ evaluated_as o → v ≡ Value w → o ≡ some (Worked.value w)
unfolding evaluated_as
worked-is v none e h = cc
worked-is v (some (Worked.value u)) e h = cc
worked-is v (some Worked.overflow) e h = cc

-- what an expression comes to, by its kind, from its atoms' values: the first is unbound; there is one; there are two
module _ (k : Pool.Frame) (kind : ℕ) (m n : Atom) where
  pub eval-first : eval_atom k m ≡ none → eval k (expression_of kind m n) ≡ none
  unfolding eval expression_of
  eval-first e = go kind
    where
      go : (i : ℕ) → eval k (expression_of i m n) ≡ none
      go zero = rw e
      go (suc zero) = rw e
      go (suc (suc zero)) = rw e
      go (suc (suc (suc i))) = rw e

  pub eval-one : (v w : ℤ) → (operands kind ≡ 2 → ⊥) → eval_atom k m ≡ some v → eval k (expression_of kind m n) ≡ some (applied kind v w)
  unfolding eval expression_of applied operands
  eval-one v w h e = go kind h
    where
      go : (i : ℕ) → (operands i ≡ 2 → ⊥) → eval k (expression_of i m n) ≡ some (applied i v w)
      go zero h = rw e
      go (suc zero) h = rw e
      go (suc (suc zero)) h = absurd (h refl)
      go (suc (suc (suc i))) h = absurd (h refl)

  pub eval-second : (v : ℤ) → operands kind ≡ 2 → eval_atom k m ≡ some v → eval_atom k n ≡ none → eval k (expression_of kind m n) ≡ none
  unfolding eval expression_of operands
  eval-second v h e d = go kind h
    where
      go : (i : ℕ) → operands i ≡ 2 → eval k (expression_of i m n) ≡ none
      go zero h = absurd (omega arith)
      go (suc zero) h = absurd (omega arith)
      go (suc (suc zero)) h = rw (e, d)
      go (suc (suc (suc i))) h = rw (e, d)

  pub eval-two : (v w : ℤ) → operands kind ≡ 2 → eval_atom k m ≡ some v → eval_atom k n ≡ some w
      → eval k (expression_of kind m n) ≡ some (applied kind v w)
  unfolding eval expression_of applied operands
  eval-two v w h e d = go kind h
    where
      go : (i : ℕ) → operands i ≡ 2 → eval k (expression_of i m n) ≡ some (applied i v w)
      go zero h = absurd (omega arith)
      go (suc zero) h = absurd (omega arith)
      go (suc (suc zero)) h = rw (e, d)
      go (suc (suc (suc i))) h = rw (e, d)

-- what the code answers, from what it read: each law has the shape of one of its returns
module _ (s : List ℕ) (at : ℕ) (k : Pool.Frame) where
  pub atom-value : {b f : ℕ} {v : ℤ} → SFits w32 v → f ≡ past at 1 → b ≡ byte_at s at → b ≡ 0 → v ≡ Values.signed (word_at s f)
      → Some (to_z w32 (of_z w32 v)) ≡ operand_as (eval_atom k (atom_at s at))
  unfolding eval_atom atom_at atom_of operand_as
  atom-value {b} {f} {v} g e₁ e₂ h e₃ = let z : byte_at s at ≡ 0 = sym e₂ ∙ h in rw (z, to_z-of_z g, ← e₁, ← e₃)

  pub atom-temporary : {b f x : ℕ} (v : Option ℤ) → f ≡ past at 1 → b ≡ byte_at s at → (b ≡ 0 → ⊥) → x ≡ byte_at s f
      → v ≡ operand_as (look k x) → v ≡ operand_as (eval_atom k (atom_at s at))
  unfolding eval_atom atom_at atom_of
  atom-temporary {b} {f} {x} v e₁ e₂ h e₃ e₄ =
      e₄ ∙ ap operand_as (ap (look k) (e₃ ∙ ap (byte_at s) e₁) ∙ go (byte_at s at) (λ z. h (e₂ ∙ z)))
    where
      go : (n : ℕ) → (n ≡ 0 → ⊥)
          → look k (byte_at s (past at 1)) ≡ eval_atom k (atom_of n (Values.signed (word_at s (past at 1))) (byte_at s (past at 1)))
      go zero z = absurd (z refl)
      go (suc n) z = refl

  -- an expression: its first atom is unbound; it has one; its second is unbound; it has two
  module _ {kind f : ℕ} (m : Option ℤ) (e₁ : kind ≡ byte_at s at) (e₂ : f ≡ past at 1)
      (e₃ : m ≡ operand_as (eval_atom k (atom_at s f))) where
    first-is : {o : Maybe ℤ} → eval_atom k (atom_at s f) ≡ o → eval_atom k (atom_at s (past at 1)) ≡ o
    first-is e = ap (λ (i : ℕ). eval_atom k (atom_at s i)) (sym e₂) ∙ e

    pub eval-unbound : m ≡ None → Unbound ≡ evaluated_as (eval k (expression_at s at))
    unfolding expression_at evaluated_as
    eval-unbound h = sym (ap evaluated_as (eval-first k (byte_at s at) _ _ (first-is (none_is m _ e₃ h))))

    module _ {o : ℕ} {v : ℤ} (h : m ≡ Some v) (e₄ : o ≡ operands kind) where
      pub eval-unary : (w : ℤ) (r : Evaluated) → SFits w32 v → (o ≡ 2 → ⊥)
          → r ≡ evaluated_as (some (applied kind (to_z w32 (of_z w32 v)) w))
          → r ≡ evaluated_as (eval k (expression_at s at))
      unfolding expression_at
      eval-unary w r i d e₅ =
          let z = first-is (value-is m _ e₃ h) in
          let q : operands (byte_at s at) ≡ 2 → ⊥ = λ y. d (e₄ ∙ ap operands e₁ ∙ y) in
          let u : applied kind (to_z w32 (of_z w32 v)) w ≡ applied (byte_at s at) v w = rw (to_z-of_z i, e₁) in
          e₅ ∙ ap (λ (x : Worked). evaluated_as (some x)) u ∙ sym (ap evaluated_as (eval-one k (byte_at s at) _ _ v w q z))

      module _ {a : ℕ} (n : Option ℤ) (d : o ≡ 2) (e₅ : a ≡ atom_end s f) (e₆ : n ≡ operand_as (eval_atom k (atom_at s a))) where
        second_is : {u : Maybe ℤ} → eval_atom k (atom_at s a) ≡ u → eval_atom k (atom_at s (second_at s at)) ≡ u
        unfolding second_at
        second_is e = ap (λ (i : ℕ). eval_atom k (atom_at s i)) (ap (atom_end s) (sym e₂) ∙ sym e₅) ∙ e

        pub eval-half-bound : n ≡ None → Unbound ≡ evaluated_as (eval k (expression_at s at))
        unfolding expression_at evaluated_as
        eval-half-bound h' =
            let z = first-is (value-is m _ e₃ h) in
            let y = second_is (none_is n _ e₆ h') in
            let q : operands (byte_at s at) ≡ 2 = ap operands (sym e₁) ∙ sym e₄ ∙ d in
            sym (ap evaluated_as (eval-second k (byte_at s at) _ _ v q z y))

        pub eval-binary : {w : ℤ} (r : Evaluated) → SFits w32 v → SFits w32 w → n ≡ Some w
            → r ≡ evaluated_as (some (applied kind (to_z w32 (of_z w32 v)) (to_z w32 (of_z w32 w))))
            → r ≡ evaluated_as (eval k (expression_at s at))
        unfolding expression_at
        eval-binary {w} r i j h' e₇ =
            let z = first-is (value-is m _ e₃ h) in
            let y = second_is (value-is n _ e₆ h') in
            let q : operands (byte_at s at) ≡ 2 = ap operands (sym e₁) ∙ sym e₄ ∙ d in
            let u : applied kind (to_z w32 (of_z w32 v)) (to_z w32 (of_z w32 w)) ≡ applied (byte_at s at) v w =
            rw (to_z-of_z i, to_z-of_z j, e₁) in
            e₇ ∙ ap (λ (x : Worked). evaluated_as (some x)) u ∙ sym (ap evaluated_as (eval-two k (byte_at s at) _ _ v w q z y))
