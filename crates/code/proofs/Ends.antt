-- Where things end, as the code works it out: each law has the shape of one of its returns.
use Rattle.std.proofs.Common.{◌≡◌, ℕ, zero, suc, ◌+◌, ◌-◌, ◌<◌, ◌≤◌, min, List, [], ◌∷◌, length, ℤ, sym, refl, ap, ◌∙◌, not-suc-le-zero, arith, to_z-of_z, w32, SFits, to_z, of_z, eq-eqb, ne_eqb}
use mathlib.Core.Option.{some}
use native.Mathlib.Nat.{min-le_right}
use Rattle.code.specs.Bytes.{byte_at, past, operands}
use Rattle.code.specs.Code.{most, run, count_at, arguments_at, list_end, atom_end, second_at, expression_end, statement_end}
use Rattle.code.specs.Code.{statement_at, statements_at, statements_end, head_at, head_in, opening_at, spawn_end, transfer_end_of}
use lib.ListN.{get_elem?}
use Rattle.model.specs.Values.{signed}

module _ (s : List ℕ) (at : ℕ) where
  pub count-is : {n r : ℕ} → n ≡ byte_at s at → r ≡ min n most → r ≡ count_at s at
  unfolding count_at
  count-is e d = d ∙ ap (λ (n : ℕ). min n most) e

  pub count-le : count_at s at ≤ 8
  unfolding count_at
  count-le = min-le_right (byte_at s at) 8

  pub atom-end-value : {b f r : ℕ} → f ≡ past at 1 → b ≡ byte_at s at → b ≡ 0 → r ≡ past f 4 → r ≡ atom_end s at
  unfolding atom_end
  atom-end-value q e h d = rw (← e, eq-eqb _ 0 h, ← q) d

  pub atom-end-temporary : {b f r : ℕ} → f ≡ past at 1 → b ≡ byte_at s at → (b ≡ 0 → ⊥) → r ≡ past f 1 → r ≡ atom_end s at
  unfolding atom_end
  atom-end-temporary q e h d = rw (← e, ne_eqb _ 0 h, ← q) d

  pub end-two : {a f b o r : ℕ} → f ≡ past at 1 → a ≡ atom_end s f → b ≡ byte_at s at → o ≡ operands b → o ≡ 2 → r ≡ atom_end s a
      → r ≡ expression_end s at
  unfolding expression_end second_at
  end-two {a} {f} {b} {o} e₁ e₂ e₃ e₄ h e₅ =
      let q : operands (byte_at s at) ≡ 2 = ap operands (sym e₃) ∙ sym e₄ ∙ h in
      rw (eq-eqb _ 2 q, ← e₁, ← e₂) e₅

  pub end-one : {a f b o : ℕ} → f ≡ past at 1 → a ≡ atom_end s f → b ≡ byte_at s at → o ≡ operands b → (o ≡ 2 → ⊥) → a ≡ expression_end s at
  unfolding expression_end second_at
  end-one {a} {f} {b} {o} e₁ e₂ e₃ e₄ h =
      let q : operands (byte_at s at) ≡ 2 → ⊥ = λ z. h (e₄ ∙ ap operands e₃ ∙ z) in
      rw (ne_eqb _ 2 q, ← e₁) e₂

-- statements: one passed
pub statements-goes : (s : List ℕ) (at n : ℕ) → 0 < n → statements_end s at n ≡ statements_end s (statement_end s at) (n - 1)
unfolding statements_end
statements-goes s at zero h = absurd (not-suc-le-zero h)
statements-goes s at (suc n) h = let e : suc n - 1 ≡ n = omega arith in rw e

pub statements-none : (s : List ℕ) (at n : ℕ) → n ≤ 0 → statements_end s at n ≡ at
unfolding statements_end
statements-none s at zero h = refl
statements-none s at (suc n) h = absurd (not-suc-le-zero h)

-- statements: one more passed
pub statements-more : (s : List ℕ) (at n : ℕ) → statements_end s at (n + 1) ≡ statement_end s (statements_end s at n)
unfolding statements_end
statements-more s at zero = refl
statements-more s at (suc n) =
    let e : suc n + 1 ≡ suc (n + 1) = omega arith in
    rw e (statements-more s (statement_end s at) n)

-- a run: its first byte passed; none left
pub run-goes : (s : List ℕ) (at n : ℕ) → 0 < n → run s at n ≡ byte_at s at ∷ run s (past at 1) (n - 1)
unfolding run
run-goes s at zero h = absurd (not-suc-le-zero h)
run-goes s at (suc n) h = let e : suc n - 1 ≡ n = omega arith in rw e

pub run_none : (s : List ℕ) (at n : ℕ) → n ≤ 0 → run s at n ≡ []
unfolding run
run_none s at zero h = refl
run_none s at (suc n) h = absurd (not-suc-le-zero h)

-- how long a run and an argument list are
pub run_length : (s : List ℕ) (at n : ℕ) → length (run s at n) ≡ n
unfolding run
run_length s at zero = refl
run_length s at (suc n) = ap suc (run_length s (past at 1) n)

pub arguments-length : (s : List ℕ) (at : ℕ) → length (arguments_at s at) ≡ count_at s at
unfolding arguments_at
arguments-length s at = run_length s (past at 1) (count_at s at)

-- a head, as the code has it
pub opening-is : (s : List ℕ) (at : ℕ) → head_in s (opening_at s at) ≡ head_at s at
unfolding head_in opening_at head_at arguments_at
opening-is s at = refl

-- the value of four bytes
pub word-is : {r : ℤ} {m n : ℕ} → SFits w32 r → m ≡ n → r ≡ to_z w32 m → to_z w32 (of_z w32 r) ≡ signed n
word-is f e d = to_z-of_z f ∙ d ∙ ap (to_z w32) e

-- where a transfer ends, kind by kind
module _ (s : List ℕ) (at : ℕ) {kind : ℕ} where
  pub ends-goto : {r : ℕ} → kind ≡ 0 → r ≡ spawn_end s at → r ≡ transfer_end_of kind s at
  unfolding transfer_end_of
  ends-goto h e = rw h e

  pub ends-if : {a b r : ℕ} → kind ≡ 1 → a ≡ expression_end s at → b ≡ past a 1 → r ≡ past b 1 → r ≡ transfer_end_of kind s at
  unfolding transfer_end_of
  ends-if h e f g = rw (h, ← e, ← f) g

  pub ends-call : {a r : ℕ} → kind ≡ 2 → a ≡ spawn_end s at → r ≡ past a 1 → r ≡ transfer_end_of kind s at
  unfolding transfer_end_of
  ends-call h e f = rw (h, ← e) f

  pub ends_return : {r : ℕ} → kind ≡ 3 → r ≡ list_end s at → r ≡ transfer_end_of kind s at
  unfolding transfer_end_of
  ends_return h e = rw h e

pub ends-names : (s : List ℕ) (at kind : ℕ) {a r : ℕ} → 3 < kind → a ≡ past at 1 → r ≡ past a 1 → r ≡ transfer_end_of kind s at
unfolding transfer_end_of
ends-names s at zero h e f = absurd (omega arith)
ends-names s at (suc zero) h e f = absurd (omega arith)
ends-names s at (suc (suc zero)) h e f = absurd (omega arith)
ends-names s at (suc (suc (suc zero))) h e f = absurd (omega arith)
ends-names s at (suc (suc (suc (suc kind)))) h e f = rw (← e) f

-- statements: the first of them; none left
pub statements-first : (s : List ℕ) (at n : ℕ) → 0 < n → statements_at s at n ≡ statement_at s at ∷ statements_at s (statement_end s at) (n - 1)
unfolding statements_at
statements-first s at zero h = absurd (not-suc-le-zero h)
statements-first s at (suc n) h = let e : suc n - 1 ≡ n = omega arith in rw e

pub no-statements : (s : List ℕ) (at n : ℕ) → n ≤ 0 → statements_at s at n ≡ []
unfolding statements_at
no-statements s at zero h = refl
no-statements s at (suc n) h = absurd (not-suc-le-zero h)

-- how many statements there are, and each of them
pub statements-length : (s : List ℕ) (at n : ℕ) → length (statements_at s at n) ≡ n
unfolding statements_at
statements-length s at zero = refl
statements-length s at (suc n) = ap suc (statements-length s (statement_end s at) n)

pub statements-item : (s : List ℕ) (at n i : ℕ) → i < n → get_elem? (statements_at s at n) i ≡ some (statement_at s (statements_end s at i))
unfolding statements_at statements_end
statements-item s at zero i h = absurd (not-suc-le-zero h)
statements-item s at (suc n) zero h = refl
statements-item s at (suc n) (suc i) h = statements-item s (statement_end s at) n i (omega arith)
