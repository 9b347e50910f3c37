-- Which thread can step first: the steps of all threads are tried in order. A refused one leaves the words as they were.
use Prim.Native.Nat.{ℕ, suc, ◌+◌, ◌-◌, ◌≤◌, ◌<◌}
use mathlib.Core.Path.{◌≡◌, refl, sym, ap, subst, ◌∙◌}
use mathlib.Core.Bool.{Bool, true, false}
use mathlib.Core.Option.{none, some}
use mathlib.Core.List.{List}
use native.Mathlib.Omega.{arith}
use lib.IntN.{ℤ}
use lib.ListN.{length}
use Rattle.model.specs.Syntax.{Program}
use Rattle.model.specs.Pool.{Pool, words_of, is_pool}
use Rattle.model.specs.Rules.{Result, choice}
use Rattle.model.specs.Calls.{Called, made, lowest, is_made, can_step, first}
use Rattle.model.proofs.Facts.{true-false, refused-given}
use Rattle.places.specs.Places.{Places}
use Rattle.pool.specs.Edits.{threads_in}
use Rattle.std.specs.Prelude.{Some, None, Ok, Err, is_ok}
use Rattle.steps.specs.Choice.{Made, made_of, Tried, Tries, after_step, FindsFirst, Chooses}
use Rattle.steps.proofs.Choosing.{pool-counted}

-- what the answer to a choice says of it: it was made exactly where a rule is given; refused, it left the words
given_made : (ws : List ℤ) (r : Made) (x : Result) → made_of r ≡ (made ws x).answer → is_ok r ≡ is_made x
unfolding made is_made
given_made ws (Ok rule) (Result.made k p) e = refl
given_made ws (Ok rule) (Result.refused n) e = refused-given (sym e)
given_made ws (Err n) (Result.made k p) e = refused-given e
given_made ws (Err n) (Result.refused k) e = refl

unmade : (ws : List ℤ) (x : Result) → is_made x ≡ false → (made ws x).after ≡ ws
unfolding made is_made
unmade ws (Result.made rule p) e = true-false true refl e
unmade ws (Result.refused n) e = refl

-- a choice of a step, by its answer
pub tries : {s places : List ℕ} {ws : List ℤ} {i : ℕ} {r : Made} {ws' : List ℤ} {b : Bool} → Chooses s places ws 0 i r ws' → b ≡ is_ok r
    → Tries s places ws i b ws'
tries {ws = ws} {i = i} {r = r} f e P p q w v =
    let same = (f P p q w v).called in
    record {
      goes = e ∙ given_made ws r (choice P p 0 i) (ap (λ (c : Called ℕ). c.answer) same);
      left = ap (λ (c : Called ℕ). c.after) same;
    }

-- the lowest number that passes, of those from i on up to n
module _ (t : ℕ → Bool) {n i : ℕ} where
  lowest-here : i < n → t i ≡ true → lowest t (n - i) i ≡ some i
  unfolding lowest
  lowest-here l e = let m : n - i ≡ suc (n - (i + 1)) = omega arith in rw (m, e)

  lowest-on : i < n → t i ≡ false → lowest t (n - i) i ≡ lowest t (n - (i + 1)) (i + 1)
  unfolding lowest
  lowest-on l e = let m : n - i ≡ suc (n - (i + 1)) = omega arith in rw (m, e)

  lowest-end : n ≤ i → lowest t (n - i) i ≡ none
  unfolding lowest
  lowest-end l = let m : n - i ≡ 0 = omega arith in rw m

-- the threads below i do not step: the first that does is the first from i on; and the words are still those at the start
pub record Idle (s places : List ℕ) (ws₀ ws : List ℤ) (i : ℕ) : Type 0 where
  pub same : (P : Program) (p : Pool) → Places s P places → ws₀ ≡ words_of p → is_pool P p ≡ true → ws ≡ ws₀
  pub rest : (P : Program) (p : Pool) → Places s P places → ws₀ ≡ words_of p → is_pool P p ≡ true
      → first P p ≡ lowest (can_step P p) (length p - i) i

pub idle-none : (s places : List ℕ) (ws : List ℤ) → Idle s places ws ws 0
unfolding first
idle-none s places ws =
    record {
      same = λ P p q w v. refl;
      rest = λ P p q w v. let e : length p - 0 ≡ length p = omega arith in rw e;
    }

module _ {s places : List ℕ} {ws₀ ws : List ℤ} {i n : ℕ} (h : Idle s places ws₀ ws i) (c : n ≡ threads_in ws₀) where
  -- the words that were tried are those at the start
  tried : {ws' : List ℤ} {r : Bool} → Tries s places ws i r ws' → (P : Program) (p : Pool) → Places s P places → ws₀ ≡ words_of p
      → is_pool P p ≡ true → Tried P p ws₀ i r ws'
  tried {ws'} {r} f P p q w v =
      let e = h.same P p q w v in subst (λ (u : List ℤ). Tried P p u i r ws') e (f P p q (e ∙ w) v)

  pub idle-goes : i < n → (ws' : List ℤ) (r : Bool) → r ≡ true → Tries s places ws i r ws' → FindsFirst s places ws₀ (Some i) ws'
  idle-goes l ws' r e f P p q w v =
      let x = tried f P p q w v in
      let z = h.rest P p q w v ∙ lowest-here (can_step P p) (omega (arith, c, pool-counted P p w v)) (sym x.goes ∙ e) in
      record { found = sym z; left = x.left ∙ ap (after_step P p ws₀) (sym z) }

  pub idle-more : i < n → {ws' : List ℤ} (r : Bool) → r ≡ false → Tries s places ws i r ws'
      → Idle s places ws₀ ws' (i + 1)
  idle-more l r e f =
      record {
        same = λ P p q w v. let x = tried f P p q w v in x.left ∙ unmade ws₀ (choice P p 0 i) (sym x.goes ∙ e);
        rest = λ P p q w v.
            let x = tried f P p q w v in
            h.rest P p q w v ∙ lowest-on (can_step P p) (omega (arith, c, pool-counted P p w v)) (sym x.goes ∙ e);
      }

  pub idle-all : n ≤ i → FindsFirst s places ws₀ None ws
  idle-all l P p q w v =
      let z = h.rest P p q w v ∙ lowest-end (can_step P p) (omega (arith, c, pool-counted P p w v)) in
      record { found = sym z; left = h.same P p q w v ∙ ap (after_step P p ws₀) (sym z) }
