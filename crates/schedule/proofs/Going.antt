-- Lists of choices: a run begins with nothing made, goes on by a choice that is made, and ends at a refusal or at the list's end.
use Prim.Native.Nat.{ℕ, ◌+◌, ◌<◌}
use mathlib.Core.Path.{◌≡◌, refl, sym, ◌∙◌, ap, subst, subst⁻¹}
use mathlib.Core.Bool.{true}
use mathlib.Core.Option.{some}
use mathlib.Core.List.{List, [], ◌∷◌}
use native.Mathlib.Nat.{zero-add, add-zero}
use native.Mathlib.Omega.{arith}
use lib.IntN.{ℤ}
use lib.ListN.{length, get_or, drop}
use Rattle.model.specs.Answers.{Refusal, Answer}
use Rattle.model.specs.Syntax.{Program}
use Rattle.model.specs.Pool.{Pool, words_of, is_pool}
use Rattle.model.specs.Rules.{Result, choice}
use Rattle.model.specs.Calls.{Choice, Ran, one_more, go_on, run, stopped, reported}
use Rattle.places.specs.Places.{Places}
use Rattle.answers.specs.declared.No.{No}
use Rattle.answers.specs.declared.Rule.{Rule}
use Rattle.steps.specs.Choice.{Made, Chooses}
use Rattle.steps.proofs.Choosing.{chose-made, chose-refused}
use Rattle.std.specs.Prelude.{Ok, Err}
use Rattle.schedule.specs.declared.Choice.{Choice as Lent}
use Rattle.schedule.specs.Choices.{choice_of, choices_of}
use Rattle.schedule.proofs.Choices.{next-choice, no-more-choices}
use Rattle.schedule.specs.Runs.{ended_of, scheduled_of, Runs}

-- a run that goes on: n were made, the words are ws', and the choices of `rest` are left
abbrev more_by : ℕ → Ran → Ran
more_by n r = record { made = n + r.made; refusal = r.refusal; pool = r.pool }

pub record GoesOn (P : Program) (p : Pool) (cs : List Choice) (n : ℕ) (ws' : List ℤ) (rest : List Choice) : Type 0 where
  pub pool : Pool
  pub words : ws' ≡ words_of pool
  pub valid : is_pool P pool ≡ true
  pub left : run P p cs ≡ more_by n (run P pool rest)

pub record Going (s places : List ℕ) (ws : List ℤ) (cs : List Choice) (n : ℕ) (ws' : List ℤ) (rest : List Choice) : Type 0 where
  pub at : (P : Program) (p : Pool) → Places s P places → ws ≡ words_of p → is_pool P p ≡ true → GoesOn P p cs n ws' rest

-- a run by its first choice, over any result of it
run-made : (P : Program) (p p' : Pool) (c : Choice) (cs : List Choice) {rule : ℕ} → choice P p c.kind c.thread ≡ Result.made rule p'
    → run P p (c ∷ cs) ≡ one_more (run P p' cs)
unfolding run go_on
run-made P p p' c cs e = rw e

run-refused : (P : Program) (p : Pool) (c : Choice) (cs : List Choice) {n : ℕ} → choice P p c.kind c.thread ≡ Result.refused n
    → run P p (c ∷ cs) ≡ record { made = 0; refusal = some n; pool = p }
unfolding run go_on
run-refused P p c cs e = rw e

more_by_lem : (n : ℕ) (r : Ran) → more_by n (one_more r) ≡ more_by (n + 1) r
more_by_lem n r = ap (λ (m : ℕ). record { made = m; refusal = r.refusal; pool = r.pool }) (omega arith)

none-by : (r : Ran) → r ≡ more_by 0 r
none-by r = ap (λ (m : ℕ). record { made = m; refusal = r.refusal; pool = r.pool }) (sym (zero-add r.made))

-- the code's report of a run that ends
stopped-report : (n : ℕ) (number : No) (ws : List ℤ) (p : Pool) → ws ≡ words_of p
    → scheduled_of (ended_of (Err (n, number))) ws ≡ reported (more_by n (record { made = 0; refusal = some number.0; pool = p }))
unfolding scheduled_of reported stopped
stopped-report n number ws p e = λ i. record { answer = Answer.refused (Refusal.plain number.0); made = sym (add-zero n) i; after = e i }

all-report : (n : ℕ) (ws : List ℤ) (P : Program) (p : Pool) → ws ≡ words_of p
    → scheduled_of (ended_of (Ok n)) ws ≡ reported (more_by n (run P p []))
unfolding scheduled_of reported stopped run
all-report n ws P p e = λ i. record { answer = Answer.given tt; made = sym (add-zero n) i; after = e i }

module _ {s places : List ℕ} {ws : List ℤ} {cs : List Choice} where
  pub going_start : Going s places ws cs 0 ws cs
  going_start = record { at = λ P p t w v. record { pool = p; words = w; valid = v; left = none-by (run P p cs) } }

  module _ {n : ℕ} {ws' ws'' : List ℤ} {c : Choice} {rest : List Choice} (g : Going s places ws cs n ws' (c ∷ rest)) where
    pub going-made : {rule : Rule} → Chooses s places ws' c.kind c.thread (Ok rule) ws'' → Going s places ws cs (n + 1) ws'' rest
    going-made {rule} h = record { at = λ P p t w v. one P p t (g.at P p t w v) }
      where
        one : (P : Program) (p : Pool) → Places s P places → GoesOn P p cs n ws' (c ∷ rest) → GoesOn P p cs (n + 1) ws'' rest
        one P p t q =
            let z = chose-made P q.pool ws' c.kind
            c.thread ws'' rule.0 t.limits q.valid (h P q.pool t q.words q.valid) in
            record {
              pool = z.pool;
              words = z.words;
              valid = z.valid;
              left = q.left ∙ ap (more_by n) (run-made P q.pool z.pool c rest z.is) ∙ more_by_lem n (run P z.pool rest);
            }

    pub going-refused : {number : No} → Chooses s places ws' c.kind c.thread (Err number) ws''
        → Runs s places ws cs (Err (n, number)) ws''
    going-refused {number} h = record { is = λ P p t w v. one P p t (g.at P p t w v) }
      where
        one : (P : Program) (p : Pool) → Places s P places → GoesOn P p cs n ws' (c ∷ rest)
            → scheduled_of (ended_of (Err (n, number))) ws'' ≡ reported (run P p cs)
        one P p t q =
            let z = chose-refused P q.pool ws' c.kind c.thread ws'' number.0 (h P q.pool t q.words q.valid) in
            stopped-report n number ws'' q.pool (z.1 ∙ q.words) ∙
            sym (ap reported (q.left ∙ ap (more_by n) (run-refused P q.pool c rest z.0)))

  pub going-ends : {n : ℕ} {ws' : List ℤ} → Going s places ws cs n ws' [] → Runs s places ws cs (Ok n) ws'
  going-ends {n} {ws'} g = record { is = λ P p t w v. one P p (g.at P p t w v) }
    where
      one : (P : Program) (p : Pool) → GoesOn P p cs n ws' [] → scheduled_of (ended_of (Ok n)) ws' ≡ reported (run P p cs)
      one P p q = all-report n ws' P q.pool q.words ∙ sym (ap reported q.left)

-- the choices of the code, one by one
module _ {s places : List ℕ} {ws : List ℤ} (cs : List Lent) (n : ℕ) {ws' : List ℤ}
    (g : Going s places ws (choices_of cs) n ws' (drop n (choices_of cs))) where
  module _ (d : Lent) (less : n < length cs) (r : Made) {ws'' : List ℤ}
      (h : Chooses s places ws' (get_or cs n d).kind (get_or cs n d).thread r ws'') where
    going-next : Going s places ws (choices_of cs) n ws' (choice_of (get_or cs n d) ∷ drop (n + 1) (choices_of cs))
    going-next = subst (Going s places ws (choices_of cs) n ws') (next-choice cs n d less) g

    pub one-refused : {number : No} → r ≡ Err number → Runs s places ws (choices_of cs) (Err (n, number)) ws''
    unfolding choice_of
    one-refused {number} e =
        going-refused going-next {number = number}
        (subst (λ (x : Made). Chooses s places ws' (get_or cs n d).kind (get_or cs n d).thread x ws'') e h)

    pub one-made : ((number : No) → r ≡ Err number → ⊥) → Going s places ws (choices_of cs) (n + 1) ws'' (drop (n + 1) (choices_of cs))
    unfolding choice_of
    one-made f = go r refl
      where
        go : (x : Made) → r ≡ x → Going s places ws (choices_of cs) (n + 1) ws'' (drop (n + 1) (choices_of cs))
        go (Ok rule) e =
            going-made going-next {rule = rule}
            (subst (λ (x : Made). Chooses s places ws' (get_or cs n d).kind (get_or cs n d).thread x ws'') e h)
        go (Err number) e = absurd (f number e)

  pub none-left : length cs ≡ n → Runs s places ws (choices_of cs) (Ok (length cs)) ws'
  none-left l =
      subst⁻¹ (λ (m : ℕ). Runs s places ws (choices_of cs) (Ok m) ws') l
      (going-ends (subst (Going s places ws (choices_of cs) n ws') (no-more-choices cs n (omega arith)) g))
