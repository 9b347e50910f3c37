-- Lists of threads: a run begins with nothing made, goes on by a beat that is made, and ends at a refusal or at the list's end.
use Prim.Native.Nat.{ℕ, ◌+◌, ◌≤◌, ◌<◌}
use mathlib.Core.Path.{◌≡◌, refl, sym, ap, subst, ◌∙◌}
use mathlib.Core.Option.{some}
use mathlib.Core.List.{List, [], ◌∷◌}
use native.Mathlib.Nat.{zero-add, add-zero}
use native.Mathlib.Omega.{arith}
use lib.IntN.{ℤ}
use lib.ListN.{length, get_or, drop}
use Rattle.model.specs.Answers.{Refusal, Answer}
use Rattle.model.specs.Syntax.{Program}
use Rattle.model.specs.Limits.{Limits}
use Rattle.model.specs.Pool.{Pool, words_of}
use Rattle.model.specs.Calls.{Called, stopped}
use Rattle.model.proofs.Facts.{refused-given, given-injective, past-at, drop-some, drop-none}
use Rattle.places.specs.Places.{Places}
use Rattle.pool.proofs.Readers.{element}
use Rattle.std.specs.Prelude.{Result as Outcome, Ok, Err}
use Rattle.answers.specs.declared.Refusal as Why
use Rattle.answers.specs.Answers.{refusal_of}
use Rattle.tokens.specs.Beats.{Spent, Beaten, beaten, told, Ran, one_more, go_on, runs, most_n, Beat, reported}
use Rattle.tokens.proofs.Kept.{beaten-valid}
use Rattle.beats.specs.declared.Beaten as Answered
use Rattle.beats.specs.Purses.{Holds}
use Rattle.beats.specs.Beating.{called_of, Beating, told_of, Runs}

-- what the answer to a beat says of the beat: it was made, or it was refused
pub record MadeBy (N C : ℕ) (P : Program) (p : Pool) (i n : ℕ) (ws' : List ℤ) : Type 0 where
  pub rule : ℕ
  pub spent : Spent
  pub is : beaten N C P p i ≡ Beaten.made rule spent
  pub count : n ≡ length spent.from
  pub holds : Holds P ws' spent.pool

module _ (N C : ℕ) (P : Program) (p : Pool) (ws : List ℤ) (i : ℕ) (ws' : List ℤ) where
  beat-made : (m : Answered.Beaten) → Limits P → N ≤ most_n → Holds P ws p → called_of (Ok m) ws' ≡ told ws (beaten N C P p i)
      → MadeBy N C P p i m.promotions ws'
  unfolding told
  beat-made m l o h e = go (beaten N C P p i) refl e
    where
      go : (b : Beaten) → beaten N C P p i ≡ b → called_of (Ok m) ws' ≡ told ws b → MadeBy N C P p i m.promotions ws'
      go (Beaten.made k x) q e =
          let a = given-injective (ap (λ (c : Called Beat). c.answer) e) in
          record {
            rule = k;
            spent = x;
            is = q;
            count = ap (λ (b : Beat). b.promotions) a;
            holds = record {
              words = ap (λ (c : Called Beat). c.after) e;
              valid = beaten-valid P l N C p i k x o h.valid q;
            };
          }
      go (Beaten.refused k) q e = refused-given (sym (ap (λ (c : Called Beat). c.answer) e))

  beat-refused : (why : Why.Refusal) → called_of (Err why) ws' ≡ told ws (beaten N C P p i)
      → (n : ℕ) × (beaten N C P p i ≡ Beaten.refused n) × (refusal_of why ≡ Refusal.plain n) × (ws' ≡ ws)
  unfolding told
  beat-refused why e = go (beaten N C P p i) refl e
    where
      go : (b : Beaten) → beaten N C P p i ≡ b → called_of (Err why) ws' ≡ told ws b
          → (n : ℕ) × (beaten N C P p i ≡ Beaten.refused n) × (refusal_of why ≡ Refusal.plain n) × (ws' ≡ ws)
      go (Beaten.made k x) q e = refused-given (ap (λ (c : Called Beat). c.answer) e)
      go (Beaten.refused k) q e =
          let a : ◌≡◌ {A = Answer Beat} (Answer.refused (refusal_of why)) (Answer.refused (Refusal.plain k)) =
          ap (λ (c : Called Beat). c.answer) e in
          let r : refusal_of why ≡ Refusal.plain k = cc in
          (k, q, r, ap (λ (c : Called Beat). c.after) e)

-- a run that goes on: n steps and m promotions were made, the words are ws', and the threads of `rest` are left
abbrev more_by : ℕ → ℕ → Ran → Ran
more_by n m r = record { steps = n + r.steps; promotions = m + r.promotions; refusal = r.refusal; pool = r.pool }

pub record GoesOn (N C : ℕ) (P : Program) (p : Pool) (is : List ℕ) (n m : ℕ) (ws' : List ℤ) (rest : List ℕ) : Type 0 where
  pub pool : Pool
  pub holds : Holds P ws' pool
  pub left : runs N C P p is ≡ more_by n m (runs N C P pool rest)

pub record Going (s places : List ℕ) (N C : ℕ) (ws : List ℤ) (is : List ℕ) (n m : ℕ) (ws' : List ℤ) (rest : List ℕ) : Type 0 where
  pub at : (P : Program) (p : Pool) → Places s P places → Holds P ws p → GoesOn N C P p is n m ws' rest

-- a run by its first beat
runs-made : (N C : ℕ) (P : Program) (p : Pool) (i : ℕ) (is : List ℕ) {rule : ℕ} {x : Spent} → beaten N C P p i ≡ Beaten.made rule x
    → runs N C P p (i ∷ is) ≡ one_more x (runs N C P x.pool is)
unfolding runs go_on
runs-made N C P p i is e = rw e refl

runs-refused : (N C : ℕ) (P : Program) (p : Pool) (i : ℕ) (is : List ℕ) {n : ℕ} → beaten N C P p i ≡ Beaten.refused n
    → runs N C P p (i ∷ is) ≡ record { steps = 0; promotions = 0; refusal = some n; pool = p }
unfolding runs go_on
runs-refused N C P p i is e = rw e refl

more_by_lem : (n m k : ℕ) (x : Spent) (r : Ran) → k ≡ length x.from → more_by n m (one_more x r) ≡ more_by (n + 1) (m + k) r
more_by_lem n m k x r e =
    let p : n + (r.steps + 1) ≡ n + 1 + r.steps = omega arith in
    let q : m + (r.promotions + length x.from) ≡ m + k + r.promotions = omega arith in
    λ j. record { steps = p j; promotions = q j; refusal = r.refusal; pool = r.pool }

none-by : (r : Ran) → r ≡ more_by 0 0 r
none-by r =
    λ j. record { steps = sym (zero-add r.steps) j; promotions = sym (zero-add r.promotions) j; refusal = r.refusal; pool = r.pool }

-- the code's report of a run that ends
refused-report : (n m k : ℕ) (why : Why.Refusal) (ws : List ℤ) (p : Pool) → refusal_of why ≡ Refusal.plain k → ws ≡ words_of p
    → told_of (record { steps = n; promotions = m; answer = Err why }) ws
    ≡ reported (more_by n m (record { steps = 0; promotions = 0; refusal = some k; pool = p }))
unfolding told_of reported stopped
refused-report n m k why ws p e w =
    λ j. record { answer = Answer.refused (e j); steps = sym (add-zero n) j; promotions = sym (add-zero m) j; after = w j }

all-report : (n m : ℕ) (ws : List ℤ) (N C : ℕ) (P : Program) (p : Pool) → ws ≡ words_of p
    → told_of (record { steps = n; promotions = m; answer = Ok tt }) ws ≡ reported (more_by n m (runs N C P p []))
unfolding told_of reported stopped runs
all-report n m ws N C P p w =
    λ j. record { answer = Answer.given tt; steps = sym (add-zero n) j; promotions = sym (add-zero m) j; after = w j }

module _ {s places : List ℕ} {N C : ℕ} {ws : List ℤ} {is : List ℕ} where
  pub going_start : Going s places N C ws is 0 0 ws is
  going_start = record { at = λ P p q h. record { pool = p; holds = h; left = none-by (runs N C P p is) } }

  module _ {n m : ℕ} {ws' ws'' : List ℤ} {i : ℕ} (r : Outcome Answered.Beaten Why.Refusal)
      (g : Going s places N C ws is n m ws' (drop n is))
      (l : n < length is) (e : i ≡ get_or is n 0) (b : Beating s places ws' i N C r ws'') where
    next : drop n is ≡ i ∷ drop (n + 1) is
    next = drop-some is n (element is n 0 l ∙ ap some (sym e))

    going_on : (P : Program) (p : Pool) → GoesOn N C P p is n m ws' (drop n is) → (pool : Pool) × Holds P ws' pool
        × (runs N C P p is ≡ more_by n m (runs N C P pool (i ∷ drop (n + 1) is)))
    going_on P p x = (x.pool, x.holds, x.left ∙ ap (λ (js : List ℕ). more_by n m (runs N C P x.pool js)) next)

    pub going-made : (a : Answered.Beaten) → N ≤ most_n → r ≡ Ok a
        → Going s places N C ws is (n + 1) (m + a.promotions) ws'' (drop (n + 1) is)
    going-made a o z = record { at = λ P p q h. one P p q (going_on P p (g.at P p q h)) }
      where
        one : (P : Program) (p : Pool) (q : Places s P places)
            → (pool : Pool) × Holds P ws' pool × (runs N C P p is ≡ more_by n m (runs N C P pool (i ∷ drop (n + 1) is)))
            → GoesOn N C P p is (n + 1) (m + a.promotions) ws'' (drop (n + 1) is)
        one P p q x =
            let y = beat-made N C P x.0 ws' i ws'' a q.limits o x.1
            (subst (λ (a : Outcome Answered.Beaten Why.Refusal). Beating s places ws' i N C a ws'') z b P x.0 q x.1) in
            record {
              pool = y.spent.pool;
              holds = y.holds;
              left =
                  x.2
                  ∙ ap (more_by n m) (runs-made N C P x.0 i (drop (n + 1) is) y.is)
                  ∙ more_by_lem n m a.promotions y.spent (runs N C P y.spent.pool (drop (n + 1) is)) y.count;
            }

    pub going-refused : {why : Why.Refusal} → r ≡ Err why
        → Runs s places ws N C is (record { steps = n; promotions = m; answer = Err why }) ws''
    going-refused {why} z = record { reports = λ P p q h. one P p q (going_on P p (g.at P p q h)) }
      where
        one : (P : Program) (p : Pool) (q : Places s P places)
            → (pool : Pool) × Holds P ws' pool × (runs N C P p is ≡ more_by n m (runs N C P pool (i ∷ drop (n + 1) is)))
            → told_of (record { steps = n; promotions = m; answer = Err why }) ws'' ≡ reported (runs N C P p is)
        one P p q x =
            let y = beat-refused N C P x.0 ws' i ws'' why
            (subst (λ (a : Outcome Answered.Beaten Why.Refusal). Beating s places ws' i N C a ws'') z b P x.0 q x.1) in
            refused-report n m y.0 why ws'' x.0 y.2 (y.3 ∙ x.1.words)
            ∙ sym (ap reported (x.2 ∙ ap (more_by n m) (runs-refused N C P x.0 i (drop (n + 1) is) y.1)))

  pub going-ends : {n m : ℕ} {ws' : List ℤ} → Going s places N C ws is n m ws' (drop n is) → length is ≤ n
      → Runs s places ws N C is (record { steps = n; promotions = m; answer = Ok tt }) ws'
  going-ends {n} {m} {ws'} g l = record { reports = λ P p q h. one P p (g.at P p q h) }
    where
      one : (P : Program) (p : Pool) → GoesOn N C P p is n m ws' (drop n is)
          → told_of (record { steps = n; promotions = m; answer = Ok tt }) ws' ≡ reported (runs N C P p is)
      one P p x =
          all-report n m ws' N C P x.pool x.holds.words
          ∙ sym (ap reported (x.left ∙ ap (λ (js : List ℕ). more_by n m (runs N C P x.pool js)) (drop-none is n (past-at is n l))))

  -- the same of a run that is as long as the list
  pub going-through : {n m : ℕ} {ws' : List ℤ} → Going s places N C ws is n m ws' (drop n is) → length is ≡ n
      → Runs s places ws N C is (record { steps = length is; promotions = m; answer = Ok tt }) ws'
  going-through {n} {m} {ws'} g l =
      subst (λ (k : ℕ). Runs s places ws N C is (record { steps = k; promotions = m; answer = Ok tt }) ws') (sym l)
      (going-ends g (omega arith))
