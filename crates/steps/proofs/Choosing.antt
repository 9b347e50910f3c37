-- A choice on words is the model's choice, and the words are a pool of the table afterwards.
use Prim.Native.Nat.{ℕ, zero, suc, ◌≤◌, ◌<◌}
use mathlib.Core.Path.{◌≡◌, refl, sym, ap, subst, ◌∙◌}
use mathlib.Core.Bool.{true}
use mathlib.Core.List.{List, [], ◌∷◌, ◌++◌}
use native.Mathlib.Omega.{arith}
use lib.Dec.{ltb}
use lib.IntN.{ℤ}
use lib.ListN.{length, length-append}
use Rattle.model.specs.Numbers as No
use Rattle.model.specs.Syntax.{Program}
use Rattle.model.specs.Limits.{Limits}
use Rattle.model.specs.Pool.{Thread, Pool, most_threads, words_of, is_pool}
use Rattle.model.specs.Answers.{Refusal, Answer}
use Rattle.model.specs.Rules.{Result, ended, step, promote, on_thread, choice, main_values}
use Rattle.model.specs.Calls.{Called, made}
use Rattle.model.proofs.Facts.{refused-given}
use Rattle.model.specs.Valid.{IsPool}
use Rattle.model.proofs.Valid.{pool-facts, some-thread}
use Rattle.model.proofs.Words.{pool-fits, words-valid}
use Rattle.model.proofs.Kept.{choice-kept}
use Rattle.places.specs.Places.{Places}
use Rattle.pool.specs.Held.{Held, ThreadAt}
use Rattle.pool.specs.Edits.{threads_in}
use Rattle.pool.proofs.Steps.{threads-counted}
use Rattle.std.specs.Prelude.{Option}
use Rattle.eval.specs.declared.Values.{Values}
use Rattle.eval.specs.Given.{looked_as}
use Rattle.steps.specs.Decision.{before}
use Rattle.steps.specs.Choice.{Known, Ends, Made, by_rule, refused, Comes, Steps, Promotes, Chose, Chooses}
use Rattle.steps.proofs.Effects.{on-thread, on_none}

-- a pool around its thread i
pub record Around (p : Pool) (i : ℕ) : Type 0 where
  pub front : Pool
  pub thread : Thread
  pub back : Pool
  pub is : p ≡ front ++ thread ∷ back
  pub place : length front ≡ i

pub around : (p : Pool) (i : ℕ) → i < length p → Around p i
around [] i h = absurd (omega arith)
around (t ∷ p) zero h = record { front = []; thread = t; back = p; is = refl; place = refl }
around (t ∷ p) (suc i) h =
    let r = around p i (omega arith) in
    record { front = t ∷ r.front; thread = r.thread; back = r.back; is = ap {B = Pool} (λ l. t ∷ l) r.is; place = ap suc r.place }

module _ (P : Program) (p : Pool) {ws : List ℤ} (w : ws ≡ words_of p) (v : is_pool P p ≡ true) where
  pub is_held : Held ws p
  is_held = record { words = w; fits = pool-fits (pool-facts P p v) }

  pub known_at : {s places : List ℕ} {i : ℕ} → Places s P places → (r : Around p i) → Known s places ws i P r.front r.thread r.back
  known_at q r =
      record {
        table = q;
        thread = record { held = subst (Held ws) r.is is_held; place = r.place };
        valid = subst (IsPool P) r.is (pool-facts P p v);
      }

  pub pool-counted : threads_in ws ≡ length p
  pool-counted =
      let r = around p 0 (some-thread P p v) in
      let h : ThreadAt ws 0 r.front r.thread r.back = record { held = subst (Held ws) r.is is_held; place = r.place } in
      omega (arith, threads-counted h, ap length r.is, length-append r.front (r.thread ∷ r.back))

  -- what a choice comes to
  comes-chose : {kind thread : ℕ} {r : Made} {ws' : List ℤ} → Limits P → Comes ws (choice P p kind thread) r ws'
      → Chose P p ws kind thread r ws'
  unfolding made
  comes-chose {kind} {thread} {r} {ws'} L h = go (choice P p kind thread) refl h
    where
      go : (x : Result) → choice P p kind thread ≡ x → Comes ws x r ws' → Chose P p ws kind thread r ws'
      go (Result.made rule p') e c =
          let y : ws' ≡ words_of p' = c.1.words in
          record {
            called = rw (e, c.0, y);
            valid = rw y (words-valid P p' (choice-kept P L p p' kind thread rule v e));
          }
      go (Result.refused n) e c = record { called = rw (e, c.0, c.1); valid = rw (c.1, w) (words-valid P p v) }

choice-kind : (P : Program) (p : Pool) (kind i : ℕ) → 1 < kind → choice P p kind i ≡ Result.refused No.kind
unfolding choice
choice-kind P p zero i h = absurd (omega arith)
choice-kind P p (suc zero) i h = absurd (omega arith)
choice-kind P p (suc (suc kind)) i h = refl

choice-none : (P : Program) (p : Pool) (kind i : ℕ) → kind ≤ 1 → length p ≤ i → choice P p kind i ≡ Result.refused No.thread
unfolding choice
choice-none P p zero i k h = on_none (step P) p i h
choice-none P p (suc zero) i k h = on_none (promote P (ltb (length p) most_threads)) p i h
choice-none P p (suc (suc kind)) i k h = absurd (omega arith)

module _ {s places : List ℕ} {ws : List ℤ} {kind thread : ℕ} where
  pub chooses-kind : 1 < kind → Chooses s places ws kind thread (refused No.kind) ws
  chooses-kind h P p q w v = comes-chose P p w v q.limits (rw (choice-kind P p kind thread h) (refl, refl))

  pub chooses_none : {m : ℕ} → kind ≤ 1 → m ≡ threads_in ws → m ≤ thread → Chooses s places ws kind thread (refused No.thread) ws
  chooses_none k c h P p q w v =
      comes-chose P p w v q.limits (rw (choice-none P p kind thread k (omega (arith, pool-counted P p w v))) (refl, refl))

  module _ (r : Made) (ws' : List ℤ) {m : ℕ} (c : m ≡ threads_in ws) (h : thread < m) where
    pub chooses-step : kind ≡ 0 → Steps s places ws thread r ws' → Chooses s places ws kind thread r ws'
    unfolding choice
    chooses-step k f P p q w v =
        let x = around p thread (omega (arith, pool-counted P p w v)) in
        let e : choice P p kind thread ≡ before x.front (step P x.thread x.back) =
        ap (λ (k : ℕ). choice P p k thread) k
        ∙ ap (λ (p : Pool). on_thread (step P) p thread) x.is
        ∙ on-thread (step P) x.front x.thread x.back thread x.place
        in
        comes-chose P p w v q.limits (rw e (f P x.front x.thread x.back (known_at P p w v q x)))

    pub chooses-promote : kind ≡ 1 → Promotes s places ws thread r ws' → Chooses s places ws kind thread r ws'
    unfolding choice
    chooses-promote k f P p q w v =
        let x = around p thread (omega (arith, pool-counted P p w v)) in
        let e : choice P p kind thread
        ≡ before x.front (promote P (ltb (length (x.front ++ x.thread ∷ x.back)) most_threads) x.thread x.back) =
        ap (λ (k : ℕ). choice P p k thread) k
        ∙ ap (λ (p : Pool). on_thread (promote P (ltb (length p) most_threads)) p thread) x.is
        ∙ on-thread (promote P (ltb (length (x.front ++ x.thread ∷ x.back)) most_threads)) x.front x.thread x.back thread
        x.place
        in
        comes-chose P p w v q.limits (rw e (f P x.front x.thread x.back (known_at P p w v q x)))

-- what a choice on words says of the choice itself: it was made, or it was refused
pub record MadeBy (P : Program) (p : Pool) (kind thread rule : ℕ) (ws' : List ℤ) : Type 0 where
  pub pool : Pool
  pub is : choice P p kind thread ≡ Result.made rule pool
  pub words : ws' ≡ words_of pool
  pub valid : is_pool P pool ≡ true

module _ (P : Program) (p : Pool) (ws : List ℤ) (kind thread : ℕ) (ws' : List ℤ) where
  pub chose-made : (rule : ℕ) → Limits P → is_pool P p ≡ true → Chose P p ws kind thread (by_rule rule) ws'
      → MadeBy P p kind thread rule ws'
  unfolding made
  chose-made rule l v h = go (choice P p kind thread) refl h.called
    where
      go : (x : Result) → choice P p kind thread ≡ x
          → ◌≡◌ {A = Called ℕ} (record { answer = Answer.given rule; after = ws' }) (made ws x) → MadeBy P p kind thread rule ws'
      go (Result.made k p') q e =
          let a : ◌≡◌ {A = Answer ℕ} (Answer.given rule) (Answer.given k) = ap (λ (c : Called ℕ). c.answer) e in
          let r : k ≡ rule = cc in
          let is : choice P p kind thread ≡ Result.made rule p' = q ∙ ap (λ (m : ℕ). Result.made m p') r in
          record {
            pool = p';
            is = is;
            words = ap (λ (c : Called ℕ). c.after) e;
            valid = choice-kept P l p p' kind thread rule v is;
          }
      go (Result.refused n) q e = refused-given (sym (ap (λ (c : Called ℕ). c.answer) e))

  pub chose-refused : (n : ℕ) → Chose P p ws kind thread (refused n) ws' → (choice P p kind thread ≡ Result.refused n) × (ws' ≡ ws)
  unfolding made
  chose-refused n h = go (choice P p kind thread) refl h.called
    where
      go : (x : Result) → choice P p kind thread ≡ x
          → ◌≡◌ {A = Called ℕ} (record { answer = Answer.refused (Refusal.plain n); after = ws' }) (made ws x)
          → (choice P p kind thread ≡ Result.refused n) × (ws' ≡ ws)
      go (Result.made k p') q e = refused-given (ap (λ (c : Called ℕ). c.answer) e)
      go (Result.refused k) q e =
          let a : ◌≡◌ {A = Answer ℕ} (Answer.refused (Refusal.plain n)) (Answer.refused (Refusal.plain k)) =
          ap (λ (c : Called ℕ). c.answer) e in
          let r : k ≡ n = cc in
          (q ∙ ap Result.refused r, ap (λ (c : Called ℕ). c.after) e)

-- main is the first thread
pub main-first : (P : Program) (a : Pool) (t : Thread) (b : Pool) → length a ≡ 0 → main_values P (a ++ t ∷ b) ≡ ended P t
unfolding main_values
main-first P [] t b h = refl
main-first P (u ∷ a) t b h = absurd (omega arith)

-- what the first thread gives are main's values
pub main-looked : (s places : List ℕ) (ws : List ℤ) (o : Option Values) (P : Program) (p : Pool) → Ends s places ws 0 o → Places s P places
    → ws ≡ words_of p → is_pool P p ≡ true → o ≡ looked_as (main_values P p)
main-looked s places ws o P p f q w v =
    let x = around p 0 (some-thread P p v) in
    f P x.front x.thread x.back (known_at P p w v q x)
    ∙ ap looked_as (sym (ap (main_values P) x.is ∙ main-first P x.front x.thread x.back x.place))
