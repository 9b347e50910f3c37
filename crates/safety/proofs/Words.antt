-- Words that hold a typed pool of the table: every choice keeps them so, and so does another purse; no choice on them is stuck, every
-- join fits, and they never jam.
use Prim.Native.Nat.{ℕ, ◌≤◌}
use mathlib.Core.Path.{◌≡◌, refl, sym, ◌∙◌, ap, subst}
use mathlib.Core.Logic.{◌≢◌, ◌⊎◌, inl, inr}
use mathlib.Core.Bool.{true}
use mathlib.Core.Option.{some}
use mathlib.Core.List.{List, [], ◌∷◌, ◌++◌}
use native.Mathlib.Omega.{arith}
use lib.IntN.{ℤ}
use lib.ListN.{length, get_elem?}
use Rattle.model.specs.Numbers as No
use Rattle.model.specs.Answers.{Refusal, Answer, number_of, with}
use Rattle.model.specs.Lists.{Each}
use Rattle.model.specs.Syntax.{Program}
use Rattle.model.specs.WellFormed.{WF-prog}
use Rattle.model.specs.Limits.{Limits}
use Rattle.model.specs.Pool.{Thread, Pool, frames, words_of, is_pool}
use Rattle.model.specs.Rules.{Result, ended, step, on_thread, choice, main_values}
use Rattle.model.specs.Calls as Calls
use Rattle.model.specs.Calls.{Lent, Called, lent, read, made}
use Rattle.model.proofs.Facts.{refused-given, given-injective}
use Rattle.model.specs.Valid.{IsThread}
use Rattle.model.proofs.Valid.{pool-facts}
use Rattle.model.proofs.Words.{lent-words, lent-given}
use Rattle.model.proofs.Kept.{choice-kept, choose-lent}
use Rattle.model.proofs.Guarantees.{read-limits}
use Rattle.tokens.specs.Purses.{stacks, Repursed}
use Rattle.safety.specs.NeverJams.{Answered, Joined, Moves, Stands}
use Rattle.safety.proofs.Typing.{Typed, promised, Forest}
use Rattle.safety.proofs.Steps.{ends}
use Rattle.safety.proofs.Pools.{Chosen, chosen, Moving, progress, waiting}
use Rattle.safety.proofs.Joins.{joins-fit}

refused-same : {A : Type 0} {q r : Refusal} → ◌≡◌ {A = Answer A} (Answer.refused q) (Answer.refused r) → q ≡ r
refused-same e = cc

-- the number in a refusal
pub refused-number : {A : Type 0} {n : ℕ} {r : Refusal} → ◌≡◌ {A = Answer A} (Answer.refused (Refusal.plain n)) (Answer.refused r) →
    n ≡ number_of r
unfolding number_of
refused-number e = ap number_of (refused-same e)

-- a refusal, and its number
made-number : (ws : List ℤ) (x : Result) {n : ℕ} → (made ws x).answer ≡ Answer.refused (Refusal.plain n) → x ≡ Result.refused n
unfolding made number_of
made-number ws (Result.made rule p) e = refused-given (sym e)
made-number ws (Result.refused n) e = ap Result.refused (refused-number e)

-- the first thread of a typed pool
record Front (P : Program) (r : ℕ) (p : Pool) : Type 0 where
  thread : Thread
  there : get_elem? p 0 ≡ some thread
  valid : IsThread P thread
  typed : Typed P r thread
  main : main_values P p ≡ ended P thread

front : {P : Program} {r : ℕ} (p : Pool) (rs : List ℕ) → Each (IsThread P) p → Forest P p (r ∷ rs) → Front P r p
unfolding main_values
front [] rs h w = absurd w
front (t ∷ ts) rs h w = record { thread = t; there = refl; valid = h.0; typed = w.0; main = refl }

-- a typed pool is typed by its frames alone
forest-stacks : (P : Program) (p p' : Pool) (rs : List ℕ) → stacks p ≡ stacks p' → Forest P p rs → Forest P p' rs
forest-stacks P [] [] rs e w = w
forest-stacks P [] (u ∷ us) rs e w = absurd (omega (arith, ap length e))
forest-stacks P (t ∷ ts) [] rs e w = absurd (omega (arith, ap length e))
forest-stacks P (t ∷ ts) (u ∷ us) [] e w = w
forest-stacks P (t ∷ ts) (u ∷ us) (r ∷ rs) e w =
    let k : t.newest ≡ u.newest = cc in
    let K : t.older ≡ u.older = cc in
    let y = w.0 in (
      record { function = y.function; runs = rw k at y.runs; callers = rw K at y.callers },
      forest-stacks P ts us (promised P (frames u) ++ rs) (cc) (rw (k, K) at w.1),
    )

-- a table that reads as a well-formed program
pub record Table (s : List ℕ) : Type 0 where
  pub program : Program
  pub reads : read s ≡ Answer.given program
  pub formed : WF-prog program

-- what main promises
abbrev pub main : {s : List ℕ} → Table s → List ℕ
main T = T.formed.main.signature.returns ∷ []

-- words of a typed pool
pub record Good {s : List ℕ} (T : Table s) (ws : List ℤ) : Type 0 where
  pub pool : Pool
  pub is : words_of pool ≡ ws
  pub valid : is_pool T.program pool ≡ true
  pub typed : Forest T.program pool (main T)

module _ {s : List ℕ} {T : Table s} {ws : List ℤ} (g : Good T ws) where
  pub limits : Limits T.program
  limits = read-limits s T.program T.reads

  pub threads : Each (IsThread T.program) g.pool
  threads = (pool-facts T.program g.pool g.valid).each

  pub good-lent : lent s ws ≡ Answer.given (record { table = T.program; pool = g.pool })
  good-lent = rw (← g.is) (lent-words s T.program g.pool T.reads g.valid)

  pub good-choose : (kind i : ℕ) → Calls.choose s ws kind i ≡ made ws (choice T.program g.pool kind i)
  good-choose kind i = choose-lent s ws kind i good-lent

  good-chosen : (kind i : ℕ) → Chosen T.program (main T) (choice T.program g.pool kind i)
  good-chosen kind i = chosen T.formed limits g.pool (main T) kind i threads g.typed

  -- no choice is stuck
  answered-by : {x : Result} → Chosen T.program (main T) x → (q : Refusal) → (made ws x).answer ≡ Answer.refused q →
      (No.kind ≤ number_of q) × (number_of q ≢ No.stuck)
  unfolding made
  answered-by (Chosen.goes w) q e = refused-given (sym e)
  answered-by (Chosen.refuses n a b) q e = rw (← refused-number e) (a, b)

  pub good-answered : (kind i : ℕ) → Answered s (record { words = ws; kind = kind; thread = i })
  unfolding Answered
  good-answered kind i q e = answered-by (good-chosen kind i) q (rw (good-choose kind i) at e)

  -- a choice that is made leaves words of a typed pool, and a refused one leaves the words
  after-by : (kind i : ℕ) {x : Result} → Chosen T.program (main T) x → choice T.program g.pool kind i ≡ x →
      Good T (made ws x).after
  unfolding made
  after-by kind i (Chosen.goes {rule = rule} {ts = p} w) e =
      record { pool = p; is = refl; valid = choice-kept T.program limits g.pool p kind i rule g.valid e; typed = w }
  after-by kind i (Chosen.refuses n a b) e = g

  pub good-after : (kind i : ℕ) → Good T (Calls.choose s ws kind i).after
  good-after kind i = rw (good-choose kind i) (after-by kind i (good-chosen kind i) refl)

  -- words that differ in work and tokens alone are words of a typed pool too
  pub good-aside : {ws' : List ℤ} → Repursed s ws ws' → Good T ws'
  good-aside {ws'} r =
      let b : r.before.pool ≡ g.pool = ap (λ (l : Lent). l.pool) (given-injective (sym r.lends ∙ good-lent)) in
      let h = lent-given s ws' r.after r.lends' in
      let P : r.after.table ≡ T.program = given-injective (sym h.reads ∙ T.reads) in
      record {
        pool = r.after.pool;
        is = h.words;
        valid = rw P at h.valid;
        typed = forest-stacks T.program g.pool r.after.pool (main T) (ap stacks (sym b) ∙ r.same) g.typed;
      }

  -- every join fits
  pub good-joined : (kind i : ℕ) → Joined s (record { words = ws; kind = kind; thread = i })
  good-joined kind i j =
      let e : record { table = T.program; pool = g.pool } ≡ j.lends = given-injective (sym good-lent ∙ j.pool) in
      let w : Forest j.lends.table j.lends.pool (main T) =
      subst (λ (l : Lent). Forest l.table l.pool (main T)) e g.typed
      in
      let B =
      joins-fit j.lends.pool (main T) i w j.parent_there j.child_there j.at_spoin j.all_promoted j.one_frame
      j.at_return
      in
      record { block = B.block; there = B.there; takes = B.takes }

  -- a step of a thread, on the words
  good-step : (i : ℕ) {x : Result} → on_thread (step T.program) g.pool i ≡ x → Calls.choose s ws 0 i ≡ made ws x
  unfolding choice
  good-step i e = good-choose 0 i ∙ ap (made ws) e

  moves : Moving T.program g.pool → Moves s ws
  unfolding made
  moves (Moving.makes i {rule = rule} e q) =
      inl (record { thread = i; rule = rule; makes = ap (λ (c : Called ℕ). c.answer) (good-step i e); ordinary = q })
  moves (Moving.lacks i e) = inr (inl (record { thread = i; gets = ap (λ (c : Called ℕ). c.answer) (good-step i e) }))
  moves (Moving.overflows i e) = inr (inr (record { thread = i; gets = ap (λ (c : Called ℕ). c.answer) (good-step i e) }))

  -- where a thread waits, something moves
  pub good-waiting : (i : ℕ) → (Calls.choose s ws 0 i).answer ≡ Answer.refused (Refusal.plain No.waits) → Moves s ws
  unfolding choice
  good-waiting i e =
      let x = on_thread (step T.program) g.pool i in
      let n : x ≡ Result.refused No.waits = made-number ws x (ap (λ (c : Called ℕ). c.answer) (sym (good-step i refl)) ∙ e) in
      moves (waiting T.formed limits g.pool (main T) i threads g.typed n)

  -- the words never jam
  pub good-stands : Stands s ws
  unfolding Calls.values with
  good-stands = go (progress T.formed limits g.pool (main T) threads g.typed f.thread f.there)
    where
      f : Front T.program T.formed.main.signature.returns g.pool
      f = front g.pool [] threads g.typed

      go : Moving T.program g.pool ⊎ ((v̄ : List ℤ) × (ended T.program f.thread ≡ some v̄)) → Stands s ws
      go (inl m) = inr (moves m)
      go (inr d) =
          inl
          (record {
            result = d.0;
            given = rw (good-lent, f.main, d.1);
            table = T.program;
            reads = T.reads;
            main = T.formed.main;
            first = T.formed.first;
            declared = (ends T.formed limits d.0 f.typed f.valid d.1).many;
          })
