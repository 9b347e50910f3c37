-- Promotions times N never exceed C times steps: what a run spends, it had or its steps brought in.
use Prim.Native.Nat.{ℕ}
use mathlib.Core.Path.{◌≡◌, refl, sym, ◌∙◌}
use mathlib.Core.Bool.{Bool, true, false}
use mathlib.Core.List.{List}
use native.Mathlib.Nat.{mul-zero, zero-mul}
use native.Mathlib.Omega.{arith}
use lib.IntN.{ℤ}
use Rattle.model.specs.Numbers as No
use Rattle.model.specs.Answers.{Refusal, Answer}
use Rattle.model.specs.Syntax.{Program}
use Rattle.model.specs.Limits.{Limits}
use Rattle.model.specs.Pool.{Pool, words_of, started}
use Rattle.model.specs.Calls as Calls
use Rattle.model.specs.Calls.{read, Lent, lent}
use Rattle.model.proofs.Facts.{refused-given, given-injective}
use Rattle.model.proofs.Guarantees.{read-limits}
use Rattle.model.proofs.Words.{with-given, lent-given, lent-words, started-pool}
use Rattle.model.proofs.Numbers.{start-begins}
use Rattle.tokens.specs.Beats.{runs, is_pace, reported}
use Rattle.tokens.specs.Means.{worth, Bounded, EveryRun, Bound}
use Rattle.tokens.proofs.Kept.{runs-valid}
use Rattle.tokens.proofs.Words.{pace-facts, unpaced, run_lent, run-refused}
use Rattle.tokens.proofs.Counts.{worth-total, runs-count}

pub every-run : EveryRun
unfolding reported
every-run s ws l e N C is = go (is_pace N C) refl
  where
    is-lent : (m : Lent) → lent s ws ≡ Answer.given m → l ≡ m
    is-lent m q = given-injective (sym e ∙ q)

    go : (b : Bool) → is_pace N C ≡ b → Bounded s ws N C is
    go false q =
        let r = run-refused s ws N C is (Refusal.plain No.pace) (unpaced s ws N C l e q) in
        record { after = l; left = rw r e; bound = λ m h. rw (r, is-lent m h) (omega (arith, zero-mul N)) }
    go true q =
        let g = lent-given s ws l e in
        let L : Limits l.table = read-limits s l.table g.reads in
        let p : Pool = (runs N C l.table l.pool is).pool in
        let v = runs-valid l.table L N C l.pool is (pace-facts N C q).few g.valid in
        let r = run_lent s ws N C is l e q in
        let c = runs-count N C (pace-facts N C q).some l.table L l.pool is in
        record {
          after = record { table = l.table; pool = p };
          left = rw r (lent-words s l.table p g.reads v);
          bound = λ m h. rw (r, ← is-lent m h) (omega (arith, worth-total N C l.pool, worth-total N C p));
        }

-- a table whose start is given reads, and the fresh pool is worth nothing
pub started-reads : (s : List ℕ) (ws : List ℤ) → (Calls.start s ws).answer ≡ Answer.given tt → (P : Program) × (read s ≡ Answer.given P)
unfolding Calls.start Calls.starting Calls.lent_words
started-reads s ws g = go (Calls.lent_words s ws) refl g
  where
    go : (a : Answer (Unit {0})) → Calls.lent_words s ws ≡ a → (Calls.starting ws a).answer ≡ Answer.given tt →
        (P : Program) × (read s ≡ Answer.given P)
    go (Answer.refused r) e q = refused-given q
    go (Answer.given u) e q = let (P, r, _) = with-given (read s) (λ P. Calls.measured ws) e in (P, r)

pub started-worth : (N C : ℕ) → worth N C started ≡ 0
unfolding worth started
started-worth N C = omega (arith, mul-zero N, mul-zero C)

pub bound : Bound
bound s ws g N C is =
    let (P, r) = started-reads s ws g in
    let after : (Calls.start s ws).after ≡ words_of started = start-begins s ws g in
    let e = lent-words s P started r (started-pool P (read-limits s P r)) in
    let b = every-run s (words_of started) (record { table = P; pool = started }) e N C is in
    rw after (omega (arith, b.bound (record { table = P; pool = started }) e, started-worth N C))
