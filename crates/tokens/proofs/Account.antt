-- The account of a run from a fresh pool, whose threads have no work that could be wasted.
use Prim.Native.Nat.{ℕ, ◌+◌, ◌*◌, ◌<◌}
use mathlib.Core.Path.{◌≡◌}
use mathlib.Core.List.{[], ◌∷◌}
use native.Mathlib.Nat.{mul-zero, mul-add, mul_comm}
use native.Mathlib.Omega.{arith}
use Rattle.model.specs.Limits.{Limits}
use Rattle.model.specs.Pool.{Pool, words_of, started}
use Rattle.model.specs.Calls as Calls
use Rattle.model.specs.Calls.{Lent}
use Rattle.model.proofs.Guarantees.{read-limits}
use Rattle.model.proofs.Words.{lent-words, started-pool}
use Rattle.model.proofs.Numbers.{start-begins}
use Rattle.tokens.specs.Beats.{Ran, runs, reported}
use Rattle.tokens.specs.Means.{worth}
use Rattle.tokens.specs.Account.{Lost, lost, tokens_held, work_held, Balance}
use Rattle.tokens.proofs.Kept.{runs-valid}
use Rattle.tokens.proofs.Words.{pace-facts, run_lent}
use Rattle.tokens.proofs.Sums.{sum, total}
use Rattle.tokens.proofs.Counts.{surplus, worth-total, empty-surplus, runs-count}
use Rattle.tokens.proofs.Bound.{started-reads, started-worth}

-- what purses are worth is what is held
held-worth : (N C : ℕ) (p : Pool) → worth N C p ≡ N * tokens_held p + C * work_held p
unfolding worth tokens_held work_held
held-worth N C [] = omega (arith, mul-zero N, mul-zero C)
held-worth N C (t ∷ ts) =
    omega (arith, held-worth N C ts, mul-add N t.purse.tokens (tokens_held ts), mul-add C t.purse.work (work_held ts))

-- no thread of the fresh pool has work above N - 1
started-surplus : (N C : ℕ) → 0 < N → total (surplus N C) started ≡ 0
unfolding total sum started
started-surplus N C l = omega (arith, empty-surplus N C l)

pub balance : Balance
unfolding reported
balance s ws g N C q is =
    let (P, r) = started-reads s ws g in
    let L : Limits P = read-limits s P r in
    let after : (Calls.start s ws).after ≡ words_of started = start-begins s ws g in
    let v = started-pool P L in
    let e = lent-words s P started r v in
    let b : Lent = record { table = P; pool = started } in
    let d : Ran = runs N C P started is in
    let x : Lost = lost N C P started is in
    let f = pace-facts N C q in
    let c = runs-count N C f.some P L started is in
    let h = run_lent s (words_of started) N C is b e q in
    rw after
    (record {
      before = b;
      lends = e;
      after = record { table = P; pool = d.pool };
      left = rw h (lent-words s P d.pool r (runs-valid P L N C started is f.few v));
      balance =
          rw h
          (omega (
            arith,
            worth-total N C started,
            started-worth N C,
            started-surplus N C f.some,
            worth-total N C d.pool,
            held-worth N C d.pool,
            mul_comm d.promotions N,
            mul-add N (d.promotions + tokens_held d.pool) x.tokens,
            mul-add N d.promotions (tokens_held d.pool),
            mul-add C (work_held d.pool) x.work,
          ));
    })
