-- Demand 3, proved, and what follows from it.
use Prim.Native.Nat.{ℕ}
use mathlib.Core.Path.{◌≡◌, refl, sym, ap}
use mathlib.Core.Logic.{inl, inr}
use mathlib.Core.List.{List, []}
use lib.IntN.{ℤ}
use lib.ListN.{length}
use Rattle.model.specs.Numbers as No
use Rattle.model.specs.Answers.{Refusal, Answer, with}
use Rattle.model.specs.Lists.{Each}
use Rattle.model.specs.Syntax.{Program}
use Rattle.model.specs.Pool.{pool_words, words_of, born, begin, started}
use Rattle.model.specs.Calls as Calls
use Rattle.model.specs.Calls.{Lent, Called, lent, read, check, measured, lent_words, starting, start}
use Rattle.model.proofs.Facts.{eq-eqb}
use Rattle.model.proofs.Accepted.{check-wf}
use Rattle.model.proofs.Guarantees.{read-limits}
use Rattle.model.proofs.Words.{started-pool}
use Rattle.safety.specs.NeverJams.{Call, Put, choices, Answered, Joined, Returned, CanStep, OutOfFrames, Overflows, Moves}
use Rattle.safety.specs.NeverJams.{Stands, finally, Safe, Demand3}
use Rattle.safety.proofs.Typing.{Typed}
use Rattle.safety.proofs.Frames.{begins}
use Rattle.safety.proofs.Words.{Table, Good, good-lent, good-after, good-aside, good-answered, good-joined}
use Rattle.safety.proofs.Words.{good-stands, good-waiting}
use Rattle.safety.proofs.Schedules.{finally-kept, calls-each}

-- the table that the check accepts
pub accepted : (s : List ℕ) → check s ≡ Answer.given tt → Table s
accepted s h =
    let r = check-wf s h in
    record { program = r.0; reads = r.1; formed = r.2 }

-- the start, of any table that reads: one thread at main's entry
pub starts : (s : List ℕ) (ws : List ℤ) {P : Program} → read s ≡ Answer.given P → length ws ≡ pool_words →
    start s ws ≡ record { answer = Answer.given tt; after = words_of started }
unfolding start starting lent_words with measured
starts s ws r n = rw (r, eq-eqb (length ws) pool_words n)

good_start : {s : List ℕ} (T : Table s) → Good T (words_of started)
unfolding started
good_start {s} T =
    let W = T.formed in
    let b = begins W 0 [] W.first (sym W.starts) in
    let t : Typed T.program W.main.signature.returns (born (begin 0 [])) =
    record { function = W.main; runs = b.runs; callers = refl }
    in
    record {
      pool = started;
      is = refl;
      valid = started-pool T.program (read-limits s T.program T.reads);
      typed = (t, rw b.owes tt);
    }

-- lists of calls, from words of a typed pool on
module _ {s : List ℕ} (T : Table s) {ws : List ℤ} (cs : List Call) (g : Good T ws) where
  good-finally : Good T (finally s ws cs)
  good-finally = finally-kept s (Good T) (λ _ g. good-after g) (λ _ _ r g. good-aside g r) cs g

  good-each : (Q : Put → Type 0) →
      ((ws : List ℤ) → Good T ws → (kind i : ℕ) → Q (record { words = ws; kind = kind; thread = i })) → Each Q (choices s ws cs)
  good-each Q q = calls-each s (Good T) (λ _ g. good-after g) (λ _ _ r g. good-aside g r) Q q cs g

module _ {s : List ℕ} (T : Table s) (ws : List ℤ) (n : length ws ≡ pool_words) where
  pub good-started : Good T (start s ws).after
  good-started = rw (starts s ws T.reads n) (good_start T)

  safe : (cs : List Call) → Safe s (start s ws).after cs
  safe cs =
      record {
        answered = good-each T cs good-started (Answered s) (λ _ g kind i. good-answered g kind i);
        joined = good-each T cs good-started (Joined s) (λ _ g kind i. good-joined g kind i);
        stands = good-stands (good-finally T cs good-started);
      }

-- no accepted table ever jams
pub demand3 : Demand3
demand3 s ws h n =
    let T = accepted s h in
    record { starts = ap (λ (c : Called (Unit {0})). c.answer) (starts s ws T.reads n); safe = safe T ws n }

-- the words that calls leave after the start
abbrev pub now : List ℕ → List ℤ → List Call → List ℤ
now s ws cs = finally s (start s ws).after cs

-- what follows of them, for an accepted table
module _ (s : List ℕ) (ws : List ℤ) (h : check s ≡ Answer.given tt) (n : length ws ≡ pool_words) (cs : List Call) where
  good-now : Good (accepted s h) (now s ws cs)
  good-now = good-finally (accepted s h) cs (good-started (accepted s h) ws n)

  -- they are a pool of the table
  pub always-pool : (l : Lent) × (lent s (now s ws cs) ≡ Answer.given l)
  always-pool = (record { table = (accepted s h).program; pool = good-now.pool }, good-lent good-now)

  -- where no thread can step, none is out of frames and none overflows, main has returned
  pub still-returned : ¬ CanStep s (now s ws cs) → ¬ OutOfFrames s (now s ws cs) → ¬ Overflows s (now s ws cs) → Returned s (now s ws cs)
  still-returned a b c = go (good-stands good-now)
    where
      go : Stands s (now s ws cs) → Returned s (now s ws cs)
      go (inl r) = r
      go (inr (inl m)) = absurd (a m)
      go (inr (inr (inl o))) = absurd (b o)
      go (inr (inr (inr v))) = absurd (c v)

  -- where the step of a thread waits (17), some thread can step, is out of frames or overflows
  pub waiting-moves : (i : ℕ) → (Calls.choose s (now s ws cs) 0 i).answer ≡ Answer.refused (Refusal.plain No.waits) →
      Moves s (now s ws cs)
  waiting-moves i e = good-waiting good-now i e
