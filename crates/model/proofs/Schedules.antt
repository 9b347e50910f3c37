-- Laws of schedules: one from a valid pool leaves a valid pool; a schedule split in two at any point and put one after the other
-- gives the same as the whole.
use Prim.Native.Nat.{ℕ, ◌+◌}
use mathlib.Core.Path.{◌≡◌, refl, sym, ◌∙◌, ap}
use mathlib.Core.Bool.{true}
use mathlib.Core.Option.{Option, none, some}
use mathlib.Core.List.{List, [], ◌∷◌, ◌++◌}
use native.Mathlib.Nat.{zero-add}
use native.Mathlib.Omega.{arith}
use lib.IntN.{ℤ}
use Rattle.model.specs.Answers.{Answer}
use Rattle.model.specs.Syntax.{Program}
use Rattle.model.specs.Pool.{Pool, words_of, is_pool}
use Rattle.model.specs.Rules.{Result, choice}
use Rattle.model.specs.Calls.{Lent, lent, Choice, Ran, one_more, go_on, run, Scheduled, stopped, reported, scheduled, schedule}
use Rattle.model.specs.Limits.{Limits}
use Rattle.model.proofs.Guarantees.{read-limits}
use Rattle.model.proofs.Words.{lent-words, lent-given}
use Rattle.model.proofs.Kept.{choice-kept}

-- a run leaves a valid pool
pub run-kept : (P : Program) → Limits P → (p : Pool) (cs : List Choice) → is_pool P p ≡ true → is_pool P (run P p cs).pool ≡ true
unfolding run go_on
run-kept P L p [] h = h
run-kept P L p (c ∷ cs) h = go (choice P p c.kind c.thread) refl (λ p'. run-kept P L p' cs)
  where
    go : (r : Result) → choice P p c.kind c.thread ≡ r → ((p' : Pool) → is_pool P p' ≡ true → is_pool P (run P p' cs).pool ≡ true)
        → is_pool P (go_on p r (λ p'. run P p' cs)).pool ≡ true
    go (Result.made rule p') e k = k p' (choice-kept P L p p' c.kind c.thread rule h e)
    go (Result.refused n) e k = h

-- a run, and where it met no refusal what comes behind it
abbrev pub onward : ℕ → Option ℕ → Pool → (Pool → Ran) → Ran
onward n none p k = record { made = n + (k p).made; refusal = (k p).refusal; pool = (k p).pool }
onward n (some r) p k = record { made = n; refusal = some r; pool = p }

abbrev pub and_run : Ran → (Pool → Ran) → Ran
and_run r k = onward r.made r.refusal r.pool k

more-onward : (n : ℕ) (o : Option ℕ) (p : Pool) (k : Pool → Ran) → one_more (onward n o p k) ≡ onward (n + 1) o p k
more-onward n none p k = ap (λ (m : ℕ). record { made = m; refusal = (k p).refusal; pool = (k p).pool }) (omega arith)
more-onward n (some r) p k = refl

pub run-append : (P : Program) (p : Pool) (cs ds : List Choice) → run P p (cs ++ ds) ≡ and_run (run P p cs) (λ p'. run P p' ds)
unfolding run go_on
run-append P p [] ds =
    ap (λ (m : ℕ). record { made = m; refusal = (run P p ds).refusal; pool = (run P p ds).pool }) (sym (zero-add (run P p ds).made))
run-append P p (c ∷ cs) ds = go (choice P p c.kind c.thread) (λ p'. run-append P p' cs ds)
  where
    go : (r : Result) → ((p' : Pool) → run P p' (cs ++ ds) ≡ and_run (run P p' cs) (λ q. run P q ds))
        → go_on p r (λ p'. run P p' (cs ++ ds)) ≡ and_run (go_on p r (λ p'. run P p' cs)) (λ q. run P q ds)
    go (Result.made rule p') k =
        ap one_more (k p') ∙ more-onward (run P p' cs).made (run P p' cs).refusal (run P p' cs).pool (λ q. run P q ds)
    go (Result.refused n) k = refl

-- the same on words: a report, and where nothing was refused the report of what comes behind it
abbrev pub behind : Answer (Unit {0}) → ℕ → List ℤ → (List ℤ → Scheduled) → Scheduled
behind (Answer.given u) n ws k = record { answer = (k ws).answer; made = n + (k ws).made; after = (k ws).after }
behind (Answer.refused r) n ws k = record { answer = Answer.refused r; made = n; after = ws }

abbrev pub and_then : Scheduled → (List ℤ → Scheduled) → Scheduled
and_then r k = behind r.answer r.made r.after k

reported-onward : (n : ℕ) (o : Option ℕ) (p : Pool) (k : Pool → Ran) (f : List ℤ → Scheduled) → f (words_of p) ≡ reported (k p)
    → reported (onward n o p k) ≡ behind (stopped o) n (words_of p) f
unfolding reported stopped
reported-onward n none p k f e =
    ap (λ (r : Scheduled). record { answer = r.answer; made = n + r.made; after = r.after }) (sym e)
reported-onward n (some r) p k f e = refl

pub schedule-append : (s : List ℕ) (ws : List ℤ) (cs ds : List Choice)
    → schedule s ws (cs ++ ds) ≡ and_then (schedule s ws cs) (λ ws'. schedule s ws' ds)
unfolding schedule scheduled reported stopped
schedule-append s ws cs ds = go (lent s ws) refl
  where
    go : (a : Answer Lent) → lent s ws ≡ a → scheduled ws a (cs ++ ds) ≡ and_then (scheduled ws a cs) (λ ws'. schedule s ws' ds)
    go (Answer.refused r) e = refl
    go (Answer.given l) e =
        let g = lent-given s ws l e in
        let kept : is_pool l.table (run l.table l.pool cs).pool ≡ true =
        run-kept l.table (read-limits s l.table g.reads) l.pool cs g.valid in
        let lends = lent-words s l.table (run l.table l.pool cs).pool g.reads kept in
        ap reported (run-append l.table l.pool cs ds) ∙
        reported-onward (run l.table l.pool cs).made (run l.table l.pool cs).refusal (run l.table l.pool cs).pool
        (λ p. run l.table p ds) (λ ws'. schedule s ws' ds)
        (ap (λ (a : Answer Lent). scheduled (words_of (run l.table l.pool cs).pool) a ds) lends)

-- two schedules from equal words with one table give equal words and reports
pub schedule-same : (s : List ℕ) (ws ws' : List ℤ) (cs : List Choice) → ws ≡ ws' → schedule s ws cs ≡ schedule s ws' cs
schedule-same s ws ws' cs e = ap (λ (w : List ℤ). schedule s w cs) e
