-- Runs of steps by the first: two agree, and the runner makes them.
use Prim.Native.Nat.{ℕ, zero, suc, ◌+◌, ◌≤◌, ◌<◌}
use mathlib.Core.Path.{◌≡◌, refl, sym, ◌∙◌, ap, ap₂, subst}
use mathlib.Core.Option.{Option, none, some}
use mathlib.Core.List.{List, [], ◌∷◌, map}
use native.Mathlib.Omega.{arith}
use lib.IntN.{ℤ}
use lib.ListN.{length}
use Rattle.model.specs.Answers.{Refusal, Answer}
use Rattle.model.specs.Calls.{Called, Choice, Lent, lent, choose, go_on, run, reported, scheduled, schedule, which}
use Rattle.model.proofs.Facts.{none-some, some-injective, given-injective}
use Rattle.model.proofs.Words.{lent-given}
use Rattle.model.proofs.Kept.{choose-kept}
use Rattle.first.specs.Means.{Steps, Right}
use Rattle.first.specs.Runs.{Step, named, stepped, by_first, ByFirst, Run, Over, SameOrder, as_choice, Runner}
use Rattle.first.proofs.Trails.{agree}
use Rattle.first.proofs.Means.{right, refused-stops}

-- words allow one step alone
same_step : {i i' r r' : ℕ} {w w' : List ℤ} → i ≡ i' → r ≡ r' → w ≡ w' →
    ◌≡◌ {A = Step} (record { thread = i; rule = r; words = w }) (record { thread = i'; rule = r'; words = w' })
same_step e f g = rw (e, f, g)

one : (s : List ℕ) (ws : List ℤ) (t u : Step) → ByFirst s ws t → ByFirst s ws u → t ≡ u
one s ws t u a b = same_step thread (given-injective (ap (λ (c : Called ℕ). c.answer) calls)) (ap (λ (c : Called ℕ). c.after) calls)
  where
    thread : t.thread ≡ u.thread
    thread = some-injective (given-injective (sym a.named ∙ b.named))

    calls : ◌≡◌ {A = Called ℕ} (record { answer = Answer.given t.rule; after = t.words })
        (record { answer = Answer.given u.rule; after = u.words })
    calls = sym a.makes ∙ ap (choose s ws 0) thread ∙ b.makes

over : (s : List ℕ) (ws : List ℤ) → Over s ws → (t : Step) → ¬ ByFirst s ws t
over s ws o t a = none-some (given-injective (sym o ∙ a.named))

pub same-order : SameOrder
same-order s ws ts w us v m n = agree (λ t. t.words) (ByFirst s) (one s) (Over s) (over s) ws ts w us v m n

-- a call that gives
called-as : (c : Called ℕ) {rule : ℕ} → c.answer ≡ Answer.given rule → c ≡ record { answer = Answer.given rule; after = c.after }
called-as c e = ap (λ (a : Answer ℕ). record { answer = a; after = c.after }) e

-- the runner, by what is named
module _ (n : ℕ) (s : List ℕ) (ws : List ℤ) where
  goes_on : {i rule : ℕ} → which s ws ≡ Answer.given (some i) → (choose s ws 0 i).answer ≡ Answer.given rule →
      by_first (suc n) s ws ≡ record { thread = i; rule = rule; words = (choose s ws 0 i).after } ∷ by_first n s (choose s ws 0 i).after
  unfolding by_first named stepped
  goes_on e a = rw (e, a)

  stops-none : which s ws ≡ Answer.given none → by_first (suc n) s ws ≡ []
  unfolding by_first named
  stops-none e = rw e

  stops-refused : {r : Refusal} → which s ws ≡ Answer.refused r → by_first (suc n) s ws ≡ []
  unfolding by_first named
  stops-refused e = rw e

-- what a list of steps is, where the runner made it
abbrev RanAs : ℕ → List ℕ → List ℤ → List Step → Type 0
RanAs n s ws ts = (w : List ℤ) × Run s ws ts w × (length ts ≤ n) × (length ts < n → (i : ℕ) → ¬ Steps s w i)

runs_as : (n : ℕ) (s : List ℕ) (ws : List ℤ) → RanAs n s ws (by_first n s ws)
unfolding by_first
runs_as zero s ws = (ws, refl, omega arith, λ l. absurd (omega arith))
runs_as (suc n) s ws = go (which s ws) refl (right s ws) (λ v. runs_as n s v)
  where
    none_runs : by_first (suc n) s ws ≡ [] → ((i : ℕ) → ¬ Steps s ws i) → RanAs (suc n) s ws (by_first (suc n) s ws)
    none_runs e h = subst (RanAs (suc n) s ws) (sym e) (ws, refl, omega arith, λ l. h)

    go : (a : Answer (Option ℕ)) → which s ws ≡ a → Right s ws a → ((v : List ℤ) → RanAs n s v (by_first n s v)) →
        RanAs (suc n) s ws (by_first (suc n) s ws)
    go (Answer.given none) e h k = none_runs (stops-none n s ws e) h.none
    go (Answer.refused r) e h k = none_runs (stops-refused n s ws e) (refused-stops s ws h)
    go (Answer.given (some i)) e h k =
        let (rule, a) = h.steps in
        let c = choose s ws 0 i in
        let (w, m, few, until) = k c.after in
        let makes : c ≡ record { answer = Answer.given rule; after = c.after } = called-as c a in
        subst (RanAs (suc n) s ws) (sym (goes_on n s ws e a))
        (w, (record { named = e; makes = makes }, m), omega (arith, few), λ l. until (omega (arith, l)))

-- every run is the runner's
all : (s : List ℕ) (ws : List ℤ) (ts : List Step) (w : List ℤ) → Run s ws ts w → ts ≡ by_first (length ts) s ws
unfolding by_first
all s ws [] w m = refl
all s ws (t ∷ ts) w (a, m) =
    let after : (choose s ws 0 t.thread).after ≡ t.words = ap (λ (c : Called ℕ). c.after) a.makes in
    ap₂ {C = List Step} ◌∷◌ (same_step refl refl (sym after)) (all s t.words ts w m ∙ ap (by_first (length ts) s) (sym after))
    ∙ sym (goes_on (length ts) s ws a.named (ap (λ (c : Called ℕ). c.answer) a.makes))

-- a schedule whose first choice is given
schedule-more : (s : List ℕ) (ws : List ℤ) (i rule : ℕ) (cs : List Choice) (l : Lent) → lent s ws ≡ Answer.given l →
    (choose s ws 0 i).answer ≡ Answer.given rule → let ws' = (choose s ws 0 i).after in
    ((schedule s ws (record { kind = 0; thread = i } ∷ cs)).made ≡ (schedule s ws' cs).made + 1) ×
    ((schedule s ws (record { kind = 0; thread = i } ∷ cs)).after ≡ (schedule s ws' cs).after)
unfolding schedule scheduled run go_on reported
schedule-more s ws i rule cs l e a =
    let x = choose-kept s ws 0 i rule l e a in
    rw (e, x.lends, x.made) (refl, refl)

schedule-none : (s : List ℕ) (ws : List ℤ) → ((schedule s ws []).made ≡ 0) × ((schedule s ws []).after ≡ ws)
unfolding schedule scheduled run reported
schedule-none s ws = go (lent s ws) refl
  where
    go : (a : Answer Lent) → lent s ws ≡ a → ((scheduled ws a []).made ≡ 0) × ((scheduled ws a []).after ≡ ws)
    go (Answer.given l) e = (refl, (lent-given s ws l e).words)
    go (Answer.refused r) e = (refl, refl)

-- a step is of words that are lent
step-lent : (s : List ℕ) (ws : List ℤ) (i : ℕ) → Steps s ws i → (l : Lent) × (lent s ws ≡ Answer.given l)
step-lent s ws i h = go (lent s ws) refl
  where
    go : (a : Answer Lent) → lent s ws ≡ a → (l : Lent) × (lent s ws ≡ Answer.given l)
    go (Answer.given l) e = (l, e)
    go (Answer.refused r) e = absurd (refused-stops s ws e i h)

replayed : (s : List ℕ) (ws : List ℤ) (ts : List Step) (w : List ℤ) → Run s ws ts w →
    ((schedule s ws (map as_choice ts)).made ≡ length ts) × ((schedule s ws (map as_choice ts)).after ≡ w)
replayed s ws [] w m = let (e, f) = schedule-none s ws in (e, f ∙ m)
replayed s ws (t ∷ ts) w (a, m) =
    let after : (choose s ws 0 t.thread).after ≡ t.words = ap (λ (c : Called ℕ). c.after) a.makes in
    let answer : (choose s ws 0 t.thread).answer ≡ Answer.given t.rule = ap (λ (c : Called ℕ). c.answer) a.makes in
    let (l, e) = step-lent s ws t.thread (t.rule, answer) in
    let (i, j) = schedule-more s ws t.thread t.rule (map as_choice ts) l e answer in
    let (p, q) = replayed s t.words ts w m in (
      i ∙ ap (λ (v : List ℤ). (schedule s v (map as_choice ts)).made + 1) after ∙ omega (arith, p),
      j ∙ ap (λ (v : List ℤ). (schedule s v (map as_choice ts)).after) after ∙ q,
    )

pub runner : Runner
runner =
    record {
      runs = λ n s ws. let (w, m, few, until) = runs_as n s ws in record { left = w; run = m; few = few; until = until };
      all = all;
      replayed = replayed;
    }
