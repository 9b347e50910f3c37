-- A byte, whatever it is taken for: the next stage, and what it says.
use Rattle.std.proofs.Common.{◌≡◌, ℕ, ◌+◌, ◌^◌, ◌<◌, ◌≤◌, Bool, true, false, List, [], ◌∷◌, ◌++◌, length, take, set, ℤ, sym, refl, ap, ◌∙◌, subst, arith, length-set, length-take}
use mathlib.Core.Logic.{◌⊎◌, inl, inr}
use mathlib.Core.Option.{none, some}
use Rattle.model.specs.Rules.{choice}
use Rattle.model.specs.Calls.{accepted}
use Rattle.model.proofs.Facts.{none-some, some-injective}
use Rattle.std.specs.Prelude.{Some, None}
use Rattle.flow.specs.declared.Phase.{Phase}
use Rattle.flow.specs.declared.Phase.TheVariants.{Taking, Choosing, Stopped, Over}
use Rattle.puts.proofs.Laws.{none as nothing}
use Rattle.flow.specs.declared.Run.{Run}
use Rattle.flow.specs.Stages.{Stage, whole, opened, opening, chosen, next, says, closed, fine}
use Rattle.flow.specs.Stands.{Memory, memory, run_at, half_run, kept, StandsBy, Stands, index_of, Looks, Opens}
use Rattle.flow.specs.Stands.{Chosen, Steps, TakesByte, TakesAny, Tells}
use Rattle.flow.proofs.Fronts.{lacking, limits}
use Rattle.flow.proofs.Taking.{put-behind}

-- the phase of a stage
abbrev pub phase_of : Stage → Phase
phase_of (Stage.taking s) = Taking
phase_of (Stage.choosing P p i k) = Choosing
phase_of (Stage.stopped P p) = Stopped
phase_of Stage.over = Over

phase-of : (t places : List ℕ) (ws : List ℤ) (r : Run) (st : Stage) → StandsBy t places ws r st → r.phase ≡ phase_of st
phase-of t places ws r (Stage.taking s) h = h.phase
phase-of t places ws r (Stage.choosing P p i k) h = h.phase
phase-of t places ws r (Stage.stopped P p) h = h.phase
phase-of t places ws r Stage.over h = h

-- whether the run is closed to further bytes, and whether everything was accepted and made
abbrev closed_at : Phase → Bool
closed_at Taking = false
closed_at Choosing = false
closed_at Stopped = true
closed_at Over = true

abbrev fine_at : Phase → Bool
fine_at Taking = false
fine_at Choosing = true
fine_at Stopped = false
fine_at Over = false

closed_at_lem : (st : Stage) → closed_at (phase_of st) ≡ closed st
unfolding closed
closed_at_lem (Stage.taking s) = refl
closed_at_lem (Stage.choosing P p i k) = refl
closed_at_lem (Stage.stopped P p) = refl
closed_at_lem Stage.over = refl

fine-at : (st : Stage) → fine_at (phase_of st) ≡ fine st
unfolding fine
fine-at (Stage.taking s) = refl
fine-at (Stage.choosing P p i k) = refl
fine-at (Stage.stopped P p) = refl
fine-at Stage.over = refl

module _ (run : Run) {told : Bool} where
  tells-closed : told ≡ closed_at run.phase → Tells closed run told
  tells-closed e = record { is = λ m st h. e ∙ ap closed_at (phase-of _ _ _ run st h.by) ∙ closed_at_lem st }

  tells-fine : told ≡ fine_at run.phase → Tells fine run told
  tells-fine e = record { is = λ m st h. e ∙ ap fine_at (phase-of _ _ _ run st h.by) ∙ fine-at st }

module _ (run : Run) where
  pub is-closed : (run.phase ≡ Stopped) ⊎ (run.phase ≡ Over) → Tells closed run true
  is-closed (inl e) = tells-closed run (sym (ap closed_at e))
  is-closed (inr e) = tells-closed run (sym (ap closed_at e))

  pub is-open : (run.phase ≡ Stopped → ⊥) → (run.phase ≡ Over → ⊥) → Tells closed run false
  is-open n m = tells-closed run (go run.phase n m)
    where
      go : (x : Phase) → (x ≡ Stopped → ⊥) → (x ≡ Over → ⊥) → false ≡ closed_at x
      go Taking n m = refl
      go Choosing n m = refl
      go Stopped n m = absurd (n refl)
      go Over n m = absurd (m refl)

  pub is-fine : run.phase ≡ Choosing → Tells fine run true
  is-fine e = tells-fine run (sym (ap fine_at e))

  pub no-fine : (run.phase ≡ Choosing → ⊥) → Tells fine run false
  no-fine n = tells-fine run (go run.phase n)
    where
      go : (x : Phase) → (x ≡ Choosing → ⊥) → false ≡ fine_at x
      go Taking n = refl
      go Choosing n = absurd (n refl)
      go Stopped n = refl
      go Over n = refl

-- one phase is not another
abbrev pub number_of : Phase → ℕ
number_of Taking = 0
number_of Choosing = 1
number_of Stopped = 2
number_of Over = 3

pub number-of : (m : Memory) (run : Run) (x : Phase) (st : Stage) → run.phase ≡ x → Stands m run st → number_of x ≡ number_of (phase_of st)
number-of m run x st e h = ap number_of (sym e ∙ phase-of _ _ _ run st h.by)

-- the table's bytes
module _ (m : Memory) (out : List ℕ) (run : Run) (b : ℕ) (r : Run) (m' : Memory) (out' : List ℕ) where
  pub put-taking : run.phase ≡ Taking → TakesByte m out run b r m' out' → TakesAny m out run b r m' out'
  put-taking e t = record { is = λ st h i. go st h }
    where
      go : (st : Stage) → Stands m run st → Steps m out run b r m' out' st
      go (Stage.taking s) h = t.is s h
      go (Stage.choosing P p i k) h = let z = number-of m run Taking _ e h in absurd (omega arith)
      go (Stage.stopped P p) h = let z = number-of m run Taking _ e h in absurd (omega arith)
      go Stage.over h = let z = number-of m run Taking _ e h in absurd (omega arith)

-- the kind of a choice has come, and nothing else changes
pub half-is : (run : Run) (kind : ℕ) → run.phase ≡ Choosing
    → ◌≡◌ {A = Run} (record { phase = run.phase; taken = run.taken; index = run.index; kind = Some kind; said = run.said }) (half_run run kind)
half-is run kind e =
    ap (λ (x : Phase). record { phase = x; taken = run.taken; index = run.index; kind = Some kind; said = run.said }) e

-- a choice's kind
module _ (m : Memory) (out : List ℕ) (run : Run) (b : ℕ) (r : Run) where
  pub put-half : run.phase ≡ Choosing → run.kind ≡ None → r ≡ half_run run b → TakesAny m out run b r m out
  unfolding next says
  put-half e f q = record { is = λ st h i. go st h }
    where
      go : (st : Stage) → Stands m run st → Steps m out run b r m out st
      go (Stage.taking s) h = let z = number-of m run Choosing _ e h in absurd (omega arith)
      go (Stage.choosing P p i none) h =
          rw q
          (record {
            stage = record {
              taken = h.taken;
              by = record { phase = refl; holds = h.by.holds; index = h.by.index; kind = refl };
            };
            text = nothing;
          })
      go (Stage.choosing P p i (some kind)) h =
          none-some (ap kept (sym f) ∙ h.by.kind)
      go (Stage.stopped P p) h = let z = number-of m run Choosing _ e h in absurd (omega arith)
      go Stage.over h = let z = number-of m run Choosing _ e h in absurd (omega arith)

-- its thread
module _ (table places : List ℕ) (ws : List ℤ) (out : List ℕ) (run : Run) (b : ℕ) (r : Run) (ws' : List ℤ) (out' : List ℕ) where
  pub put-choice : (t : List ℕ) (has : ℕ) → t ≡ take run.taken table → run.phase ≡ Choosing → run.kind ≡ Some has
      → Chosen t places ws out run has b r ws' out' → TakesAny (memory table places ws) out run b r (memory table places ws') out'
  unfolding next says
  put-choice t has w e f c = record { is = λ st h i. go st h i }
    where
      go : (st : Stage) → Stands (memory table places ws) run st → index_of st + 1 < 2 ^ 64
          → Steps (memory table places ws) out run b r (memory table places ws') out' st
      go (Stage.taking s) h l = let z = number-of (memory table places ws) run Choosing _ e h in absurd (omega arith)
      go (Stage.choosing P p i none) h l = none-some (sym h.by.kind ∙ ap kept f)
      go (Stage.choosing P p i (some kind)) h l =
          let k : has ≡ kind = some-injective (ap kept (sym f) ∙ h.by.kind) in
          let j : run.index ≡ i = h.by.index in
          let held = rw (← w) at h.by.holds in
          rw (← k, ← j)
          (record {
            stage = record {
              taken = rw c.taken h.taken;
              by = subst (λ (x : List ℕ). StandsBy x places ws' r (chosen P p run.index (choice P p has b)))
                  (w ∙ ap (λ (n : ℕ). take n table) (sym c.taken)) (c.stage P p held (rw (← j) at l));
            };
            text = c.text P p held;
          })
      go (Stage.stopped P p) h l = let z = number-of (memory table places ws) run Choosing _ e h in absurd (omega arith)
      go Stage.over h l = let z = number-of (memory table places ws) run Choosing _ e h in absurd (omega arith)

-- after a refusal
module _ (m : Memory) (out : List ℕ) (run : Run) (b : ℕ) where
  put-stopped : run.phase ≡ Stopped → TakesAny m out run b run m out
  unfolding next says
  put-stopped e = record { is = λ st h i. go st h }
    where
      go : (st : Stage) → Stands m run st → Steps m out run b run m out st
      go (Stage.taking s) h = let z = number-of m run Stopped _ e h in absurd (omega arith)
      go (Stage.choosing P p i k) h = let z = number-of m run Stopped _ e h in absurd (omega arith)
      go (Stage.stopped P p) h = record { stage = h; text = nothing }
      go Stage.over h = let z = number-of m run Stopped _ e h in absurd (omega arith)

  put-over : run.phase ≡ Over → TakesAny m out run b run m out
  unfolding next says
  put-over e = record { is = λ st h i. go st h }
    where
      go : (st : Stage) → Stands m run st → Steps m out run b run m out st
      go (Stage.taking s) h = let z = number-of m run Over _ e h in absurd (omega arith)
      go (Stage.choosing P p i k) h = let z = number-of m run Over _ e h in absurd (omega arith)
      go (Stage.stopped P p) h = let z = number-of m run Over _ e h in absurd (omega arith)
      go Stage.over h = record { stage = h; text = nothing }

  pub put-closed : (run.phase ≡ Stopped) ⊎ (run.phase ≡ Over) → TakesAny m out run b run m out
  put-closed (inl e) = put-stopped e
  put-closed (inr e) = put-over e

-- a byte makes the table whole, or not yet
module _ (s : List ℕ) (b : ℕ) where
  next-whole : whole (s ++ b ∷ []) ≡ true → next (Stage.taking s) b ≡ opened (accepted (s ++ b ∷ []))
  unfolding next
  next-whole e = rw e refl

  says-whole : whole (s ++ b ∷ []) ≡ true → says (Stage.taking s) b ≡ opening (accepted (s ++ b ∷ []))
  unfolding says
  says-whole e = rw e refl

  next-lacks : whole (s ++ b ∷ []) ≡ false → next (Stage.taking s) b ≡ Stage.taking (s ++ b ∷ [])
  unfolding next
  next-lacks e = rw e refl

  says-lacks : whole (s ++ b ∷ []) ≡ false → says (Stage.taking s) b ≡ []
  unfolding says
  says-lacks e = rw e refl

-- a byte of the table, which is not whole before it
module _ (table places : List ℕ) (ws : List ℤ) (out : List ℕ) (run : Run) (b : ℕ) where
  -- there is always room for it
  pub take-full : 16384 ≤ run.taken → TakesByte (memory table places ws) out run b run (memory table places ws) out
  take-full full = record { is = λ s h. absurd (no s h) }
    where
      no : (s : List ℕ) → Stands (memory table places ws) run (Stage.taking s) → ⊥
      no s h =
          let l = h.taken in
          let k = length-take run.taken table in
          let e = ap length h.by.bytes in
          let z = (lacking s h.by.lacks).short (omega arith) in
          let y = limits _ z.0 in
          let x = z.1 in
          let w = y.1 in
          omega arith

  module _ (long : length (set table run.taken b) ≡ 16384) (roomy : run.taken < 16384) where
    abbrev table' : List ℕ
    table' = set table run.taken b

    grown : (s : List ℕ) → Stands (memory table places ws) run (Stage.taking s) → take (run.taken + 1) table' ≡ s ++ b ∷ []
    grown s h = put-behind table run.taken b (let l = length-set table run.taken b in omega arith)
        ∙ ap (λ l. l ++ b ∷ []) h.by.bytes

    within : run.taken + 1 ≤ length table'
    within = omega arith

    pub take_open : (t places' : List ℕ) (ws' : List ℤ) (r : Run) (out' : List ℕ) (v : Bool)
        → Looks table' (run.taken + 1) v → v ≡ true → t ≡ take (run.taken + 1) table' → Opens t places places' ws' out run.said r out'
        → TakesByte (memory table places ws) out run b r (memory table' places' ws') out'
    take_open t places' ws' r out' v look y w o = record { is = λ s h. go s h }
      where
        go : (s : List ℕ) → Stands (memory table places ws) run (Stage.taking s)
            → Steps (memory table places ws) out run b r (memory table' places' ws') out' (Stage.taking s)
        go s h =
            let n = h.by.none in
            let g = grown s h in
            let e : whole (s ++ b ∷ []) ≡ true = ap whole (sym g) ∙ sym (look within) ∙ y in
            let q : t ≡ s ++ b ∷ [] = w ∙ g in
            let l : r.taken ≡ run.taken + 1 =
            (let x = o.taken in let y = ap length w in let k = length-take (run.taken + 1) table' in let z = within in omega arith) in
            let here : t ≡ take r.taken table' = w ∙ ap (λ (n : ℕ). take n table') (sym l) in
            record {
              stage = record {
                taken = rw l within;
                by = rw (next-whole s b e, ← q, ← here) (o.stage n);
              };
              text = rw (says-whole s b e, ← q) (o.text n);
            }

    pub take_more : (r : Run) (v : Bool) → Looks table' (run.taken + 1) v → v ≡ false → r ≡ run_at Taking (run.taken + 1) 0 run.said
        → TakesByte (memory table places ws) out run b r (memory table' places ws) out
    take_more r v look y q = record { is = λ s h. go s h }
      where
        go : (s : List ℕ) → Stands (memory table places ws) run (Stage.taking s)
            → Steps (memory table places ws) out run b r (memory table' places ws) out (Stage.taking s)
        go s h =
            let g = grown s h in
            let e : whole (s ++ b ∷ []) ≡ false = ap whole (sym g) ∙ sym (look within) ∙ y in
            rw q
            (record {
              stage = record {
                taken = within;
                by = rw (next-lacks s b e) (record { phase = refl; bytes = g; lacks = e; none = h.by.none });
              };
              text = rw (says-lacks s b e) nothing;
            })
