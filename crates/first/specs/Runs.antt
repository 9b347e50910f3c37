-- Steps by the first: plain steps, each of the thread that "which thread can step" names.
use Rattle.std.specs.Prelude.{ℕ, zero, suc, ◌≤◌, ◌<◌, ◌≡◌, List, [], ◌∷◌, map, ℤ, length}
use Rattle.std.proofs.Math.Option.{Option, none, some}
use Rattle.model.specs.Answers.{Answer}
use Rattle.model.specs.Calls.{Choice, choose, schedule, which}
use Rattle.first.specs.Trails.{Trail, Agree}
use Rattle.first.specs.Means.{Steps}

-- a plain step: its thread, the rule that it made, and the words that it left
pub record Step : Type 0 where
  pub thread : ℕ
  pub rule : ℕ
  pub words : List ℤ

-- the runner: at most n steps, each of the thread named, until none is
unfoldable pub named : Answer (Option ℕ) → (ℕ → List Step) → List Step
named (Answer.given (some i)) k = k i
named (Answer.given none) k = []
named (Answer.refused r) k = []

unfoldable pub stepped : ℕ → Answer ℕ → List ℤ → (List ℤ → List Step) → List Step
stepped i (Answer.given rule) ws k = record { thread = i; rule = rule; words = ws } ∷ k ws
stepped i (Answer.refused r) ws k = []

unfoldable pub by_first : ℕ → List ℕ → List ℤ → List Step
by_first zero s ws = []
by_first (suc n) s ws =
    named (which s ws) λ i. let c = choose s ws 0 i in stepped i c.answer c.after (λ ws'. by_first n s ws')

-- a step from the words ws: of the thread that is named there
pub record ByFirst (s : List ℕ) (ws : List ℤ) (t : Step) : Type 0 where
  pub named : which s ws ≡ Answer.given (some t.thread)
  pub makes : choose s ws 0 t.thread ≡ record { answer = Answer.given t.rule; after = t.words }

-- a run of such steps from the words ws up to the words ws'
abbrev pub Run : List ℕ → List ℤ → List Step → List ℤ → Type 0
Run s ws ts ws' = Trail (λ t. t.words) (ByFirst s) ws ts ws'

-- there is none
abbrev pub Over : List ℕ → List ℤ → Type 0
Over s ws = which s ws ≡ Answer.given none

-- two runs with one table and from equal pools make the same rules and pools until there is none
abbrev pub SameOrder : Type 0
SameOrder =
    (s : List ℕ) (ws : List ℤ) (ts : List Step) (w : List ℤ) (us : List Step) (v : List ℤ) → Run s ws ts w → Run s ws us v →
    Agree (λ t. t.words) (ByFirst s) (Over s) ts w us v

-- what the runner makes is a run; it stops before its n steps only where no thread can step
pub record Ran (n : ℕ) (s : List ℕ) (ws : List ℤ) : Type 0 where
  pub left : List ℤ
  pub run : Run s ws (by_first n s ws) left
  pub few : length (by_first n s ws) ≤ n
  pub until : length (by_first n s ws) < n → (i : ℕ) → ¬ Steps s left i

-- a step as a choice of a schedule
abbrev pub as_choice : Step → Choice
as_choice t = record { kind = 0; thread = t.thread }

-- the runner makes runs, and every run is one that it makes; and a run, put as one schedule, makes all of its steps and leaves the same
-- words
pub record Runner : Type 0 where
  pub runs : (n : ℕ) (s : List ℕ) (ws : List ℤ) → Ran n s ws
  pub all : (s : List ℕ) (ws : List ℤ) (ts : List Step) (w : List ℤ) → Run s ws ts w → ts ≡ by_first (length ts) s ws
  pub replayed : (s : List ℕ) (ws : List ℤ) (ts : List Step) (w : List ℤ) → Run s ws ts w →
      ((schedule s ws (map as_choice ts)).made ≡ length ts) × ((schedule s ws (map as_choice ts)).after ≡ w)
