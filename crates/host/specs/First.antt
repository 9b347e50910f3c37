-- Steps by the first in the terms of the exported functions: a host asks mezdaulk_which, and puts a step of the thread that it tells to
-- mezdaulk_choose, again and again. Two hosts that do so with one table and from equal words see the same numbers and words.
use Rattle.std.specs.Prelude.{ℕ, ◌≡◌, ◌≢◌, true, List, [], ◌∷◌, map, ℤ, length}
use Rattle.model.specs.Numbers as No
use Rattle.model.specs.Numbers.{Within}
use Rattle.model.specs.Lists.{Each}
use Rattle.model.specs.Calls.{Choice}
use Rattle.first.specs.Trails.{Trail, Agree}
use Rattle.host.specs.Macros.{is_given, value, step, no_thread}
use Rattle.host.specs.CallContracts.{Choose, Schedule, Which}
use Rattle.host.specs.Sessions.{Call, Session}

-- the number that mezdaulk_which answered, the number that mezdaulk_choose answered then, and the words that it left
pub record Asked : Type 0 where
  pub told : ℕ
  pub number : ℕ
  pub words : List ℤ

-- from the words ws: mezdaulk_which told a thread, and a step of it was put
pub record ByFirst (s : List ℕ) (ws : List ℤ) (t : Asked) : Type 0 where
  pub which : Which s ws t.told
  pub given : is_given t.told ≡ true
  pub thread : value t.told ≢ no_thread
  pub choose : Choose s ws step (value t.told) t.number t.words

-- such steps one after another, from the words ws up to the words ws'
abbrev pub Steps : List ℕ → List ℤ → List Asked → List ℤ → Type 0
Steps s ws ts ws' = Trail (λ t. t.words) (ByFirst s) ws ts ws'

-- mezdaulk_which tells that there is no thread
abbrev pub Over : List ℕ → List ℤ → Type 0
Over s ws = (r : ℕ) × Which s ws r × (is_given r ≡ true) × (value r ≡ no_thread)

-- two hosts, for all bytes and words: as far as they go they see the same; where the one is told that there is no thread, the other has
-- gone no further
abbrev pub SameOrder : Type 0
SameOrder =
    (s : List ℕ) (ws : List ℤ) (ts : List Asked) (w : List ℤ) (us : List Asked) (v : List ℤ) → Steps s ws ts w → Steps s ws us v →
    Agree (λ t. t.words) (ByFirst s) (Over s) ts w us v

-- as choices of a schedule, and as calls of a session
abbrev pub as_choice : Asked → Choice
as_choice t = record { kind = step; thread = value t.told }

unfoldable pub as_calls : List Asked → List Call
as_calls [] = []
as_calls (t ∷ ts) = Call.which t.told ∷ Call.choose step (value t.told) t.number ∷ as_calls ts

-- every step was given one of the rules 1 to 9; put as one schedule all of them are made, and leave the same words; and they are a
-- session, so that all that is promised of sessions holds of them
pub record Told (s : List ℕ) (ws : List ℤ) (ts : List Asked) (ws' : List ℤ) : Type 0 where
  pub made : Each (λ t. (is_given t.number ≡ true) × Within No.stmt No.prom (value t.number)) ts
  pub schedule : (r made : ℕ) (w : List ℤ) → Schedule s ws (map as_choice ts) r made w → (made ≡ length ts) × (w ≡ ws')
  pub session : Session s ws (as_calls ts) ws'

abbrev pub EveryRun : Type 0
EveryRun = (s : List ℕ) (ws : List ℤ) (ts : List Asked) (ws' : List ℤ) → Steps s ws ts ws' → Told s ws ts ws'
