-- Demand 3 in the terms of the exported functions: the bytes of a table, the words lent, and the numbers answered, as the macros
-- read them.
use Rattle.std.specs.Prelude.{ℕ, ◌≤◌, ◌<◌, ◌≡◌, ◌≢◌, ◌⊎◌, true, false, List, [], ◌∷◌, ℤ, length, get_or}
use Rattle.model.specs.Numbers as No
use Rattle.model.specs.Numbers.{Within}
use Rattle.model.specs.Lists.{Each}
use Rattle.model.specs.Calls.{Choice}
use Rattle.host.specs.Macros.{is_given, value, number, pool_words, step, no_thread}
use Rattle.host.specs.CallContracts.{Check, Start, Choose, Schedule, Beat, Run, Which, Values}

-- a call that a host made, with the number r that it answered
pub data Call : Type 0 where
  choose : (kind thread r : ℕ) → Call
  schedule : (cs : List Choice) (r made : ℕ) → Call
  beat : (thread n c r : ℕ) → Call
  run : (n c : ℕ) (threads : List ℕ) (r steps promotions : ℕ) → Call
  which : (r : ℕ) → Call
  values : (vs : List ℤ) (r : ℕ) (vs' : List ℤ) → Call

-- it was made with the words ws, and left the words ws'
abbrev pub Made : List ℕ → List ℤ → Call → List ℤ → Type 0
Made s ws (Call.choose kind thread r) ws' = Choose s ws kind thread r ws'
Made s ws (Call.schedule cs r made) ws' = Schedule s ws cs r made ws'
Made s ws (Call.beat thread n c r) ws' = Beat s ws thread n c r ws'
Made s ws (Call.run n c threads r steps promotions) ws' = Run s ws n c threads r (steps ∷ promotions ∷ []) ws'
Made s ws (Call.which r) ws' = Which s ws r × (ws' ≡ ws)
Made s ws (Call.values vs r vs') ws' = Values s ws vs r vs' × (ws' ≡ ws)

-- calls one after another, each with the words that the one before left
abbrev pub Session : List ℕ → List ℤ → List Call → List ℤ → Type 0
Session s ws [] ws' = ws' ≡ ws
Session s ws (c ∷ cs) ws' = (between : List ℤ) × Made s ws c between × Session s between cs ws'

-- a refused choice, or list of choices, answered one of 14 to 21 and not 19, or 29: so none of 1 to 3, 12 and 13, and never "stuck".
-- The two questions were given. A refused beat, or run of beats, answered 27, one of 15 to 18, or 29
abbrev pub Unstuck : ℕ → Type 0
Unstuck r = is_given r ≡ false → (Within No.kind No.threads (number r) × (number r ≢ No.stuck)) ⊎ (number r ≡ No.overflow)

abbrev pub Unjammed : ℕ → Type 0
Unjammed r = is_given r ≡ false → (number r ≡ No.pace) ⊎ (Within No.thread No.frames (number r) ⊎ (number r ≡ No.overflow))

abbrev pub Answered : Call → Type 0
Answered (Call.choose kind thread r) = Unstuck r
Answered (Call.schedule cs r made) = Unstuck r
Answered (Call.beat thread n c r) = Unjammed r
Answered (Call.run n c threads r steps promotions) = Unjammed r
Answered (Call.which r) = is_given r ≡ true
Answered (Call.values vs r vs') = is_given r ≡ true

-- main has returned: mezdaulk_values is given as many values as main declares, in byte 7 of the table; so it is not open
abbrev pub Returned : List ℕ → List ℤ → Type 0
Returned s ws =
    (vs : List ℤ) (r : ℕ) (vs' : List ℤ) → Values s ws vs r vs' →
    (is_given r ≡ true) × (value r ≡ get_or s 7 0) × (value r ≤ 4)

-- a thread can take an ordinary step: mezdaulk_choose of it, put next, is given one of the rules 1 to 9
pub record CanStep (s : List ℕ) (ws : List ℤ) : Type 0 where
  pub thread : ℕ
  pub there : thread < 8
  pub makes : (r : ℕ) (ws' : List ℤ) → Choose s ws step thread r ws' → (is_given r ≡ true) × Within No.stmt No.prom (value r)

-- a thread is at a call with all eight frames in use: mezdaulk_choose of it, put next, is refused 18
pub record OutOfFrames (s : List ℕ) (ws : List ℤ) : Type 0 where
  pub thread : ℕ
  pub there : thread < 8
  pub gets : (r : ℕ) (ws' : List ℤ) → Choose s ws step thread r ws' → (is_given r ≡ false) × (number r ≡ No.frames)

-- a thread's next expression overflows: mezdaulk_choose of it, put next, is refused 29
pub record Overflows (s : List ℕ) (ws : List ℤ) : Type 0 where
  pub thread : ℕ
  pub there : thread < 8
  pub gets : (r : ℕ) (ws' : List ℤ) → Choose s ws step thread r ws' → (is_given r ≡ false) × (number r ≡ No.overflow)

abbrev pub Moves : List ℕ → List ℤ → Type 0
Moves s ws = CanStep s ws ⊎ (OutOfFrames s ws ⊎ Overflows s ws)

abbrev pub Stands : List ℕ → List ℤ → Type 0
Stands s ws = Returned s ws ⊎ Moves s ws

-- what is claimed of a session that left the words ws: how its calls were answered, and how the words stand. Of a call put next:
-- where mezdaulk_which tells no thread, main has returned, or a thread is out of frames or overflows; and where a step is refused 17,
-- some thread can step, or is out of frames, or overflows
pub record Safe (s : List ℕ) (cs : List Call) (ws : List ℤ) : Type 0 where
  pub answered : Each Answered cs
  pub stands : Stands s ws
  pub nobody : (r : ℕ) → Which s ws r → value r ≡ no_thread → Returned s ws ⊎ (OutOfFrames s ws ⊎ Overflows s ws)
  pub waiting : (thread r : ℕ) (ws' : List ℤ) → Choose s ws step thread r ws' → is_given r ≡ false → number r ≡ No.waits →
      Moves s ws

-- a start that answered r, and every session from the words that it left
pub record NeverJams (s : List ℕ) (r : ℕ) (ws : List ℤ) : Type 0 where
  pub starts : is_given r ≡ true
  pub safe : (cs : List Call) (ws' : List ℤ) → Session s ws cs ws' → Safe s cs ws'

-- for every table that mezdaulk_check answered as given, and every pool's length of words lent to mezdaulk_start
abbrev pub Demand3 : Type 0
Demand3 =
    (s : List ℕ) (c : ℕ) → Check s c → is_given c ≡ true →
    (ws : List ℤ) → length ws ≡ pool_words → (r : ℕ) (ws' : List ℤ) → Start s ws r ws' → NeverJams s r ws'
