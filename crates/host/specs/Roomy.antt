-- What the number that mezdaulk_depth answered says of sessions, in the terms of the exported functions: where it is at most 8, no
-- call is ever refused 18, and the clause on frames drops out of demand 3.
use Rattle.std.specs.Prelude.{ℕ, ◌+◌, ◌≤◌, ◌<◌, ◌≡◌, ◌≢◌, ◌⊎◌, true, false, List, ℤ, length}
use Rattle.model.specs.Numbers as No
use Rattle.model.specs.Lists.{Each}
use Rattle.model.specs.Pool.{most_frames, most_threads, frame_count_at, thread_start, word_at}
use Rattle.host.specs.Macros.{is_given, value, number, pool_words, step, no_thread}
use Rattle.host.specs.CallContracts as Contracts
use Rattle.host.specs.CallContracts.{Start, Choose, Which}
use Rattle.host.specs.Sessions.{Call, Session, Returned, CanStep, Overflows}

-- a choice, a list of choices, a beat or a run was not refused 18
abbrev pub Unfilled : ℕ → Type 0
Unfilled r = is_given r ≡ false → number r ≢ No.frames

abbrev pub NotFull : Call → Type 0
NotFull (Call.choose kind thread r) = Unfilled r
NotFull (Call.schedule cs r made) = Unfilled r
NotFull (Call.beat thread n c r) = Unfilled r
NotFull (Call.run n c threads r steps promotions) = Unfilled r
NotFull (Call.which r) = Unit {0}
NotFull (Call.values vs r vs') = Unit {0}

-- how many frames thread i has, by its word; 0 where there is no such thread
abbrev pub frame_count : List ℤ → ℕ → ℕ
frame_count ws i = word_at ws (thread_start i + frame_count_at)

-- what is claimed of a session that left the words ws, by the frames d that mezdaulk_depth gave: no thread has more; and where they
-- are at most 8, no call was refused 18, and main has returned, or a thread can step or overflows. Of a call put next: where
-- mezdaulk_which tells no thread, main has returned or a thread overflows; and where a step is refused 17, some thread can step or
-- overflows
pub record Roomy (s : List ℕ) (d : ℕ) (cs : List Call) (ws : List ℤ) : Type 0 where
  pub few : (i : ℕ) → i < most_threads → frame_count ws i ≤ d
  pub answered : d ≤ most_frames → Each NotFull cs
  pub stands : d ≤ most_frames → Returned s ws ⊎ (CanStep s ws ⊎ Overflows s ws)
  pub nobody : d ≤ most_frames → (r : ℕ) → Which s ws r → value r ≡ no_thread → Returned s ws ⊎ Overflows s ws
  pub waiting : d ≤ most_frames → (thread r : ℕ) (ws' : List ℤ) → Choose s ws step thread r ws' → is_given r ≡ false →
      number r ≡ No.waits → CanStep s ws ⊎ Overflows s ws

-- for every table that mezdaulk_depth gave a value, every pool's length of words lent to mezdaulk_start, and every session after it
abbrev pub Depth : Type 0
Depth =
    (s : List ℕ) (c : ℕ) → Contracts.Depth s c → is_given c ≡ true →
    (ws : List ℤ) → length ws ≡ pool_words → (r : ℕ) (ws' : List ℤ) → Start s ws r ws' →
    (is_given r ≡ true) × ((cs : List Call) (w : List ℤ) → Session s ws' cs w → Roomy s (value c) cs w)
