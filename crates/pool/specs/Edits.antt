-- What the operations on a pool's words leave, for every pool that the words hold.
use Rattle.std.specs.Prelude.{ℕ, ◌+◌, ◌-◌, ◌%◌, min, List, ◌∷◌, ℤ}
use Rattle.model.specs.Pool.{Frame, Purse, Thread, Pool, most_frames, most_threads, most_work, most_tokens, frame_count_at, work_at, tokens_at}
use Rattle.model.specs.Pool.{thread_count_at, thread_start, frames, born, restacked, endowed}
use Rattle.pool.specs.Held.{bits_at, ThreadAt}

-- the number of threads, and of a thread's frames, that words say: always 1 to 8
abbrev pub threads_in : List ℤ → ℕ
threads_in ws = (bits_at ws thread_count_at + (most_threads - 1)) % most_threads + 1

abbrev pub frames_in : List ℤ → ℕ → ℕ
frames_in ws i = (bits_at ws (thread_start i + frame_count_at) + (most_frames - 1)) % most_frames + 1

-- a thread's work and tokens that words say: never above the most
abbrev pub work_in : List ℤ → ℕ → ℕ
work_in ws i = min (bits_at ws (thread_start i + work_at)) most_work

abbrev pub tokens_in : List ℤ → ℕ → ℕ
tokens_in ws i = min (bits_at ws (thread_start i + tokens_at)) most_tokens

-- thread i has k above its newest frame
abbrev pub Pushed : List ℤ → ℕ → Frame → List ℤ → Type 0
Pushed ws i k ws' = (a : Pool) (t : Thread) (b : Pool) → ThreadAt ws i a t b → ThreadAt ws' i a (restacked t (k ∷ frames t)) b

-- thread i, of the frames l, m and K, has lost its newest, l
abbrev pub Popped : List ℤ → ℕ → List ℤ → Type 0
Popped ws i ws' =
    (a : Pool) (t : Thread) (l m : Frame) (K : List Frame) (b : Pool) → ThreadAt ws i a (restacked t (l ∷ m ∷ K)) b
    → ThreadAt ws' i a (restacked t (m ∷ K)) b

-- a new thread, of the frame k, stands directly behind thread i
abbrev pub Added : List ℤ → ℕ → Frame → List ℤ → Type 0
Added ws i k ws' = (a : Pool) (t : Thread) (b : Pool) → ThreadAt ws i a t b → ThreadAt ws' i a t (born k ∷ b)

-- the thread directly behind thread i is gone
abbrev pub Removed : List ℤ → ℕ → List ℤ → Type 0
Removed ws i ws' = (a : Pool) (t u : Thread) (b : Pool) → ThreadAt ws i a t (u ∷ b) → ThreadAt ws' i a t b

-- thread i has another purse
abbrev pub Endowed : List ℤ → ℕ → Purse → List ℤ → Type 0
Endowed ws i e ws' = (a : Pool) (t : Thread) (b : Pool) → ThreadAt ws i a t b → ThreadAt ws' i a (endowed t e) b
