-- A frame in place: what the words at a place say, and what changing them leaves, for every small frame whose words stand there.
use Rattle.std.specs.Prelude.{ℕ, suc, ◌+◌, ◌-◌, ◌%◌, ◌<◌, ◌≡◌, List, [], ◌∷◌, ◌++◌, ℤ, length, take, drop}
use Rattle.model.specs.Pool.{Frame, temporaries, function_at, block_at, done_at, bound_at, opened_at, promoted_at, calls_at, values_at, frame_words}
use Rattle.model.specs.Pool.{start_of, words_of_frame}
use Rattle.model.specs.Frames.{go_to, bind, deque}
use Rattle.words.specs.Runs.{pasted}
use Rattle.pool.specs.Frame.{Small}
use Rattle.pool.specs.Held.{bits_at, bytes_from}
use Rattle.pool.specs.Edits.{frames_in}

-- the frame that the words at a place say, whatever they are
unfoldable pub frame_at : List ℤ → ℕ → Frame
frame_at ws at =
    record {
      function = bits_at ws (at + function_at) % 256;
      block = bits_at ws (at + block_at) % 256;
      done = bits_at ws (at + done_at) % 256;
      bound = bits_at ws (at + bound_at) % 65536;
      calls = take (bits_at ws (at + opened_at) % 256) (bytes_from ws (at + calls_at));
      promoted = bits_at ws (at + promoted_at) % 256;
      values = take temporaries (drop (at + values_at) ws);
    }

-- where the newest frame of thread i begins
abbrev pub newest_at : List ℤ → ℕ → ℕ
newest_at ws i = start_of i (frames_in ws i - 1)

-- the words at a place are those of the frame k
pub record FrameHeld (ws : List ℤ) (at : ℕ) (k : Frame) : Type 0 where
  pub small : Small k
  pub words : take frame_words (drop at ws) ≡ words_of_frame k

-- the words at a place have become those of the frame k, and no other word has changed
pub record Became (ws : List ℤ) (at : ℕ) (k : Frame) (ws' : List ℤ) : Type 0 where
  pub small : Small k
  pub words : ws' ≡ pasted ws at (words_of_frame k)

-- the frame, as one of function g
unfoldable pub named : Frame → ℕ → Frame
named k g =
    record {
      function = g;
      block = k.block;
      done = k.done;
      bound = k.bound;
      calls = k.calls;
      promoted = k.promoted;
      values = k.values;
    }

-- the frame is one of function g; at statement n of block b; at the next statement; it has a temporary bound; one more call open;
-- the last one closed; one more promoted
abbrev pub Named : List ℤ → ℕ → ℕ → List ℤ → Type 0
Named ws at g ws' = (k : Frame) → FrameHeld ws at k → Became ws at (named k g) ws'

abbrev pub Jumped : List ℤ → ℕ → ℕ → ℕ → List ℤ → Type 0
Jumped ws at b n ws' = (k : Frame) → FrameHeld ws at k → Became ws at (go_to k b n) ws'

abbrev pub Advanced : List ℤ → ℕ → List ℤ → Type 0
Advanced ws at ws' = (k : Frame) → FrameHeld ws at k → k.done < 255 → Became ws at (go_to k k.block (k.done + 1)) ws'

abbrev pub Bound : List ℤ → ℕ → ℕ → ℤ → List ℤ → Type 0
Bound ws at x v ws' = (k : Frame) → FrameHeld ws at k → Became ws at (bind k x v) ws'

abbrev pub Opened : List ℤ → ℕ → ℕ → ℕ → List ℤ → Type 0
Opened ws at n π ws' =
    (k : Frame) → FrameHeld ws at k → length k.calls ≡ n → Became ws at (deque k (k.calls ++ (π ∷ [])) k.promoted) ws'

abbrev pub Closed : List ℤ → ℕ → ℕ → ℕ → List ℤ → Type 0
Closed ws at n promoted ws' =
    (k : Frame) → FrameHeld ws at k → length k.calls ≡ suc n → Became ws at (deque k (take n k.calls) promoted) ws'

abbrev pub Promoted : List ℤ → ℕ → List ℤ → Type 0
Promoted ws at ws' =
    (k : Frame) → FrameHeld ws at k → k.promoted < 255 → Became ws at (deque k k.calls (k.promoted + 1)) ws'
