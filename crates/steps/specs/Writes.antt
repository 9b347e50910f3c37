-- What the writes of a step leave: of the frame at a place, and of a thread, for every one that the words hold.
use Rattle.std.specs.Prelude.{ℕ, ◌+◌, ◌-◌, ◌≤◌, ◌<◌, ◌≡◌, List, [], ◌∷◌, ◌++◌, ℤ, length, take}
use Rattle.model.specs.Lists.{Each}
use Rattle.model.specs.Pool.{Frame, Thread, Pool, temporaries, most_calls, most_frames, start_of, frames, born, restacked, begin}
use Rattle.model.specs.Frames.{go_to, bind, bind_all, deque}
use Rattle.pool.specs.Frame.{Small}
use Rattle.pool.specs.Held.{ThreadAt, FrameAt}
use Rattle.pool.specs.InPlace.{FrameHeld, Became}
use Rattle.code.specs.Code.{count_at, arguments_at}
use Rattle.rules.specs.declared.Entry.{Entry}
use Rattle.rules.specs.Acts.{closed}

-- the frame at the head of a block that is entered, with values of the buffer for the parameters
abbrev pub at_head : List ℕ → Entry → List ℤ → Frame → Frame
at_head s e out m = bind_all (go_to m e.block 0) (arguments_at s e.parameters) (take (count_at s e.parameters) out)

abbrev pub Temporaries : List ℕ → Entry → Type 0
Temporaries s e = Each (λ x. x < temporaries) (arguments_at s e.parameters)

-- of the frame at k
abbrev pub Sets : List ℤ → ℕ → ℕ → ℤ → List ℤ → Type 0
Sets ws k x v ws' =
    (m : Frame) → FrameHeld ws k m → x < temporaries → m.done < 255 → Became ws k (go_to (bind m x v) m.block (m.done + 1)) ws'

abbrev pub Arrives : List ℕ → List ℤ → ℕ → Entry → List ℤ → List ℤ → Type 0
Arrives s ws k e out ws' = (m : Frame) → FrameHeld ws k m → Temporaries s e → Became ws k (at_head s e out m) ws'

abbrev pub Opens : List ℤ → ℕ → ℕ → ℕ → List ℤ → Type 0
Opens ws k π b ws' =
    (m : Frame) → FrameHeld ws k m → length m.calls < most_calls
    → Became ws k (go_to (deque m (m.calls ++ (π ∷ [])) m.promoted) b 0) ws'

abbrev pub Closes : List ℤ → ℕ → ℕ → List ℤ → Type 0
Closes ws k joined ws' =
    (m : Frame) → FrameHeld ws k m → 0 < length m.calls → joined ≤ m.promoted → Became ws k (closed m (m.promoted - joined)) ws'

abbrev pub Shuts : List ℤ → ℕ → ℕ → List ℤ → Type 0
Shuts ws k b ws' = (m : Frame) → FrameHeld ws k m → 0 < length m.calls → Became ws k (go_to (closed m m.promoted) b 0) ws'

-- of thread i
abbrev pub Pushes : List ℤ → ℕ → ℕ → ℕ → ℕ → List ℤ → List ℤ → Type 0
Pushes ws i g n c out ws' =
    (a : Pool) (t : Thread) (b : Pool) → ThreadAt ws i a t b → Small t.newest → length (frames t) < most_frames
    → ThreadAt ws' i a (restacked t (begin g (take n out) ∷ go_to t.newest c 0 ∷ t.older)) b

abbrev pub Pops : List ℕ → List ℤ → ℕ → Entry → List ℤ → List ℤ → Type 0
Pops s ws i e out ws' =
    (a : Pool) (t : Thread) (l m : Frame) (K : List Frame) (b : Pool) → ThreadAt ws i a (restacked t (l ∷ m ∷ K)) b → Small m
    → Temporaries s e → ThreadAt ws' i a (restacked t (at_head s e out m ∷ K)) b

abbrev pub Unites : List ℕ → List ℤ → ℕ → Entry → List ℤ → List ℤ → Type 0
Unites s ws i e out ws' =
    (a : Pool) (t u : Thread) (b : Pool) → ThreadAt ws i a t (u ∷ b) → Small t.newest
    → 0 < length t.newest.calls → 0 < t.newest.promoted → Temporaries s e
    → ThreadAt ws' i a (restacked t (at_head s e out (closed t.newest (t.newest.promoted - 1)) ∷ t.older)) b

-- a new thread of function g directly behind thread i, and one more call of its frame at a place promoted
abbrev pub Spawned : List ℤ → ℕ → ℕ → ℕ → ℕ → List ℤ → List ℤ → Type 0
Spawned ws i at g n out ws' =
    (a : Pool) (t : Thread) (b : Pool) (j : ℕ) (K₁ : List Frame) (k : Frame) (K₂ : List Frame) → ThreadAt ws i a t b
    → at ≡ start_of i j → FrameAt t j K₁ k K₂ → Small k → k.promoted < 255
    → ThreadAt ws' i a (restacked t (K₁ ++ deque k k.calls (k.promoted + 1) ∷ K₂)) (born (begin g (take n out)) ∷ b)
