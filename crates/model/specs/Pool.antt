-- Figure 2: frames, threads and the pool; the pool's words, and which words are a pool of a table (13).
use Rattle.std.specs.Prelude.{ℕ, zero, suc, ◌+◌, ◌*◌, ◌^◌, min, Bool, true, false, ◌&&◌, ◌||◌, List, [], ◌∷◌, ◌++◌, map, reverse, eqb, leb, ltb, ℤ, pos, length, get_or, take, drop}
use Rattle.std.proofs.Math.Option.{Option, none, some}
use Rattle.std.proofs.Math.ListN.{get_elem?}
use Rattle.model.specs.Lists.{all, pad, concat}
use Rattle.model.specs.Values.{same, number}
use Rattle.model.specs.Sets.{has, below}
use Rattle.model.specs.Syntax.{Block, Function, Program}

-- the layout: every number of it, once
abbrev pub temporaries : ℕ
temporaries = 16

abbrev pub most_calls : ℕ
most_calls = 4

abbrev pub most_frames : ℕ
most_frames = 8

abbrev pub most_threads : ℕ
most_threads = 8

abbrev pub most_work : ℕ
most_work = 65534

abbrev pub most_tokens : ℕ
most_tokens = 2000000000

-- a frame's 26 words: six numbers, of which that at `opened_at` is the number of open calls; the calls; the values
abbrev pub function_at : ℕ
function_at = 0

abbrev pub block_at : ℕ
block_at = 1

abbrev pub done_at : ℕ
done_at = 2

abbrev pub bound_at : ℕ
bound_at = 3

abbrev pub opened_at : ℕ
opened_at = 4

abbrev pub promoted_at : ℕ
promoted_at = 5

abbrev pub calls_at : ℕ
calls_at = 6

abbrev pub values_at : ℕ
values_at = calls_at + most_calls

abbrev pub frame_words : ℕ
frame_words = values_at + temporaries

-- a thread's 211 words: the number of its frames; its work and its tokens; the frames
abbrev pub frame_count_at : ℕ
frame_count_at = 0

abbrev pub work_at : ℕ
work_at = 1

abbrev pub tokens_at : ℕ
tokens_at = 2

abbrev pub frames_at : ℕ
frames_at = 3

abbrev pub thread_words : ℕ
thread_words = frames_at + most_frames * frame_words

-- a pool's 1,689 words: the number of its threads; the threads
abbrev pub thread_count_at : ℕ
thread_count_at = 0

abbrev pub threads_at : ℕ
threads_at = 1

abbrev pub pool_words : ℕ
pool_words = threads_at + most_threads * thread_words

-- thread i begins here, and its frame j, oldest first
abbrev pub thread_start : ℕ → ℕ
thread_start i = threads_at + thread_words * i

abbrev pub start_of : ℕ → ℕ → ℕ
start_of i j = thread_start i + frames_at + frame_words * j

-- k ::= ⟨f, ρ, X, b⟩: the function; the block, which in an older frame is the one to return to; the statements done; the
-- spawn deque ρ, oldest first, of which the first are promoted; X as the bound set and sixteen values
pub record Frame : Type 0 where
  pub function : ℕ
  pub block : ℕ
  pub done : ℕ
  pub bound : ℕ
  pub calls : List ℕ
  pub promoted : ℕ
  pub values : List ℤ

-- heartbeat tokens (document 001, 4.3): the work done since tokens last came, and the tokens that a thread has. No rule looks at them
pub record Purse : Type 0 where
  pub work : ℕ
  pub tokens : ℕ

-- a call stack: the newest frame, and the older ones, newest first; and the thread's purse
pub record Thread : Type 0 where
  pub newest : Frame
  pub older : List Frame
  pub purse : Purse

-- threads in preorder: each is followed by its children's trees, newest child first
abbrev pub Pool : Type 0
Pool = List Thread

abbrev pub frames : Thread → List Frame
frames t = t.newest ∷ t.older

-- a new thread, of one frame and with nothing in its purse
abbrev pub empty : Purse
empty = record { work = 0; tokens = 0 }

abbrev pub born : Frame → Thread
born k = record { newest = k; older = []; purse = empty }

-- the thread t with these frames, newest first, and all else of it kept. Where there are none it stays as it is
abbrev pub restacked : Thread → List Frame → Thread
restacked t [] = t
restacked t (k ∷ K) = record { newest = k; older = K; purse = t.purse }

-- the thread t with another purse
abbrev pub endowed : Thread → Purse → Thread
endowed t e = record { newest = t.newest; older = t.older; purse = e }

-- a function's first frame: the entry, with parameter k as temporary k
unfoldable pub begin : ℕ → List ℤ → Frame
begin g v̄ =
    record {
      function = g;
      block = 0;
      done = 0;
      bound = below (length v̄);
      calls = [];
      promoted = 0;
      values = pad temporaries (pos 0) v̄;
    }

-- the pool's words; threads and frames in order, oldest frame first, and 0 behind them
unfoldable pub words_of_frame : Frame → List ℤ
words_of_frame k =
    pos k.function ∷ pos k.block ∷ pos k.done ∷ pos k.bound ∷ pos (length k.calls) ∷ pos k.promoted ∷
    (pad most_calls (pos 0) (map pos k.calls) ++ k.values)

-- what stands before a thread's frames
unfoldable pub thread_head : Thread → List ℤ
thread_head t = pos (length (frames t)) ∷ pos t.purse.work ∷ pos t.purse.tokens ∷ []

unfoldable pub words_of_thread : Thread → List ℤ
words_of_thread t = thread_head t ++ pad (most_frames * frame_words) (pos 0) (concat (map words_of_frame (reverse (frames t))))

unfoldable pub words_of : Pool → List ℤ
words_of p = pos (length p) ∷ pad (most_threads * thread_words) (pos 0) (concat (map words_of_thread p))

-- n runs of size words each
unfoldable pub runs : ℕ → ℕ → List ℤ → List (List ℤ)
runs size zero ws = []
runs size (suc n) ws = take size ws ∷ runs size n (drop size ws)

-- the word at a place; the count there, of which no more than most is used
unfoldable pub word_at : List ℤ → ℕ → ℕ
word_at ws i = number (get_or ws i (pos 0))

unfoldable pub count_at : ℕ → List ℤ → ℕ → ℕ
count_at most ws i = min (word_at ws i) most

-- the frame, the thread and the pool that words stand for, whatever they hold
unfoldable pub frame_of : List ℤ → Frame
frame_of ws =
    record {
      function = word_at ws function_at;
      block = word_at ws block_at;
      done = word_at ws done_at;
      bound = word_at ws bound_at;
      calls = map number (take (count_at most_calls ws opened_at) (drop calls_at ws));
      promoted = word_at ws promoted_at;
      values = take temporaries (drop values_at ws);
    }

abbrev pub purse_of : List ℤ → Purse
purse_of ws = record { work = word_at ws work_at; tokens = word_at ws tokens_at }

unfoldable pub thread_of : List ℤ → Thread
thread_of ws =
    restacked (endowed (born (begin 0 [])) (purse_of ws))
    (reverse (map frame_of (runs frame_words (count_at most_frames ws frame_count_at) (drop frames_at ws))))

unfoldable pub pool_of : List ℤ → Pool
pool_of ws = map thread_of (runs thread_words (count_at most_threads ws thread_count_at) (drop threads_at ws))

unfoldable pub same_words : List ℤ → List ℤ → Bool
same_words [] [] = true
same_words [] (w ∷ ws) = false
same_words (v ∷ vs) [] = false
same_words (v ∷ vs) (w ∷ ws) = same v w && same_words vs ws

-- the function and the block of a frame
unfoldable pub function_of : Program → Frame → Option Function
function_of P k = get_elem? P k.function

unfoldable pub block_in : Option Function → ℕ → Option Block
block_in none b = none
block_in (some F) b = get_elem? F.blocks b

unfoldable pub block_of : Program → Frame → ℕ → Option Block
block_of P k b = block_in (function_of P k) b

-- the value of an unbound temporary is 0
unfoldable pub blank : ℕ → ℕ → List ℤ → Bool
blank Γ x [] = true
blank Γ x (v ∷ v̄) = (has Γ x || same v (pos 0)) && blank Γ (x + 1) v̄

-- function, block and open spawn calls exist, and every number is within its limits
unfoldable pub in_block : Frame → Option Block → Bool
in_block k none = false
in_block k (some B) = leb k.done (length B.code)

unfoldable pub in_function : Frame → Option Function → Bool
in_function k none = false
in_function k (some F) = in_block k (get_elem? F.blocks k.block) && all (λ π. ltb π (length F.spawns)) k.calls

unfoldable pub is_frame : Program → Frame → Bool
is_frame P k =
    in_function k (function_of P k) &&
    ltb k.bound (2 ^ temporaries) &&
    leb (length k.calls) most_calls &&
    leb k.promoted (length k.calls) &&
    eqb (length k.values) temporaries &&
    blank k.bound 0 k.values

-- an older frame has no statements done
unfoldable pub is_older : Program → Frame → Bool
is_older P k = is_frame P k && eqb k.done 0

-- all promoted calls are older than all unpromoted ones; the frames come newest first
unfoldable pub settled : Frame → Bool
settled k = eqb k.promoted (length k.calls)

unfoldable pub ordered : List Frame → Bool
ordered [] = true
ordered (k ∷ K) = (eqb k.promoted 0 || all settled K) && ordered K

unfoldable pub is_purse : Purse → Bool
is_purse e = leb e.work most_work && leb e.tokens most_tokens

unfoldable pub is_thread : Program → Thread → Bool
is_thread P t =
    leb (length (frames t)) most_frames &&
    is_frame P t.newest &&
    all (is_older P) t.older &&
    ordered (frames t) &&
    is_purse t.purse

-- each promoted call is one child
unfoldable pub children : List Frame → ℕ
children [] = 0
children (k ∷ K) = k.promoted + children K

-- n trees in preorder, and nothing behind them
unfoldable pub trees : ℕ → List Thread → Bool
trees zero [] = true
trees zero (t ∷ ts) = false
trees (suc n) [] = false
trees (suc n) (t ∷ ts) = trees (children (frames t) + n) ts

unfoldable pub is_pool : Program → Pool → Bool
is_pool P p = leb (length p) most_threads && all (is_thread P) p && trees 1 p

-- words that are a pool of the table: written back they are the same
unfoldable pub are_pool : Program → List ℤ → Bool
are_pool P ws = same_words (words_of (pool_of ws)) ws && is_pool P (pool_of ws)

-- the pool at the start: one thread, with one frame at main's entry
unfoldable pub started : Pool
started = born (begin 0 []) ∷ []
