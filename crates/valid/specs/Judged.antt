-- What is looked at to judge a pool's words (13), word by word, and the contracts of the functions that look.
use Rattle.std.specs.Prelude.{ℕ, zero, suc, ◌+◌, ◌*◌, ◌-◌, ◌≤◌, ◌≡◌, Bool, true, false, ◌&&◌, ◌||◌, List, [], ◌∷◌, eqb, leb, ltb, ℤ, pos, negsuc, length, get_or, take, drop}
use Rattle.std.specs.Prelude.{Option as Optional, Some, None}
use Rattle.std.proofs.Math.Option.{Option, none, some}
use Rattle.std.proofs.Math.ListN.{get_elem?}
use Rattle.model.specs.Lists.{all}
use Rattle.model.specs.Values.{same}
use Rattle.model.specs.Syntax.{Block, Program}
use Rattle.model.specs.Pool.{most_frames, most_work, most_tokens, done_at, opened_at, promoted_at, frame_words, work_at, tokens_at, thread_words}
use Rattle.model.specs.Pool.{frames, runs, words_of_frame}
use Rattle.model.specs.Pool.{words_of_thread, frame_of, thread_of, same_words, block_in, is_frame, is_thread, children, are_pool}
use Rattle.places.specs.Places.{spawn_in, Places}

-- a word as a number: a negative one is above every limit
abbrev pub beyond : ℕ
beyond = 2147483648

unfoldable pub plain : ℤ → ℕ
plain (pos n) = n
plain (negsuc n) = beyond

abbrev pub num : List ℤ → ℕ → ℕ
num ws i = plain (get_or ws i (pos 0))

unfoldable pub is_zero : ℤ → Bool
is_zero w = same w (pos 0)

-- words that are a frame, and words that are a thread, of a table: written back they are the same
unfoldable pub good_frame : Program → List ℤ → Bool
good_frame P ws = same_words (words_of_frame (frame_of ws)) ws && is_frame P (frame_of ws)

unfoldable pub good_thread : Program → List ℤ → Bool
good_thread P ws = same_words (words_of_thread (thread_of ws)) ws && is_thread P (thread_of ws)

-- a block that is there and has at least so many statements
unfoldable pub reaches : ℕ → Option Block → Bool
reaches done none = false
reaches done (some B) = leb done (length B.code)

-- a word that is the number of a spawn call of function f
unfoldable pub there : {A : Type 0} → Option A → Bool
there none = false
there (some a) = true

unfoldable pub is_call : Program → ℕ → ℤ → Bool
is_call P f w = there (spawn_in (get_elem? P f) (plain w))

-- n runs of size words each, the last first
unfoldable pub lasts : ℕ → ℕ → List ℤ → List (List ℤ)
lasts size zero ws = []
lasts size (suc n) ws = take size (drop (size * n) ws) ∷ lasts size n ws

-- a thread's frames, newest first. `newest`: the first may have statements done. `free`: no newer frame has a promoted call;
-- behind a promoted call all calls are promoted
unfoldable pub fine : Program → Bool → Bool → List (List ℤ) → Bool
fine P newest free [] = true
fine P newest free (w ∷ ws) =
    good_frame P w &&
    (newest || eqb (num w done_at) 0) &&
    (free || eqb (num w promoted_at) (num w opened_at)) &&
    fine P false (free && eqb (num w promoted_at) 0) ws

unfoldable pub promotions : List (List ℤ) → ℕ
promotions [] = 0
promotions (w ∷ ws) = num w promoted_at + promotions ws

-- a thread's work and tokens
abbrev pub good_purse : List ℤ → Bool
good_purse t = leb (num t work_at) most_work && leb (num t tokens_at) most_tokens

-- threads that are d trees, with nothing behind them
unfoldable pub forest : Program → ℕ → List (List ℤ) → Bool
forest P d [] = eqb d 0
forest P d (t ∷ ts) = ltb 0 d && good_thread P t && forest P (children (frames (thread_of t)) + (d - 1)) ts

-- the number that is read from a word
pub record IsNumber (w : ℤ) (r : ℕ) : Type 0 where
  pub is : r ≡ plain w
  pub small : r ≤ beyond

-- the contracts, for every program that the places are of
abbrev pub JudgesPlace : List ℕ → List ℕ → ℕ → ℕ → ℕ → Bool → Type 0
JudgesPlace s places f b done r = (P : Program) → Places s P places → r ≡ reaches done (block_in (get_elem? P f) b)

abbrev pub JudgesCalls : List ℕ → ℕ → List ℤ → Bool → Type 0
JudgesCalls places f ws r = (s : List ℕ) (P : Program) → Places s P places → r ≡ all (is_call P f) ws

abbrev pub JudgesFrame : List ℕ → List ℕ → List ℤ → Bool → Type 0
JudgesFrame s places w r = (P : Program) → Places s P places → r ≡ good_frame P w

abbrev pub JudgesPool : List ℕ → List ℕ → List ℤ → Bool → Type 0
JudgesPool s places ws r = (P : Program) → Places s P places → r ≡ are_pool P ws

-- a frame at its place among a thread's
abbrev pub follows : Bool → Bool → List ℤ → Bool
follows newest free w = (newest || eqb (num w done_at) 0) && (free || eqb (num w promoted_at) (num w opened_at))

-- the answer to a test, with a count where it holds
abbrev pub Answers : Bool → ℕ → Optional ℕ → Type 0
Answers b n (Some m) = (b ≡ true) × (m ≡ n)
Answers b n None = b ≡ false

-- a count that is far from too large to add up
abbrev pub Few : Optional ℕ → Type 0
Few (Some m) = m ≤ most_frames * beyond
Few None = Unit {0}

abbrev pub JudgesFrames : List ℕ → List ℕ → List ℤ → ℕ → Optional ℕ → Type 0
JudgesFrames s places ws n r =
    Few r × ((P : Program) → Places s P places → Answers (fine P true true (lasts frame_words n ws)) (promotions (lasts frame_words n ws)) r)

abbrev pub JudgesThread : List ℕ → List ℕ → List ℤ → Optional ℕ → Type 0
JudgesThread s places t r = Few r × ((P : Program) → Places s P places → Answers (good_thread P t) (children (frames (thread_of t))) r)

abbrev pub JudgesTrees : List ℕ → List ℕ → List ℤ → ℕ → Bool → Type 0
JudgesTrees s places ws n r = (P : Program) → Places s P places → r ≡ forest P 1 (runs thread_words n ws)
