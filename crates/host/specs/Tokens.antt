-- Heartbeat tokens in the terms of the exported functions: what a plain choice leaves of each thread's work and tokens, that a beat
-- promotes as long as it can pay, a run as its beats, and how many promotions its steps can pay.
use Rattle.std.specs.Prelude.{ℕ, ◌+◌, ◌*◌, ◌-◌, ◌≤◌, ◌≡◌, ◌⊎◌, true, false, cond, List, [], ◌∷◌, map, eqb, leb, ℤ, length, take}
use Rattle.std.proofs.Math.Option.{Option, none, some}
use Rattle.model.specs.Numbers as No
use Rattle.model.specs.Pool.{work_at, tokens_at, thread_start, word_at}
use Rattle.host.specs.Macros.{is_given, value, promotions, promote}
use Rattle.host.specs.CallContracts.{Start, Choose, Beat, Run}

-- the work and the tokens of thread j, by their words
abbrev pub work : List ℤ → ℕ → ℕ
work ws j = word_at ws (thread_start j + work_at)

abbrev pub tokens : List ℤ → ℕ → ℕ
tokens ws j = word_at ws (thread_start j + tokens_at)

-- which thread it was, that stands at j after a choice of thread i by a rule: a join takes the thread behind i away, and a promotion puts
-- one there, which was none
unfoldable pub was : ℕ → ℕ → ℕ → Option ℕ
was rule i j =
    cond (eqb rule No.prom) (some (cond (leb j i) j (j + 1)))
    (cond (eqb rule No.promote) (cond (leb j i) (some j) (cond (eqb j (i + 1)) none (some (j - 1)))) (some j))

-- a thread that was there has the work and the tokens that it had; one that was not has none
abbrev pub Keeps : List ℤ → List ℤ → ℕ → Option ℕ → Type 0
Keeps ws ws' j (some k) = (work ws' j ≡ work ws k) × (tokens ws' j ≡ tokens ws k)
Keeps ws ws' j none = (work ws' j ≡ 0) × (tokens ws' j ≡ 0)

-- for all bytes and words, and any j: the words of a thread that is not there are 0
abbrev pub Leaves : Type 0
Leaves =
    (s : List ℕ) (ws : List ℤ) (kind i r : ℕ) (ws' : List ℤ) → Choose s ws kind i r ws' → is_given r ≡ true →
    (j : ℕ) → Keeps ws ws' j (was (value r) i j)

-- a beat that was given leaves its thread without a token, or a promotion of it, put next, is refused
abbrev pub Exhausts : Type 0
Exhausts =
    (s : List ℕ) (ws : List ℤ) (thread n c r : ℕ) (ws' : List ℤ) → Beat s ws thread n c r ws' → is_given r ≡ true →
    (tokens ws' thread ≡ 0) ⊎ ((q : ℕ) (w : List ℤ) → Choose s ws' promote thread q w → is_given q ≡ false)

-- beats of these threads one after another, the first lent the words ws and each next one the words that the one before left, up to the
-- words ws'; the numbers that they were answered, all of them given
abbrev pub BeatLog : List ℕ → ℕ → ℕ → List ℤ → List ℕ → List ℕ → List ℤ → Type 0
BeatLog s n c ws [] [] ws' = ws ≡ ws'
BeatLog s n c ws [] (r ∷ rs) ws' = ⊥
BeatLog s n c ws (i ∷ is) [] ws' = ⊥
BeatLog s n c ws (i ∷ is) (r ∷ rs) ws' =
    (is_given r ≡ true) × ((between : List ℤ) × Beat s ws i n c r between × BeatLog s n c between is rs ws')

unfoldable pub sum : List ℕ → ℕ
sum [] = 0
sum (n ∷ ns) = n + sum ns

-- a run as beats put one by one: as many as it made steps, in its order, with as many promotions; and they leave the same words
pub record AsBeats (s : List ℕ) (ws : List ℤ) (n c : ℕ) (threads : List ℕ) (steps made : ℕ) (ws' : List ℤ) : Type 0 where
  pub numbers : List ℕ
  pub beats : BeatLog s n c ws (take steps threads) numbers ws'
  pub counted : length numbers ≡ steps
  pub promoted : sum (map promotions numbers) ≡ made

-- for all bytes and words, any N and C, and every list of threads
abbrev pub BeatByBeat : Type 0
BeatByBeat =
    (s : List ℕ) (ws : List ℤ) (n c : ℕ) (threads : List ℕ) (r steps made : ℕ) (ws' : List ℤ) →
    Run s ws n c threads r (steps ∷ made ∷ []) ws' → AsBeats s ws n c threads steps made ws'

-- a run from the words that a start left: promotions times N never exceed C times steps, whatever N, C and the threads are
abbrev pub Bound : Type 0
Bound =
    (s : List ℕ) (ws : List ℤ) (r : ℕ) (started : List ℤ) → Start s ws r started → is_given r ≡ true →
    (n c : ℕ) (threads : List ℕ) (q steps promotions : ℕ) (ws' : List ℤ) →
    Run s started n c threads q (steps ∷ promotions ∷ []) ws' → promotions * n ≤ c * steps
