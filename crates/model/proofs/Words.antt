-- The pool's words: how many they are, that reading them back gives the pool again, and what a lent pool is.
use Prim.Native.Nat.{ℕ, zero, suc, ◌+◌, ◌*◌, ◌-◌, ◌≤◌, zero-le, min}
use mathlib.Core.Path.{◌≡◌, refl, sym, ap, subst, ◌∙◌}
use mathlib.Core.Bool.{Bool, true, false, cond}
use mathlib.Core.Option.{some}
use mathlib.Core.List.{List, [], ◌∷◌, ◌++◌, map, reverse, reverse-cons, reverse-reverse, append_assoc}
use native.Mathlib.Nat.{min-eq_left, zero-mul, suc-mul, mul-le-mul_right}
use native.Mathlib.Omega.{arith}
use lib.Dec.{eqb, ltb, lit≤}
use lib.IntN.{ℤ, pos}
use lib.ListN.{length, get_or, get_elem?, set, take, drop, replicate, length-append, length-map, length-reverse, length-replicate}
use lib.ListN.{get_or-append}
use lib.Seq.{take_at, drop_at, take_all, set-get_or}
use Rattle.model.specs.Numbers as No
use Rattle.model.specs.Lists.{Each, pad, concat}
use Rattle.model.specs.Values.{same, number}
use Rattle.model.specs.Sets.{has, below}
use Rattle.model.specs.Syntax.{Function, Program}
use Rattle.model.specs.Pool.{Frame, Thread, Pool, temporaries, most_calls, most_frames, most_threads, frame_words, thread_words, pool_words}
use Rattle.model.specs.Pool.{frame_count_at, work_at, tokens_at, frames_at, thread_count_at, threads_at, frames, born, restacked, begin}
use Rattle.model.specs.Pool.{words_of_frame, thread_head, words_of_thread, words_of, runs, word_at, count_at, frame_of, thread_of, pool_of}
use Rattle.model.specs.Pool.{same_words, thread_start, function_of, children, trees, is_pool, are_pool, started}
use Rattle.model.specs.Answers.{Refusal, Answer, with}
use Rattle.model.specs.Limits.{InFunction, Limits}
use Rattle.model.specs.Calls.{read, Lent, measured, valid, lent}
use Rattle.model.proofs.Facts.{refused-given, ltb-true, ltb-false, below_at, each_at, eqb-true, eq-eqb, true-false}
use Rattle.model.proofs.Facts.{and_left, same_at}
use Rattle.model.proofs.Facts.{and_right, both-and, each_map, each_append}
use Rattle.model.proofs.Members.{has-below, below-lt}
use Rattle.model.specs.Valid.{Blank, IsFrame, IsThread, IsPool, FrameFits, ThreadFits, PoolFits}
use Rattle.model.proofs.Valid.{pool-facts, facts-pool, same_true, same_refl}

module _ {P : Program} where
  pub frame-fits : {k : Frame} → IsFrame P k → FrameFits k
  frame-fits h = record { calls = h.few; values = h.sized }

  pub thread-fits : {t : Thread} → IsThread P t → ThreadFits t
  thread-fits {t} h =
      record {
        few = h.few;
        each = (frame-fits h.newest, each_map (λ k o. frame-fits o.frame) t.older h.older);
      }

  pub pool-fits : {p : Pool} → IsPool P p → PoolFits p
  pool-fits {p} h = record { few = h.few; each = each_map (λ t q. thread-fits q) p h.each }

-- lists of one length
module _ {A : Type 0} where
  abbrev pub Long : ℕ → List (List A) → Type 0
  Long size xss = Each (λ xs. length xs ≡ size) xss

  pub length-concat : (size : ℕ) (xss : List (List A)) → Long size xss → length (concat xss) ≡ length xss * size
  unfolding concat
  length-concat size [] h = sym (zero-mul size)
  length-concat size (xs ∷ xss) h =
      simp (length-append, suc-mul, length-concat size xss h.1) (omega (arith, h.0))

  pub length-pad : (n : ℕ) (d : A) (xs : List A) → length xs ≤ n → length (pad n d xs) ≡ n
  unfolding pad
  length-pad n d xs h = simp (length-append, length-replicate) (omega arith)

  pub each-reverse : (Q : A → Type 0) (xs : List A) → Each Q xs → Each Q (reverse xs)
  each-reverse Q [] h = tt
  each-reverse Q (x ∷ xs) h = rw reverse-cons (each_append Q (reverse xs) (x ∷ []) (each-reverse Q xs h.1) (h.0, tt))

pub runs-concat : (size : ℕ) (xss : List (List ℤ)) (rest : List ℤ) → Long size xss → runs size (length xss) (concat xss ++ rest) ≡ xss
unfolding runs concat
runs-concat size [] rest h = refl
runs-concat size (xs ∷ xss) rest h =
    let r : List ℤ = concat xss ++ rest in
    rw (append_assoc, take_at xs r size h.0, drop_at xs r size h.0, runs-concat size xss rest h.1)

number-pos : (xs : List ℕ) → map number (map pos xs) ≡ xs
number-pos [] = refl
number-pos (x ∷ xs) = ap {B = List ℕ} (λ l. x ∷ l) (number-pos xs)

take-padded : {A : Type 0} (n : ℕ) (d : A) (xs ys : List A) (m : ℕ) → length xs ≡ m → take m (pad n d xs ++ ys) ≡ xs
unfolding pad
take-padded n d xs ys m h = rw append_assoc (take_at xs (replicate (n - length xs) d ++ ys) m h)

-- a frame's words: how many, and the frame again
calls-length : {k : Frame} → FrameFits k → length (pad most_calls (pos 0) (map pos k.calls)) ≡ most_calls
calls-length {k} h = length-pad most_calls (pos 0) (map pos k.calls) (rw length-map h.calls)

pub frame-length : {k : Frame} → FrameFits k → length (words_of_frame k) ≡ frame_words
unfolding words_of_frame
frame-length {k} h =
    rw (length-append (pad most_calls (pos 0) (map pos k.calls)) k.values, calls-length h, h.values)

pub frame_back : {k : Frame} → FrameFits k → frame_of (words_of_frame k) ≡ k
unfolding words_of_frame frame_of word_at count_at
frame_back {k} h =
    λ i.
    record {
      function = k.function;
      block = k.block;
      done = k.done;
      bound = k.bound;
      calls = calls i;
      promoted = k.promoted;
      values = values i;
    }
  where
    slots : List ℤ
    slots = pad most_calls (pos 0) (map pos k.calls)

    calls : map number (take (min (length k.calls) most_calls) (slots ++ k.values)) ≡ k.calls
    calls =
        let n : ℕ = length k.calls in
        rw (min-eq_left h.calls, take-padded most_calls (pos 0) (map pos k.calls) k.values n (length-map k.calls pos))
        (number-pos k.calls)

    values : take temporaries (drop most_calls (slots ++ k.values)) ≡ k.values
    values = rw (drop_at slots k.values most_calls (calls-length h)) (take_all temporaries k.values (omega (arith, h.values)))

-- the law of what stands before a thread's frames: how many words, the number of frames among them, and what another stack changes
module _ (t : Thread) where
  pub head-length : length (thread_head t) ≡ frames_at
  unfolding thread_head
  head-length = refl

  head-count : get_or (thread_head t) frame_count_at (pos 0) ≡ pos (length (frames t))
  unfolding thread_head
  head-count = refl

  pub head-restacked : (k : Frame) (K : List Frame)
      → thread_head (restacked t (k ∷ K)) ≡ set (thread_head t) frame_count_at (pos (suc (length K)))
  unfolding thread_head
  head-restacked k K = refl

  -- with as many frames it is the same
  pub head-kept : (K : List Frame) → length K ≡ length (frames t) → thread_head (restacked t K) ≡ thread_head t
  head-kept [] e = refl
  head-kept (k ∷ K) e =
      head-restacked k K
      ∙ ap (set (thread_head t) frame_count_at) (ap pos e ∙ sym head-count)
      ∙ set-get_or (thread_head t) frame_count_at (pos 0)

  pub thread-count : get_or (words_of_thread t) frame_count_at (pos 0) ≡ pos (length (frames t))
  unfolding words_of_thread
  thread-count = get_or-append (thread_head t) _ (pos 0) frame_count_at (omega (arith, head-length)) ∙ head-count

  pub thread-work : get_or (words_of_thread t) work_at (pos 0) ≡ pos t.purse.work
  unfolding words_of_thread thread_head
  thread-work = refl

  pub thread-tokens : get_or (words_of_thread t) tokens_at (pos 0) ≡ pos t.purse.tokens
  unfolding words_of_thread thread_head
  thread-tokens = refl

-- a head, at most so many runs of one size, and 0 behind them: a thread's words, and a pool's
module _ {A : Type 0} (most size : ℕ) (write : A → List ℤ) (back : List ℤ → A) where
  counted : List ℤ → List A → List ℤ
  counted head xs = head ++ pad (most * size) (pos 0) (concat (map write xs))

  Written : A → Type 0
  Written x = (length (write x) ≡ size) × (back (write x) ≡ x)

  long : (xs : List A) → Each Written xs → Long size (map write xs)
  unfolding Written
  long [] h = tt
  long (x ∷ xs) h = (h.0.0, long xs h.1)

  backs : (xs : List A) → Each Written xs → map back (map write xs) ≡ xs
  unfolding Written
  backs [] h = refl
  backs (x ∷ xs) h = rw (h.0.1, backs xs h.1)

  module _ (head : List ℤ) (before : ℕ) (e : length head ≡ before) (xs : List A) (few : length xs ≤ most) (h : Each Written xs) where
    counted-length : length (counted head xs) ≡ before + most * size
    unfolding counted
    counted-length = length-append head _ ∙ rw (e, length-pad (most * size) (pos 0) (concat (map write xs)) fits)
      where
        fits : length (concat (map write xs)) ≤ most * size
        fits = rw (length-concat size (map write xs) (long xs h), length-map) (mul-le-mul_right size few)

    counted_back : (at : ℕ) → get_or (counted head xs) at (pos 0) ≡ pos (length xs)
        → map back (runs size (count_at most (counted head xs) at) (drop before (counted head xs))) ≡ xs
    unfolding counted count_at word_at pad
    counted_back at c =
        rw (c, min-eq_left few, drop_at head _ before e, ← length-map xs write, runs-concat size (map write xs) _ (long xs h)) (backs xs h)

-- a thread's words: how many, and the thread again
frames-written : (K : List Frame) → Each FrameFits K → Each (Written most_frames frame_words words_of_frame frame_of) K
unfolding Written
frames-written K h = each_map (λ k f. (frame-length f, frame_back f)) K h

module _ {t : Thread} (h : ThreadFits t) where
  thread-few : length (reverse (frames t)) ≤ most_frames
  thread-few = rw length-reverse h.few

  thread-written : Each (Written most_frames frame_words words_of_frame frame_of) (reverse (frames t))
  thread-written = frames-written (reverse (frames t)) (each-reverse FrameFits (frames t) h.each)

  pub thread-length : length (words_of_thread t) ≡ thread_words
  unfolding words_of_thread counted
  thread-length =
      counted-length most_frames frame_words words_of_frame frame_of (thread_head t) frames_at (head-length t)
      (reverse (frames t)) thread-few thread-written

  pub thread-back : thread_of (words_of_thread t) ≡ t
  unfolding words_of_thread thread_head thread_of word_at counted
  thread-back =
      let c : get_or (words_of_thread t) frame_count_at (pos 0) ≡ pos (length (reverse (frames t))) =
      thread-count t ∙ ap pos (sym (length-reverse (frames t)))
      in
      let b =
      counted_back most_frames frame_words words_of_frame frame_of (thread_head t) frames_at (head-length t) (reverse (frames t)) thread-few
      thread-written frame_count_at c
      in
      rw (b, reverse-reverse (frames t))

-- a pool's words: how many, and the pool again
module _ {p : Pool} (h : PoolFits p) where
  threads-written : Each (Written most_threads thread_words words_of_thread thread_of) p
  unfolding Written
  threads-written = each_map (λ t f. (thread-length f, thread-back f)) p h.each

  pub pool-length : length (words_of p) ≡ pool_words
  unfolding words_of counted
  pool-length =
      counted-length most_threads thread_words words_of_thread thread_of (pos (length p) ∷ []) threads_at refl p h.few threads-written

  pub pool-read : pool_of (words_of p) ≡ p
  unfolding words_of pool_of counted
  pool-read =
      counted_back most_threads thread_words words_of_thread thread_of (pos (length p) ∷ []) threads_at refl p
      h.few threads-written thread_count_at refl

pub words-length : (P : Program) (p : Pool) → is_pool P p ≡ true → length (words_of p) ≡ pool_words
words-length P p e = pool-length (pool-fits (pool-facts P p e))

pub pool-back : (P : Program) (p : Pool) → is_pool P p ≡ true → pool_of (words_of p) ≡ p
pool-back P p e = pool-read (pool-fits (pool-facts P p e))

-- words that are the same
pub same-words : (vs ws : List ℤ) → same_words vs ws ≡ true → vs ≡ ws
unfolding same_words
same-words [] [] e = refl
same-words [] (w ∷ ws) e = true-false false e refl
same-words (v ∷ vs) [] e = true-false false e refl
same-words (v ∷ vs) (w ∷ ws) e =
    let p : v ≡ w = same_true v w (and_left (same v w) _ e) in
    let q : vs ≡ ws = same-words vs ws (and_right (same v w) _ e) in
    cc

pub same-words-refl : (ws : List ℤ) → same_words ws ws ≡ true
unfolding same_words
same-words-refl [] = refl
same-words-refl (w ∷ ws) = both-and (same w w) _ (same_refl w) (same-words-refl ws)

-- words that are a pool of a table
pub valid-words : (P : Program) (ws : List ℤ) → are_pool P ws ≡ true → words_of (pool_of ws) ≡ ws
unfolding are_pool
valid-words P ws e = same-words (words_of (pool_of ws)) ws (and_left (same_words (words_of (pool_of ws)) ws) _ e)

pub valid-pool : (P : Program) (ws : List ℤ) → are_pool P ws ≡ true → is_pool P (pool_of ws) ≡ true
unfolding are_pool
valid-pool P ws e = and_right (same_words (words_of (pool_of ws)) ws) _ e

pub words-valid : (P : Program) (p : Pool) → is_pool P p ≡ true → are_pool P (words_of p) ≡ true
unfolding are_pool
words-valid P p e =
    rw (pool-back P p e) (both-and (same_words (words_of p) (words_of p)) _ (same-words-refl (words_of p)) e)

-- a lent table and pool
pub lent-words : (s : List ℕ) (P : Program) (p : Pool) → read s ≡ Answer.given P → is_pool P p ≡ true
    → lent s (words_of p) ≡ Answer.given (record { table = P; pool = p })
unfolding lent with measured valid
lent-words s P p r e =
    let m : eqb (length (words_of p)) pool_words ≡ true = eq-eqb (length (words_of p)) pool_words (words-length P p e) in
    rw (r, m, words-valid P p e, pool-back P p e)

pub record IsLent (s : List ℕ) (ws : List ℤ) (l : Lent) : Type 0 where
  pub reads : read s ≡ Answer.given l.table
  pub valid : is_pool l.table l.pool ≡ true
  pub words : words_of l.pool ≡ ws
  pub long : length ws ≡ pool_words

-- what was given, where an answer is given
pub with-given : {A B : Type 0} (a : Answer A) (k : A → Answer B) {b : B} → with a k ≡ Answer.given b
    → (x : A) × (a ≡ Answer.given x) × (k x ≡ Answer.given b)
unfolding with
with-given (Answer.given x) k e = (x, refl, e)
with-given (Answer.refused r) k e = refused-given e

pub test-given : {A : Type 0} (b : Bool) (x : A) (r : Refusal) {y : A} → cond b (Answer.given x) (Answer.refused r) ≡ Answer.given y
    → (b ≡ true) × (x ≡ y)
test-given true x r e = (refl, cc)
test-given false x r e = refused-given e

pub lent-given : (s : List ℕ) (ws : List ℤ) (l : Lent) → lent s ws ≡ Answer.given l → IsLent s ws l
unfolding lent measured valid
lent-given s ws l e =
    let (P, r, e₁) = with-given (read s) (λ P. with (measured ws) (λ _. valid P ws)) e in
    let (u, m, e₂) = with-given (measured ws) (λ _. valid P ws) e₁ in
    let n : eqb (length ws) pool_words ≡ true = (test-given (eqb (length ws) pool_words) tt (Refusal.plain No.words) m).0 in
    let v = test-given (are_pool P ws) (record { table = P; pool = pool_of ws }) (Refusal.plain No.pool) e₂ in
    subst (IsLent s ws) v.1
    (record {
      reads = r;
      valid = valid-pool P ws v.0;
      words = valid-words P ws v.0;
      long = eqb-true (length ws) pool_words n;
    })

-- a function's first frame
get_or-behind : (v̄ : List ℤ) (n x : ℕ) → length v̄ ≤ x → get_or (v̄ ++ replicate n (pos 0)) x (pos 0) ≡ pos 0
get_or-behind [] n x h = same_at n x (pos 0)
get_or-behind (v ∷ v̄) n zero h = absurd (omega arith)
get_or-behind (v ∷ v̄) n (suc x) h = get_or-behind v̄ n x (omega arith)

begin-blank : (v̄ : List ℤ) → Blank (below (length v̄)) (pad temporaries (pos 0) v̄)
unfolding pad
begin-blank v̄ x e = go (ltb x (length v̄)) refl
  where
    go : (b : Bool) → ltb x (length v̄) ≡ b → get_or (v̄ ++ replicate (temporaries - length v̄) (pos 0)) x (pos 0) ≡ pos 0
    go true l = true-false (has (below (length v̄)) x) (has-below (length v̄) x (ltb-true x (length v̄) l)) e
    go false l = get_or-behind v̄ (temporaries - length v̄) x (ltb-false x (length v̄) l)

pub begin-frame : (P : Program) → Limits P → (g : ℕ) {G : Function} (v̄ : List ℤ) → get_elem? P g ≡ some G → length v̄ ≤ temporaries
    → IsFrame P (begin g v̄)
unfolding begin function_of
begin-frame P L g {G} v̄ e few =
    let B = below_at G.blocks 0 (each_at InFunction P g L.functions e).some_block in
    record {
      stands = record { function = G; found = e; block = B.0; there = B.1; done = zero-le; calls = tt };
      bound = below-lt (length v̄) temporaries few;
      few = zero-le;
      promoted = zero-le;
      sized = length-pad temporaries (pos 0) v̄ few;
      blanks = begin-blank v̄;
    }

pub begin-thread : (P : Program) (k : Frame) → IsFrame P k → IsThread P (born k)
begin-thread P k h =
    record {
      few = lit≤ tt;
      newest = h;
      older = tt;
      order = (λ _. tt, tt);
      purse = record { work = zero-le; tokens = zero-le };
    }

-- the empty frame is of the layout's sizes, and so is a new thread of such a frame
pub empty-fits : FrameFits (begin 0 [])
unfolding begin pad
empty-fits = record { calls = zero-le; values = refl }

pub born-fits : {k : Frame} → FrameFits k → ThreadFits (born k)
born-fits f = record { few = lit≤ tt; each = (f, tt) }

-- the empty frame's words are 0; those of a new thread of it are 0 but for its count, and so are those of the pool at the start
pub empty-words : words_of_frame (begin 0 []) ≡ replicate frame_words (pos 0)
unfolding words_of_frame begin below pad
empty-words = refl

pub born-words : words_of_thread (born (begin 0 [])) ≡ set (replicate thread_words (pos 0)) frame_count_at (pos 1)
unfolding words_of_thread thread_head words_of_frame begin below concat pad
born-words = refl

pub started-words : words_of started ≡ set (set (replicate pool_words (pos 0)) thread_count_at (pos 1)) (thread_start 0 + frame_count_at) (pos 1)
unfolding words_of words_of_thread thread_head words_of_frame started begin below concat pad
started-words = refl

-- the pool at the start is valid
pub started-pool : (P : Program) → Limits P → is_pool P started ≡ true
unfolding started begin trees children
started-pool P L =
    let F = below_at P 0 L.some in
    facts-pool P started
    (record {
      few = lit≤ tt;
      each = (begin-thread P (begin 0 []) (begin-frame P L 0 [] F.1 zero-le), tt);
      tree = refl;
    })
