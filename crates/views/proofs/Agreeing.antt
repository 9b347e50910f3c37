-- Words that agree in all but the sixteen values of each frame stand for one pool, but for what the operator is not shown.
use Prim.Native.Nat.{ℕ, zero, suc, ◌+◌, ◌*◌, ◌≤◌, ◌<◌, min}
use mathlib.Core.Path.{◌≡◌, refl, sym, ◌∙◌, ap, ap₂}
use mathlib.Core.Option.{Option, none, some}
use mathlib.Core.List.{List, [], ◌∷◌, map, map-map, map-append, reverse, reverse-cons}
use native.Mathlib.Omega.{arith}
use lib.IntN.{ℤ, pos}
use lib.ListN.{get_or, get_elem?, take, drop}
use lib.Seq.{drop-drop}
use Rattle.model.specs.Values.{number}
use Rattle.model.specs.Pool.{Frame, Thread, most_threads, most_frames, most_calls, frame_words, thread_words, born, begin, restacked}
use Rattle.model.specs.Pool.{function_at, block_at, done_at, bound_at, opened_at, promoted_at, calls_at, values_at, frame_count_at, frames_at}
use Rattle.model.specs.Pool.{thread_count_at, threads_at, thread_start, runs, word_at, count_at, frame_of, thread_of, pool_of}
use Rattle.model.proofs.Facts.{none-some, some-injective}
use Rattle.views.specs.Means.{IsValue, Agree}
use Rattle.views.proofs.Unseen.{hidden, hide}

-- what stands at a place of a part of a list
module _ {A : Type 0} where
  at_take : (n : ℕ) (xs : List A) (i : ℕ) → i < n → get_elem? (take n xs) i ≡ get_elem? xs i
  at_take zero xs i h = absurd (omega arith)
  at_take (suc n) [] i h = refl
  at_take (suc n) (x ∷ xs) zero h = refl
  at_take (suc n) (x ∷ xs) (suc i) h = at_take n xs i (omega arith)

  at_drop : (n : ℕ) (xs : List A) (i : ℕ) → get_elem? (drop n xs) i ≡ get_elem? xs (n + i)
  at_drop zero xs i = let e : 0 + i ≡ i = omega arith in rw e
  at_drop (suc n) [] i = refl
  at_drop (suc n) (x ∷ xs) i = let e : suc n + i ≡ suc (n + i) = omega arith in rw e (at_drop n xs i)

  take_same : (n : ℕ) (xs ys : List A) → ((i : ℕ) → i < n → get_elem? xs i ≡ get_elem? ys i) → take n xs ≡ take n ys
  take_same zero xs ys h = refl
  take_same (suc n) [] [] h = refl
  take_same (suc n) [] (y ∷ ys) h = none-some (h 0 (omega arith))
  take_same (suc n) (x ∷ xs) [] h = none-some (sym (h 0 (omega arith)))
  take_same (suc n) (x ∷ xs) (y ∷ ys) h =
      rw (some-injective (h 0 (omega arith)), take_same n xs ys (λ i b. h (suc i) (omega arith)))

  map-reverse : {B : Type 0} (f : A → B) (xs : List A) → map f (reverse xs) ≡ reverse (map f xs)
  map-reverse f [] = refl
  map-reverse f (x ∷ xs) = simp (reverse-cons, map-append, map-reverse f xs)

or-zero : Option ℤ → ℤ
or-zero none = pos 0
or-zero (some v) = v

at-or-zero : (ws : List ℤ) (i : ℕ) → get_or ws i (pos 0) ≡ or-zero (get_elem? ws i)
unfolding or-zero
at-or-zero [] i = refl
at-or-zero (w ∷ ws) zero = refl
at-or-zero (w ∷ ws) (suc i) = at-or-zero ws i

-- the first words of two lists are the same
abbrev Front : ℕ → List ℤ → List ℤ → Type 0
Front n ws ws' = (i : ℕ) → i < n → get_elem? ws i ≡ get_elem? ws' i

word_same : (ws ws' : List ℤ) (i : ℕ) → get_elem? ws i ≡ get_elem? ws' i → word_at ws i ≡ word_at ws' i
unfolding word_at
word_same ws ws' i e = ap number (at-or-zero ws i ∙ ap or-zero e ∙ sym (at-or-zero ws' i))

count_same : (most : ℕ) (ws ws' : List ℤ) (i : ℕ) → get_elem? ws i ≡ get_elem? ws' i → count_at most ws i ≡ count_at most ws' i
unfolding count_at
count_same most ws ws' i e = ap (λ (n : ℕ). min n most) (word_same ws ws' i e)

count_most : (most : ℕ) (ws : List ℤ) (i : ℕ) → count_at most ws i ≤ most
unfolding count_at
count_most most ws i = omega arith

frame_same : (ws ws' : List ℤ) → Front values_at ws ws' → hidden (frame_of ws) ≡ hidden (frame_of ws')
unfolding frame_of
frame_same ws ws' h =
    λ i.
    record {
      function = word function_at (omega arith) i;
      block = word block_at (omega arith) i;
      done = word done_at (omega arith) i;
      bound = word bound_at (omega arith) i;
      calls = map number (calls i);
      promoted = word promoted_at (omega arith) i;
      values = [];
    }
  where
    word : (at : ℕ) → at < values_at → word_at ws at ≡ word_at ws' at
    word at b = word_same ws ws' at (h at b)

    slots : (n : ℕ) → n ≤ most_calls → take n (drop calls_at ws) ≡ take n (drop calls_at ws')
    slots n few =
        take_same n (drop calls_at ws) (drop calls_at ws') λ i b.
        at_drop calls_at ws i ∙ h (calls_at + i) (omega arith) ∙ sym (at_drop calls_at ws' i)

    calls : take (count_at most_calls ws opened_at) (drop calls_at ws) ≡ take (count_at most_calls ws' opened_at) (drop calls_at ws')
    calls =
        slots (count_at most_calls ws opened_at) (count_most most_calls ws opened_at)
        ∙ ap (λ (n : ℕ). take n (drop calls_at ws')) (count_same most_calls ws ws' opened_at (h opened_at (omega arith)))

-- f of each of n runs, where f of one is the same
abbrev run : ℕ → List ℤ → ℕ → List ℤ
run size ws j = take size (drop (size * j) ws)

module _ {A : Type 0} (f : List ℤ → A) (size : ℕ) where
  runs_same : (n : ℕ) (ws ws' : List ℤ) → ((j : ℕ) → j < n → f (run size ws j) ≡ f (run size ws' j))
      → map f (runs size n ws) ≡ map f (runs size n ws')
  unfolding runs
  runs_same zero ws ws' h = refl
  runs_same (suc n) ws ws' h =
      ap₂ {C = List A} (λ x xs. x ∷ xs) (start (h 0 (omega arith))) (runs_same n (drop size ws) (drop size ws') next)
    where
      start : f (run size ws 0) ≡ f (run size ws' 0) → f (take size ws) ≡ f (take size ws')
      start e = let z : size * 0 ≡ 0 = omega arith in rw z at e

      later : (vs : List ℤ) (j : ℕ) → run size (drop size vs) j ≡ run size vs (suc j)
      later vs j = let e : size * suc j ≡ size + size * j = omega arith in rw (e, drop-drop)

      next : (j : ℕ) → j < n → f (run size (drop size ws) j) ≡ f (run size (drop size ws') j)
      next j b = ap f (later ws j) ∙ h (suc j) (omega arith) ∙ ap f (sym (later ws' j))

  -- as many as a word says, behind the words before all of them
  counted_same : (most before at : ℕ) (ws ws' : List ℤ) → get_elem? ws at ≡ get_elem? ws' at
      → ((j : ℕ) → j < most → f (run size (drop before ws) j) ≡ f (run size (drop before ws') j))
      → map f (runs size (count_at most ws at) (drop before ws)) ≡ map f (runs size (count_at most ws' at) (drop before ws'))
  counted_same most before at ws ws' e h =
      runs_same (count_at most ws at) (drop before ws) (drop before ws') (λ j b. h j (omega (arith, count_most most ws at)))
      ∙ ap (λ (n : ℕ). map f (runs size n (drop before ws'))) (count_same most ws ws' at e)

-- what stands at a place of such a run
at-run : (before size : ℕ) (ws : List ℤ) (j at : ℕ) → at < size
    → get_elem? (run size (drop before ws) j) at ≡ get_elem? ws (before + size * j + at)
at-run before size ws j at b =
    let e : before + (size * j + at) ≡ before + size * j + at = omega arith in
    at_take size (drop (size * j) (drop before ws)) at b
    ∙ at_drop (size * j) (drop before ws) at
    ∙ at_drop before ws (size * j + at)
    ∙ ap (get_elem? ws) e

-- places that hold no value: the first, before a thread's frames, and before a frame's values
no-value-first : ¬ IsValue thread_count_at
no-value-first v = omega arith

no-value-head : (i at : ℕ) → at < frames_at → ¬ IsValue (thread_start i + at)
no-value-head i at h v = let e : i ≡ v.thread = omega arith in omega arith

no-value-frame : (i j at : ℕ) → j < most_frames → at < values_at → ¬ IsValue (thread_start i + (frames_at + frame_words * j + at))
no-value-frame i j at c h v = let e : i ≡ v.thread = omega arith in let d : j ≡ v.frame = omega arith in omega arith

-- the thread that words stand for, without what is hidden
hide-restacked : (t : Thread) (K : List Frame) → hide (restacked t K) ≡ restacked (hide t) (map hidden K)
hide-restacked t [] = refl
hide-restacked t (k ∷ K) = refl

abbrev shown : List ℤ → Frame
shown ws = hidden (frame_of ws)

abbrev stacked : List Frame → Thread
stacked K = restacked (hide (born (begin 0 []))) (reverse K)

thread-hidden : (ws : List ℤ)
    → hide (thread_of ws) ≡ stacked (map shown (runs frame_words (count_at most_frames ws frame_count_at) (drop frames_at ws)))
unfolding thread_of
thread-hidden ws =
    let ks = runs frame_words (count_at most_frames ws frame_count_at) (drop frames_at ws) in
    hide-restacked _ (reverse (map frame_of ks))
    ∙ ap (restacked (hide (born (begin 0 [])))) (map-reverse hidden (map frame_of ks))
    ∙ ap stacked (map-map hidden frame_of ks)

-- where the words agree it is the same; and so is a pool
thread-same : (ws ws' : List ℤ) → get_elem? ws frame_count_at ≡ get_elem? ws' frame_count_at
    → ((j at : ℕ) → j < most_frames → at < values_at
    → get_elem? ws (frames_at + frame_words * j + at) ≡ get_elem? ws' (frames_at + frame_words * j + at))
    → hide (thread_of ws) ≡ hide (thread_of ws')
thread-same ws ws' c h =
    thread-hidden ws
    ∙ ap stacked (counted_same shown frame_words most_frames frames_at frame_count_at ws ws' c one)
    ∙ sym (thread-hidden ws')
  where
    one : (j : ℕ) → j < most_frames → shown (run frame_words (drop frames_at ws) j) ≡ shown (run frame_words (drop frames_at ws') j)
    one j b =
        frame_same _ _ λ at d.
        at-run frames_at frame_words ws j at (omega arith) ∙ h j at b d ∙ sym (at-run frames_at frame_words ws' j at (omega arith))

pub pool-same : (ws ws' : List ℤ) → Agree ws ws' → map hide (pool_of ws) ≡ map hide (pool_of ws')
unfolding pool_of
pool-same ws ws' h =
    each ws
    ∙ counted_same (λ vs. hide (thread_of vs)) thread_words most_threads threads_at thread_count_at ws ws' (h thread_count_at no-value-first) one
    ∙ sym (each ws')
  where
    each : (vs : List ℤ)
        → map hide (pool_of vs)
        ≡ map (λ us. hide (thread_of us)) (runs thread_words (count_at most_threads vs thread_count_at) (drop threads_at vs))
    each vs = map-map hide thread_of (runs thread_words (count_at most_threads vs thread_count_at) (drop threads_at vs))

    words : (i at : ℕ) → at < thread_words → ¬ IsValue (thread_start i + at)
        → get_elem? (run thread_words (drop threads_at ws) i) at ≡ get_elem? (run thread_words (drop threads_at ws') i) at
    words i at d n =
        at-run threads_at thread_words ws i at d ∙ h (thread_start i + at) n ∙ sym (at-run threads_at thread_words ws' i at d)

    one : (i : ℕ) → i < most_threads
        → hide (thread_of (run thread_words (drop threads_at ws) i)) ≡ hide (thread_of (run thread_words (drop threads_at ws') i))
    one i b =
        thread-same _ _ (words i frame_count_at (omega arith) (no-value-head i frame_count_at (omega arith)))
        λ j at c d. words i (frames_at + frame_words * j + at) (omega arith) (no-value-frame i j at c d)
