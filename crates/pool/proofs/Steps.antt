-- What the steps of each operation leave, for every pool that the words hold.
use Prim.Native.Nat.{ℕ, suc, ◌+◌, ◌-◌, ◌≤◌, ◌<◌}
use mathlib.Core.Path.{◌≡◌, refl, sym, ap, subst⁻¹, ◌∙◌}
use mathlib.Core.List.{List, [], ◌∷◌, ◌++◌}
use native.Mathlib.Omega.{arith}
use lib.Dec.{lit≤}
use lib.IntN.{ℤ, pos}
use lib.ListN.{length, set, get_or, length-append, length-set, length-replicate}
use mir.Syntax.{w32}
use mir.Val.{of_z}
use Rattle.model.specs.Pool.{Purse, Thread, Pool, most_frames, most_threads, most_work, most_tokens, frame_words, frame_count_at}
use Rattle.model.specs.Pool.{work_at, tokens_at}
use Rattle.model.specs.Pool.{thread_words, thread_count_at, pool_words, thread_start, start_of, frames, born, restacked, endowed}
use Rattle.model.specs.Pool.{begin, started}
use Rattle.model.specs.Pool.{thread_head, words_of_thread, words_of}
use Rattle.model.specs.Valid.{ThreadFits}
use Rattle.model.proofs.Words.{thread-length, thread-count, thread-work, thread-tokens, empty-fits, born-fits, born-words, started-words}
use Rattle.words.specs.Runs.{pasted, moved, cleared}
use Rattle.pool.specs.Held.{bits_at, ThreadAt}
use Rattle.pool.specs.Edits.{threads_in, frames_in, work_in, tokens_in, Pushed, Popped, Added, Removed, Endowed}
use Rattle.pool.proofs.Parts.{zeros, paste_all, set-in-pasted, cleared-pasted}
use Rattle.pool.proofs.Places.{Around, around, around-fits, within-fits, within, pool-within, set-in, word_in}
use Rattle.pool.proofs.Edits.{pushed, popped}
use Rattle.pool.proofs.Threads.{added, removed}

-- a word of a thread
thread-word : {ws : List ℤ} {i : ℕ} {a b : Pool} {t : Thread} → ThreadAt ws i a t b → (j : ℕ) → j < thread_words
    → get_or ws (thread_start i + j) (pos 0) ≡ get_or (words_of_thread t) j (pos 0)
thread-word {ws} {i} {a} {b} {t} h j l =
    let o : Around a b = around a b t h.held.fits in
    let f : ThreadFits t = within-fits a b t h.held.fits in
    ap (λ (w : List ℤ). get_or w (thread_start i + j) (pos 0)) (h.held.words ∙ pool-within a b t o f)
    ∙ word_in a b (words_of_thread t) (thread_start i + j) j o (omega (arith, h.place)) (omega (arith, thread-length f))

-- the counts that words say are those of the pool that they hold
pub frames-counted : {ws : List ℤ} {i : ℕ} {a b : Pool} {t : Thread} → ThreadAt ws i a t b → frames_in ws i ≡ length (frames t)
frames-counted {ws} {i} {a} {b} {t} h =
    let f : ThreadFits t = within-fits a b t h.held.fits in
    let n : bits_at ws (thread_start i + frame_count_at) ≡ length (frames t) =
    ap (of_z w32) (thread-word h frame_count_at (lit≤ tt) ∙ thread-count t)
    in
    omega (arith, f.few)

pool-first : (p : Pool) → get_or (words_of p) thread_count_at (pos 0) ≡ pos (length p)
unfolding words_of
pool-first p = refl

pub threads-counted : {ws : List ℤ} {i : ℕ} {a b : Pool} {t : Thread} → ThreadAt ws i a t b → threads_in ws ≡ suc (length a + length b)
threads-counted {ws} {i} {a} {b} {t} h =
    let n : bits_at ws thread_count_at ≡ length (a ++ t ∷ b) =
    ap (λ (w : List ℤ). bits_at w thread_count_at) h.held.words ∙ ap (of_z w32) (pool-first (a ++ t ∷ b))
    in
    omega (arith, length-append a (t ∷ b), h.held.fits.few)

-- and so are its work and its tokens
module _ {ws : List ℤ} {i : ℕ} {a b : Pool} {t : Thread} (h : ThreadAt ws i a t b) where
  pub work-said : t.purse.work ≤ most_work → work_in ws i ≡ t.purse.work
  work-said l =
      let n : bits_at ws (thread_start i + work_at) ≡ t.purse.work = ap (of_z w32) (thread-word h work_at (lit≤ tt) ∙ thread-work t) in
      omega arith

  pub tokens-said : t.purse.tokens ≤ most_tokens → tokens_in ws i ≡ t.purse.tokens
  tokens-said l =
      let n : bits_at ws (thread_start i + tokens_at) ≡ t.purse.tokens =
      ap (of_z w32) (thread-word h tokens_at (lit≤ tt) ∙ thread-tokens t) in
      omega arith

-- words that are cleared, but for the count: those of a new thread of the empty frame
was-born : (d : List ℤ) (at : ℕ) → at + thread_words ≤ length d
    → set (cleared d at thread_words) (at + frame_count_at) (pos 1) ≡ pasted d at (words_of_thread (born (begin 0 [])))
was-born d at l =
    let n : length (zeros thread_words) ≡ thread_words = length-replicate thread_words (pos 0) in
    ap (λ (w : List ℤ). set w (at + frame_count_at) (pos 1)) (cleared-pasted d at thread_words)
    ∙ set-in-pasted d (zeros thread_words) at frame_count_at (pos 1) (omega arith) (omega arith)
    ∙ ap (pasted d at) (sym born-words)

module _ (ws : List ℤ) (i : ℕ) where
  pub was-pushed : (d : List ℤ) (n at : ℕ) → frames_in ws i < most_frames → n ≡ frames_in ws i → at ≡ thread_start i
      → d ≡ set ws (at + frame_count_at) (pos (n + 1)) → Pushed ws i (begin 0 []) d
  was-pushed d n at few e p w a t b h =
      let m : n + 1 ≡ suc (length (frames t)) = omega (arith, frames-counted h) in
      subst⁻¹ (λ (x : List ℤ). ThreadAt x i a (restacked t (begin 0 [] ∷ frames t)) b)
      (w ∙ ap (λ (x : ℕ). set ws (at + frame_count_at) (pos x)) m)
      (pushed h (omega (arith, frames-counted h)) (at + frame_count_at) (omega arith))

  pub was-popped : (d₁ d₂ : List ℤ) (n at₀ at₁ : ℕ) → n ≡ frames_in ws i → at₀ ≡ thread_start i
      → d₁ ≡ set ws (at₀ + frame_count_at) (pos (n - 1)) → at₁ ≡ start_of i (n - 1) → d₂ ≡ cleared d₁ at₁ frame_words → Popped ws i d₂
  was-popped d₁ d₂ n at₀ at₁ e p₀ w₀ p₁ w₁ a t l m K b h =
      let c : frames_in ws i ≡ suc (suc (length K)) = frames-counted h in
      let r : n - 1 ≡ suc (length K) = omega arith in
      let q : d₂ ≡ cleared (set ws (at₀ + frame_count_at) (pos (suc (length K)))) at₁ frame_words =
      w₁ ∙ ap (λ (x : List ℤ). cleared x at₁ frame_words) (w₀ ∙ ap (λ (x : ℕ). set ws (at₀ + frame_count_at) (pos x)) r)
      in
      subst⁻¹ (λ (x : List ℤ). ThreadAt x i a (restacked t (m ∷ K)) b) q (popped t h (at₀ + frame_count_at) at₁ (omega arith) (omega arith))

  pub was-added : (d₁ d₂ d₃ d₄ : List ℤ) (n at end : ℕ) → threads_in ws < most_threads → n ≡ threads_in ws
      → at ≡ thread_start (i + 1) → end ≡ thread_start n → d₁ ≡ set ws thread_count_at (pos (n + 1))
      → d₂ ≡ moved d₁ at (at + thread_words) (end - at) → at + thread_words ≤ length d₂ → d₃ ≡ cleared d₂ at thread_words
      → d₄ ≡ set d₃ (at + frame_count_at) (pos 1) → Added ws i (begin 0 []) d₄
  was-added d₁ d₂ d₃ d₄ n at end few e p₀ p₁ w₀ w₁ l w₂ w₃ a t b h =
      let u : Thread = born (begin 0 []) in
      let c : threads_in ws ≡ suc (length a + length b) = threads-counted h in
      let q : d₄ ≡ pasted (moved (set ws thread_count_at (pos (n + 1))) at (at + thread_words) (end - at)) at (words_of_thread u) =
      w₃
      ∙ ap (λ (x : List ℤ). set x (at + frame_count_at) (pos 1)) w₂
      ∙ was-born d₂ at l
      ∙ ap (λ (x : List ℤ). pasted x at (words_of_thread u)) (w₁ ∙ ap (λ (x : List ℤ). moved x at (at + thread_words) (end - at)) w₀)
      in
      subst⁻¹ (λ (x : List ℤ). ThreadAt x i a t (u ∷ b)) q
      (added h (omega arith) u (born-fits empty-fits) (n + 1) at (at + thread_words) (end - at) (omega arith) (omega arith) refl
      (omega (arith, h.place)))

  pub was-removed : (d₁ d₂ d₃ : List ℤ) (n at end : ℕ) → n ≡ threads_in ws
      → at ≡ thread_start (i + 1) → end ≡ thread_start (n - 1) → d₁ ≡ set ws thread_count_at (pos (n - 1))
      → d₂ ≡ moved d₁ (at + thread_words) at (end - at) → d₃ ≡ cleared d₂ end thread_words → Removed ws i d₃
  was-removed d₁ d₂ d₃ n at end e p₀ p₁ w₀ w₁ w₂ a t u b h =
      let c : threads_in ws ≡ suc (length a + suc (length b)) = threads-counted h in
      let q : d₃ ≡ cleared (moved (set ws thread_count_at (pos (n - 1))) (at + thread_words) at (end - at)) end thread_words =
      w₂ ∙ ap (λ (x : List ℤ). cleared x end thread_words) (w₁ ∙ ap (λ (x : List ℤ). moved x (at + thread_words) at (end - at)) w₀)
      in
      subst⁻¹ (λ (x : List ℤ). ThreadAt x i a t b) q
      (removed h (n - 1) at (at + thread_words) end (end - at) (omega arith) (omega arith) refl (omega (arith, h.place))
      (omega (arith, h.place)))

-- the words of a thread with another purse
endowed-words : (t : Thread) (e : Purse)
    → set (set (words_of_thread t) work_at (pos e.work)) tokens_at (pos e.tokens) ≡ words_of_thread (endowed t e)
unfolding words_of_thread thread_head
endowed-words t e = refl

pub was-endowed : (ws : List ℤ) (i : ℕ) (e : Purse) (d₁ d₂ : List ℤ) (at : ℕ) → at ≡ thread_start i
    → d₁ ≡ set ws (at + work_at) (pos e.work) → d₂ ≡ set d₁ (at + tokens_at) (pos e.tokens) → Endowed ws i e d₂
was-endowed ws i e d₁ d₂ at p w₀ w₁ a t b h =
    let o : Around a b = around a b t h.held.fits in
    let f : ThreadFits t = within-fits a b t h.held.fits in
    let g : ThreadFits (endowed t e) = record { few = f.few; each = f.each } in
    let T : List ℤ = words_of_thread t in
    let T' : List ℤ = set T work_at (pos e.work) in
    let n : length T ≡ thread_words = thread-length f in
    let n' : length T' ≡ thread_words = length-set T work_at (pos e.work) ∙ n in
    record {
      held = record {
        words =
            w₁
            ∙ ap (λ (d : List ℤ). set d (at + tokens_at) (pos e.tokens))
            (w₀
            ∙ ap (λ (d : List ℤ). set d (at + work_at) (pos e.work)) (h.held.words ∙ pool-within a b t o f)
            ∙ set-in a b T (at + work_at) work_at o (omega (arith, h.place)) (pos e.work) (omega arith))
            ∙ set-in a b T' (at + tokens_at) tokens_at o (omega (arith, h.place)) (pos e.tokens) (omega arith)
            ∙ ap (within a b) (endowed-words t e)
            ∙ sym (pool-within a b (endowed t e) o g);
        fits = around-fits a b (endowed t e) o g;
      };
      place = h.place;
    }

-- the pool at the start
pub was-started : (ws d₁ d₂ d₃ : List ℤ) (at : ℕ) → length ws ≡ pool_words → d₁ ≡ cleared ws 0 pool_words
    → d₂ ≡ set d₁ thread_count_at (pos 1)
    → at ≡ thread_start 0 → d₃ ≡ set d₂ (at + frame_count_at) (pos 1) → d₃ ≡ words_of started
was-started ws d₁ d₂ d₃ at l w₀ w₁ e w₂ =
    let c : d₁ ≡ zeros pool_words =
    w₀ ∙ cleared-pasted ws 0 pool_words ∙ paste_all ws (zeros pool_words) (l ∙ sym (length-replicate pool_words (pos 0)))
    in
    w₂
    ∙ ap (λ (x : List ℤ). set x (at + frame_count_at) (pos 1)) (w₁ ∙ ap (λ (x : List ℤ). set x thread_count_at (pos 1)) c)
    ∙ ap (λ (p : ℕ). set (set (zeros pool_words) thread_count_at (pos 1)) (p + frame_count_at) (pos 1)) e
    ∙ sym started-words
