-- Stores into a frame's words: the words of the changed frame.
use Prim.Native.Nat.{ℕ, suc, ◌+◌, ◌*◌, ◌%◌, ◌^◌, ◌≤◌, ◌<◌}
use mathlib.Core.Path.{◌≡◌, refl, sym, ap, ◌∙◌}
use mathlib.Core.List.{List, [], ◌∷◌, ◌++◌, map}
use native.Mathlib.Omega.{arith}
use lib.Dec.{lit≤}
use lib.IntN.{ℤ, pos}
use lib.ListN.{length, take, set, length-append, length-map, length-set}
use lib.Bits.{bit_or}
use lib.Seq.{length-take-le}
use mir.Syntax.{w32}
use mir.Val.{SFits, to_z, of_z}
use mir.Facts.{to_z-of_z}
use Rattle.model.specs.Lists.{Each, pad}
use Rattle.model.specs.Sets.{below, with}
use Rattle.model.specs.Pool.{Frame, most_calls, temporaries, function_at, block_at, done_at, bound_at, opened_at, promoted_at}
use Rattle.model.specs.Pool.{calls_at, values_at}
use Rattle.model.specs.Pool.{frame_words, begin, words_of_frame}
use Rattle.model.specs.Frames.{go_to, bind, deque}
use Rattle.model.proofs.Facts.{each_append, each_take}
use Rattle.model.proofs.Members.{with-lt}
use Rattle.model.specs.Valid.{FrameFits}
use Rattle.model.proofs.Words.{length-pad, frame-length, empty-fits}
use Rattle.words.specs.Runs.{pasted}
use Rattle.words.proofs.Sets.{bind-with}
use Rattle.pool.specs.Held.{bits_at}
use Rattle.pool.specs.Frame.{Small}
use Rattle.pool.specs.InPlace.{named, FrameHeld, Became, Named, Jumped, Advanced, Bound, Opened, Closed, Promoted}
use Rattle.pool.proofs.Parts.{set-behind, set-in-pasted}
use Rattle.pool.proofs.Words.{word, word_at}
use Rattle.pool.proofs.InPlace.{held-pasted}

-- the words of the changed frame
module _ (k : Frame) where
  renamed : (g : ℕ) → set (words_of_frame k) function_at (pos g) ≡ words_of_frame (named k g)
  unfolding words_of_frame named
  renamed g = refl

  went : (b n : ℕ) → set (set (words_of_frame k) block_at (pos b)) done_at (pos n) ≡ words_of_frame (go_to k b n)
  unfolding words_of_frame go_to
  went b n = refl

  went_on : (n : ℕ) → set (words_of_frame k) done_at (pos n) ≡ words_of_frame (go_to k k.block n)
  unfolding words_of_frame go_to
  went_on n = refl

-- a frame's words up to its calls and up to its values, and the calls with what stands behind them
abbrev numbers : Frame → List ℤ
numbers k = pos k.function ∷ pos k.block ∷ pos k.done ∷ pos k.bound ∷ pos (length k.calls) ∷ pos k.promoted ∷ []

abbrev up_to_values : Frame → List ℤ
up_to_values k = numbers k ++ pad most_calls (pos 0) (map pos k.calls)

abbrev slots : List ℕ → List ℤ → List ℤ
slots ρ v̄ = pad most_calls (pos 0) (map pos ρ) ++ v̄

up-to-length : (k : Frame) → FrameFits k → length (up_to_values k) ≡ values_at
up-to-length k h =
    let n : length (pad most_calls (pos 0) (map pos k.calls)) ≡ most_calls =
    length-pad most_calls (pos 0) (map pos k.calls) (rw length-map h.calls)
    in
    rw n

module _ (k : Frame) (x : ℕ) (v : ℤ) where
  bind-fits : FrameFits k → FrameFits (bind k x v)
  unfolding bind
  bind-fits f = record { calls = f.calls; values = length-set k.values x v ∙ f.values }

  bound-word : set (words_of_frame k) bound_at (pos (with k.bound x)) ≡ up_to_values (bind k x v) ++ k.values
  unfolding words_of_frame bind
  bound-word = refl

  bound-values : up_to_values (bind k x v) ++ set k.values x v ≡ words_of_frame (bind k x v)
  unfolding words_of_frame bind
  bound-values = refl

  rebound : FrameFits k → set (set (words_of_frame k) bound_at (pos (with k.bound x))) (values_at + x) v ≡ words_of_frame (bind k x v)
  rebound f =
      ap (λ (w : List ℤ). set w (values_at + x) v) bound-word
      ∙ set-behind (up_to_values (bind k x v)) k.values values_at x v (up-to-length (bind k x v) (bind-fits f))
      ∙ bound-values

opened-calls : (ρ : List ℕ) (π : ℕ) (v̄ : List ℤ) → length ρ < most_calls → set (slots ρ v̄) (length ρ) (pos π) ≡ slots (ρ ++ (π ∷ [])) v̄
unfolding pad
opened-calls [] π v̄ h = refl
opened-calls (x ∷ []) π v̄ h = refl
opened-calls (x ∷ y ∷ []) π v̄ h = refl
opened-calls (x ∷ y ∷ z ∷ []) π v̄ h = refl
opened-calls (x ∷ y ∷ z ∷ w ∷ ρ) π v̄ h = absurd (omega arith)

closed-calls : (ρ : List ℕ) (n : ℕ) (v̄ : List ℤ) → length ρ ≡ suc n → n < most_calls → set (slots ρ v̄) n (pos 0) ≡ slots (take n ρ) v̄
unfolding pad
closed-calls [] n v̄ e h = absurd (omega arith)
closed-calls (x ∷ ρ) n v̄ e h = let m : n ≡ length ρ = omega arith in rw m (go ρ (omega arith))
  where
    go : (ρ : List ℕ) → length ρ < most_calls → set (slots (x ∷ ρ) v̄) (length ρ) (pos 0) ≡ slots (take (length ρ) (x ∷ ρ)) v̄
    go [] l = refl
    go (y ∷ []) l = refl
    go (y ∷ z ∷ []) l = refl
    go (y ∷ z ∷ w ∷ []) l = refl
    go (y ∷ z ∷ w ∷ u ∷ ρ) l = absurd (omega arith)

module _ (k : Frame) where
  requeued : (ρ : List ℕ) (n m j : ℕ) (x : ℤ) → set (slots k.calls k.values) j x ≡ slots ρ k.values → length ρ ≡ n
      → set (set (set (words_of_frame k) opened_at (pos n)) promoted_at (pos m)) (calls_at + j) x ≡ words_of_frame (deque k ρ m)
  unfolding words_of_frame deque
  requeued ρ n m j x e f =
      ap (λ (c : ℕ). set (set (set (words_of_frame k) opened_at (pos c)) promoted_at (pos m)) (calls_at + j) x) (sym f)
      ∙ set-behind (numbers (deque k ρ m)) (slots k.calls k.values) calls_at j x refl
      ∙ ap (λ (w : List ℤ). numbers (deque k ρ m) ++ w) e

  one-promoted : (n : ℕ) → set (words_of_frame k) promoted_at (pos n) ≡ words_of_frame (deque k k.calls n)
  unfolding words_of_frame deque
  one-promoted n = refl

  same-promoted : (n : ℕ)
      → set (set (words_of_frame k) opened_at (pos n)) promoted_at (pos k.promoted) ≡ set (words_of_frame k) opened_at (pos n)
  unfolding words_of_frame
  same-promoted n = refl

-- the empty frame is small
pub small-empty : Small (begin 0 [])
unfolding begin below
small-empty =
    record {
      function = lit≤ tt;
      block = lit≤ tt;
      done = lit≤ tt;
      bound = lit≤ tt;
      promoted = lit≤ tt;
      calls = tt;
      fits = empty-fits;
    }

-- small frames stay small
module _ {k : Frame} (s : Small k) where
  small-named : (g : ℕ) → g < 256 → Small (named k g)
  unfolding named
  small-named g p =
      record {
        function = p;
        block = s.block;
        done = s.done;
        bound = s.bound;
        promoted = s.promoted;
        calls = s.calls;
        fits = record { calls = s.fits.calls; values = s.fits.values };
      }

  small-went : (b n : ℕ) → b < 256 → n < 256 → Small (go_to k b n)
  unfolding go_to
  small-went b n p q =
      record {
        function = s.function;
        block = p;
        done = q;
        bound = s.bound;
        promoted = s.promoted;
        calls = s.calls;
        fits = record { calls = s.fits.calls; values = s.fits.values };
      }

  small-bound : (x : ℕ) (v : ℤ) → x < temporaries → Small (bind k x v)
  unfolding bind
  small-bound x v h =
      record {
        function = s.function;
        block = s.block;
        done = s.done;
        bound = with-lt k.bound x temporaries h s.bound;
        promoted = s.promoted;
        calls = s.calls;
        fits = bind-fits k x v s.fits;
      }

  small-deque : (ρ : List ℕ) (n : ℕ) → Each (λ π. π < 256) ρ → length ρ ≤ most_calls → n < 256 → Small (deque k ρ n)
  unfolding deque
  small-deque ρ n p q r =
      record {
        function = s.function;
        block = s.block;
        done = s.done;
        bound = s.bound;
        promoted = r;
        calls = p;
        fits = record { calls = q; values = s.fits.values };
      }

-- words with others put over a frame's at a place
module _ (ws : List ℤ) (at : ℕ) (l : at + frame_words ≤ length ws) where
  -- the words d are ws, with the words W of a frame's length over those of the place
  record Over (W d : List ℤ) : Type 0 where
    long : length W ≡ frame_words
    words : d ≡ pasted ws at W

  over-held : {k : Frame} → FrameHeld ws at k → Over (words_of_frame k) ws
  over-held {k} h = record { long = frame-length h.small.fits; words = held-pasted h }

  -- one of them is stored
  over-set : {W d : List ℤ} → Over W d → (p j : ℕ) (x y : ℤ) → j < frame_words → p ≡ at + j → x ≡ y → Over (set W j y) (set d p x)
  over-set {W} {d} o p j x y h e f =
      let n : length W ≡ frame_words = o.long in
      record {
        long = length-set W j y ∙ n;
        words =
            ap (λ (w : List ℤ). set w p x) o.words
            ∙ (λ i. set (pasted ws at W) (e i) (f i))
            ∙ set-in-pasted ws W at j y (omega arith) (omega arith);
      }

  over-number : {W d : List ℤ} → Over W d → (p j n : ℕ) → j < frame_words → p ≡ at + j → n < 65536
      → Over (set W j (pos n)) (set d p (to_z w32 n))
  over-number o p j n h e f = over-set o p j (to_z w32 n) (pos n) h e (word n f)

  over-became : {W d : List ℤ} {k : Frame} → Small k → Over W d → W ≡ words_of_frame k → Became ws at k d
  over-became s o e = record { small = s; words = o.words ∙ ap (pasted ws at) e }

  -- the edits
  pub was-named : (g : ℕ) → g < 256 → Named ws at g (set ws (at + function_at) (to_z w32 g))
  was-named g p k h =
      over-became (small-named h.small g p) (over-number (over-held h) (at + function_at) function_at g (lit≤ tt) refl (omega arith))
      (renamed k g)

  pub was-jumped : (b n : ℕ) → b < 256 → n < 256 → Jumped ws at b n (set (set ws (at + block_at) (to_z w32 b)) (at + done_at) (to_z w32 n))
  was-jumped b n p q k h =
      let block = over-number (over-held h) (at + block_at) block_at b (lit≤ tt) refl (omega arith) in
      over-became (small-went h.small b n p q) (over-number block (at + done_at) done_at n (lit≤ tt) refl (omega arith)) (went k b n)

  pub was-advanced : (n : ℕ) → n ≡ bits_at ws (at + done_at) % 256 → Advanced ws at (set ws (at + done_at) (to_z w32 (n + 1)))
  unfolding words_of_frame
  was-advanced n e k h q =
      let d : n ≡ k.done = omega (arith, word_at ws at k h.words done_at (lit≤ tt)) in
      over-became (small-went h.small k.block (k.done + 1) h.small.block (omega arith))
      (over-number (over-held h) (at + done_at) done_at (n + 1) (lit≤ tt) refl (omega arith))
      (ap (λ (m : ℕ). set (words_of_frame k) done_at (pos (m + 1))) d ∙ went_on k (k.done + 1))

  pub was-bound : (x Γ : ℕ) (v : ℤ) → x < temporaries → SFits w32 v → Γ ≡ bits_at ws (at + bound_at) % 65536
      → Bound ws at x v (set (set ws (at + bound_at) (to_z w32 (bit_or Γ (1 * 2 ^ x % 65536)))) (at + values_at + x)
      (to_z w32 (of_z w32 v)))
  unfolding words_of_frame
  was-bound x Γ v p f e k h =
      let d : Γ ≡ k.bound = omega (arith, word_at ws at k h.words bound_at (lit≤ tt), h.small.bound) in
      let q : bit_or Γ (1 * 2 ^ x % 65536) ≡ with k.bound x = bind-with Γ x p ∙ ap (λ (m : ℕ). with m x) d in
      let r : to_z w32 (bit_or Γ (1 * 2 ^ x % 65536)) ≡ pos (with k.bound x) =
      ap (to_z w32) q ∙ word (with k.bound x) (with-lt k.bound x temporaries p h.small.bound)
      in
      let set = over-set (over-held h) (at + bound_at) bound_at _ (pos (with k.bound x)) (lit≤ tt) refl r in
      over-became (small-bound h.small x v p)
      (over-set set (at + values_at + x) (values_at + x) (to_z w32 (of_z w32 v)) v (omega arith) (omega arith) (to_z-of_z f))
      (rebound k x v h.small.fits)

  pub was-opened : (n π : ℕ) → n < most_calls → π < 256
      → Opened ws at n π (set (set ws (at + opened_at) (to_z w32 (n + 1))) (at + calls_at + n) (to_z w32 π))
  was-opened n π p q k h e =
      let ρ : List ℕ = k.calls ++ (π ∷ []) in
      let m : length ρ ≡ n + 1 = length-append k.calls (π ∷ []) ∙ ap (λ (i : ℕ). i + 1) e in
      let c : set (slots k.calls k.values) n (pos π) ≡ slots ρ k.values =
      ap (λ (i : ℕ). set (slots k.calls k.values) i (pos π)) (sym e) ∙ opened-calls k.calls π k.values (omega arith)
      in
      let count = over-number (over-held h) (at + opened_at) opened_at (n + 1) (lit≤ tt) refl (omega arith) in
      let each = each_append (λ π. π < 256) k.calls (π ∷ []) h.small.calls (q, tt) in
      over-became (small-deque h.small ρ k.promoted each (omega arith) h.small.promoted)
      (over-number count (at + calls_at + n) (calls_at + n) π (omega arith) (omega arith) (omega arith))
      (ap (λ (w : List ℤ). set w (calls_at + n) (pos π)) (sym (same-promoted k (n + 1))) ∙ requeued k ρ (n + 1) k.promoted n (pos π) c m)

  pub was-closed : (n m : ℕ) → n < most_calls → m < 256
      → Closed ws at n m (set (set (set ws (at + opened_at) (to_z w32 n)) (at + promoted_at) (to_z w32 m)) (at + calls_at + n) (pos 0))
  was-closed n m p q k h e =
      let ρ : List ℕ = take n k.calls in
      let r : length ρ ≡ n = length-take-le n k.calls (omega arith) in
      let count = over-number (over-held h) (at + opened_at) opened_at n (lit≤ tt) refl (omega arith) in
      let counts = over-number count (at + promoted_at) promoted_at m (lit≤ tt) refl (omega arith) in
      over-became (small-deque h.small ρ m (each_take (λ π. π < 256) n k.calls h.small.calls) (omega arith) q)
      (over-set counts (at + calls_at + n) (calls_at + n) (pos 0) (pos 0) (omega arith) (omega arith) refl)
      (requeued k ρ n m n (pos 0) (closed-calls k.calls n k.values e p) r)

  pub was-promoted : (n : ℕ) → n ≡ bits_at ws (at + promoted_at) % 256 → Promoted ws at (set ws (at + promoted_at) (to_z w32 (n + 1)))
  unfolding words_of_frame
  was-promoted n e k h q =
      let d : n ≡ k.promoted = omega (arith, word_at ws at k h.words promoted_at (lit≤ tt)) in
      over-became (small-deque h.small k.calls (k.promoted + 1) h.small.calls h.small.fits.calls (omega arith))
      (over-number (over-held h) (at + promoted_at) promoted_at (n + 1) (lit≤ tt) refl (omega arith))
      (ap (λ (m : ℕ). set (words_of_frame k) promoted_at (pos (m + 1))) d ∙ one-promoted k (k.promoted + 1))
