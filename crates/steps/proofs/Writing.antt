-- What each sequence of writes leaves.
use Prim.Native.Nat.{ℕ, ◌+◌, ◌-◌, ◌≤◌, ◌<◌}
use mathlib.Core.Path.{◌≡◌, refl, sym, ap, subst, subst⁻¹, ◌∙◌}
use mathlib.Core.List.{List, [], ◌∷◌, ◌++◌, append_assoc}
use native.Mathlib.Omega.{arith}
use lib.IntN.{ℤ}
use lib.ListN.{length, take, length-append}
use Rattle.model.specs.Pool.{Frame, Thread, Pool, most_calls, most_frames, frame_words, start_of, frames, restacked, begin}
use Rattle.model.specs.Frames.{go_to, bind, deque}
use Rattle.pool.specs.Frame.{Small}
use Rattle.pool.specs.Held.{Held, ThreadAt, FrameAt}
use Rattle.pool.specs.Edits.{frames_in, threads_in, Pushed, Popped, Added, Removed}
use Rattle.pool.specs.InPlace.{frame_at, newest_at, FrameHeld, Became, Jumped, Advanced, Opened, Closed, Promoted}
use Rattle.pool.proofs.Steps.{frames-counted, threads-counted}
use Rattle.pool.proofs.Edits.{frame-replaced}
use Rattle.pool.proofs.Stores.{small-empty}
use Rattle.pool.proofs.InPlace.{frame-at, became-held, became-then, newest-start, frame-held, newest-held, newest-became}
use Rattle.eval.specs.Given.{Binds, BindsAll, Begins}
use Rattle.rules.specs.declared.Entry.{Entry}
use Rattle.rules.specs.Acts.{closed}
use Rattle.steps.specs.Writes.{Sets, Arrives, Opens, Closes, Shuts, Pushes, Pops, Unites, Spawned}

-- of the frame at k
module _ {ws ws₁ ws₂ : List ℤ} {k : ℕ} (l : k + frame_words ≤ length ws) where
  -- one change after another
  both : {m m₁ m₂ : Frame} → FrameHeld ws k m → Became ws k m₁ ws₁ → (FrameHeld ws₁ k m₁ → Became ws₁ k m₂ ws₂) → Became ws k m₂ ws₂
  both h b f = became-then l b (f (became-held l b))

  pub was-set : (x : ℕ) (v : ℤ) → Advanced ws k ws₁ → Binds ws₁ k x v ws₂ → Sets ws k x v ws₂
  unfolding go_to bind
  was-set x v f g m h p q = both h (f m h q) (λ o. g.bound p (go_to m m.block (m.done + 1)) o)

  pub was-arrived : (s : List ℕ) (e : Entry) (out : List ℤ) → Jumped ws k e.block 0 ws₁ → BindsAll s e.parameters ws₁ k out ws₂
      → Arrives s ws k e out ws₂
  was-arrived s e out f g m h l = both h (f m h) (λ o. g (go_to m e.block 0) o l)

  pub was-opened : {n : ℕ} (π c : ℕ) → n ≡ length (frame_at ws k).calls → Opened ws k n π ws₁ → Jumped ws₁ k c 0 ws₂ → Opens ws k π c ws₂
  was-opened {n} π c e f g m h few =
      let q : length m.calls ≡ n = sym (e ∙ ap (λ (x : Frame). length x.calls) (frame-at h)) in
      both h (f m h q) (λ o. g (deque m (m.calls ++ (π ∷ [])) m.promoted) o)

  pub was-shut : (c : ℕ) → Closes ws k 0 ws₁ → Jumped ws₁ k c 0 ws₂ → Shuts ws k c ws₂
  was-shut c f g m h e =
      let z : m.promoted - 0 ≡ m.promoted = omega arith in
      both h (subst (λ (n : ℕ). Became ws k (closed m n) ws₁) z (f m h e (omega arith))) (λ o. g (closed m m.promoted) o)

module _ {ws : List ℤ} {k : ℕ} where
  pub not_opened : {n : ℕ} (π c : ℕ) → n ≡ length (frame_at ws k).calls → most_calls ≤ n → Opens ws k π c ws
  not_opened π c e o m h few = absurd (omega (arith, e, ap (λ (x : Frame). length x.calls) (frame-at h)))

  module _ {n p joined : ℕ} (e : n ≡ length (frame_at ws k).calls) (q : p ≡ (frame_at ws k).promoted) where
    pub was-closed : {ws₁ : List ℤ} → 0 < n → Closed ws k (n - 1) (p - joined) ws₁ → Closes ws k joined ws₁
    was-closed {ws₁} o f m h few l =
        let c : n ≡ length m.calls = e ∙ ap (λ (x : Frame). length x.calls) (frame-at h) in
        let r : p ≡ m.promoted = q ∙ ap (λ (x : Frame). x.promoted) (frame-at h) in
        subst (λ (x : Frame). Became ws k x ws₁) (λ i. deque m (take (c i - 1) m.calls) (r i - joined)) (f m h (omega arith))

    pub none-closed : n ≤ 0 → Closes ws k joined ws
    none-closed o m h few l = absurd (omega (arith, e, ap (λ (x : Frame). length x.calls) (frame-at h)))

    pub none-joined : p < joined → Closes ws k joined ws
    none-joined o m h few l = absurd (omega (arith, q, ap (λ (x : Frame). x.promoted) (frame-at h)))

-- of thread i: its newest frame has become another
pub newest-changed : {ws ws₁ : List ℤ} {i k : ℕ} {a b : Pool} {t : Thread} {m : Frame} → ThreadAt ws i a t b → Small t.newest
    → k ≡ newest_at ws i → (FrameHeld ws k t.newest → Became ws k m ws₁) → ThreadAt ws₁ i a (restacked t (m ∷ t.older)) b
newest-changed {ws} {ws₁} {i} {k} {a} {b} {t} {m} h s e f =
    newest-became h
    (subst (λ (p : ℕ). Became ws p m ws₁) e (f (subst⁻¹ (λ (p : ℕ). FrameHeld ws p t.newest) e (newest-held h s))))

-- a frame of it has become another
frame-changed : {ws ws₁ : List ℤ} {i j k : ℕ} {a b : Pool} {t : Thread} {K₁ K₂ : List Frame} {m m₁ : Frame} → ThreadAt ws i a t b
    → FrameAt t j K₁ m K₂ → Small m → k ≡ start_of i j → (FrameHeld ws k m → Became ws k m₁ ws₁)
    → ThreadAt ws₁ i a (restacked t (K₁ ++ m₁ ∷ K₂)) b
frame-changed {ws} {ws₁} {i} {j} {k} {a} {b} {t} {K₁} {K₂} {m} {m₁} h x s e f =
    let c : Became ws k m₁ ws₁ = f (subst⁻¹ (λ (p : ℕ). FrameHeld ws p m) e (frame-held h x s)) in
    subst⁻¹ (λ (w : List ℤ). ThreadAt w i a (restacked t (K₁ ++ m₁ ∷ K₂)) b) c.words (frame-replaced h x m₁ c.small.fits k e)

-- the thread directly behind, at its own place, and back
module _ {ws : List ℤ} {i : ℕ} {a b : Pool} {t u : Thread} where
  pub next-thread : ThreadAt ws i a t (u ∷ b) → ThreadAt ws (i + 1) (a ++ (t ∷ [])) u b
  next-thread h =
      record {
        held = subst⁻¹ (Held ws) (append_assoc a (t ∷ []) (u ∷ b)) h.held;
        place = omega (arith, length-append a (t ∷ []), h.place);
      }

  last-thread : ThreadAt ws (i + 1) (a ++ (t ∷ [])) u b → ThreadAt ws i a t (u ∷ b)
  last-thread h =
      record {
        held = subst (Held ws) (append_assoc a (t ∷ []) (u ∷ b)) h.held;
        place = omega (arith, length-append a (t ∷ []), h.place);
      }

module _ {ws : List ℤ} {i : ℕ} where
  pub was-pushed : {ws₁ ws₂ ws₃ : List ℤ} {k l : ℕ} (g n c : ℕ) (out : List ℤ) → k ≡ newest_at ws i → l ≡ k + frame_words
      → Pushed ws i (begin 0 []) ws₁ → Begins ws₁ l g n out ws₂ → Jumped ws₂ k c 0 ws₃ → Pushes ws i g n c out ws₃
  was-pushed g n c out e q p f j a t b h s few =
      let x = p a t b h in
      let y = newest-changed x small-empty (omega (arith, e, q, newest-start h, newest-start x)) f in
      let l : Frame = begin g (take n out) in
      let u : FrameAt (restacked t (l ∷ frames t)) (length t.older) (l ∷ []) t.newest t.older =
      record { is = refl; place = refl }
      in
      frame-changed y u s (e ∙ newest-start h) (λ o. j t.newest o)

  pub not-pushed : {m : ℕ} (g n c : ℕ) (out : List ℤ) → m ≡ frames_in ws i → most_frames ≤ m → Pushes ws i g n c out ws
  not-pushed g n c out e o a t b h s few = absurd (omega (arith, e, frames-counted h))

  pub was-popped : {ws₁ ws₂ : List ℤ} {k j : ℕ} (s : List ℕ) (v : Entry) (out : List ℤ) → Popped ws i ws₁ → k ≡ newest_at ws i
      → j ≡ k - frame_words → Arrives s ws₁ j v out ws₂ → Pops s ws i v out ws₂
  was-popped s v out f e q g a t l m K b h o r =
      let x = f a t l m K b h in
      newest-changed x o (omega (arith, e, q, newest-start h, newest-start x)) (λ u. g m u r)

  pub not_popped : {n : ℕ} (s : List ℕ) (v : Entry) (out : List ℤ) → n ≡ frames_in ws i → n ≤ 1 → Pops s ws i v out ws
  not_popped s v out e o a t l m K b h u r = absurd (omega (arith, e, frames-counted h))

  pub was-united : {ws₁ ws₂ ws₃ : List ℤ} {k : ℕ} (s : List ℕ) (v : Entry) (out : List ℤ) → Removed ws i ws₁ → k ≡ newest_at ws i
      → k + frame_words ≤ length ws₁ → Closes ws₁ k 1 ws₂ → Arrives s ws₂ k v out ws₃ → Unites s ws i v out ws₃
  was-united s v out f e l g j a t u b h z n q r =
      let x = f a t u b h in
      newest-changed x z (e ∙ newest-start h ∙ sym (newest-start x))
      (λ o. both l o (g t.newest o n q) (λ y. j (closed t.newest (t.newest.promoted - 1)) y r))

  pub not-united : {m : ℕ} (s : List ℕ) (v : Entry) (out : List ℤ) → m ≡ threads_in ws → m ≤ i + 1 → Unites s ws i v out ws
  not-united s v out e o a t u b h z n q r = absurd (omega (arith, e, threads-counted h, h.place))

  pub was-spawned : {ws₁ ws₂ ws₃ : List ℤ} {k l : ℕ} (g n : ℕ) (out : List ℤ) → Added ws i (begin 0 []) ws₁ → l ≡ start_of (i + 1) 0
      → Begins ws₁ l g n out ws₂ → Promoted ws₂ k ws₃ → Spawned ws i k g n out ws₃
  was-spawned g n out p e f r a t b j K₁ m K₂ h w x s q =
      let u = next-thread (p a t b h) in
      let v = last-thread (newest-changed u small-empty (e ∙ sym (newest-start u)) f) in
      frame-changed v x s w (λ o. r m o q)
