-- The loop that puts a function's values into its first frame, at a place: what one turn adds.
use Prim.Native.Nat.{ℕ, suc, ◌+◌, ◌-◌, ◌/◌, ◌^◌, ◌≤◌, ◌<◌, min}
use mathlib.Core.Path.{◌≡◌, refl, sym, ap, subst, ◌∙◌}
use mathlib.Core.Bool.{Bool, true, false}
use mathlib.Core.List.{List, [], ◌∷◌, ◌++◌, append_assoc}
use native.Mathlib.Omega.{arith}
use native.Mathlib.Nat.{min-eq_left, min-eq_right, min-le_right, pow-suc, div-eq_of_lt}
use native.Mathlib.Numerals.{add-one}
use mir.Val.{SFits, to_z, of_z}
use mir.Facts.{to_z-of_z}
use mir.Syntax.{w32}
use lib.Dec.{ltb}
use lib.Pow.{pow_pos}
use lib.IntN.{ℤ, pos}
use lib.ListN.{length, get_or, take, set, replicate}
use lib.Seq.{set_at, take-suc, take_all, length-take-le}
use Rattle.model.specs.Lists.{pad}
use Rattle.model.specs.Sets.{has, with, below}
use Rattle.model.specs.Pool.{Frame, temporaries, frame_words, begin}
use Rattle.model.specs.Frames.{bind}
use Rattle.model.proofs.Facts.{ltb-true, ltb-false}
use Rattle.pool.specs.InPlace.{named, FrameHeld, Became, Named, Bound}
use Rattle.pool.proofs.InPlace.{held-became, became-held, became-then}
use Rattle.code.specs.Code.{most}
use Rattle.eval.specs.Given.{Begins}

-- how many of n values a buffer has
pub few-le : (n : ℕ) {c : ℕ} → c ≡ min n most → c ≤ most
few-le n e = omega (arith, min-le_right n most)

few-same : (n : ℕ) (v̄ : List ℤ) → length v̄ ≡ most → take (min n most) v̄ ≡ take n v̄
few-same n v̄ l = go (ltb n most) refl
  where
    go : (t : Bool) → ltb n most ≡ t → take (min n most) v̄ ≡ take n v̄
    go true h = let e : min n most ≡ n = min-eq_left (omega (arith, ltb-true n most h)) in rw e
    go false h =
        let g = ltb-false n most h in
        let e : min n most ≡ most = min-eq_right g in
        rw e (take_all most v̄ (omega arith) ∙ sym (take_all n v̄ (omega arith)))

-- temporary i on top of those below it
with-below : (i : ℕ) → with (below i) i ≡ below (i + 1)
unfolding with has below
with-below i =
    let z : (2 ^ i - 1) / 2 ^ i ≡ 0 = div-eq_of_lt (omega (arith, pow_pos i)) in
    let e : 2 ^ (i + 1) ≡ 2 ^ suc i = rw (add-one i) in
    rw z (omega (arith, pow-suc 2 i, pow_pos i))

module _ (v̄ : List ℤ) (i : ℕ) (l : i < length v̄) where
  one_more : take (i + 1) v̄ ≡ take i v̄ ++ (get_or v̄ i (pos 0) ∷ [])
  one_more = rw (add-one i) (take-suc v̄ i (pos 0) l)

  padded-more : i < temporaries
      → set (pad temporaries (pos 0) (take i v̄)) i (get_or v̄ i (pos 0)) ≡ pad temporaries (pos 0) (take (i + 1) v̄)
  unfolding pad
  padded-more h =
      let z : 16 - i ≡ suc (16 - (i + 1)) = omega arith in
      rw (length-take-le i v̄ (omega arith), length-take-le (i + 1) v̄ (omega arith), z)
      (set_at (take i v̄) (pos 0) (replicate (16 - (i + 1)) (pos 0)) (get_or v̄ i (pos 0)) i (length-take-le i v̄ (omega arith))
      ∙ sym (rw one_more (append_assoc (take i v̄) (get_or v̄ i (pos 0) ∷ []) (replicate (16 - (i + 1)) (pos 0)))))

  begin-more : (g : ℕ) → i < temporaries → bind (begin g (take i v̄)) i (get_or v̄ i (pos 0)) ≡ begin g (take (i + 1) v̄)
  unfolding bind begin
  begin-more g h =
      let b : with (below (length (take i v̄))) i ≡ below (length (take (i + 1) v̄)) =
      rw (length-take-le i v̄ (omega arith), length-take-le (i + 1) v̄ (omega arith)) (with-below i)
      in
      rw (b, padded-more h)

-- the words have become those of a first frame with the values so far
module _ (g n : ℕ) (v̄ ws₀ : List ℤ) (k : ℕ) where
  pub record BegunAt (ws : List ℤ) (i : ℕ) : Type 0 where
    pub within : i ≤ n
    pub few : n ≤ most
    pub long : length v̄ ≡ most
    pub room : k + frame_words ≤ length ws₀
    pub is : FrameHeld ws₀ k (begin g []) → Became ws₀ k (begin g (take i v̄)) ws

  pub begins-starts : n ≤ most → length v̄ ≡ most → k + frame_words ≤ length ws₀ → BegunAt ws₀ 0
  begins-starts f l r = record { within = omega arith; few = f; long = l; room = r; is = held-became }

  pub begins-goes : {ws ws' : List ℤ} {i : ℕ} → BegunAt ws i → i < n → SFits w32 (get_or v̄ i (pos 0))
      → Bound ws k i (to_z w32 (of_z w32 (get_or v̄ i (pos 0)))) ws' → BegunAt ws' (i + 1)
  begins-goes {ws} {ws'} {i} h l f b =
      record {
        within = omega arith;
        few = h.few;
        long = h.long;
        room = h.room;
        is = λ o.
            let u : Became ws₀ k (begin g (take i v̄)) ws = h.is o in
            let e : bind (begin g (take i v̄)) i (to_z w32 (of_z w32 (get_or v̄ i (pos 0)))) ≡ begin g (take (i + 1) v̄) =
            rw (to_z-of_z f) (begin-more v̄ i (omega (arith, h.few, h.long)) g (omega (arith, h.few)))
            in
            subst (λ (m : Frame). Became ws₀ k m ws') e (became-then h.room u (b (begin g (take i v̄)) (became-held h.room u)));
      }

-- the empty frame, named, with all of them
pub begins-ends : (n : ℕ) {g c k i : ℕ} {v̄ ws₀ ws₁ ws : List ℤ} → k + frame_words ≤ length ws₀ → Named ws₀ k g ws₁ → c ≡ min n most
    → BegunAt g c v̄ ws₁ k ws i → c ≤ i → Begins ws₀ k g n v̄ ws
unfolding named begin
begins-ends n {g} {c} {k} {i} {v̄} {ws₀} {ws₁} {ws} r b e h l o =
    let j : i ≡ min n most = omega (arith, h.within) in
    let u : Became ws₀ k (begin g []) ws₁ = b (begin 0 []) o in
    subst (λ (w̄ : List ℤ). Became ws₀ k (begin g w̄) ws) (ap (λ (m : ℕ). take m v̄) j ∙ few-same n v̄ h.long)
    (became-then r u (h.is (became-held r u)))
