-- Runs of words of one size, with 0 behind them: written back they are the same exactly if each run is, and all behind them is 0.
use Prim.Native.Nat.{ℕ, zero, suc, ◌+◌, ◌*◌, ◌-◌, ◌≤◌}
use mathlib.Core.Path.{◌≡◌, refl, sym, ◌∙◌, ap, subst}
use mathlib.Core.Bool.{true}
use mathlib.Core.List.{List, [], ◌∷◌, ◌++◌, map, reverse, append_assoc, map-append, reverse-append}
use native.Mathlib.Nat.{zero-mul, suc-mul, mul-zero, mul-suc, mul-le-mul_right}
use native.Mathlib.Omega.{arith}
use lib.IntN.{ℤ, pos}
use lib.ListN.{length, take, drop, replicate, length-append, length-map, length-drop, length-reverse, take-append-drop}
use lib.Seq.{length-take-le, drop-drop}
use Rattle.model.specs.Lists.{all, Each, pad, concat}
use Rattle.model.specs.Pool.{runs}
use Rattle.model.proofs.Facts.{each_append, each_left, each_right}
use Rattle.model.proofs.Words.{Long}
use Rattle.valid.specs.Judged.{is_zero, lasts}
use Rattle.valid.proofs.Bools.{split, zeros-all, all-zeros}

pub length_runs : (size n : ℕ) (ws : List ℤ) → length (runs size n ws) ≡ n
unfolding runs
length_runs size zero ws = refl
length_runs size (suc n) ws = ap suc (length_runs size n (drop size ws))

pub length_back : {A : Type 0} (size n : ℕ) (back : List ℤ → A) (ws : List ℤ) → length (reverse (map back (runs size n ws))) ≡ n
length_back size n back ws =
    length-reverse (map back (runs size n ws)) ∙ length-map (runs size n ws) back ∙ length_runs size n ws

-- one run more
runs-snoc : (size n : ℕ) (ws : List ℤ) → runs size (suc n) ws ≡ runs size n ws ++ (take size (drop (size * n) ws) ∷ [])
unfolding runs
runs-snoc size zero ws = rw mul-zero
runs-snoc size (suc n) ws =
    let e : take size (drop (size * n) (drop size ws)) ≡ take size (drop (size * suc n) ws) =
    let m : size + size * n ≡ size * suc n = omega (arith, mul-suc size n) in
    ap (take size) (drop-drop (size * n) size ws ∙ ap (λ (i : ℕ). drop i ws) m) in
    ap {B = List (List ℤ)} (λ r. take size ws ∷ r)
    (runs-snoc size n (drop size ws) ∙ ap {B = List (List ℤ)} (λ x. runs size n (drop size ws) ++ (x ∷ [])) e)

module _ (size : ℕ) where
  pub lasts-reverse : {A : Type 0} (back : List ℤ → A) (n : ℕ) (ws : List ℤ)
      → reverse (map back (runs size n ws)) ≡ map back (lasts size n ws)
  unfolding runs lasts
  lasts-reverse back zero ws = refl
  lasts-reverse back (suc n) ws =
      let x : List ℤ = take size (drop (size * n) ws) in
      ap (λ r. reverse (map back r)) (runs-snoc size n ws) ∙
      ap reverse (map-append back (runs size n ws) (x ∷ [])) ∙
      reverse-append (map back (runs size n ws)) (back x ∷ []) ∙
      ap (λ r. back x ∷ r) (lasts-reverse back n ws)

  pub runs-lasts : (Q : List ℤ → Type 0) (n : ℕ) (ws : List ℤ) → Each Q (runs size n ws) → Each Q (lasts size n ws)
  unfolding lasts
  runs-lasts Q zero ws h = tt
  runs-lasts Q (suc n) ws h =
      let g = rw (runs-snoc size n ws) at h in
      ((each_right Q (runs size n ws) _ g).0, runs-lasts Q n ws (each_left Q (runs size n ws) _ g))

  pub lasts-runs : (Q : List ℤ → Type 0) (n : ℕ) (ws : List ℤ) → Each Q (lasts size n ws) → Each Q (runs size n ws)
  unfolding lasts runs
  lasts-runs Q zero ws h = tt
  lasts-runs Q (suc n) ws h =
      subst (Each Q) (sym (runs-snoc size n ws)) (each_append Q (runs size n ws) _ (lasts-runs Q n ws h.1) (h.0, tt))

  pub runs-long : (n : ℕ) (ws : List ℤ) → n * size ≤ length ws → Long size (runs size n ws)
  unfolding runs
  runs-long zero ws h = tt
  runs-long (suc n) ws h =
      let g : n * size + size ≤ length ws = rw suc-mul at h in
      (length-take-le size ws (omega arith), runs-long n (drop size ws) (simp length-drop (omega arith)))

-- a run that is written back as it was; and n runs written back
abbrev pub Same : {A : Type 0} → (A → List ℤ) → (List ℤ → A) → List ℤ → Type 0
Same write back r = write (back r) ≡ r

abbrev pub again : {A : Type 0} → (A → List ℤ) → (List ℤ → A) → ℕ → ℕ → List ℤ → List ℤ
again write back size n ws = concat (map write (map back (runs size n ws)))

pub record Runs {A : Type 0} (write : A → List ℤ) (back : List ℤ → A) (size n : ℕ) (ws : List ℤ) : Type 0 where
  pub each : Each (Same write back) (runs size n ws)
  pub behind : all is_zero (drop (n * size) ws) ≡ true

module _ {A : Type 0} (size : ℕ) (write : A → List ℤ) (back : List ℤ → A)
    (sized : (r : List ℤ) → length r ≡ size → length (write (back r)) ≡ size) where
  dropped : (n : ℕ) (ws : List ℤ) → drop (n * size) (drop size ws) ≡ drop (suc n * size) ws
  dropped n ws =
      let m : size + n * size ≡ suc n * size = omega (arith, suc-mul n size) in
      drop-drop (n * size) size ws ∙ ap (λ (i : ℕ). drop i ws) m

  again-runs : (n k : ℕ) (ws : List ℤ) → length ws ≡ n * size + k → again write back size n ws ++ replicate k (pos 0) ≡ ws
      → Runs write back size n ws
  unfolding runs concat
  again-runs zero k ws l e = record { each = tt; behind = rw (zero-mul, ← e) (zeros-all k) }
  again-runs (suc n) k ws l e =
      let m : length ws ≡ n * size + size + k = rw suc-mul at l in
      let x : List ℤ = write (back (take size ws)) in
      let y : List ℤ = again write back size n (drop size ws) in
      let s =
      split x (y ++ replicate k (pos 0)) ws size (sized (take size ws) (length-take-le size ws (omega arith)))
      (sym (append_assoc x y (replicate k (pos 0))) ∙ e)
      in
      let r = again-runs n k (drop size ws) (simp length-drop (omega arith)) s.back in
      record { each = (s.front, r.each); behind = rw (← dropped n ws) r.behind }

  runs-again : (n k : ℕ) (ws : List ℤ) → length ws ≡ n * size + k → Runs write back size n ws
      → again write back size n ws ++ replicate k (pos 0) ≡ ws
  unfolding runs concat
  runs-again zero k ws l h =
      let n : length ws ≡ k = omega (arith, zero-mul size) in
      sym (all-zeros ws (rw zero-mul at h.behind) ∙ ap (λ (m : ℕ). replicate m (pos 0)) n)
  runs-again (suc n) k ws l h =
      let m : length ws ≡ n * size + size + k = rw suc-mul at l in
      let r =
      runs-again n k (drop size ws) (simp length-drop (omega arith))
      (record { each = h.each.1; behind = rw (dropped n ws) h.behind })
      in
      rw (h.each.0, append_assoc, r) (take-append-drop size ws)

  again-length : (n : ℕ) (ws : List ℤ) → n * size ≤ length ws → length (again write back size n ws) ≡ n * size
  unfolding runs concat
  again-length zero ws h = sym (zero-mul size)
  again-length (suc n) ws h =
      let g : n * size + size ≤ length ws = rw suc-mul at h in
      let s = sized (take size ws) (length-take-le size ws (omega arith)) in
      simp (length-append, s, again-length n (drop size ws) (simp length-drop (omega arith)))
      (omega (arith, suc-mul n size))

  module _ (most n : ℕ) (ws : List ℤ) (few : n ≤ most) (long : length ws ≡ most * size) where
    fits : n * size ≤ most * size
    fits = mul-le-mul_right size few

    left : length ws ≡ n * size + (most * size - length (again write back size n ws))
    left = omega (arith, fits, again-length n ws (omega (arith, fits)))

    pub padded-runs : pad (most * size) (pos 0) (again write back size n ws) ≡ ws → Runs write back size n ws
    unfolding pad
    padded-runs e = again-runs n _ ws left e

    pub runs-padded : Runs write back size n ws → pad (most * size) (pos 0) (again write back size n ws) ≡ ws
    unfolding pad
    runs-padded h = runs-again n _ ws left h
