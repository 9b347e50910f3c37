-- Sweeps and rounds in words: what is left of them, from what the words hold now, comes to what all of them come to from the beginning.
-- A round that leaves the words is a fixed point, and the rounds behind it change nothing.
use Prim.Native.Nat.{ℕ, zero, suc, ◌+◌, ◌-◌, ◌≤◌, ◌<◌}
use mathlib.Core.Path.{◌≡◌, refl, sym, ◌∙◌, ap, subst}
use mathlib.Core.Bool.{Bool, true, false, ◌||◌}
use mathlib.Core.List.{List, [], ◌∷◌}
use native.Mathlib.Omega.{arith}
use denote.Ref.{MutBor}
use Rattle.infer.specs.Rounds.{Round, RoundsBy}
use Rattle.inference.specs.Infer.{upward, downward, sweep, rounds}

-- the blocks that are left
pub upward-goes : (b n : ℕ) → b < n → upward b (n - b) ≡ b ∷ upward (b + 1) (n - (b + 1))
unfolding upward
upward-goes b n h =
    let e : n - b ≡ suc (n - (b + 1)) = omega arith in
    rw e refl

pub upward-none : (b n : ℕ) → n ≤ b → upward b (n - b) ≡ []
unfolding upward
upward-none b n h = let e : n - b ≡ 0 = omega arith in rw e refl

pub downward-goes : (n : ℕ) → 0 < n → downward n ≡ (n - 1) ∷ downward (n - 1)
unfolding downward
downward-goes zero h = absurd (omega arith)
downward-goes (suc n) h = let e : suc n - 1 ≡ n = omega arith in rw e refl

pub downward-none : (n : ℕ) → n ≤ 0 → downward n ≡ []
unfolding downward
downward-none zero h = refl
downward-none (suc n) h = absurd (omega arith)

-- what has changed so far, and one thing more
pub still : {words₀ words words' : List ℕ} {a b r : Bool} → (a ≡ false → words ≡ words₀) → (b ≡ false → words' ≡ words) → r ≡ (a || b)
    → r ≡ false → words' ≡ words₀
still {words₀} {words} {words'} {a} {b} {r} h g e z = go a b h g (sym e ∙ z)
  where
    go : (a b : Bool) → (a ≡ false → words ≡ words₀) → (b ≡ false → words' ≡ words) → (a || b) ≡ false → words' ≡ words₀
    go true b h g z = let y : ◌≡◌ {A = ℕ} 0 1 = cc in absurd (omega arith)
    go false b h g z = g z ∙ h refl

true-false : true ≡ false → ⊥
true-false e = let y : ◌≡◌ {A = ℕ} 0 1 = cc in absurd (omega arith)

module _ {A : Type 0} (Is : List ℕ → A → Type 0) where
  -- a step takes what the words hold to what they hold then
  abbrev pub Takes : (A → A) → List ℕ → List ℕ → Type 0
  Takes step words words' = (a : A) → Is words a → Is words' (step a)

  pub record Sweeping (step : ℕ → A → A) (all left words₀ words : List ℕ) : Type 0 where
    pub is : (a₀ : A) → Is words₀ a₀ → (a : A) × Is words a × (sweep step left a ≡ sweep step all a₀)

  module _ {step : ℕ → A → A} {all : List ℕ} where
    pub sweep-all : {words : List ℕ} → Sweeping step all all words words
    sweep-all = record { is = λ a h. (a, h, refl) }

    module _ {left words₀ words : List ℕ} (t : Sweeping step all left words₀ words) where
      pub sweep-next : {b : ℕ} {rest words' : List ℕ} → left ≡ b ∷ rest → Takes (step b) words words' → Sweeping step all rest words₀ words'
      unfolding sweep
      sweep-next {b} {rest} e g =
          record {
            is = λ a₀ h₀.
                let (a, h, d) = t.is a₀ h₀ in
                (step b a, g a h, rw e at d);
          }

      pub sweep-end : left ≡ [] → Takes (sweep step all) words₀ words
      unfolding sweep
      sweep-end e a₀ h₀ =
          let (a, h, d) = t.is a₀ h₀ in
          let d' : a ≡ sweep step all a₀ = rw e at d in
          rw (← d') h

  -- rounds at a fixed point
  rounds-still : (f : A → A) (n : ℕ) (a : A) → f a ≡ a → rounds f n a ≡ a
  unfolding rounds
  rounds-still f zero a e = refl
  rounds-still f (suc n) a e = rw e (rounds-still f n a e)

  -- calls that take what the words hold by f, and leave the words where they say that nothing changed: rounds of f
  module _ (post : MutBor (List ℕ) → Bool → MutBor (List ℕ) → Type 0) (f : A → A)
      (one : (words : List ℕ) (a b : A) → Is words a → Is words b → a ≡ b)
      (takes : (p : MutBor (List ℕ)) (r : Bool) (p' : MutBor (List ℕ)) → post p r p' →
      Takes f p.now p'.now × (r ≡ false → p'.now ≡ p.now)) where
    pub rounds-taken : (n : ℕ) {words words' : List ℕ} → RoundsBy post n words words' → Takes (rounds f n) words words'
    unfolding rounds RoundsBy
    rounds-taken zero e a h = rw e h
    rounds-taken (suc n) {words} {words'} (r, v, c, stop, go) a h =
        let (t, s) = takes c.before r c.after c.met in
        let h' : Is c.before.now a = rw c.shows h in
        let k : Is v (f a) = rw (← c.leaves) (t a h') in
        split r refl k s (λ e. rounds-taken n (go e) (f a) k)
      where
        split : (q : Bool) → r ≡ q → Is v (f a) → (r ≡ false → c.after.now ≡ c.before.now) → (r ≡ true → Is words' (rounds f n (f a)))
            → Is words' (rounds f n (f a))
        split true e k s more = more e
        split false e k s more =
            let d : v ≡ words = sym c.leaves ∙ s e ∙ c.shows in
            let q : f a ≡ a = one words (f a) a (subst (λ (w : List ℕ). Is w (f a)) d k) h in
            let z : rounds f n (f a) ≡ f a = rounds-still f n (f a) (ap f q) in
            rw (stop e, z) k

-- n calls, of which k are done
module _ (post : MutBor (List ℕ) → Bool → MutBor (List ℕ) → Type 0) (n : ℕ) where
  by_call : {p p' : MutBor (List ℕ)} {r : Bool} → post p r p' → Round post p.now r p'.now
  by_call {p} {p'} c = record { before = p; after = p'; met = c; shows = refl; leaves = refl }

  -- what those left make of the words, all of them make of the words at first
  pub record RoundsLeft (words₀ words : List ℕ) (k : ℕ) : Type 0 where
    pub is : (w : List ℕ) → RoundsBy post (n - k) words w → RoundsBy post n words₀ w

  pub rounds-first : {words : List ℕ} → RoundsLeft words words 0
  rounds-first = record { is = λ w t. let e : n - 0 ≡ n = omega arith in rw (← e) t }

  module _ {words₀ : List ℕ} {k : ℕ} where
    -- a call that says that it changed something
    pub rounds-next : {p p' : MutBor (List ℕ)} {r : Bool} → post p r p' → RoundsLeft words₀ p.now k → k < n → r ≡ true
        → RoundsLeft words₀ p'.now (k + 1)
    unfolding RoundsBy
    rounds-next {p} {p'} {r} c t h y =
        record {
          is = λ w u.
              let e : n - k ≡ suc (n - (k + 1)) = omega arith in
              t.is w (rw e (r, p'.now, by_call c, (λ z. absurd (true-false (sym y ∙ z))), λ z. u));
        }

    -- and one that says that it did not
    pub rounds-over : {p p' : MutBor (List ℕ)} {r : Bool} → post p r p' → RoundsLeft words₀ p.now k → k < n → r ≡ false
        → RoundsBy post n words₀ p'.now
    unfolding RoundsBy
    rounds-over {p} {p'} {r} c t h y =
        let e : n - k ≡ suc (n - (k + 1)) = omega arith in
        t.is p'.now (rw e (r, p'.now, by_call c, (λ z. refl), λ z. absurd (true-false (sym z ∙ y))))

    pub rounds-end : {words : List ℕ} → RoundsLeft words₀ words k → n ≤ k → RoundsBy post n words₀ words
    unfolding RoundsBy
    rounds-end {words} t h = let e : n - k ≡ 0 = omega arith in t.is words (rw e refl)
