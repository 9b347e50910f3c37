-- Trails: steps one after another, each from the words that the one before left; and what two trails from the same words have in common.
use Rattle.std.specs.Prelude.{◌≡◌, ◌⊎◌, List, [], ◌∷◌, ◌++◌, ℤ}

-- what a step leaves, and which steps there are from the words
module _ {A : Type 0} (left : A → List ℤ) (From : List ℤ → A → Type 0) where
  -- from the words ws up to the words ws'
  abbrev pub Trail : List ℤ → List A → List ℤ → Type 0
  Trail ws [] ws' = ws ≡ ws'
  Trail ws (t ∷ ts) ws' = From ws t × Trail (left t) ts ws'

  -- a trail ts up to the words w begins a trail us up to the words v, which goes on from w
  pub record Begins (ts : List A) (w : List ℤ) (us : List A) (v : List ℤ) : Type 0 where
    pub more : List A
    pub is : us ≡ ts ++ more
    pub on : Trail w more v

  -- as far as they go they are equal: the one begins the other. Where the first is over, the other is no longer; where both are over,
  -- they are the same
  pub record Agree (Over : List ℤ → Type 0) (ts : List A) (w : List ℤ) (us : List A) (v : List ℤ) : Type 0 where
    pub begins : Begins ts w us v ⊎ Begins us v ts w
    pub ended : Over w → Begins us v ts w
    pub both : Over w → Over v → (ts ≡ us) × (w ≡ v)
