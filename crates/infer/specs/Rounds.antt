-- Rounds over words: calls that each say whether they changed anything, up to one that did not.
use Rattle.std.specs.Prelude.{ℕ, zero, suc, ◌≡◌, Bool, true, false, List}
use denote.Ref.{MutBor}

-- a call takes the words w to w' and says r
pub record Round (post : MutBor (List ℕ) → Bool → MutBor (List ℕ) → Type 0) (w : List ℕ) (r : Bool) (w' : List ℕ) : Type 0 where
  pub before : MutBor (List ℕ)
  pub after : MutBor (List ℕ)
  pub met : post before r after
  pub shows : before.now ≡ w
  pub leaves : after.now ≡ w'

-- n such calls, or up to one that says that nothing changed
unfoldable pub RoundsBy : (MutBor (List ℕ) → Bool → MutBor (List ℕ) → Type 0) → ℕ → List ℕ → List ℕ → Type 0
RoundsBy post zero w w' = w' ≡ w
RoundsBy post (suc n) w w' =
    (r : Bool) × (v : List ℕ) × Round post w r v × (r ≡ false → w' ≡ v) × (r ≡ true → RoundsBy post n v w')
