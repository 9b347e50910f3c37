-- Things that are put one by one, each by its number: of one that is not there nothing is put.
use Prim.Native.Nat.{ℕ, zero, suc, ◌+◌, ◌≤◌, ◌<◌}
use denote.Ref.{MutBor}
use mathlib.Core.Path.{◌≡◌, refl}
use mathlib.Core.List.{List, [], ◌∷◌, ◌++◌, map}
use native.Mathlib.Omega.{arith}
use lib.ListN.{length, get_elem?, get_or, drop, drop_of_length-le}
use Rattle.model.specs.Lists.{concat}
use Rattle.puts.specs.Puts.{Puts}
use Rattle.puts.proofs.Left.{Left, less-left, none_left}
use Rattle.numbering.specs.Mentions.{of}
use Rattle.complete.specs.Writes.{PutsOne, PutsEach}

-- what a list has from number i on
drop-first : (xs : List (List ℕ)) (i : ℕ) → concat (drop i xs) ≡ get_or xs i [] ++ concat (drop (suc i) xs)
unfolding concat
drop-first [] zero = refl
drop-first [] (suc i) = refl
drop-first (x ∷ xs) zero = refl
drop-first (x ∷ xs) (suc i) = drop-first xs i

-- what is written of the thing with a number
pub written-at : {A : Type 0} (w : A → List ℕ) (xs : List A) (i : ℕ) → get_or (map w xs) i [] ≡ of w (get_elem? xs i)
unfolding of
written-at w [] i = refl
written-at w (x ∷ xs) zero = refl
written-at w (x ∷ xs) (suc i) = written-at w xs i

-- what is left to be put of xs, from number i on
pub record Rest (xs : List (List ℕ)) (d : List ℕ) (k : ℕ) (d' : List ℕ) (m i : ℕ) : Type 0 where
  pub left : Left d k (concat xs) d' m (concat (drop i xs))

module _ {xs : List (List ℕ)} {d : List ℕ} {k : ℕ} {d' : List ℕ} {m i : ℕ} (t : Rest xs d k d' m i) where
  pub rest-next : {r : ℕ} {d'' : List ℕ} → Puts d' m (get_or xs i []) r d'' → Rest xs d k d'' r (i + 1)
  rest-next p =
      let e : i + 1 ≡ suc i = omega arith in
      record { left = rw e (less-left (get_or xs i []) (concat (drop (suc i) xs)) (rw (drop-first xs i) at t.left) p) }

  pub rest_end : length xs ≤ i → Puts d k (concat xs) m d'
  unfolding concat
  rest_end h = none_left (rw (drop_of_length-le xs h) at t.left)

-- what is left of what calls put
module _ (post : ℕ → MutBor (List ℕ) → ℕ → ℕ → MutBor (List ℕ) → Type 0) (n : ℕ) where
  pub record EachLeft (d : List ℕ) (k : ℕ) (d' : List ℕ) (m i : ℕ) : Type 0 where
    pub is : (xs : List (List ℕ)) → PutsOne post n xs → Rest xs d k d' m i

  module _ {d : List ℕ} {k : ℕ} where
    pub each-next : {p p' : MutBor (List ℕ)} {m i r : ℕ} → post i p m r p' → EachLeft d k p.now m i → i < n → EachLeft d k p'.now r (i + 1)
    each-next c t h = record { is = λ xs w. rest-next (t.is xs w) (w _ _ _ _ _ h c) }

    pub each-end : {d' : List ℕ} {m i : ℕ} → EachLeft d k d' m i → n ≤ i → PutsEach post n d k m d'
    each-end t h = record { is = λ xs w l. rest_end (t.is xs w) (omega (arith, h, l)) }
