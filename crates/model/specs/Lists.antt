-- What the other files need of lists.
use Rattle.std.specs.Prelude.{ℕ, ◌-◌, Bool, true, false, ◌&&◌, List, [], ◌∷◌, ◌++◌, eqb, length, replicate}
use Rattle.std.proofs.Math.Option.{Option, none, some}

-- does f hold of each?
unfoldable pub all : {A : Type 0} → (A → Bool) → List A → Bool
all f [] = true
all f (x ∷ xs) = f x && all f xs

-- P of each
abbrev pub Each : {A : Type 0} → (A → Type 0) → List A → Type 0
Each P [] = Unit {0}
Each P (x ∷ xs) = P x × Each P xs

-- are two lists of numbers the same?
unfoldable pub equal : List ℕ → List ℕ → Bool
equal [] [] = true
equal [] (y ∷ ys) = false
equal (x ∷ xs) [] = false
equal (x ∷ xs) (y ∷ ys) = eqb x y && equal xs ys

-- a list as all but the last, and the last
pub record Snoc (A : Type 0) : Type 0 where
  pub front : List A
  pub last : A

abbrev pub snoc : {A : Type 0} → A → Option (Snoc A) → Snoc A
snoc x none = record { front = []; last = x }
snoc x (some e) = record { front = x ∷ e.front; last = e.last }

unfoldable pub unsnoc : {A : Type 0} → List A → Option (Snoc A)
unsnoc [] = none
unsnoc (x ∷ xs) = some (snoc x (unsnoc xs))

-- xs, with d behind it up to n items
unfoldable pub pad : {A : Type 0} → ℕ → A → List A → List A
pad n d xs = xs ++ replicate (n - length xs) d

-- the lists one behind the other
unfoldable pub concat : {A : Type 0} → List (List A) → List A
concat [] = []
concat (xs ∷ xss) = xs ++ concat xss
