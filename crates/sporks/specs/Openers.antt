-- Which spork opened each open call, worked out from what the choices of a list are answered and from nothing else. Each thread has
-- a list: its open calls, oldest first over all its frames, and in it stands for each the number of the choice that sporked it.
use Rattle.std.specs.Prelude.{ℕ, zero, suc, ◌+◌, ◌-◌, ◌<◌, ◌≡◌, cond, List, [], ◌∷◌, ◌++◌, eqb, length, take, drop}
use Rattle.std.proofs.Math.Option.{Option, some}
use Rattle.std.proofs.Math.ListN.{get_elem?}
use Rattle.model.specs.Numbers as No
use Rattle.model.specs.Answers.{Answer}
use Rattle.model.specs.Frames.{◌>>=◌}

-- a choice as its caller sees it: the thread that it names, and what it is answered
pub record Reply : Type 0 where
  pub thread : ℕ
  pub answer : Answer ℕ

-- all but the last
unfoldable pub front : {A : Type 0} → List A → List A
front xs = take (length xs - 1) xs

-- what a rule makes of the list xs of the thread that was chosen and of the lists xss of the threads behind it. A spork opens a call,
-- for which a stands, and which comes last. A spoin closes the last call; where that is promoted (prom), its child goes, which stands
-- directly behind. A promotion puts a child there, with nothing open. The other rules open and close none
unfoldable pub turn : {A : Type 0} → A → ℕ → List A → List (List A) → List (List A)
turn a rule xs xss =
    cond (eqb rule No.spork) ((xs ++ (a ∷ [])) ∷ xss)
    (cond (eqb rule No.unpr) (front xs ∷ xss)
    (cond (eqb rule No.prom) (front xs ∷ drop 1 xss)
    (cond (eqb rule No.promote) (xs ∷ [] ∷ xss) (xs ∷ xss))))

-- the lists of thread i and of the threads behind it
unfoldable pub on_list : {A : Type 0} → (List A → List (List A) → List (List A)) → ℕ → List (List A) → List (List A)
on_list f i [] = []
on_list f zero (xs ∷ xss) = f xs xss
on_list f (suc i) (xs ∷ xss) = xs ∷ on_list f i xss

-- the lists after a choice of thread i; a refusal changes nothing
unfoldable pub follow : {A : Type 0} → A → Answer ℕ → ℕ → List (List A) → List (List A)
follow a (Answer.given rule) i xss = on_list (turn a rule) i xss
follow a (Answer.refused r) i xss = xss

-- the lists after choices, of which the first has the number n
unfoldable pub follows : ℕ → List (List ℕ) → List Reply → List (List ℕ)
follows n xss [] = xss
follows n xss (r ∷ rs) = follows (n + 1) (follow n r.answer r.thread xss) rs

-- the lists after choices, counted from 0, put to a pool just started: it has one thread, with nothing open
unfoldable pub openers : List Reply → List (List ℕ)
openers rs = follows 0 ([] ∷ []) rs

-- the number of the choice that sporked open call j of thread i
unfoldable pub opener : List Reply → ℕ → ℕ → Option ℕ
opener rs i j = do
  xs ← get_elem? (openers rs) i
  get_elem? xs j

-- whatever the choices were answered: the openers are choices of the list, in a thread they come in its order, and no two open calls
-- have one opener
pub record Own (rs : List Reply) : Type 0 where
  pub within : (i j m : ℕ) → opener rs i j ≡ some m → m < length rs
  pub ordered : (i j j' m m' : ℕ) → opener rs i j ≡ some m → opener rs i j' ≡ some m' → j < j' → m < m'
  pub once : (i j i' j' m : ℕ) → opener rs i j ≡ some m → opener rs i' j' ≡ some m → (i ≡ i') × (j ≡ j')
