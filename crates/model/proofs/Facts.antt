-- General laws of tests, options and lists. `ltb-true`, `lt-ltb` and their kin (a test's value against the fact) come from
-- borrow.Author.Tests and are passed on; the others are over Bool's connectives, and the tests and `Each` of Lists.
use Prim.Native.Nat.{ℕ, zero, suc, ◌+◌, ◌-◌, ◌≤◌, ◌<◌, zero-le, suc-le-suc}
use mathlib.Core.Path.{◌≡◌, refl, sym, ◌∙◌, ap, subst}
use mathlib.Core.Bool.{Bool, true, false, not, ◌&&◌, ◌||◌, true≢false, false≢true}
use mathlib.Core.Option
use mathlib.Core.Option.{Option, none, some}
use mathlib.Core.List.{List, [], ◌∷◌, ◌++◌, map}
use native.Mathlib.Nat.{zero-add, suc-add, not-suc-le-zero, le_of_suc-le-suc}
use native.Mathlib.Numerals.{add-one}
use native.Mathlib.Omega.{arith}
use lib.Dec.{eqb}
use lib.ListN.{length, get_or, get_elem?, take, drop, replicate}
use lib.Seq.{drop-nil}
use Rattle.model.specs.Answers.{Refusal, Answer, outcome, put}
use Rattle.model.specs.Lists.{all, Each, equal, Snoc, snoc, unsnoc}
pub use borrow.Author.Tests.{ltb-true, ltb-false, leb-true, leb-false, eqb-true, eqb-false, not-true, not-false, lt-ltb, le-ltb, le-leb}
pub use borrow.Author.Tests.{lt-leb, eq-eqb, ne_eqb}

-- one value is not two
pub true-false : {A : Type 0} (b : Bool) → b ≡ true → b ≡ false → A
true-false b p q = absurd (true≢false (sym p ∙ q))

pub none-some : {A B : Type 0} {a : A} → ◌≡◌ {A = Option A} none (some a) → B
none-some e = let z : ◌≡◌ {A = ℕ} 0 1 = cc in absurd (omega arith)

pub some-injective : {A : Type 0} {a b : A} → some a ≡ some b → a ≡ b
some-injective e = cc

pub refused-given : {A B : Type 0} {r : Refusal} {a : A} → Answer.refused r ≡ Answer.given a → B
refused-given e = let z : ◌≡◌ {A = ℕ} 0 1 = cc in absurd (omega arith)

pub given-injective : {A : Type 0} {a b : A} → Answer.given a ≡ Answer.given b → a ≡ b
given-injective e = cc

-- what an outcome says of the answer
module _ {A : Type 0} where
  pub outcome-given : (a : Answer A) → outcome a ≡ Answer.given tt → (x : A) × (a ≡ Answer.given x)
  unfolding outcome
  outcome-given (Answer.given x) e = (x, refl)
  outcome-given (Answer.refused r) e = refused-given e

  pub outcome-refused : (a : Answer A) {r : Refusal} → outcome a ≡ Answer.refused r → a ≡ Answer.refused r
  unfolding outcome
  outcome-refused (Answer.given x) e = refused-given (sym e)
  outcome-refused (Answer.refused r) e = cc

-- connectives
pub and_both : (a b : Bool) → (a && b) ≡ true → (a ≡ true) × (b ≡ true)
and_both true b e = (refl, e)
and_both false b e = absurd (false≢true e)

pub and_left : (a b : Bool) → (a && b) ≡ true → a ≡ true
and_left a b e = (and_both a b e).0

pub and_right : (a b : Bool) → (a && b) ≡ true → b ≡ true
and_right a b e = (and_both a b e).1

pub both-and : (a b : Bool) → a ≡ true → b ≡ true → (a && b) ≡ true
both-and true b p q = q
both-and false b p q = p

pub right-false : (a b : Bool) → b ≡ false → (a && b) ≡ false
right-false true b q = q
right-false false b q = refl

pub and-true : (a : Bool) → (a && true) ≡ a
and-true true = refl
and-true false = refl

pub left_or : (a b : Bool) → a ≡ true → (a || b) ≡ true
left_or true b p = refl
left_or false b p = absurd (false≢true p)

pub right_or : (a b : Bool) → b ≡ true → (a || b) ≡ true
right_or true b q = refl
right_or false b q = q

-- of a disjunction whose first part fails the second holds
pub or_right : (a b : Bool) → a ≡ false → (a || b) ≡ true → b ≡ true
or_right true b p e = absurd (true≢false p)
or_right false b p e = e

pub false-not : (b : Bool) → b ≡ false → not b ≡ true
false-not true p = sym p
false-not false p = refl

-- what an option gives through a map
pub map-some : {A B : Type 0} (f : A → B) (o : Option A) {b : B} → Option.map f o ≡ some b → (a : A) × (o ≡ some a) × (f a ≡ b)
map-some f none e = none-some e
map-some f (some a) e = (a, refl, some-injective e)

-- what stands at an index of what f makes of a list
pub map_at : {A B : Type 0} (f : A → B) (xs : List A) (i : ℕ) → get_elem? (map f xs) i ≡ Option.map f (get_elem? xs i)
map_at f [] i = refl
map_at f (x ∷ xs) zero = refl
map_at f (x ∷ xs) (suc i) = map_at f xs i

-- Each: weakened, joined, appended, of the first n, and as a test
module _ {A : Type 0} where
  pub each_map : {P Q : A → Type 0} → ((x : A) → P x → Q x) → (xs : List A) → Each P xs → Each Q xs
  each_map f [] h = tt
  each_map f (x ∷ xs) h = (f x h.0, each_map f xs h.1)

  pub each_both : (P Q : A → Type 0) (xs : List A) → Each P xs → Each Q xs → Each (λ x. P x × Q x) xs
  each_both P Q [] h g = tt
  each_both P Q (x ∷ xs) h g = ((h.0, g.0), each_both P Q xs h.1 g.1)

  pub each_append : (P : A → Type 0) (xs ys : List A) → Each P xs → Each P ys → Each P (xs ++ ys)
  each_append P [] ys h g = g
  each_append P (x ∷ xs) ys h g = (h.0, each_append P xs ys h.1 g)

  pub each_left : (P : A → Type 0) (xs ys : List A) → Each P (xs ++ ys) → Each P xs
  each_left P [] ys h = tt
  each_left P (x ∷ xs) ys h = (h.0, each_left P xs ys h.1)

  pub each_right : (P : A → Type 0) (xs ys : List A) → Each P (xs ++ ys) → Each P ys
  each_right P [] ys h = h
  each_right P (x ∷ xs) ys h = each_right P xs ys h.1

  pub each_take : (P : A → Type 0) (n : ℕ) (xs : List A) → Each P xs → Each P (take n xs)
  each_take P zero xs h = tt
  each_take P (suc n) [] h = tt
  each_take P (suc n) (x ∷ xs) h = (h.0, each_take P n xs h.1)

  pub each_at : (P : A → Type 0) (xs : List A) (i : ℕ) {x : A} → Each P xs → get_elem? xs i ≡ some x → P x
  each_at P [] i h e = none-some e
  each_at P (x ∷ xs) zero h e = subst P (some-injective e) h.0
  each_at P (x ∷ xs) (suc i) h e = each_at P xs i h.1 e

  -- what holds at every index
  pub at_each : (P : A → Type 0) (xs : List A) → ((i : ℕ) (x : A) → get_elem? xs i ≡ some x → P x) → Each P xs
  at_each P [] h = tt
  at_each P (x ∷ xs) h = (h 0 x refl, at_each P xs (λ i y e. h (suc i) y e))

  pub all-each : (f : A → Bool) (xs : List A) → all f xs ≡ true → Each (λ x. f x ≡ true) xs
  unfolding all
  all-each f [] e = tt
  all-each f (x ∷ xs) e = (and_left (f x) _ e, all-each f xs (and_right (f x) _ e))

  pub each_all : (f : A → Bool) (xs : List A) → Each (λ x. f x ≡ true) xs → all f xs ≡ true
  unfolding all
  each_all f [] h = refl
  each_all f (x ∷ xs) h = both-and (f x) _ h.0 (each_all f xs h.1)

  -- an index that finds something is below the length, and the other way round
  pub at-below : (xs : List A) (i : ℕ) {x : A} → get_elem? xs i ≡ some x → i < length xs
  at-below [] i e = none-some e
  at-below (x ∷ xs) zero e = suc-le-suc zero-le
  at-below (x ∷ xs) (suc i) e = suc-le-suc (at-below xs i e)

  pub below_at : (xs : List A) (i : ℕ) → i < length xs → (x : A) × (get_elem? xs i ≡ some x)
  below_at [] i h = absurd (not-suc-le-zero h)
  below_at (x ∷ xs) zero h = (x, refl)
  below_at (x ∷ xs) (suc i) h = below_at xs i (le_of_suc-le-suc h)

  -- an index into the first of two lists, and one into the second
  pub at_first : (xs ys : List A) (i : ℕ) {x : A} → get_elem? xs i ≡ some x → get_elem? (xs ++ ys) i ≡ some x
  at_first [] ys i e = none-some e
  at_first (y ∷ xs) ys zero e = e
  at_first (y ∷ xs) ys (suc i) e = at_first xs ys i e

  pub at_second : (xs ys : List A) (i : ℕ) → get_elem? (xs ++ ys) (length xs + i) ≡ get_elem? ys i
  at_second [] ys i = ap (get_elem? ys) (zero-add i)
  at_second (x ∷ xs) ys i = ap (get_elem? (x ∷ xs ++ ys)) (suc-add (length xs) i) ∙ at_second xs ys i

  -- the same of an index past the end
  pub at-past : (xs : List A) (i : ℕ) → get_elem? xs i ≡ none → length xs ≤ i
  at-past [] i e = zero-le
  at-past (x ∷ xs) zero e = none-some (sym e)
  at-past (x ∷ xs) (suc i) e = suc-le-suc (at-past xs i e)

  pub past-at : (xs : List A) (i : ℕ) → length xs ≤ i → get_elem? xs i ≡ none
  past-at [] i h = refl
  past-at (x ∷ xs) zero h = absurd (not-suc-le-zero h)
  past-at (x ∷ xs) (suc i) h = past-at xs i (le_of_suc-le-suc h)

  -- one thing, however often, at any index
  pub same_at : (n i : ℕ) (d : A) → get_or (replicate n d) i d ≡ d
  same_at zero i d = refl
  same_at (suc n) zero d = refl
  same_at (suc n) (suc i) d = same_at n i d

  -- what is left of a list from an index on
  drop-suc : (xs : List A) (i : ℕ) {x : A} → get_elem? xs i ≡ some x → drop i xs ≡ x ∷ drop (suc i) xs
  drop-suc [] i e = none-some e
  drop-suc (x ∷ xs) zero e = rw (some-injective e)
  drop-suc (x ∷ xs) (suc i) e = drop-suc xs i e

  pub drop-some : (xs : List A) (i : ℕ) {x : A} → get_elem? xs i ≡ some x → drop i xs ≡ x ∷ drop (i + 1) xs
  drop-some xs i e = rw (add-one i) (drop-suc xs i e)

  pub drop-none : (xs : List A) (i : ℕ) → get_elem? xs i ≡ none → drop i xs ≡ []
  drop-none [] zero e = refl
  drop-none [] (suc i) e = refl
  drop-none (x ∷ xs) zero e = none-some (sym e)
  drop-none (x ∷ xs) (suc i) e = drop-none xs i e

  -- a list as all but the last, and the last
  pub unsnoc-some : (xs : List A) (I : Snoc A) → unsnoc xs ≡ some I → xs ≡ I.front ++ (I.last ∷ [])
  unfolding unsnoc
  unsnoc-some [] I e = none-some e
  unsnoc-some (x ∷ []) I e = ap (λ (J : Snoc A). J.front ++ (J.last ∷ [])) (some-injective e)
  unsnoc-some (x ∷ y ∷ xs) I e =
      let J : Snoc A = snoc y (unsnoc xs) in
      ap {B = List A} (λ l. x ∷ l) (unsnoc-some (y ∷ xs) J refl) ∙
      ap (λ (K : Snoc A). K.front ++ (K.last ∷ [])) (some-injective e)

  pub unsnoc-snoc : (xs : List A) (x : A) → unsnoc (xs ++ (x ∷ [])) ≡ some (record { front = xs; last = x })
  unfolding unsnoc
  unsnoc-snoc [] x = refl
  unsnoc-snoc (y ∷ xs) x = rw (unsnoc-snoc xs x)

-- the test of two lists is their equality
pub equal-same : (xs ys : List ℕ) → equal xs ys ≡ true → xs ≡ ys
unfolding equal
equal-same [] [] e = refl
equal-same [] (y ∷ ys) e = absurd (false≢true e)
equal-same (x ∷ xs) [] e = absurd (false≢true e)
equal-same (x ∷ xs) (y ∷ ys) e =
    let p : x ≡ y = eqb-true x y (and_left (eqb x y) _ e) in
    let q : xs ≡ ys = equal-same xs ys (and_right (eqb x y) _ e) in
    cc

pub equal-refl : (xs : List ℕ) → equal xs xs ≡ true
unfolding equal
equal-refl [] = refl
equal-refl (x ∷ xs) = both-and (eqb x x) _ (eq-eqb x x refl) (equal-refl xs)

pub same-equal : (xs ys : List ℕ) → xs ≡ ys → equal xs ys ≡ true
same-equal xs ys e = subst (λ (l : List ℕ). equal xs l ≡ true) e (equal-refl xs)

-- a list of the same items, without its first
pub drop-replicate : {A : Type 0} (n k : ℕ) (x : A) → drop k (replicate n x) ≡ replicate (n - k) x
drop-replicate zero k x = let z : 0 - k ≡ 0 = omega arith in rw z (drop-nil k)
drop-replicate (suc n) zero x = let z : suc n - 0 ≡ suc n = omega arith in rw z
drop-replicate (suc n) (suc k) x = let z : suc n - suc k ≡ n - k = omega arith in rw z (drop-replicate n k x)

-- bytes that fit into lent ones, and bytes that do not
module _ (q : ℕ) (out t : List ℕ) where
  pub put-fits : length t ≤ length out → put q out t ≡ record { answer = Answer.given (length t); after = t ++ drop (length t) out }
  unfolding put
  put-fits h = rw (le-leb (length t) (length out) h)

  pub put-short : length out < length t → put q out t ≡ record { answer = Answer.refused (Refusal.plain q); after = out }
  unfolding put
  put-short h = rw (lt-leb (length t) (length out) h)
