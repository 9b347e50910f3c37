-- Laws of lists of numbers: members, mentions, lists that grow while they are gone through, places, and things picked by numbers.
use Prim.Native.Nat.{ℕ, zero, suc, ◌+◌, ◌≤◌, ◌<◌}
use mathlib.Core.Path.{◌≡◌, refl, sym, ◌∙◌, ap, subst}
use mathlib.Core.Logic.{◌⊎◌, inl, inr}
use mathlib.Core.Bool.{Bool, true, false, ◌||◌, cond, true≢false, or-false}
use mathlib.Core.Option
use mathlib.Core.Option.{Option, none, some}
use mathlib.Core.List.{List, [], ◌∷◌, ◌++◌, map, append-nil, append_assoc}
use native.Mathlib.Numerals.{add-one}
use native.Mathlib.Omega.{arith}
use lib.Dec.{eqb, eqb-suc-suc, eqb-suc-zero}
use lib.ListN.{length, get_elem?, drop, replicate, length-append, length-map, length-replicate, drop_of_length-le}
use Rattle.model.specs.Lists.{Each, concat}
use Rattle.model.proofs.Facts.{true-false, none-some, some-injective, left_or, right_or, or_right, each_append, each_at, map_at}
use Rattle.model.proofs.Facts.{eqb-true, eqb-false, eq-eqb, ne_eqb, at-below, below_at, at_first, drop-some, drop-none}
use Rattle.numbering.specs.Tidy.{member, Distinct, mention, mentions, onward, grown, place, before, picked}

-- neither part of a disjunction that fails holds
or-neither : (a b : Bool) → (a || b) ≡ false → (a ≡ false) × (b ≡ false)
or-neither true b e = absurd (true≢false e)
or-neither false b e = (refl, e)

-- the first is a member, and so are those behind it; and no others are
pub member-head : (x : ℕ) (ys : List ℕ) → member x (x ∷ ys) ≡ true
unfolding member
member-head x ys = left_or (eqb x x) _ (eq-eqb x x refl)

pub member-tail : (x y : ℕ) (ys : List ℕ) → member x ys ≡ true → member x (y ∷ ys) ≡ true
unfolding member
member-tail x y ys h = right_or (eqb x y) _ h

pub member-cases : (x y : ℕ) (ys : List ℕ) → member x (y ∷ ys) ≡ true → (x ≡ y) ⊎ (member x ys ≡ true)
unfolding member
member-cases x y ys h = go (eqb x y) refl
  where
    go : (b : Bool) → eqb x y ≡ b → (x ≡ y) ⊎ (member x ys ≡ true)
    go true e = inl (eqb-true x y e)
    go false e = inr (or_right (eqb x y) _ e h)

-- what is no member is neither the first nor behind it
pub absent-both : (x y : ℕ) (ys : List ℕ) → member x (y ∷ ys) ≡ false → (eqb x y ≡ false) × (member x ys ≡ false)
unfolding member
absent-both x y ys h = or-neither (eqb x y) _ h

-- the members of two lists one behind the other
pub member-append : (x : ℕ) (xs ys : List ℕ) → member x (xs ++ ys) ≡ (member x xs || member x ys)
unfolding member
member-append x [] ys = refl
member-append x (y ∷ xs) ys = go (eqb x y) (member-append x xs ys)
  where
    go : (b : Bool) → member x (xs ++ ys) ≡ (member x xs || member x ys) →
        (b || member x (xs ++ ys)) ≡ ((b || member x xs) || member x ys)
    go true e = refl
    go false e = e

pub member-left : (x : ℕ) (xs ys : List ℕ) → member x xs ≡ true → member x (xs ++ ys) ≡ true
member-left x xs ys h = member-append x xs ys ∙ left_or (member x xs) _ h

pub member_right : (x : ℕ) (xs ys : List ℕ) → member x ys ≡ true → member x (xs ++ ys) ≡ true
member_right x xs ys h = member-append x xs ys ∙ right_or (member x xs) _ h

-- what holds of each holds of a member, and the other way round
pub each_member : (Q : ℕ → Type 0) (xs : List ℕ) (x : ℕ) → Each Q xs → member x xs ≡ true → Q x
unfolding member
each_member Q [] x h m = true-false false m refl
each_member Q (y ∷ xs) x h m = go (member-cases x y xs m) (each_member Q xs x h.1)
  where
    go : (x ≡ y) ⊎ (member x xs ≡ true) → (member x xs ≡ true → Q x) → Q x
    go (inl e) k = rw e h.0
    go (inr i) k = k i

pub member-each : (Q : ℕ → Type 0) (xs : List ℕ) → ((x : ℕ) → member x xs ≡ true → Q x) → Each Q xs
member-each Q [] h = tt
member-each Q (x ∷ xs) h = (h x (member-head x xs), member-each Q xs (λ y m. h y (member-tail y x xs m)))

-- each is a member
pub each-self : (xs : List ℕ) → Each (λ x. member x xs ≡ true) xs
each-self xs = member-each (λ x. member x xs ≡ true) xs (λ x m. m)

-- what stands at an index is a member
pub at-member : (xs : List ℕ) (i : ℕ) {x : ℕ} → get_elem? xs i ≡ some x → member x xs ≡ true
at-member [] i e = none-some e
at-member (y ∷ xs) zero {x} e = rw (some-injective e) (member-head x xs)
at-member (y ∷ xs) (suc i) {x} e = member-tail x y xs (at-member xs i e)

-- what members lead to, one list behind the other
pub concat-member : (f : ℕ → List ℕ) (xs : List ℕ) (x y : ℕ) → member x xs ≡ true → member y (f x) ≡ true →
    member y (concat (map f xs)) ≡ true
unfolding member concat
concat-member f [] x y h m = true-false false h refl
concat-member f (z ∷ xs) x y h m = go (member-cases x z xs h) (λ k. concat-member f xs x y k m)
  where
    go : (x ≡ z) ⊎ (member x xs ≡ true) → (member x xs ≡ true → member y (concat (map f xs)) ≡ true) →
        member y (f z ++ concat (map f xs)) ≡ true
    go (inl e) k = member-left y (f z) _ (rw (← e) m)
    go (inr i) k = member_right y (f z) _ (k i)

-- what holds of each that they lead to
pub concat-each : (Q : ℕ → Type 0) (f : ℕ → List ℕ) (xs : List ℕ) → Each (λ x. Each Q (f x)) xs → Each Q (concat (map f xs))
unfolding concat
concat-each Q f [] h = tt
concat-each Q f (x ∷ xs) h = each_append Q (f x) _ h.0 (concat-each Q f xs h.1)

-- zs is xs, and more behind it
pub record Begins (xs zs : List ℕ) : Type 0 where
  pub rest : List ℕ
  pub is : zs ≡ xs ++ rest

pub begins-same : (xs : List ℕ) → Begins xs xs
begins-same xs = record { rest = []; is = sym (append-nil xs) }

pub begins-then : {xs ys zs : List ℕ} → Begins xs ys → Begins ys zs → Begins xs zs
begins-then {xs} b c =
    record { rest = b.rest ++ c.rest; is = c.is ∙ ap (λ (l : List ℕ). l ++ c.rest) b.is ∙ append_assoc xs b.rest c.rest }

-- what stands in the beginning stands there, and its members are members
pub begins-at : {xs zs : List ℕ} → Begins xs zs → (i : ℕ) {x : ℕ} → get_elem? xs i ≡ some x → get_elem? zs i ≡ some x
begins-at {xs} b i e = rw b.is (at_first xs b.rest i e)

pub begins-member : {xs zs : List ℕ} → Begins xs zs → (x : ℕ) → member x xs ≡ true → member x zs ≡ true
begins-member {xs} b x h = rw b.is (member-left x xs b.rest h)

-- a mention of a member changes nothing, and any other comes to the end
pub mention-old : (xs : List ℕ) (x : ℕ) → member x xs ≡ true → mention xs x ≡ xs
unfolding mention
mention-old xs x h = rw h

pub mention-new : (xs : List ℕ) (x : ℕ) → member x xs ≡ false → mention xs x ≡ xs ++ (x ∷ [])
unfolding mention
mention-new xs x h = rw h

-- a law of a mention, from its two cases
pub mention-cases : (Q : List ℕ → Type 0) (xs : List ℕ) (x : ℕ) → (member x xs ≡ true → Q xs) →
    (member x xs ≡ false → Q (xs ++ (x ∷ []))) → Q (mention xs x)
unfolding mention
mention-cases Q xs x old new = go (member x xs) refl
  where
    go : (b : Bool) → member x xs ≡ b → Q (cond b xs (xs ++ (x ∷ [])))
    go true e = old e
    go false e = new e

-- the list begins what it becomes
pub mention-begins : (xs : List ℕ) (x : ℕ) → Begins xs (mention xs x)
mention-begins xs x = mention-cases (Begins xs) xs x (λ e. begins-same xs) (λ e. record { rest = x ∷ []; is = refl })

pub mentions-begins : (xs ys : List ℕ) → Begins xs (mentions xs ys)
unfolding mentions
mentions-begins xs [] = begins-same xs
mentions-begins xs (y ∷ ys) = begins-then (mention-begins xs y) (mentions-begins (mention xs y) ys)

-- its members are the old ones and what was mentioned
pub mention-member : (xs : List ℕ) (x y : ℕ) → member y (mention xs x) ≡ (member y xs || eqb y x)
unfolding member
mention-member xs x y = mention-cases (λ l. member y l ≡ (member y xs || eqb y x)) xs x old new
  where
    old : member x xs ≡ true → member y xs ≡ (member y xs || eqb y x)
    old h = go (member y xs) (eqb y x) refl refl
      where
        go : (b c : Bool) → member y xs ≡ b → eqb y x ≡ c → b ≡ (b || c)
        go true c p q = refl
        go false true p q = true-false (member y xs) (rw (eqb-true y x q) h) p
        go false false p q = refl

    new : member x xs ≡ false → member y (xs ++ (x ∷ [])) ≡ (member y xs || eqb y x)
    new h = member-append y xs (x ∷ []) ∙ ap (λ (b : Bool). member y xs || b) (or-false (eqb y x))

pub mention-has : (xs : List ℕ) (x : ℕ) → member x (mention xs x) ≡ true
mention-has xs x = mention-member xs x x ∙ right_or (member x xs) _ (eq-eqb x x refl)

pub mentions-has : (xs ys : List ℕ) → Each (λ y. member y (mentions xs ys) ≡ true) ys
unfolding mentions
mentions-has xs [] = tt
mentions-has xs (y ∷ ys) = (begins-member (mentions-begins (mention xs y) ys) y (mention-has xs y), mentions-has (mention xs y) ys)

-- what holds of each, and of what is mentioned
pub mention-each : (Q : ℕ → Type 0) (xs : List ℕ) (x : ℕ) → Each Q xs → Q x → Each Q (mention xs x)
mention-each Q xs x h q = mention-cases (Each Q) xs x (λ e. h) (λ e. each_append Q xs (x ∷ []) h (q, tt))

pub mentions-each : (Q : ℕ → Type 0) (xs ys : List ℕ) → Each Q xs → Each Q ys → Each Q (mentions xs ys)
unfolding mentions
mentions-each Q xs [] h g = h
mentions-each Q xs (y ∷ ys) h g = mentions-each Q (mention xs y) ys (mention-each Q xs y h g.0) g.1

-- no number comes twice
distinct-last : (xs : List ℕ) (x : ℕ) → Distinct xs → member x xs ≡ false → Distinct (xs ++ (x ∷ []))
unfolding Distinct member
distinct-last [] x d h = (refl, tt)
distinct-last (y ∷ xs) x d h =
    let (n, m) = absent-both x y xs h in
    let o : eqb y x ≡ false = ne_eqb y x (λ e. eqb-false x y n (sym e)) in
    (member-append y xs (x ∷ []) ∙ rw (d.0, o), distinct-last xs x d.1 m)

pub mention-distinct : (xs : List ℕ) (x : ℕ) → Distinct xs → Distinct (mention xs x)
mention-distinct xs x d = mention-cases Distinct xs x (λ e. d) (distinct-last xs x d)

pub mentions-distinct : (xs ys : List ℕ) → Distinct xs → Distinct (mentions xs ys)
unfolding mentions
mentions-distinct xs [] d = d
mentions-distinct xs (y ∷ ys) d = mentions-distinct (mention xs y) ys (mention-distinct xs y d)

-- mentions one behind the other
pub mentions-append : (xs ys zs : List ℕ) → mentions xs (ys ++ zs) ≡ mentions (mentions xs ys) zs
unfolding mentions
mentions-append xs [] zs = refl
mentions-append xs (y ∷ ys) zs = mentions-append (mention xs y) ys zs

-- a place is no further than the end, that of a member before it, and the member stands there
pub place-most : (xs : List ℕ) (x : ℕ) → place xs x ≤ length xs
unfolding place
place-most [] x = omega arith
place-most (y ∷ xs) x = go (eqb x y) (place-most xs x)
  where
    go : (b : Bool) → place xs x ≤ length xs → cond b 0 (place xs x + 1) ≤ suc (length xs)
    go true h = omega arith
    go false h = omega arith

pub place_at : (xs : List ℕ) (x : ℕ) → member x xs ≡ true → get_elem? xs (place xs x) ≡ some x
unfolding place member
place_at [] x h = true-false false h refl
place_at (y ∷ xs) x h = go (eqb x y) refl (place_at xs x)
  where
    go : (b : Bool) → eqb x y ≡ b → (member x xs ≡ true → get_elem? xs (place xs x) ≡ some x) →
        get_elem? (y ∷ xs) (cond b 0 (place xs x + 1)) ≡ some x
    go true e k = rw (eqb-true x y e)
    go false e k = rw add-one (k (or_right (eqb x y) _ e h))

pub place-below : (xs : List ℕ) (x : ℕ) → member x xs ≡ true → place xs x < length xs
place-below xs x h = at-below xs (place xs x) (place_at xs x h)

-- members at one place are one
pub place-apart : (xs : List ℕ) (x y : ℕ) → member x xs ≡ true → member y xs ≡ true → place xs x ≡ place xs y → x ≡ y
place-apart xs x y h g e =
    some-injective (sym (place_at xs x h) ∙ ap (λ (i : ℕ). get_elem? xs i) e ∙ place_at xs y g)

-- where no number comes twice, the place of what stands at an index is the index
pub place_of : (xs : List ℕ) (i : ℕ) {x : ℕ} → Distinct xs → get_elem? xs i ≡ some x → place xs x ≡ i
unfolding place Distinct
place_of [] i d e = none-some e
place_of (y ∷ xs) zero {x} d e = rw (some-injective e, eq-eqb x x refl)
place_of (y ∷ xs) (suc i) {x} d e =
    let n : eqb x y ≡ false = ne_eqb x y (λ p. true-false (member y xs) (rw (← p) (at-member xs i e)) d.0) in
    rw (n, add-one) (ap suc (place_of xs i d.1 e))

-- the place of what is not there is the end
pub place-absent : (xs : List ℕ) (x : ℕ) → member x xs ≡ false → place xs x ≡ length xs
unfolding place
place-absent [] x h = refl
place-absent (y ∷ xs) x h =
    let (n, m) = absent-both x y xs h in
    rw (n, add-one) (ap suc (place-absent xs x m))

-- a member of the beginning keeps its place
pub place-append : (xs ys : List ℕ) (x : ℕ) → member x xs ≡ true → place (xs ++ ys) x ≡ place xs x
unfolding place member
place-append [] ys x h = true-false false h refl
place-append (y ∷ xs) ys x h = go (eqb x y) refl (place-append xs ys x)
  where
    go : (b : Bool) → eqb x y ≡ b → (member x xs ≡ true → place (xs ++ ys) x ≡ place xs x) →
        cond b 0 (place (xs ++ ys) x + 1) ≡ cond b 0 (place xs x + 1)
    go true e k = refl
    go false e k = rw (k (or_right (eqb x y) _ e h))

pub begins-place : {xs zs : List ℕ} → Begins xs zs → (x : ℕ) → member x xs ≡ true → place zs x ≡ place xs x
begins-place {xs} b x h = rw b.is (place-append xs b.rest x h)

-- what is mentioned anew stands at the end
place-last : (xs : List ℕ) (x : ℕ) → member x xs ≡ false → place (xs ++ (x ∷ [])) x ≡ length xs
unfolding place
place-last [] x h = rw (eq-eqb x x refl)
place-last (y ∷ xs) x h =
    let (n, m) = absent-both x y xs h in
    rw (n, add-one) (ap suc (place-last xs x m))

pub mention-place : (xs : List ℕ) (x : ℕ) → member x xs ≡ false → place (mention xs x) x ≡ length xs
mention-place xs x h = rw (mention-new xs x h) (place-last xs x h)

-- what holds of each holds of each that is picked
pub picked-each : {A : Type 0} (Q : A → Type 0) (xs : List A) (ī : List ℕ) → Each Q xs → Each Q (picked xs ī)
unfolding picked before
picked-each Q xs [] h = tt
picked-each {A} Q xs (i ∷ ī) h = go (get_elem? xs i) refl (picked-each Q xs ī h)
  where
    go : (o : Option A) → get_elem? xs i ≡ o → Each Q (picked xs ī) → Each Q (before o (picked xs ī))
    go none e k = k
    go (some x) e k = (each_at Q xs i h e, k)

module _ {A : Type 0} (xs : List A) where
  -- where all of them are there, one is picked for each number, in order
  pub picked-length : (ī : List ℕ) → Each (λ i. i < length xs) ī → length (picked xs ī) ≡ length ī
  unfolding picked before
  picked-length [] h = refl
  picked-length (i ∷ ī) h =
      let (x, e) = below_at xs i h.0 in
      rw e (ap suc (picked-length ī h.1))

  pub picked-at : (ī : List ℕ) (n : ℕ) {i : ℕ} → Each (λ i. i < length xs) ī → get_elem? ī n ≡ some i →
      get_elem? (picked xs ī) n ≡ get_elem? xs i
  unfolding picked before
  picked-at [] n h e = none-some e
  picked-at (j ∷ ī) zero {i} h e =
      let (x, p) = below_at xs j h.0 in
      rw (← (some-injective e), p)
  picked-at (j ∷ ī) (suc n) h e =
      let (x, p) = below_at xs j h.0 in
      rw p (picked-at ī n h.1 e)

-- what g makes of what is picked: it stands at its number's place, and nothing else is there
module _ {A B : Type 0} (g : A → B) (xs : List A) (ī : List ℕ) (below : Each (λ i. i < length xs) ī) where
  pub picked-place : (i : ℕ) {x : A} → member i ī ≡ true → get_elem? xs i ≡ some x →
      get_elem? (map g (picked xs ī)) (place ī i) ≡ some (g x)
  picked-place i k e =
      map_at g (picked xs ī) (place ī i) ∙ ap (Option.map g) (picked-at xs ī (place ī i) below (place_at ī i k) ∙ e)

  pub picked-from : (n : ℕ) {y : B} → Distinct ī → get_elem? (map g (picked xs ī)) n ≡ some y →
      (i : ℕ) × (member i ī ≡ true) × (place ī i ≡ n)
  picked-from n d e =
      let l : n < length ī = omega (arith, at-below (map g (picked xs ī)) n e, length-map (picked xs ī) g, picked-length xs ī below) in
      let (i, h) = below_at ī n l in
      (i, at-member ī n h, place_of ī n d h)

-- the sum of f over a list
unfoldable pub amount : {A : Type 0} → (A → ℕ) → List A → ℕ
amount f [] = 0
amount f (x ∷ xs) = f x + amount f xs

-- the numbers from 1 on, each lowered by one
unfoldable lower : List ℕ → List ℕ
lower [] = []
lower (zero ∷ xs) = lower xs
lower (suc x ∷ xs) = x ∷ lower xs

lower-member : (x : ℕ) (xs : List ℕ) → member x (lower xs) ≡ member (suc x) xs
unfolding lower member
lower-member x [] = refl
lower-member x (zero ∷ xs) = rw (eqb-suc-zero x) (lower-member x xs)
lower-member x (suc y ∷ xs) = rw (eqb-suc-suc x y, lower-member x xs)

lower-distinct : (xs : List ℕ) → Distinct xs → Distinct (lower xs)
unfolding lower Distinct
lower-distinct [] d = tt
lower-distinct (zero ∷ xs) d = lower-distinct xs d.1
lower-distinct (suc x ∷ xs) d = (lower-member x xs ∙ d.0, lower-distinct xs d.1)

module _ {A : Type 0} where
  -- picked from behind the first
  picked-behind : (x : A) (xs : List A) (ī : List ℕ) → member 0 ī ≡ false → picked (x ∷ xs) ī ≡ picked xs (lower ī)
  unfolding picked lower member
  picked-behind x xs [] h = refl
  picked-behind x xs (zero ∷ ī) h = absurd (true≢false h)
  picked-behind x xs (suc i ∷ ī) h = rw (picked-behind x xs ī (absent-both 0 (suc i) ī h).1)

  picked-nothing : (ī : List ℕ) → picked {A = A} [] ī ≡ []
  unfolding picked before
  picked-nothing [] = refl
  picked-nothing (i ∷ ī) = picked-nothing ī

  module _ (f : A → ℕ) where
    -- the first is picked once at most
    amount-lower : (x : A) (xs : List A) (ī : List ℕ) → Distinct ī →
        amount f (picked (x ∷ xs) ī) ≤ f x + amount f (picked xs (lower ī))
    unfolding amount picked before lower Distinct
    amount-lower x xs [] d = omega arith
    amount-lower x xs (zero ∷ ī) d = rw (picked-behind x xs ī d.0) (omega arith)
    amount-lower x xs (suc i ∷ ī) d = go (get_elem? xs i) (amount-lower x xs ī d.1)
      where
        go : (o : Option A) → amount f (picked (x ∷ xs) ī) ≤ f x + amount f (picked xs (lower ī)) →
            amount f (before o (picked (x ∷ xs) ī)) ≤ f x + amount f (before o (picked xs (lower ī)))
        go none h = h
        go (some y) h = omega arith

    -- so what is picked by distinct numbers is no more than all
    pub amount-picked : (xs : List A) (ī : List ℕ) → Distinct ī → amount f (picked xs ī) ≤ amount f xs
    unfolding amount
    amount-picked [] ī d = rw (picked-nothing ī) (omega arith)
    amount-picked (x ∷ xs) ī d = omega (arith, amount-lower x xs ī d, amount-picked xs (lower ī) (lower-distinct ī d))

    pub amount-less : (g : A → ℕ) (xs : List A) → ((x : A) → f x ≤ g x) → amount f xs ≤ amount g xs
    unfolding amount
    amount-less g [] h = omega arith
    amount-less g (x ∷ xs) h = omega (arith, h x, amount-less g xs h)

  amount-one : (xs : List A) → amount (λ x. 1) xs ≡ length xs
  unfolding amount
  amount-one [] = refl
  amount-one (x ∷ xs) = omega (arith, amount-one xs)

  pub picked-few : (xs : List A) (ī : List ℕ) → Distinct ī → length (picked xs ī) ≤ length xs
  picked-few xs ī d = omega (arith, amount-picked (λ x. 1) xs ī d, amount-one xs, amount-one (picked xs ī))

-- distinct numbers below m are at most m; and where one below m is not among them there are fewer
pub distinct-few : (m : ℕ) (xs : List ℕ) → Distinct xs → Each (λ x. x < m) xs → length xs ≤ m
distinct-few m xs d h =
    let all : List ℕ = replicate m 0 in
    let l : length all ≡ m = length-replicate m 0 in
    let g : Each (λ x. x < length all) xs = rw l h in
    omega (arith, picked-few all xs d, picked-length all xs g)

pub distinct-room : (m : ℕ) (xs : List ℕ) (x : ℕ) → Distinct xs → Each (λ x. x < m) xs → member x xs ≡ false → x < m → length xs < m
distinct-room m xs x d h a l =
    let few : length (xs ++ (x ∷ [])) ≤ m =
    distinct-few m (xs ++ (x ∷ [])) (distinct-last xs x d a) (each_append (λ x. x < m) xs (x ∷ []) h (l, tt)) in
    omega (arith, few, length-append xs (x ∷ []))

module _ (next : ℕ → List ℕ) where
  -- a law of what it grows to, from one step and the ends
  grown-cases : (Q : List ℕ → Type 0) (left i : ℕ) (xs : List ℕ) → (get_elem? xs i ≡ none → Q xs) →
      ((x : ℕ) → get_elem? xs i ≡ some x → Q (grown next left (i + 1) (mentions xs (next x)))) → Q (grown next (suc left) i xs)
  unfolding grown onward
  grown-cases Q left i xs over more = go (get_elem? xs i) refl
    where
      go : (o : Option ℕ) → get_elem? xs i ≡ o → Q (onward xs (λ x. grown next left (i + 1) (mentions xs (next x))) o)
      go none e = over e
      go (some x) e = more x e

  -- the list begins what it grows to
  pub grown-begins : (left i : ℕ) (xs : List ℕ) → Begins xs (grown next left i xs)
  unfolding grown
  grown-begins zero i xs = begins-same xs
  grown-begins (suc left) i xs =
      grown-cases (Begins xs) left i xs (λ e. begins-same xs)
      (λ x e. begins-then (mentions-begins xs (next x)) (grown-begins left (i + 1) (mentions xs (next x))))

  -- what holds of each, and is handed on
  pub grown-each : (Q : ℕ → Type 0) → ((x : ℕ) → Q x → Each Q (next x)) → (left i : ℕ) (xs : List ℕ) → Each Q xs →
      Each Q (grown next left i xs)
  unfolding grown
  grown-each Q on zero i xs h = h
  grown-each Q on (suc left) i xs h =
      grown-cases (Each Q) left i xs (λ e. h)
      (λ x e. grown-each Q on left (i + 1) (mentions xs (next x)) (mentions-each Q xs (next x) h (on x (each_at Q xs i h e))))

  -- no number comes twice
  pub grown-distinct : (left i : ℕ) (xs : List ℕ) → Distinct xs → Distinct (grown next left i xs)
  unfolding grown
  grown-distinct zero i xs d = d
  grown-distinct (suc left) i xs d =
      grown-cases Distinct left i xs (λ e. d)
      (λ x e. grown-distinct left (i + 1) (mentions xs (next x)) (mentions-distinct xs (next x) d))

  -- the number at index i, and what it mentions
  order-step : (xs r : List ℕ) (i x : ℕ) → get_elem? r i ≡ some x →
      r ≡ mentions (mentions xs (next x)) (concat (map next (drop (i + 1) r))) → r ≡ mentions xs (concat (map next (drop i r)))
  unfolding concat
  order-step xs r i x e k =
      k ∙ sym (mentions-append xs (next x) _) ∙ ap (λ (l : List ℕ). mentions xs (concat (map next l))) (sym (drop-some r i e))

  -- numbers below m that lead to numbers below m, and as many steps as there can be numbers: nothing is left to go through
  module _ (m : ℕ) (inside : (x : ℕ) → x < m → Each (λ y. y < m) (next x)) where
    -- then what it grows to is the list and the mentions of all from index i on, in its own order
    pub grown-order : (left i : ℕ) (xs : List ℕ) → Distinct xs → Each (λ x. x < m) xs → m ≤ left + i →
        grown next left i xs ≡ mentions xs (concat (map next (drop i (grown next left i xs))))
    unfolding grown concat mentions
    grown-order zero i xs d h l =
        let few : length xs ≤ i = omega (arith, distinct-few m xs d h) in
        rw (drop_of_length-le xs few)
    grown-order (suc left) i xs d h l =
        grown-cases (λ r. r ≡ mentions xs (concat (map next (drop i r)))) left i xs (λ e. rw (drop-none xs i e))
        (λ x e.
        let ys : List ℕ = mentions xs (next x) in
        let hs : Each (λ x. x < m) ys = mentions-each (λ x. x < m) xs (next x) h (inside x (each_at (λ x. x < m) xs i h e)) in
        order-step xs (grown next left (i + 1) ys) i x
        (begins-at (begins-then (mentions-begins xs (next x)) (grown-begins left (i + 1) ys)) i e)
        (grown-order left (i + 1) ys (mentions-distinct xs (next x) d) hs (omega arith)))

    -- from its start on: its members lead to members
    pub grown-closed : (left : ℕ) (xs : List ℕ) → Distinct xs → Each (λ x. x < m) xs → m ≤ left → (x : ℕ) →
        member x (grown next left 0 xs) ≡ true → Each (λ y. member y (grown next left 0 xs) ≡ true) (next x)
    grown-closed left xs d h l x k =
        let r : List ℕ = grown next left 0 xs in
        let ys : List ℕ = concat (map next r) in
        let o : r ≡ mentions xs ys = grown-order left 0 xs d h (omega arith) in
        member-each (λ y. member y r ≡ true) (next x)
        (λ y n.
        subst (λ (l : List ℕ). member y l ≡ true) (sym o)
        (each_member (λ y. member y (mentions xs ys) ≡ true) ys y (mentions-has xs ys) (concat-member next r x y k n)))
