-- There is one list in the order of first mention.
use Prim.Native.Nat.{ℕ, zero, suc, ◌+◌, ◌≤◌, ◌<◌}
use mathlib.Core.Path.{◌≡◌, refl, sym, ◌∙◌, ap, subst}
use mathlib.Core.Logic.{◌⊎◌, inl, inr}
use mathlib.Core.Bool.{Bool, true, false}
use mathlib.Core.List.{List, [], ◌∷◌, ◌++◌, map, append-nil, append_assoc, head-eq_of_cons-eq, tail-eq_of_cons-eq}
use native.Mathlib.Omega.{arith}
use lib.Dec.{ltb}
use lib.ListN.{length, length-append}
use Rattle.model.specs.Lists.{concat}
use Rattle.model.proofs.Facts.{true-false, ltb-true, ltb-false}
use Rattle.numbering.specs.Tidy.{member, Distinct, mentions}
use Rattle.numbering.specs.Order.{Reached, InOrder, Unique}
use Rattle.numbering.proofs.Lists.{member-head, member-tail, member-cases, member_right, each_member, concat-member}
use Rattle.numbering.proofs.Lists.{Begins, mentions-begins, mentions-has, mentions-distinct, mentions-append}

-- what two beginnings of one list have: the shorter one's members are the longer one's
within : (xs ys p q : List ℕ) (z : ℕ) → xs ++ p ≡ ys ++ q → length ys ≤ length xs → member z ys ≡ true → member z xs ≡ true
unfolding member
within xs [] p q z e l h = true-false false h refl
within [] (y ∷ ys) p q z e l h = absurd (omega arith)
within (x ∷ xs) (y ∷ ys) p q z e l h = go (member-cases z y ys h) (within xs ys p q z (tail-eq_of_cons-eq e) (omega arith))
  where
    go : (z ≡ y) ⊎ (member z ys ≡ true) → (member z ys ≡ true → member z xs ≡ true) → member z (x ∷ xs) ≡ true
    go (inl i) k = subst (λ (m : ℕ). member m (x ∷ xs) ≡ true) (head-eq_of_cons-eq e ∙ sym i) (member-head x xs)
    go (inr i) k = member-tail z x xs (k i)

-- no member of the beginning stands behind it
apart : (xs : List ℕ) (y : ℕ) (ys : List ℕ) → Distinct (xs ++ (y ∷ ys)) → member y xs ≡ true → ⊥
unfolding Distinct member
apart [] y ys d h = true-false false h refl
apart (x ∷ xs) y ys d h = go (member-cases y x xs h) (apart xs y ys d.1)
  where
    go : (y ≡ x) ⊎ (member y xs ≡ true) → (member y xs ≡ true → ⊥) → ⊥
    go (inl e) k = true-false (member x (xs ++ (y ∷ ys))) (rw (← e) (member_right y xs (y ∷ ys) (member-head y ys))) d.0
    go (inr i) k = k i

-- so a beginning that has all members is the list
all_there : (xs ys : List ℕ) → Distinct (xs ++ ys) → ((y : ℕ) → member y (xs ++ ys) ≡ true → member y xs ≡ true) → xs ++ ys ≡ xs
all_there xs [] d h = append-nil xs
all_there xs (y ∷ ys) d h = absurd (apart xs y ys d (h y (member_right y xs (y ∷ ys) (member-head y ys))))

concat-append : (next : ℕ → List ℕ) (xs ys : List ℕ) → concat (map next (xs ++ ys)) ≡ concat (map next xs) ++ concat (map next ys)
unfolding concat
concat-append next [] ys = refl
concat-append next (x ∷ xs) ys = rw (concat-append next xs ys) (sym (append_assoc (next x) _ _))

module _ (next : ℕ → List ℕ) where
  -- 0 and what the members mention, each at its first mention
  abbrev firsts : List ℕ → List ℕ
  firsts xs = mentions [] (0 ∷ concat (map next xs))

  -- a beginning of a list in order leads to a beginning of it
  onto : (xs : List ℕ) {zs : List ℕ} → zs ≡ firsts zs → Begins xs zs → Begins (firsts xs) zs
  unfolding mentions
  onto xs {zs} o b =
      let e : firsts zs ≡ mentions (firsts xs) (concat (map next b.rest)) =
      ap firsts b.is ∙ ap (λ (l : List ℕ). mentions [] (0 ∷ l)) (concat-append next xs b.rest)
      ∙ mentions-append [] (0 ∷ concat (map next xs)) (concat (map next b.rest)) in
      let c = mentions-begins (firsts xs) (concat (map next b.rest)) in
      record { rest = c.rest; is = o ∙ e ∙ c.is }

  -- a beginning to which nothing comes has everything that is reached
  closed : (xs : List ℕ) → ((y : ℕ) → member y (firsts xs) ≡ true → member y xs ≡ true) → (x : ℕ) → Reached next x → member x xs ≡ true
  unfolding mentions
  closed xs h _ Reached.first = h 0 (mentions-has [] (0 ∷ concat (map next xs))).0
  closed xs h _ (Reached.then x y r m) =
      h y
      (each_member (λ z. member z (firsts xs) ≡ true) (concat (map next xs)) y (mentions-has [] (0 ∷ concat (map next xs))).1
      (concat-member next xs x y (closed xs h x r) m))

  -- and so is the list itself
  ends : (xs : List ℕ) {zs : List ℕ} → InOrder next zs → Begins xs zs → length (firsts xs) ≤ length xs → zs ≡ xs
  unfolding Distinct
  ends xs {zs} i b l =
      let c = onto xs i.order b in
      let d : Distinct zs = rw i.order (mentions-distinct [] (0 ∷ concat (map next zs)) tt) in
      let here : (y : ℕ) → member y (firsts xs) ≡ true → member y xs ≡ true =
      λ y. within xs (firsts xs) b.rest c.rest y (sym b.is ∙ c.is) l in
      b.is
      ∙ all_there xs b.rest (rw (← b.is) d)
      (λ y h. closed xs here y (i.reached y (rw b.is h)))

  -- from a beginning of both on, with so many members to come at most
  climb : (n : ℕ) (zs : List ℕ) {xs ys : List ℕ} → InOrder next xs → InOrder next ys → Begins zs xs → Begins zs ys →
      length xs ≤ n + length zs → xs ≡ ys
  climb zero zs i j b c l =
      let o = onto zs i.order b in
      let few : length (firsts zs) ≤ length zs = omega (arith, ap length o.is, length-append (firsts zs) o.rest) in
      ends zs i b few ∙ sym (ends zs j c few)
  climb (suc n) zs {xs} {ys} i j b c l =
      go (ltb (length zs) (length (firsts zs))) refl (climb n (firsts zs) i j (onto zs i.order b) (onto zs j.order c))
    where
      go : (t : Bool) → ltb (length zs) (length (firsts zs)) ≡ t → (length xs ≤ n + length (firsts zs) → xs ≡ ys) → xs ≡ ys
      go true e k = let h : length zs < length (firsts zs) = ltb-true _ _ e in k (omega arith)
      go false e k = let few : length (firsts zs) ≤ length zs = ltb-false _ _ e in ends zs i b few ∙ sym (ends zs j c few)

pub unique : Unique
unique next xs ys i j =
    climb next (length xs) [] i j (record { rest = xs; is = refl }) (record { rest = ys; is = refl }) (omega arith)
