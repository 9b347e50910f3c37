-- The list: with nothing kept, and what a mention does to it. Then laws of `Adds`: no names, names after others, equal names.
use Prim.Native.Nat.{ℕ, zero, suc, ◌≤◌, ◌+◌, ◌<◌, min}
use mathlib.Core.Path.{◌≡◌, refl, sym, ◌∙◌, subst}
use mathlib.Core.Bool.{Bool, true, false, cond}
use mathlib.Core.Option.{some}
use mathlib.Core.List.{List, [], ◌∷◌, ◌++◌}
use native.Mathlib.Omega.{arith}
use lib.Dec.{eqb, ltb}
use lib.ListN.{length, get_or, get_elem?, drop, set}
use lib.ListN.{length-append, length-set, length-replicate, get_or-replicate, drop_of_length-le, get_or-append}
use lib.Seq.{get_or-set_same, get_or-set_other, get_or_at}
use Rattle.model.proofs.Facts.{drop-some, eqb-true, eqb-false, ltb-true, ltb-false, each_left, each_right}
use Rattle.code.specs.Bytes.{byte_at}
use Rattle.numbering.specs.Tidy.{member, Distinct, mention, mentions, place}
use Rattle.numbering.proofs.Lists.{distinct-few, distinct-room, mention-old, mention-new, mention-member, mention-has, mention-each}
use Rattle.numbering.proofs.Lists.{mention-distinct, mention-begins, mention-place, mentions-append, place-below, begins-place}
use Rattle.kept.specs.declared.Kept.{Kept}
use Rattle.kept.specs.Kept.{most, absent, nothing, number_in, Lists, Adds}

-- nothing is kept
pub lists-nothing : Lists nothing []
unfolding nothing member Distinct
lists-nothing =
    record {
      room = length-replicate {A = ℕ} most absent;
      sized = length-replicate {A = ℕ} most absent;
      count = refl;
      each = tt;
      distinct = tt;
      order = λ i h. absurd (omega arith);
      numbers = λ x h. get_or-replicate most x absent 0 h;
    }

-- what stands below the end
at-get_or : (xs : List ℕ) (i : ℕ) → i < length xs → get_elem? xs i ≡ some (get_or xs i 0)
at-get_or [] i h = absurd (omega arith)
at-get_or (x ∷ xs) zero h = refl
at-get_or (x ∷ xs) (suc i) h = at-get_or xs i (omega arith)

-- the number at an index, and those from there on; from the end on there are none
module _ {list : Kept} {xs : List ℕ} (l : Lists list xs) {i : ℕ} where
  pub lists_at : {x : ℕ} → i < list.count → x ≡ byte_at list.order i → get_elem? xs i ≡ some x
  lists_at h e = at-get_or xs i (omega (arith, l.count)) ∙ rw (e, l.order i h)

  pub lists-from : {x : ℕ} → i < list.count → x ≡ byte_at list.order i → drop i xs ≡ x ∷ drop (i + 1) xs
  lists-from h e = drop-some xs i (lists_at h e)

  pub lists-past : list.count ≤ i → drop i xs ≡ []
  lists-past h = drop_of_length-le xs {i = i} (omega (arith, l.count))

module _ {list : Kept} {xs : List ℕ} (l : Lists list xs) (x : ℕ) (h : x < most) where
  -- a number that is listed has a new number; one that is not has none
  listed : (number_in list x ≡ absent → ⊥) → member x xs ≡ true
  listed k = go (member x xs) refl
    where
      go : (b : Bool) → member x xs ≡ b → member x xs ≡ true
      go true e = e
      go false e = absurd (k (l.numbers x h ∙ rw e))

  unlisted : number_in list x ≡ absent → member x xs ≡ false
  unlisted k = go (member x xs) refl
    where
      go : (b : Bool) → member x xs ≡ b → member x xs ≡ false
      go true e =
          let z : place xs x ≡ absent = sym (l.numbers x h ∙ rw e) ∙ k in
          absurd (omega (arith, place-below xs x e, distinct-few most xs l.distinct l.each))
      go false e = e

  -- the list after a mention of one that is not there yet
  module _ (new : member x xs ≡ false) where
    has-room : list.count < most
    has-room = omega (arith, l.count, distinct-room most xs x l.distinct l.each new h)

    new-order : (i : ℕ) → i < list.count + 1 → byte_at (set list.order list.count x) i ≡ get_or (mention xs x) i 0
    new-order i k = rw (mention-new xs x new) (go (ltb i list.count) refl)
      where
        go : (b : Bool) → ltb i list.count ≡ b → byte_at (set list.order list.count x) i ≡ get_or (xs ++ (x ∷ [])) i 0
        go true e =
            let j : i < list.count = ltb-true i list.count e in
            get_or-set_other list.order list.count i x 0 (λ e. omega arith) ∙ l.order i j
            ∙ sym (get_or-append xs (x ∷ []) 0 i (omega (arith, l.count)))
        go false e =
            let j : i ≡ list.count = omega (arith, ltb-false i list.count e) in
            rw j (get_or-set_same list.order list.count x 0 (omega (arith, l.room, has-room))
            ∙ sym (get_or_at xs x [] 0 list.count (sym l.count)))

    others : (y : ℕ) → eqb y x ≡ false → (b : Bool) → member y xs ≡ b
        → cond b (place xs y) absent ≡ cond (member y (mention xs x)) (place (mention xs x) y) absent
    others y e true m = sym (rw (mention-member xs x y, m) (begins-place (mention-begins xs x) y m))
    others y e false m = rw (mention-member xs x y, m, e)

    new-numbers : (y : ℕ) → y < most
        → byte_at (set list.numbers x list.count) y ≡ cond (member y (mention xs x)) (place (mention xs x) y) absent
    new-numbers y k = go (eqb y x) refl
      where
        go : (b : Bool) → eqb y x ≡ b
            → byte_at (set list.numbers x list.count) y ≡ cond (member y (mention xs x)) (place (mention xs x) y) absent
        go true e =
            let z : y ≡ x = eqb-true y x e in
            rw z
            (get_or-set_same list.numbers x list.count 0 (omega (arith, l.sized))
            ∙ l.count
            ∙ sym (rw (mention-has xs x) (mention-place xs x new)))
        go false e =
            let z : y ≡ x → ⊥ = eqb-false y x e in
            get_or-set_other list.numbers x y list.count 0 (λ w. omega arith)
            ∙ l.numbers y k
            ∙ others y e (member y xs) refl

    lists-new :
        Lists record { order = set list.order list.count x; numbers = set list.numbers x list.count; count = list.count + 1 } (mention xs x)
    lists-new =
        record {
          room = length-set list.order list.count x ∙ l.room;
          sized = length-set list.numbers x list.count ∙ l.sized;
          count = rw (mention-new xs x new) (omega (arith, l.count, length-append xs (x ∷ [])));
          each = mention-each (λ y. y < most) xs x l.each h;
          distinct = mention-distinct xs x l.distinct;
          order = new-order;
          numbers = new-numbers;
        }

-- a mention of one that is there, and of one that is not
pub stays : {list : Kept} {x k : ℕ} → k ≡ number_in list x → (k ≡ absent → ⊥) → Adds list (x ∷ []) list
unfolding mentions
stays {list} {x} e h = record { is = λ xs l g. rw (mention-old xs x (listed l x g.0 (λ z. h (e ∙ z)))) l }

pub comes : {list : Kept} {order numbers : List ℕ} {x k r : ℕ} → k ≡ number_in list x → k ≡ absent → order ≡ set list.order list.count x
    → numbers ≡ set list.numbers x list.count → r ≡ min (list.count + 1) 255
    → Adds list (x ∷ []) record { order = order; numbers = numbers; count = r }
unfolding mentions
comes {list} {order} {numbers} {x} {k} {r} e h p q d =
    record {
      is = λ xs l g.
          let new : member x xs ≡ false = unlisted l x g.0 (sym e ∙ h) in
          let w : r ≡ list.count + 1 = omega (arith, has-room l x g.0 new) in
          rw (q, p, w) (lists-new l x g.0 new);
    }

-- no names
pub no_names : {list : Kept} → Adds list [] list
unfolding mentions
no_names = record { is = λ xs l h. l }

-- names after others
pub then : {list a b : Kept} {xs ys : List ℕ} → Adds list xs a → Adds a ys b → Adds list (xs ++ ys) b
then {list} {a} {b} {xs} {ys} p q =
    record {
      is = λ zs l h.
          rw (mentions-append zs xs ys)
          (q.is (mentions zs xs) (p.is zs l (each_left _ xs ys h)) (each_right _ xs ys h));
    }

-- equal names
pub same : {list a : Kept} {xs ys : List ℕ} → Adds list xs a → xs ≡ ys → Adds list ys a
same {list} {a} {xs} {ys} p e = subst (λ (zs : List ℕ). Adds list zs a) e p
