-- Lists in pairs, and that what a choice does to the lists of threads it does to pairs of them alike.
use Prim.Native.Nat.{ℕ, zero, suc, ◌-◌}
use mathlib.Core.Path.{◌≡◌, refl}
use mathlib.Core.Option.{some}
use mathlib.Core.List.{List, [], ◌∷◌, ◌++◌}
use native.Mathlib.Numerals.{unary_clauses}
use native.Mathlib.Omega.{arith}
use lib.ListN.{length, get_elem?, drop, length-append}
use lib.Seq.{take-append_seam}
use Rattle.model.specs.Numbers as No
use Rattle.model.proofs.Facts.{none-some, some-injective}
use Rattle.sporks.specs.Openers.{front, turn, on_list}
use Rattle.sporks.specs.Handed.{Paired}
use Rattle.sporks.proofs.Turns.{turn-spork, turn-unpr, turn-prom, turn-promote, turn-other, Kind, kind}

pub front-snoc : {A : Type 0} (xs : List A) (x : A) → front (xs ++ (x ∷ [])) ≡ xs
unfolding front
front-snoc xs x =
    let n : length (xs ++ (x ∷ [])) - 1 ≡ length xs = omega (arith, length-append xs (x ∷ [])) in
    rw n (take-append_seam xs (x ∷ []))

front-cons : {A : Type 0} (x y : A) (xs : List A) → front (x ∷ y ∷ xs) ≡ x ∷ front (y ∷ xs)
unfolding front
front-cons x y xs = simp unary_clauses refl

module _ {A B : Type 0} where
  module _ {R S : A → B → Type 0} (f : (x : A) (y : B) → R x y → S x y) where
    pub paired-map : (xs : List A) (ys : List B) → Paired R xs ys → Paired S xs ys
    paired-map [] [] h = tt
    paired-map [] (y ∷ ys) h = h
    paired-map (x ∷ xs) [] h = h
    paired-map (x ∷ xs) (y ∷ ys) h = (f x y h.0, paired-map xs ys h.1)

  module _ (R : A → B → Type 0) where
    -- one more at the end, and one less
    paired-snoc : (xs : List A) (ys : List B) {x : A} {y : B} → Paired R xs ys → R x y →
        Paired R (xs ++ (x ∷ [])) (ys ++ (y ∷ []))
    paired-snoc [] [] h r = (r, tt)
    paired-snoc [] (y ∷ ys) h r = absurd h
    paired-snoc (x ∷ xs) [] h r = absurd h
    paired-snoc (x ∷ xs) (y ∷ ys) h r = (h.0, paired-snoc xs ys h.1 r)

    paired-front : (xs : List A) (ys : List B) → Paired R xs ys → Paired R (front xs) (front ys)
    unfolding front
    paired-front [] [] h = tt
    paired-front [] (y ∷ ys) h = absurd h
    paired-front (x ∷ xs) [] h = absurd h
    paired-front (x ∷ []) (y ∷ []) h = tt
    paired-front (x ∷ []) (y ∷ z ∷ ys) h = absurd h.1
    paired-front (x ∷ w ∷ xs) (y ∷ []) h = absurd h.1
    paired-front (x ∷ w ∷ xs) (y ∷ z ∷ ys) h =
        rw (front-cons x w xs, front-cons y z ys) (h.0, paired-front (w ∷ xs) (z ∷ ys) h.1)

    paired-drop : (xs : List A) (ys : List B) → Paired R xs ys → Paired R (drop 1 xs) (drop 1 ys)
    paired-drop [] [] h = tt
    paired-drop [] (y ∷ ys) h = absurd h
    paired-drop (x ∷ xs) [] h = absurd h
    paired-drop (x ∷ xs) (y ∷ ys) h = h.1

    pub paired_at : (xs : List A) (ys : List B) (i : ℕ) {y : B} → Paired R xs ys → get_elem? ys i ≡ some y →
        (x : A) × (get_elem? xs i ≡ some x) × R x y
    paired_at [] [] i h e = none-some e
    paired_at [] (y ∷ ys) i h e = absurd h
    paired_at (x ∷ xs) [] i h e = absurd h
    paired_at (x ∷ xs) (z ∷ ys) zero h e = (x, refl, rw (← some-injective e) h.0)
    paired_at (x ∷ xs) (z ∷ ys) (suc i) h e = paired_at xs ys i h.1 e

-- lists of lists in pairs
abbrev pub Paired² : {A B : Type 0} → (A → B → Type 0) → List (List A) → List (List B) → Type 0
Paired² R xss yss = Paired (Paired R) xss yss

module _ {A B : Type 0} (R : A → B → Type 0) (a : A) (b : B) where
  -- what a rule makes of pairs are pairs, where that of a spork are one
  module _ (xs : List A) (ys : List B) (xss : List (List A)) (yss : List (List B)) (h : Paired R xs ys) (k : Paired² R xss yss) where
    paired-kind : (rule : ℕ) → (rule ≡ No.spork → R a b) → Kind rule → Paired² R (turn a rule xs xss) (turn b rule ys yss)
    paired-kind rule r (Kind.spork e) = rw (e, turn-spork a xs xss, turn-spork b ys yss) (paired-snoc R xs ys h (r e), k)
    paired-kind rule r (Kind.unpr e) = rw (e, turn-unpr a xs xss, turn-unpr b ys yss) (paired-front R xs ys h, k)
    paired-kind rule r (Kind.prom e) =
        rw (e, turn-prom a xs xss, turn-prom b ys yss) (paired-front R xs ys h, paired-drop (Paired R) xss yss k)
    paired-kind rule r (Kind.promote e) = rw (e, turn-promote a xs xss, turn-promote b ys yss) (h, (tt, k))
    paired-kind rule r (Kind.other s u p m) = rw (turn-other a xs xss rule s u p m, turn-other b ys yss rule s u p m) (h, k)

  pub paired-on : (rule : ℕ) → (rule ≡ No.spork → R a b) → (i : ℕ) (xss : List (List A)) (yss : List (List B)) → Paired² R xss yss →
      Paired² R (on_list (turn a rule) i xss) (on_list (turn b rule) i yss)
  unfolding on_list
  paired-on rule r i [] [] h = tt
  paired-on rule r i [] (ys ∷ yss) h = absurd h
  paired-on rule r i (xs ∷ xss) [] h = absurd h
  paired-on rule r zero (xs ∷ xss) (ys ∷ yss) h = paired-kind xs ys xss yss h.0 h.1 rule r (kind rule)
  paired-on rule r (suc i) (xs ∷ xss) (ys ∷ yss) h = (h.0, paired-on rule r i xss yss h.1)
