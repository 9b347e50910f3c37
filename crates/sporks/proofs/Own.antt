-- The laws of the openers alone, whatever the table and the choices. Before choice n every opener is below n, each thread's ascend, and
-- no two threads have one in common; following a choice keeps that.
use Prim.Native.Nat.{ℕ, zero, suc, ◌+◌, ◌-◌, ◌<◌}
use mathlib.Core.Path.{◌≡◌, refl, subst}
use mathlib.Core.Logic.{◌≢◌}
use mathlib.Core.Option.{Option, none, some}
use mathlib.Core.List.{List, [], ◌∷◌, ◌++◌}
use native.Mathlib.Nat.{le_of_suc-le-suc, not-suc-le-zero}
use native.Mathlib.Omega.{arith}
use lib.ListN.{length, get_elem?, take, drop}
use Rattle.model.specs.Answers.{Answer}
use Rattle.model.specs.Lists.{Each}
use Rattle.model.specs.Frames.{◌>>=◌}
use Rattle.model.proofs.Facts.{none-some, some-injective, each_map, each_both, each_append, each_take, each_at}
use Rattle.sporks.specs.Openers.{Reply, front, turn, on_list, follow, follows, openers, opener, Own}
use Rattle.sporks.proofs.Turns.{turn-spork, turn-unpr, turn-prom, turn-promote, turn-other, Kind, kind}

-- each is below those behind it
abbrev Ascends : List ℕ → Type 0
Ascends [] = Unit {0}
Ascends (x ∷ xs) = Each (λ y. x < y) xs × Ascends xs

-- no number is in both
abbrev Disjoint : List ℕ → List ℕ → Type 0
Disjoint xs ys = Each (λ y. Each (λ x. x ≢ y) xs) ys

-- no number is in two of the lists
abbrev Apart : List (List ℕ) → Type 0
Apart [] = Unit {0}
Apart (xs ∷ xss) = Each (Disjoint xs) xss × Apart xss

-- a thread's openers before choice n
record Sorted (n : ℕ) (xs : List ℕ) : Type 0 where
  below : Each (λ x. x < n) xs
  ascends : Ascends xs

record Good (n : ℕ) (xss : List (List ℕ)) : Type 0 where
  sorted : Each (Sorted n) xss
  apart : Apart xss

each-rest : {A : Type 0} (P : A → Type 0) (xs : List A) → Each P xs → Each P (drop 1 xs)
each-rest P [] h = tt
each-rest P (x ∷ xs) h = h.1

ascends-take : (k : ℕ) (xs : List ℕ) → Ascends xs → Ascends (take k xs)
ascends-take zero xs h = tt
ascends-take (suc k) [] h = tt
ascends-take (suc k) (x ∷ xs) h = (each_take (λ y. x < y) k xs h.0, ascends-take k xs h.1)

ascends-last : (n : ℕ) (xs : List ℕ) → Each (λ x. x < n) xs → Ascends xs → Ascends (xs ++ (n ∷ []))
ascends-last n [] b h = (tt, tt)
ascends-last n (x ∷ xs) b h = (each_append (λ y. x < y) xs (n ∷ []) h.0 (b.0, tt), ascends-last n xs b.1 h.1)

disjoint-front : (xs ys : List ℕ) → Disjoint xs ys → Disjoint (front xs) ys
unfolding front
disjoint-front xs ys d = each_map (λ y h. each_take (λ x. x ≢ y) (length xs - 1) xs h) ys d

apart-rest : (xss : List (List ℕ)) → Apart xss → Apart (drop 1 xss)
apart-rest [] h = tt
apart-rest (xs ∷ xss) h = h.1

-- what a choice may make of one list: it stays, loses the last, or gets the fresh number n
module _ (n : ℕ) where
  sorted-same : (xs : List ℕ) → Sorted n xs → Sorted (n + 1) xs
  sorted-same xs h = record { below = each_map (λ x b. omega arith) xs h.below; ascends = h.ascends }

  sorted_front : (xs : List ℕ) → Sorted n xs → Sorted n (front xs)
  unfolding front
  sorted_front xs h =
      record { below = each_take (λ x. x < n) (length xs - 1) xs h.below; ascends = ascends-take (length xs - 1) xs h.ascends }

  sorted-last : (xs : List ℕ) → Sorted n xs → Sorted (n + 1) (xs ++ (n ∷ []))
  sorted-last xs h =
      record {
        below = each_append (λ x. x < n + 1) xs (n ∷ []) (sorted-same xs h).below (omega arith, tt);
        ascends = ascends-last n xs h.below h.ascends;
      }

  sorted_none : Sorted (n + 1) []
  sorted_none = record { below = tt; ascends = tt }

  -- n is in no list
  fresh : (xs : List ℕ) → Sorted n xs → Each (λ x. x ≢ n) xs
  fresh xs h = each_map (λ x b e. omega arith) xs h.below

  -- a law of the lists that a rule leaves, from its five cases
  turn-cases : (Q : List (List ℕ) → Type 0) (rule : ℕ) (xs : List ℕ) (xss : List (List ℕ)) → Q ((xs ++ (n ∷ [])) ∷ xss) →
      Q (front xs ∷ xss) → Q (front xs ∷ drop 1 xss) → Q (xs ∷ [] ∷ xss) → Q (xs ∷ xss) → Q (turn n rule xs xss)
  turn-cases Q rule xs xss spork unpr prom promote other = go (kind rule)
    where
      go : Kind rule → Q (turn n rule xs xss)
      go (Kind.spork e) = rw (e, turn-spork n xs xss) spork
      go (Kind.unpr e) = rw (e, turn-unpr n xs xss) unpr
      go (Kind.prom e) = rw (e, turn-prom n xs xss) prom
      go (Kind.promote e) = rw (e, turn-promote n xs xss) promote
      go (Kind.other s u p m) = rw (turn-other n xs xss rule s u p m) other

  -- what holds of each list after a choice, where it held of each before
  module _ (P Q : List ℕ → Type 0) (same : (xs : List ℕ) → P xs → Q xs) (less : (xs : List ℕ) → P xs → Q (front xs))
      (more : (xs : List ℕ) → P xs → Q (xs ++ (n ∷ []))) (new : Q []) where
    each-turned : (rule i : ℕ) (xss : List (List ℕ)) → Each P xss → Each Q (on_list (turn n rule) i xss)
    unfolding on_list
    each-turned rule i [] h = tt
    each-turned rule zero (xs ∷ xss) h =
        let rest : Each Q xss = each_map same xss h.1 in
        turn-cases (Each Q) rule xs xss (more xs h.0, rest) (less xs h.0, rest) (less xs h.0, each-rest Q xss rest)
        (same xs h.0, (new, rest)) (same xs h.0, rest)
    each-turned rule (suc i) (xs ∷ xss) h = (same xs h.0, each-turned rule i xss h.1)

  disjoint-last : (xs ys : List ℕ) → Sorted n ys × Disjoint xs ys → Disjoint (xs ++ (n ∷ [])) ys
  disjoint-last xs ys (s, d) =
      each_map (λ y (b, h). each_append (λ x. x ≢ y) xs (n ∷ []) h ((λ e. omega arith), tt)) ys
      (each_both (λ y. y < n) (λ y. Each (λ x. x ≢ y) xs) ys s.below d)

  apart-turned : (rule i : ℕ) (xss : List (List ℕ)) → Each (Sorted n) xss → Apart xss → Apart (on_list (turn n rule) i xss)
  unfolding on_list front
  apart-turned rule i [] s a = tt
  apart-turned rule zero (xs ∷ xss) s a =
      let less : Each (Disjoint (front xs)) xss = each_map (disjoint-front xs) xss a.0 in
      let empty : Each (Disjoint []) xss = each_map (λ ys d. each_map (λ y h. tt) ys d) xss a.0 in
      turn-cases Apart rule xs xss
      (each_map (disjoint-last xs) xss (each_both (Sorted n) (Disjoint xs) xss s.1 a.0), a.1)
      (less, a.1)
      (each-rest (Disjoint (front xs)) xss less, apart-rest xss a.1)
      ((tt, a.0), (empty, a.1))
      a
  apart-turned rule (suc i) (xs ∷ xss) s a = (
    each-turned (Disjoint xs) (Disjoint xs) (λ ys d. d)
        (λ ys d. each_take (λ y. Each (λ x. x ≢ y) xs) (length ys - 1) ys d)
        (λ ys d. each_append (λ y. Each (λ x. x ≢ y) xs) ys (n ∷ []) d (fresh xs s.0, tt))
        tt rule i xss a.0,
    apart-turned rule i xss s.1 a.1,
  )

  follow-good : (a : Answer ℕ) (i : ℕ) (xss : List (List ℕ)) → Good n xss → Good (n + 1) (follow n a i xss)
  unfolding follow
  follow-good (Answer.given rule) i xss h =
      record {
        sorted =
            each-turned (Sorted n) (Sorted (n + 1)) sorted-same (λ xs s. sorted-same (front xs) (sorted_front xs s)) sorted-last
            sorted_none rule i xss h.sorted;
        apart = apart-turned rule i xss h.sorted h.apart;
      }
  follow-good (Answer.refused r) i xss h = record { sorted = each_map sorted-same xss h.sorted; apart = h.apart }

follows-good : (n : ℕ) (xss : List (List ℕ)) (rs : List Reply) → Good n xss → Good (n + length rs) (follows n xss rs)
unfolding follows
follows-good n xss [] h = let e : n + 0 ≡ n = omega arith in rw e h
follows-good n xss (r ∷ rs) h =
    let e : n + suc (length rs) ≡ n + 1 + length rs = omega arith in
    rw e (follows-good (n + 1) _ rs (follow-good n r.answer r.thread xss h))

-- from there to the positions
ascends-at : (xs : List ℕ) (j j' : ℕ) {m m' : ℕ} → Ascends xs → get_elem? xs j ≡ some m → get_elem? xs j' ≡ some m' → j < j' → m < m'
ascends-at [] j j' h e e' l = none-some e
ascends-at (x ∷ xs) j zero h e e' l = absurd (not-suc-le-zero l)
ascends-at (x ∷ xs) zero (suc j') {m} {m'} h e e' l =
    subst (λ (y : ℕ). y < m') (some-injective e) (each_at (λ y. x < y) xs j' h.0 e')
ascends-at (x ∷ xs) (suc j) (suc j') h e e' l = ascends-at xs j j' h.1 e e' (le_of_suc-le-suc l)

apart-at : (xss : List (List ℕ)) (i i' : ℕ) {xs ys : List ℕ} → Apart xss → get_elem? xss i ≡ some xs → get_elem? xss i' ≡ some ys →
    i < i' → Disjoint xs ys
apart-at [] i i' h e e' l = none-some e
apart-at (zs ∷ xss) i zero h e e' l = absurd (not-suc-le-zero l)
apart-at (zs ∷ xss) zero (suc i') {xs} {ys} h e e' l =
    subst (λ (l : List ℕ). Disjoint l ys) (some-injective e) (each_at (Disjoint zs) xss i' h.0 e')
apart-at (zs ∷ xss) (suc i) (suc i') h e e' l = apart-at xss i i' h.1 e e' (le_of_suc-le-suc l)

module _ (rs : List Reply) where
  good : Good (length rs) (openers rs)
  unfolding openers
  good =
      let e : 0 + length rs ≡ length rs = omega arith in
      rw e at (follows-good 0 ([] ∷ []) rs
      (record { sorted = (record { below = tt; ascends = tt }, tt); apart = (tt, tt) }))

  -- the list that an opener is in
  record Listed (i j m : ℕ) : Type 0 where
    list : List ℕ
    there : get_elem? (openers rs) i ≡ some list
    is : get_elem? list j ≡ some m

  listed : (i j m : ℕ) → opener rs i j ≡ some m → Listed i j m
  unfolding opener
  listed i j m e = go (get_elem? (openers rs) i) refl e
    where
      go : (o : Option (List ℕ)) → get_elem? (openers rs) i ≡ o → ◌>>=◌ o (λ xs. get_elem? xs j) ≡ some m → Listed i j m
      go none t e = none-some e
      go (some xs) t e = record { list = xs; there = t; is = e }

  sorted-at : (i j m : ℕ) (l : Listed i j m) → Sorted (length rs) l.list
  sorted-at i j m l = each_at (Sorted (length rs)) (openers rs) i good.sorted l.there

  ordered : (i j j' m m' : ℕ) → Listed i j m → Listed i j' m' → j < j' → m < m'
  ordered i j j' m m' l l' h =
      let e : l.list ≡ l'.list = cc in
      ascends-at l.list j j' (sorted-at i j m l).ascends l.is (rw e l'.is) h

  -- two threads have none in common
  elsewhere : (i j i' j' m : ℕ) → Listed i j m → Listed i' j' m → i < i' → ⊥
  elsewhere i j i' j' m l l' h =
      each_at (λ x. x ≢ m) l.list j
      (each_at (λ y. Each (λ x. x ≢ y) l.list) l'.list j'
      (apart-at (openers rs) i i' good.apart l.there l'.there h) l'.is) l.is refl

  once : (i j i' j' m : ℕ) → Listed i j m → Listed i' j' m → (i ≡ i') × (j ≡ j')
  once i j i' j' m l l' =
      let before : i < i' → ⊥ = elsewhere i j i' j' m l l' in
      let behind : i' < i → ⊥ = elsewhere i' j' i j m l' l in
      let p : i ≡ i' = omega arith in
      let k : Listed i j' m = rw p l' in
      let less : j < j' → ⊥ = λ h. omega (arith, ordered i j j' m m l k h) in
      let more : j' < j → ⊥ = λ h. omega (arith, ordered i j' j m m k l h) in
      (p, omega arith)

pub openers-own : (rs : List Reply) → Own rs
openers-own rs =
    record {
      within = λ i j m e.
          let l : Listed rs i j m = listed rs i j m e in
          each_at (λ x. x < length rs) l.list j (sorted-at rs i j m l).below l.is;
      ordered = λ i j j' m m' e e'. ordered rs i j j' m m' (listed rs i j m e) (listed rs i j' m' e');
      once = λ i j i' j' m e e'. once rs i j i' j' m (listed rs i j m e) (listed rs i' j' m e');
    }
