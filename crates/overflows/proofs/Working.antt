-- Working out an expression gives a value, an overflow or nothing, each exactly where it is meant.
use Prim.Native.Nat.{ℕ, ◌^◌, ◌≤◌, ◌<◌}
use mathlib.Core.Path.{◌≡◌, refl, sym, ◌∙◌, ap, subst}
use mathlib.Core.Logic.{◌⊎◌, inl, inr}
use mathlib.Core.Bool.{Bool, true, false, not, cond}
use mathlib.Core.Option.{Option, none, some}
use native.Mathlib.Omega.{arith}
use lib.Dec.{T, leb}
use lib.IntN.{ℤ, pos, negsuc, ◌+ℤ◌, neg_ℤ}
use lib.Signed.{lt_z, ◌≤ℤ◌, ◌<ℤ◌, lt_z_yes, lt_z_no, clash_ℤ}
use Rattle.model.specs.Lists.{Each}
use Rattle.model.specs.Values as Values
use Rattle.model.specs.Values.{Worked, fits, worked}
use Rattle.model.specs.Sets.{has, ◌∈◌}
use Rattle.model.specs.Syntax.{Atom, Expression, uses_atom, uses}
use Rattle.model.specs.Pool.{Frame}
use Rattle.model.specs.Frames.{◌>>=◌, when, look, eval_atom, eval}
use Rattle.model.proofs.Facts.{none-some, some-injective, each_append, ltb-true, leb-true, le-leb, lt-ltb}
use Rattle.safety.proofs.Frames.{eval-bound}
use Rattle.overflows.specs.Means.{Fits, Is, Gives, Overflow, Bound, Working}

-- a number fits exactly where the test says so
yes : (b : Bool) → b ≡ true → T b
yes b e = subst T (sym e) tt

is_true : (b : Bool) → T b → b ≡ true
is_true true h = refl
is_true false h = absurd h

fits-true : (z : ℤ) → fits z ≡ true → Fits z
unfolding fits
fits-true (pos n) e =
    let h : n < 2 ^ 31 = ltb-true n (2 ^ 31) e in (record { le = tt }, record { le = yes _ (le-leb n 2147483647 (omega arith)) })
fits-true (negsuc n) e =
    let h : n < 2 ^ 31 = ltb-true n (2 ^ 31) e in (record { le = yes _ (le-leb n 2147483647 (omega arith)) }, record { le = tt })

fits-is : (z : ℤ) → Fits z → fits z ≡ true
unfolding fits
fits-is (pos n) (l, h) =
    let m : n ≤ 2147483647 = leb-true n 2147483647 (is_true (leb n 2147483647) h.le) in lt-ltb n (2 ^ 31) (omega arith)
fits-is (negsuc n) (l, h) =
    let m : n ≤ 2147483647 = leb-true n 2147483647 (is_true (leb n 2147483647) l.le) in lt-ltb n (2 ^ 31) (omega arith)

-- what fits is a value, and nothing else
worked-value : (z v : ℤ) → worked z ≡ Worked.value v → (v ≡ z) × Fits v
unfolding worked
worked-value z v e = go (fits z) refl e
  where
    go : (b : Bool) → fits z ≡ b → cond b (Worked.value z) Worked.overflow ≡ Worked.value v → (v ≡ z) × Fits v
    go true q h = let s : v ≡ z = cc in (s, subst Fits (sym s) (fits-true z q))
    go false q h = absurd (let o : ◌≡◌ {A = ℕ} 0 1 = cc in omega arith)

value-worked : (z v : ℤ) → v ≡ z → Fits v → worked z ≡ Worked.value v
unfolding worked
value-worked z v e f = rw (fits-is z (subst Fits e f)) (ap Worked.value (sym e))

worked-overflow : (z : ℤ) → worked z ≡ Worked.overflow → ¬ Fits z
unfolding worked
worked-overflow z e f =
    let s : worked z ≡ Worked.value z = value-worked z z refl f in
    let o : ◌≡◌ {A = ℕ} 0 1 = cc in
    omega arith

overflow-worked : (z : ℤ) → ¬ Fits z → worked z ≡ Worked.overflow
unfolding worked
overflow-worked z n = go (fits z) refl
  where
    go : (b : Bool) → fits z ≡ b → cond b (Worked.value z) Worked.overflow ≡ Worked.overflow
    go true q = absurd (n (fits-true z q))
    go false q = refl

-- an expression of one operand, and of two: what they come to comes of values
module _ (f : ℤ → Worked) where
  one_of : (o : Option ℤ) {w : Worked} → (◌>>=◌ o λ v. some (f v)) ≡ some w → (v : ℤ) × (o ≡ some v) × (f v ≡ w)
  one_of none e = none-some e
  one_of (some v) e = (v, refl, some-injective e)

module _ (f : ℤ → ℤ → Worked) where
  two-of : (o p : Option ℤ) {w : Worked} → (◌>>=◌ o λ u. ◌>>=◌ p λ v. some (f u v)) ≡ some w →
      (u : ℤ) × (v : ℤ) × (o ≡ some u) × (p ≡ some v) × (f u v ≡ w)
  two-of none p e = none-some e
  two-of (some u) none e = none-some e
  two-of (some u) (some v) e = (u, v, refl, refl, some-injective e)

value-injective : {u v : ℤ} → Worked.value u ≡ Worked.value v → u ≡ v
value-injective e = cc

-- a comparison
less-is : (u w v : ℤ) → Values.less u w ≡ v → ((u <ℤ w) × (v ≡ pos 1)) ⊎ ((w ≤ℤ u) × (v ≡ pos 0))
unfolding Values.less
less-is u w v e = go (lt_z u w) refl e
  where
    go : (b : Bool) → lt_z u w ≡ b → cond b (pos 1) (pos 0) ≡ v → ((u <ℤ w) × (v ≡ pos 1)) ⊎ ((w ≤ℤ u) × (v ≡ pos 0))
    go true q h = inl (lt_z_yes (yes _ q), sym h)
    go false q h = inr (lt_z_no (subst T (sym (ap not q)) tt), sym h)

less-yes : (u w : ℤ) → u <ℤ w → Values.less u w ≡ pos 1
unfolding Values.less
less-yes u w h = rw (is_true (lt_z u w) h.lt)

less-no : (u w : ℤ) → w ≤ℤ u → Values.less u w ≡ pos 0
unfolding Values.less
less-no u w h = go (lt_z u w) refl
  where
    go : (b : Bool) → lt_z u w ≡ b → cond b (pos 1) (pos 0) ≡ pos 0
    go true q = clash_ℤ (lt_z_yes (yes _ q)) h
    go false q = refl

-- the temporaries of what comes to anything are bound
atom-uses : (k : Frame) (m : Atom) {v : ℤ} → Is k m v → Each (λ x. x ∈ k.bound) (uses_atom m)
unfolding eval_atom uses_atom look when
atom-uses k (Atom.value u) e = tt
atom-uses k (Atom.temporary x) e = (go _ (has k.bound x) refl e, tt)
  where
    go : (o : Option ℤ) {v : ℤ} (b : Bool) → has k.bound x ≡ b → when b o ≡ some v → has k.bound x ≡ true
    go o true q h = q
    go o false q h = none-some h

module _ (k : Frame) where
  worked-bound : (e : Expression) (w : Worked) → eval k e ≡ some w → Bound k e
  unfolding eval uses
  worked-bound (Expression.atom m) w e = let r = one_of Worked.value (eval_atom k m) e in atom-uses k m r.1
  worked-bound (Expression.minus m) w e = let r = one_of Values.minus (eval_atom k m) e in atom-uses k m r.1
  worked-bound (Expression.plus m n) w e =
      let r = two-of Values.plus (eval_atom k m) (eval_atom k n) e in
      each_append _ (uses_atom m) (uses_atom n) (atom-uses k m r.2) (atom-uses k n r.3)
  worked-bound (Expression.less m n) w e =
      let r = two-of (λ u v. Worked.value (Values.less u v)) (eval_atom k m) (eval_atom k n) e in
      each_append _ (uses_atom m) (uses_atom n) (atom-uses k m r.2) (atom-uses k n r.3)

  gives : (e : Expression) (v : ℤ) → eval k e ≡ some (Worked.value v) → Gives k v e
  unfolding eval Values.minus Values.plus
  gives (Expression.atom m) v e =
      let r = one_of Worked.value (eval_atom k m) e in Gives.atom (r.1 ∙ ap some (value-injective r.2))
  gives (Expression.minus m) v e =
      let r = one_of Values.minus (eval_atom k m) e in
      let w = worked-value (neg_ℤ r.0) v r.2 in
      Gives.minus r.1 w.0 w.1
  gives (Expression.plus m n) v e =
      let r = two-of Values.plus (eval_atom k m) (eval_atom k n) e in
      let w = worked-value (r.0 +ℤ r.1) v r.4 in
      Gives.plus r.2 r.3 w.0 w.1
  gives (Expression.less m n) v e =
      let r = two-of (λ u v. Worked.value (Values.less u v)) (eval_atom k m) (eval_atom k n) e in
      go r.2 r.3 (less-is r.0 r.1 v (value-injective r.4))
    where
      go : {u w : ℤ} → Is k m u → Is k n w → ((u <ℤ w) × (v ≡ pos 1)) ⊎ ((w ≤ℤ u) × (v ≡ pos 0)) → Gives k v (Expression.less m n)
      go p q (inl h) = Gives.less p q h.0 h.1
      go p q (inr h) = Gives.not_less p q h.0 h.1

  given : (e : Expression) (v : ℤ) → Gives k v e → eval k e ≡ some (Worked.value v)
  unfolding eval Values.minus Values.plus
  given _ v (Gives.atom p) = rw p
  given _ v (Gives.minus {u = u} p e f) = rw p (ap some (value-worked (neg_ℤ u) v e f))
  given _ v (Gives.plus {u = u} {w = w} p q e f) = rw (p, q) (ap some (value-worked (u +ℤ w) v e f))
  given _ v (Gives.less {u = u} {w = w} p q l e) = rw (p, q, less-yes u w l, e)
  given _ v (Gives.not_less {u = u} {w = w} p q l e) = rw (p, q, less-no u w l, e)

  value_not : {v : ℤ} {A : Type 0} → Worked.value v ≡ Worked.overflow → A
  value_not e = absurd (let o : ◌≡◌ {A = ℕ} 0 1 = cc in omega arith)

  overflows : (e : Expression) → eval k e ≡ some Worked.overflow → Overflow k e
  unfolding eval Values.minus Values.plus
  overflows (Expression.atom m) e = let r = one_of Worked.value (eval_atom k m) e in value_not r.2
  overflows (Expression.minus m) e =
      let r = one_of Values.minus (eval_atom k m) e in Overflow.minus r.1 (worked-overflow (neg_ℤ r.0) r.2)
  overflows (Expression.plus m n) e =
      let r = two-of Values.plus (eval_atom k m) (eval_atom k n) e in
      Overflow.plus r.2 r.3 (worked-overflow (r.0 +ℤ r.1) r.4)
  overflows (Expression.less m n) e =
      let r = two-of (λ u v. Worked.value (Values.less u v)) (eval_atom k m) (eval_atom k n) e in value_not r.4

  overflown : (e : Expression) → Overflow k e → eval k e ≡ some Worked.overflow
  unfolding eval Values.minus Values.plus
  overflown _ (Overflow.minus {u = u} p n) = rw p (ap some (overflow-worked (neg_ℤ u) n))
  overflown _ (Overflow.plus {u = u} {w = w} p q n) = rw (p, q) (ap some (overflow-worked (u +ℤ w) n))

  unbound-none : (e : Expression) → ¬ Bound k e → eval k e ≡ none
  unbound-none e n = go (eval k e) refl
    where
      go : (o : Option Worked) → eval k e ≡ o → o ≡ none
      go none q = refl
      go (some w) q = absurd (n (worked-bound e w q))

pub working : Working
working k e =
    record {
      value = gives k e;
      valued = given k e;
      overflow = overflows k e;
      overflowed = overflown k e;
      nothing = λ n b. let r = eval-bound k e b in none-some (sym n ∙ r.1);
      unbound = unbound-none k e;
    }
