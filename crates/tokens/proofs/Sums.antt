-- What the purses of a pool come to, by a measure of one purse of which an empty one has nothing: what a choice leaves of it, what another
-- purse does to it, and what a promotion with its shares does.
use Prim.Native.Nat.{ℕ, zero, suc, ◌+◌, ◌<◌}
use mathlib.Core.Path.{◌≡◌, refl, sym, ◌∙◌, ap}
use mathlib.Core.Bool.{Bool, true, false, cond}
use mathlib.Core.List.{List, [], ◌∷◌, ◌++◌}
use native.Mathlib.Omega.{arith}
use lib.Dec.{eqb, ltb}
use lib.ListN.{length, take, drop, set, get_or, length-append, length-take, length-drop, length-map}
use Rattle.model.specs.Numbers as No
use Rattle.model.specs.Syntax.{Program}
use Rattle.model.specs.Limits.{Limits}
use Rattle.model.specs.Pool.{Purse, Pool, most_threads, empty}
use Rattle.model.specs.Rules as Rules
use Rattle.model.specs.Rules.{Result, choice}
use Rattle.model.proofs.Numbers.{thread-there}
use Rattle.tokens.specs.Purses.{handed, kept, purse_in, purse_at, endow, shared}
use Rattle.tokens.specs.Means.{purses, surviving}
use Rattle.tokens.proofs.Survivors.{surviving-promote, choice-survivors, promotes}

-- purse i of a list; where there is none, the empty one
abbrev at : List Purse → ℕ → Purse
at es i = get_or es i empty

purse-at : (p : Pool) (i : ℕ) → purse_at p i ≡ at (purses p) i
unfolding purse_in
purse-at [] i = refl
purse-at (t ∷ ts) zero = refl
purse-at (t ∷ ts) (suc i) = purse-at ts i

endow-purses : (i : ℕ) (e : Purse) (p : Pool) → purses (endow i e p) ≡ set (purses p) i e
unfolding endow
endow-purses i e [] = refl
endow-purses zero e (t ∷ ts) = refl
endow-purses (suc i) e (t ∷ ts) = ap (λ (es : List Purse). t.purse ∷ es) (endow-purses i e ts)

-- a promotion leaves its thread's purse
at-promoted : (i : ℕ) (es : List Purse) → at (take (suc i) es ++ (empty ∷ drop (suc i) es)) i ≡ at es i
at-promoted zero [] = refl
at-promoted (suc i) [] = refl
at-promoted zero (e ∷ es) = refl
at-promoted (suc i) (e ∷ es) = at-promoted i es

-- the thread of a choice that is made is in the pool, and stays there
choice-there : (P : Program) (p p' : Pool) (kind i rule : ℕ) → choice P p kind i ≡ Result.made rule p' → i < length p
unfolding choice
choice-there P p p' zero i rule e = thread-there (Rules.step P) p i λ q. let z : ◌≡◌ {A = ℕ} 0 1 = cc in omega arith
choice-there P p p' (suc zero) i rule e =
    thread-there (Rules.promote P (ltb (length p) most_threads)) p i λ q. let z : ◌≡◌ {A = ℕ} 0 1 = cc in omega arith
choice-there P p p' (suc (suc kind)) i rule e = let z : ◌≡◌ {A = ℕ} 0 1 = cc in absurd (omega arith)

surviving-there : (i rule : ℕ) (es : List Purse) → i < length es → i < length (surviving rule i es)
unfolding surviving
surviving-there i rule es l = go (eqb rule No.prom) (eqb rule No.promote)
  where
    go : (b c : Bool) →
        i < length (cond b (take (i + 1) es ++ drop (i + 2) es) (cond c (take (i + 1) es ++ (empty ∷ drop (i + 1) es)) es))
    go true c = simp (length-append, length-take, length-drop) (omega arith)
    go false true = simp (length-append, length-take, length-drop) (omega arith)
    go false false = l

module _ (P : Program) (L : Limits P) (p p' : Pool) where
  pub thread-stays : (kind i rule : ℕ) → choice P p kind i ≡ Result.made rule p' → i < length p'
  thread-stays kind i rule e =
      let there = choice-there P p p' kind i rule e in
      let l : i < length (purses p) = omega (arith, length-map p (λ t. t.purse)) in
      let h : length (purses p') ≡ length (surviving rule i (purses p)) = ap length (choice-survivors P L p p' kind i rule e) in
      omega (arith, surviving-there i rule (purses p) l, length-map p' (λ t. t.purse))

  pub promoted-purses : (i rule : ℕ) → choice P p 1 i ≡ Result.made rule p' →
      purses p' ≡ take (suc i) (purses p) ++ (empty ∷ drop (suc i) (purses p))
  promoted-purses i rule e =
      let n : i + 1 ≡ suc i = omega arith in
      let r : rule ≡ No.promote = promotes P L p p' i rule e in
      choice-survivors P L p p' 1 i rule e ∙ rw (r, surviving-promote i (purses p), n)

  promoted-purse : (i rule : ℕ) → choice P p 1 i ≡ Result.made rule p' → purse_at p' i ≡ purse_at p i
  promoted-purse i rule e =
      purse-at p' i ∙ ap (λ (es : List Purse). at es i) (promoted-purses i rule e) ∙ at-promoted i (purses p) ∙ sym (purse-at p i)

-- what purses come to, and those of all threads
unfoldable pub sum : (Purse → ℕ) → List Purse → ℕ
sum f [] = 0
sum f (e ∷ es) = f e + sum f es

unfoldable pub total : (Purse → ℕ) → Pool → ℕ
total f p = sum f (purses p)

module _ (f : Purse → ℕ) where
  -- another purse
  set_sum : (i : ℕ) (e : Purse) (es : List Purse) → i < length es → sum f (set es i e) + f (at es i) ≡ sum f es + f e
  unfolding sum
  set_sum i e [] l = absurd (omega arith)
  set_sum zero e (d ∷ es) l = omega arith
  set_sum (suc i) e (d ∷ es) l = omega (arith, set_sum i e es (omega arith))

  pub endow-total : (i : ℕ) (e : Purse) (p : Pool) → i < length p → total f (endow i e p) + f (purse_at p i) ≡ total f p + f e
  unfolding total
  endow-total i e p l =
      let h : i < length (purses p) = omega (arith, length-map p (λ t. t.purse)) in
      rw (endow-purses i e p, purse-at p i) (set_sum i e (purses p) h)

  -- a promotion, with other purses for parent and child
  split-sum : (i : ℕ) (d e : Purse) (es : List Purse) → i < length es →
      sum f (set (set (take (suc i) es ++ (empty ∷ drop (suc i) es)) i d) (suc i) e) + f (at es i) ≡ sum f es + f d + f e
  unfolding sum
  split-sum i d e [] l = absurd (omega arith)
  split-sum zero d e (c ∷ es) l = omega arith
  split-sum (suc i) d e (c ∷ es) l = omega (arith, split-sum i d e es (omega arith))

  pub promoted-total : (P : Program) → Limits P → (p p' : Pool) (i rule : ℕ) → choice P p 1 i ≡ Result.made rule p' →
      let e = purse_at p i in total f (shared i p') + f e ≡ total f p + f (kept e) + f (handed e)
  unfolding total shared
  promoted-total P L p p' i rule c =
      let e : Purse = purse_at p i in
      let n : i + 1 ≡ suc i = omega arith in
      let there = choice-there P p p' 1 i rule c in
      let h : i < length (purses p) = omega (arith, length-map p (λ t. t.purse)) in
      rw (
        promoted-purse P L p p' i rule c,
        n,
        endow-purses (suc i) (handed e) (endow i (kept e) p'),
        endow-purses i (kept e) p',
        promoted-purses P L p p' i rule c,
        purse-at p i,
      )
      (split-sum i (kept (at (purses p) i)) (handed (at (purses p) i)) (purses p) h)

-- an empty purse has nothing
module _ (f : Purse → ℕ) (none : f empty ≡ 0) where
  -- without purse n, and with an empty one there
  without-sum : (n : ℕ) (es : List Purse) → sum f (take n es ++ drop (suc n) es) + f (at es n) ≡ sum f es
  unfolding sum
  without-sum zero [] = omega arith
  without-sum (suc n) [] = omega arith
  without-sum zero (e ∷ es) = omega arith
  without-sum (suc n) (e ∷ es) = omega (arith, without-sum n es)

  with-sum : (n : ℕ) (es : List Purse) → sum f (take n es ++ (empty ∷ drop n es)) ≡ sum f es
  unfolding sum
  with-sum zero [] = omega arith
  with-sum (suc n) [] = omega arith
  with-sum zero (e ∷ es) = omega arith
  with-sum (suc n) (e ∷ es) = ap (λ (m : ℕ). f e + m) (with-sum n es)

  -- a choice that is made: a join drops the child's
  pub chosen-total : (P : Program) → Limits P → (p p' : Pool) (kind i rule : ℕ) → choice P p kind i ≡ Result.made rule p' →
      total f p' + cond (eqb rule No.prom) (f (purse_at p (i + 1))) 0 ≡ total f p
  unfolding total surviving
  chosen-total P L p p' kind i rule e =
      rw (choice-survivors P L p p' kind i rule e, purse-at p (i + 1)) (go (eqb rule No.prom) (eqb rule No.promote))
    where
      es : List Purse
      es = purses p

      go : (b c : Bool) →
          sum f (cond b (take (i + 1) es ++ drop (i + 2) es) (cond c (take (i + 1) es ++ (empty ∷ drop (i + 1) es)) es))
          + cond b (f (at es (i + 1))) 0 ≡ sum f es
      go true c = let n : i + 2 ≡ suc (i + 1) = omega arith in rw n (without-sum (i + 1) es)
      go false true = omega (arith, with-sum (i + 1) es)
      go false false = omega arith
