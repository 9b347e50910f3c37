-- A chain of as many calls as there are functions meets some function twice, so it has a cycle in it; and along a cycle chains are
-- as long as one likes.
use Prim.Native.Nat.{ℕ, zero, suc, ◌+◌, ◌≤◌, ◌<◌}
use mathlib.Core.Path.{◌≡◌, refl, sym}
use mathlib.Core.Logic.{◌⊎◌, inl, inr}
use mathlib.Core.Bool.{Bool, true, false, cond}
use mathlib.Core.List.{List, [], ◌∷◌}
use native.Mathlib.Omega.{arith}
use lib.Dec.{eqb}
use lib.ListN.{length}
use Rattle.model.specs.Lists.{Each}
use Rattle.model.specs.Syntax.{Program}
use Rattle.model.proofs.Facts.{eqb-true, eqb-false, at-below}
use Rattle.chains.specs.Chains.{Calls, Chain, Cyclic, Needs}
use Rattle.chains.proofs.Steps.{In, chain-append}

-- a number stands twice in a list
abbrev Twice : List ℕ → Type 0
Twice [] = ⊥
Twice (x ∷ xs) = In x xs ⊎ Twice xs

-- the list without the number m
unfoldable without : ℕ → List ℕ → List ℕ
without m [] = []
without m (x ∷ xs) = cond (eqb x m) (without m xs) (x ∷ without m xs)

module _ (m : ℕ) where
  -- what is in it is in the list, and what stands twice in it does so in the list
  in_without : (y : ℕ) (xs : List ℕ) → In y (without m xs) → In y xs
  unfolding without
  in_without y [] h = h
  in_without y (x ∷ xs) h = go (eqb x m) h (in_without y xs)
    where
      go : (b : Bool) → In y (cond b (without m xs) (x ∷ without m xs)) → (In y (without m xs) → In y xs) → In y (x ∷ xs)
      go true h k = inr (k h)
      go false (inl e) k = inl e
      go false (inr h) k = inr (k h)

  twice-without : (xs : List ℕ) → Twice (without m xs) → Twice xs
  unfolding without
  twice-without [] h = h
  twice-without (x ∷ xs) h = go (eqb x m) h (in_without x xs) (twice-without xs)
    where
      go : (b : Bool) → Twice (cond b (without m xs) (x ∷ without m xs)) → (In x (without m xs) → In x xs) →
          (Twice (without m xs) → Twice xs) → Twice (x ∷ xs)
      go true h i k = inr (k h)
      go false (inl h) i k = inl (i h)
      go false (inr h) i k = inr (k h)

  -- m stands in the list, or the list without it is as long
  in-or-long : (xs : List ℕ) → In m xs ⊎ (length (without m xs) ≡ length xs)
  unfolding without
  in-or-long [] = inr refl
  in-or-long (x ∷ xs) = go (eqb x m) refl (in-or-long xs)
    where
      go : (b : Bool) → eqb x m ≡ b → In m xs ⊎ (length (without m xs) ≡ length xs) →
          In m (x ∷ xs) ⊎ (length (cond b (without m xs) (x ∷ without m xs)) ≡ length (x ∷ xs))
      go true e k = inl (inl (sym (eqb-true x m e)))
      go false e (inl i) = inl (inr i)
      go false e (inr l) = inr (omega (arith, l))

  -- something stands twice, or the list without m is shorter by one at most
  twice-or-long : (xs : List ℕ) → Twice xs ⊎ (length xs ≤ length (without m xs) + 1)
  unfolding without
  twice-or-long [] = inr (omega arith)
  twice-or-long (x ∷ xs) = go (eqb x m) refl (in-or-long xs) (twice-or-long xs)
    where
      go : (b : Bool) → eqb x m ≡ b → In m xs ⊎ (length (without m xs) ≡ length xs) →
          Twice xs ⊎ (length xs ≤ length (without m xs) + 1) →
          Twice (x ∷ xs) ⊎ (length (x ∷ xs) ≤ length (cond b (without m xs) (x ∷ without m xs)) + 1)
      go true e (inl i) k = inl (inl (rw (eqb-true x m e) i))
      go true e (inr l) k = inr (omega (arith, l))
      go false e i (inl t) = inl (inr t)
      go false e i (inr l) = inr (omega (arith, l))

  -- numbers up to m are below m without it
  below-without : (xs : List ℕ) → Each (λ x. x < suc m) xs → Each (λ x. x < m) (without m xs)
  unfolding without
  below-without [] h = tt
  below-without (x ∷ xs) h = go (eqb x m) refl h.0 (below-without xs h.1)
    where
      go : (b : Bool) → eqb x m ≡ b → x < suc m → Each (λ x. x < m) (without m xs) →
          Each (λ x. x < m) (cond b (without m xs) (x ∷ without m xs))
      go true e l k = k
      go false e l k = (omega (arith, eqb-false x m e), k)

-- more than m numbers below m: one stands twice
pigeon : (m : ℕ) (xs : List ℕ) → Each (λ x. x < m) xs → m < length xs → Twice xs
pigeon zero [] h l = absurd (omega arith)
pigeon zero (x ∷ xs) h l = absurd (omega (arith, h.0))
pigeon (suc m) xs h l = go (twice-or-long m xs) (pigeon m (without m xs) (below-without m xs h))
  where
    go : Twice xs ⊎ (length xs ≤ length (without m xs) + 1) → (m < length (without m xs) → Twice (without m xs)) → Twice xs
    go (inl t) k = t
    go (inr g) k = twice-without m xs (k (omega arith))

module _ (P : Program) where
  -- the functions of a chain
  unfoldable path : (f h n : ℕ) → Chain P f h n → List ℕ
  unfolding Chain
  path f h zero c = f ∷ []
  path f h (suc n) c = f ∷ path c.0 h n c.2

  path-length : (f h n : ℕ) (c : Chain P f h n) → length (path f h n c) ≡ suc n
  unfolding path
  path-length f h zero c = refl
  path-length f h (suc n) c = omega (arith, path-length c.0 h n c.2)

  -- each of them is reached from the first
  path-reached : (f h n : ℕ) (c : Chain P f h n) (x : ℕ) → In x (path f h n c) → (k : ℕ) × Chain P f x k
  unfolding path Chain
  path-reached f h zero c x (inl e) = (0, sym e)
  path-reached f h zero c x (inr i) = absurd i
  path-reached f h (suc n) c x (inl e) = (0, sym e)
  path-reached f h (suc n) c x (inr i) =
      let r = path-reached c.0 h n c.2 x i in
      (suc r.0, (c.0, c.1, r.1))

  -- one that stands twice reaches itself
  path-cyclic : (f h n : ℕ) (c : Chain P f h n) → Twice (path f h n c) → Cyclic P
  unfolding path Chain
  path-cyclic f h zero c (inl i) = absurd i
  path-cyclic f h zero c (inr t) = absurd t
  path-cyclic f h (suc n) c (inl i) =
      let r = path-reached c.0 h n c.2 f i in
      record { function = f; more = r.0; chain = (c.0, c.1, r.1) }
  path-cyclic f h (suc n) c (inr t) = path-cyclic c.0 h n c.2 t

  -- where every callee is there, so are the functions of a chain
  path-there : ((f g : ℕ) → Calls P f g → g < length P) → (f h n : ℕ) (c : Chain P f h n) → f < length P →
      Each (λ x. x < length P) (path f h n c)
  unfolding path
  path-there k f h zero c l = (l, tt)
  path-there k f h (suc n) c l = (l, path-there k c.0 h n c.2 (k f c.0 c.1))

  -- so a chain of as many calls as there are functions has a cycle in it
  pub long-cyclic : ((f g : ℕ) → Calls P f g → g < length P) → (f h : ℕ) → f < length P → Chain P f h (length P) → Cyclic P
  long-cyclic k f h l c =
      path-cyclic f h (length P) c
      (pigeon (length P) (path f h (length P) c) (path-there k f h (length P) c l) (omega (arith, path-length f h (length P) c)))

  -- a function that reaches itself is there, and some chain from it needs more frames than any number
  pub cyclic-there : (C : Cyclic P) → C.function < length P
  unfolding Chain
  cyclic-there C = at-below P C.function C.chain.1.there

  pub cyclic-beyond : (C : Cyclic P) (d : ℕ) → (e : ℕ) × Needs P C.function e × (d < e)
  unfolding Chain
  cyclic-beyond C zero = (1, record { last = C.function; calls = 0; chain = refl; frames = refl }, omega arith)
  cyclic-beyond C (suc d) =
      let (e, n, l) = cyclic-beyond C d in
      let f = C.function in
      let c = chain-append P f f n.last (suc C.more) n.calls C.chain n.chain in (
        suc C.more + n.calls + 1,
        record { last = n.last; calls = suc C.more + n.calls; chain = c; frames = refl },
        omega (arith, n.frames, l),
      )
