-- The longest chain as it is worked out: `frames` gives it where the functions left suffice, and where it gives none there is a
-- chain of as many calls as there were functions left. It needs no well-formedness.
use Prim.Native.Nat.{ℕ, zero, suc, ◌+◌, ◌≤◌, max}
use mathlib.Core.Path.{◌≡◌, refl, ◌∙◌, subst}
use mathlib.Core.Logic.{◌⊎◌, inl, inr}
use mathlib.Core.Bool.{cond}
use mathlib.Core.Option.{Option, none, some, map}
use mathlib.Core.List.{List, [], ◌∷◌}
use native.Mathlib.Omega.{arith, max_cases}
use lib.Dec.{leb}
use Rattle.model.specs.Syntax.{Program}
use Rattle.model.proofs.Facts.{le-leb, lt-leb}
use Rattle.chains.specs.Chains.{Calls, Chain, Needs, Longest}
use Rattle.chains.specs.Depth.{callees, greater, greatest, frames_from}
use Rattle.chains.proofs.Steps.{In, callees-called, called-callees}

-- the greatest over a list: at least what each says, and what one says, or 0
pub record Greatest (h : ℕ → Option ℕ) (xs : List ℕ) (d : ℕ) : Type 0 where
  pub most : (x : ℕ) → In x xs → (e : ℕ) × (h x ≡ some e) × (e ≤ d)
  pub one : (d ≡ 0) ⊎ ((x : ℕ) × In x xs × (h x ≡ some d))

-- none where one says none
abbrev pub Says : (ℕ → Option ℕ) → List ℕ → Option ℕ → Type 0
Says h xs none = (x : ℕ) × In x xs × (h x ≡ none)
Says h xs (some d) = Greatest h xs d

either : (a b : ℕ) → (max a b ≡ a) ⊎ (max a b ≡ b)
either a b = max_cases a b _ (λ _ e. inr e) (λ _ e. inl e)

joined : (h : ℕ → Option ℕ) (x : ℕ) (xs : List ℕ) (o q : Option ℕ) → h x ≡ o → Says h xs q → Says h (x ∷ xs) (greater o q)
unfolding greater
joined h x xs none q e s = (x, inl refl, e)
joined h x xs (some a) none e s = (s.0, inr s.1, s.2)
joined h x xs (some a) (some b) e s = record { most = most; one = one (either a b) s.one }
  where
    most : (y : ℕ) → In y (x ∷ xs) → (d : ℕ) × (h y ≡ some d) × (d ≤ max a b)
    most y (inl i) = (a, rw i e, omega arith)
    most y (inr i) = let m = s.most y i in (m.0, m.1, omega (arith, m.2))

    one : (max a b ≡ a) ⊎ (max a b ≡ b) → (b ≡ 0) ⊎ ((y : ℕ) × In y xs × (h y ≡ some b)) →
        (max a b ≡ 0) ⊎ ((y : ℕ) × In y (x ∷ xs) × (h y ≡ some (max a b)))
    one (inl m) k = inr (x, inl refl, rw m e)
    one (inr m) (inl z) = inl (m ∙ z)
    one (inr m) (inr k) = inr (k.0, inr k.1, rw m k.2)

pub greatest-says : (h : ℕ → Option ℕ) (xs : List ℕ) → Says h xs (greatest h xs)
unfolding greatest
greatest-says h [] = record { most = λ x i. absurd i; one = inl refl }
greatest-says h (x ∷ xs) = joined h x xs (h x) (greatest h xs) refl (greatest-says h xs)

-- a chain of no calls; one with a call before it; and a chain taken apart again
record Rest (P : Program) (f n : ℕ) : Type 0 where
  callee : ℕ
  calls : Calls P f callee
  needs : Needs P callee n

module _ (P : Program) (f : ℕ) where
  pub needs-one : Needs P f 1
  unfolding Chain
  needs-one = record { last = f; calls = 0; chain = refl; frames = refl }

  needs-call : (g d : ℕ) → Calls P f g → Needs P g d → Needs P f (d + 1)
  unfolding Chain
  needs-call g d c n =
      record { last = n.last; calls = suc n.calls; chain = (g, c, n.chain); frames = omega (arith, n.frames) }

  chain-rest : (h n : ℕ) → Chain P f h n → (n ≡ 0) ⊎ Rest P f n
  unfolding Chain
  chain-rest h zero c = inl refl
  chain-rest h (suc n) c =
      inr (record { callee = c.0; calls = c.1; needs = record { last = h; calls = n; chain = c.2; frames = omega arith } })

-- what `frames` says
abbrev pub Is : Program → ℕ → ℕ → Option ℕ → Type 0
Is P left f none = (g : ℕ) × Chain P f g left
Is P left f (some d) = Longest P f d × (d ≤ left)

module _ (P : Program) (left f : ℕ) (ih : (g : ℕ) → Is P left g (frames_from P left g)) where
  callee-is : (g : ℕ) (o : Option ℕ) → frames_from P left g ≡ o → Is P left g o
  callee-is g o e = subst (Is P left g) e (ih g)

  step-none : (g : ℕ) → In g (callees P f) → frames_from P left g ≡ none → Is P (suc left) f none
  unfolding Chain
  step-none g i e = let c = callee-is g none e in (c.0, (g, callees-called P f g i, c.1))

  abbrev One : ℕ → Type 0
  One d = (d ≡ 0) ⊎ ((g : ℕ) × In g (callees P f) × (frames_from P left g ≡ some d))

  step-some : (d : ℕ) → Greatest (λ g. frames_from P left g) (callees P f) d → Is P (suc left) f (some (d + 1))
  step-some d G = (record { needs = needs G.one; most = most }, few G.one)
    where
      needs : One d → Needs P f (d + 1)
      needs (inl z) = rw z (needs-one P f)
      needs (inr k) = needs-call P f k.0 d (callees-called P f k.0 k.1) (callee-is k.0 (some d) k.2).0.needs

      few : One d → d + 1 ≤ suc left
      few (inl z) = omega arith
      few (inr k) = omega (arith, (callee-is k.0 (some d) k.2).1)

      most : (e : ℕ) → Needs P f e → e ≤ d + 1
      most e n = go (chain-rest P f n.last n.calls n.chain)
        where
          go : (n.calls ≡ 0) ⊎ Rest P f n.calls → e ≤ d + 1
          go (inl z) = omega (arith, n.frames)
          go (inr r) =
              let m = G.most r.callee (called-callees P f r.callee r.calls) in
              let l = (callee-is r.callee (some m.0) m.1).0.most n.calls r.needs in
              omega (arith, n.frames, m.2)

  step_is : (o : Option ℕ) → Says (λ g. frames_from P left g) (callees P f) o → Is P (suc left) f (map (λ d. d + 1) o)
  step_is none s = step-none s.0 s.1 s.2
  step_is (some d) G = step-some d G

pub frames-is : (P : Program) (left f : ℕ) → Is P left f (frames_from P left f)
unfolding frames_from Chain
frames-is P zero f = (f, refl)
frames-is P (suc left) f =
    step_is P left f (λ g. frames-is P left g) (greatest (λ g. frames_from P left g) (callees P f))
    (greatest-says (λ g. frames_from P left g) (callees P f))

-- the longest chain from a function is one
pub longest-one : (P : Program) (f d e : ℕ) → Longest P f d → Longest P f e → d ≡ e
longest-one P f d e k l = omega (arith, l.most d k.needs, k.most e l.needs)

-- a depth that was found with some functions left is the depth with any number of them, or they do not suffice
pub frames-known : (P : Program) (k f d : ℕ) → frames_from P k f ≡ some d → (n : ℕ) → frames_from P n f ≡ cond (leb d n) (some d) none
frames-known P k f d e n = go (frames_from P n f) refl
  where
    long : Longest P f d
    long = (subst (Is P k f) e (frames-is P k f)).0

    go : (o : Option ℕ) → frames_from P n f ≡ o → frames_from P n f ≡ cond (leb d n) (some d) none
    go none z =
        let c = subst (Is P n f) z (frames-is P n f) in
        let l = long.most (n + 1) (record { last = c.0; calls = n; chain = c.1; frames = refl }) in
        z ∙ rw (lt-leb d n (omega arith)) refl
    go (some a) z =
        let i = subst (Is P n f) z (frames-is P n f) in
        let same = longest-one P f d a long i.0 in
        z ∙ rw (le-leb d n (omega (arith, i.1)), same) refl
