-- Chains one behind the other, and the callees of a function as the definition lists them: those that it calls, and no other.
use Prim.Native.Nat.{ℕ, zero, suc, ◌+◌}
use mathlib.Core.Path.{◌≡◌, refl, sym, subst}
use mathlib.Core.Logic.{◌⊎◌, inl, inr}
use mathlib.Core.Option.{Option, none, some}
use mathlib.Core.List.{List, [], ◌∷◌, ◌++◌}
use native.Mathlib.Omega.{arith}
use lib.ListN.{get_elem?}
use Rattle.model.specs.Syntax.{Transfer, Block, Function, Program, called_by}
use Rattle.model.proofs.Facts.{none-some, some-injective}
use Rattle.chains.specs.Chains.{Calls, Chain}
use Rattle.chains.specs.Depth.{called_in, callees_of, callees}

-- x is in a list
abbrev pub In : ℕ → List ℕ → Type 0
In x [] = ⊥
In x (y ∷ ys) = (x ≡ y) ⊎ In x ys

pub in-or : (x : ℕ) (xs ys : List ℕ) → In x (xs ++ ys) → In x xs ⊎ In x ys
in-or x [] ys h = inr h
in-or x (y ∷ xs) ys (inl e) = inl (inl e)
in-or x (y ∷ xs) ys (inr h) = go (in-or x xs ys h)
  where
    go : In x xs ⊎ In x ys → In x (y ∷ xs) ⊎ In x ys
    go (inl h) = inl (inr h)
    go (inr h) = inr h

pub in_left : (x : ℕ) (xs ys : List ℕ) → In x xs → In x (xs ++ ys)
in_left x [] ys h = absurd h
in_left x (y ∷ xs) ys (inl e) = inl e
in_left x (y ∷ xs) ys (inr h) = inr (in_left x xs ys h)

pub in_right : (x : ℕ) (xs ys : List ℕ) → In x ys → In x (xs ++ ys)
in_right x [] ys h = h
in_right x (y ∷ xs) ys h = inr (in_right x xs ys h)

-- a block of a list that ends in a call of g
record Ends (B̄ : List Block) (g : ℕ) : Type 0 where
  number : ℕ
  block : Block
  has : get_elem? B̄ number ≡ some block
  arguments : List ℕ
  back : ℕ
  is : block.transfer ≡ Transfer.call g arguments back

transfer-calls : (g : ℕ) (T : Transfer) → In g (called_by T) → (x̄ : List ℕ) × (b : ℕ) × (T ≡ Transfer.call g x̄ b)
unfolding called_by
transfer-calls g (Transfer.goto b x̄) h = absurd h
transfer-calls g (Transfer.if e b c) h = absurd h
transfer-calls g (Transfer.call f x̄ b) (inl e) = (x̄, b, rw e)
transfer-calls g (Transfer.call f x̄ b) (inr h) = absurd h
transfer-calls g (Transfer.return x̄) h = absurd h
transfer-calls g (Transfer.spork b π) h = absurd h
transfer-calls g (Transfer.spoin b c) h = absurd h

blocks-call : (g : ℕ) (B̄ : List Block) → In g (called_in B̄) → Ends B̄ g
unfolding called_in
blocks-call g [] h = absurd h
blocks-call g (B ∷ B̄) h = go (in-or g (called_by B.transfer) (called_in B̄) h) (blocks-call g B̄)
  where
    go : In g (called_by B.transfer) ⊎ In g (called_in B̄) → (In g (called_in B̄) → Ends B̄ g) → Ends (B ∷ B̄) g
    go (inl h) k =
        let (x̄, b, e) = transfer-calls g B.transfer h in
        record { number = 0; block = B; has = refl; arguments = x̄; back = b; is = e }
    go (inr h) k =
        let E = k h in
        record { number = suc E.number; block = E.block; has = E.has; arguments = E.arguments; back = E.back; is = E.is }

call-blocks : (g : ℕ) (B̄ : List Block) (i : ℕ) {B : Block} {x̄ : List ℕ} {b : ℕ} → get_elem? B̄ i ≡ some B →
    B.transfer ≡ Transfer.call g x̄ b → In g (called_in B̄)
unfolding called_in called_by
call-blocks g [] i h e = none-some h
call-blocks g (C ∷ B̄) zero {B} {x̄} {b} h e =
    let same : C ≡ B = some-injective h in
    let is : C.transfer ≡ Transfer.call g x̄ b = rw same e in
    in_left g (called_by C.transfer) (called_in B̄) (rw is (inl refl))
call-blocks g (C ∷ B̄) (suc i) h e = in_right g (called_by C.transfer) (called_in B̄) (call-blocks g B̄ i h e)

-- what is listed is called
listed : (P : Program) (f g : ℕ) (o : Option Function) → get_elem? P f ≡ o → In g (callees_of o) → Calls P f g
unfolding callees_of
listed P f g none e h = absurd h
listed P f g (some F) e h =
    let E = blocks-call g F.blocks h in
    record {
      function = F;
      there = e;
      number = E.number;
      block = E.block;
      has = E.has;
      arguments = E.arguments;
      back = E.back;
      is = E.is;
    }

pub callees-called : (P : Program) (f g : ℕ) → In g (callees P f) → Calls P f g
callees-called P f g h = listed P f g (get_elem? P f) refl h

-- what is called is listed
pub called-callees : (P : Program) (f g : ℕ) → Calls P f g → In g (callees P f)
unfolding callees_of
called-callees P f g c = rw c.there (call-blocks g c.function.blocks c.number c.has c.is)

-- a chain behind a chain
pub chain-append : (P : Program) (f g h n m : ℕ) → Chain P f g n → Chain P g h m → Chain P f h (n + m)
unfolding Chain
chain-append P f g h zero m e d =
    let z : m ≡ 0 + m = omega arith in
    subst (Chain P f h) z (subst (λ x. Chain P x h m) (sym e) d)
chain-append P f g h (suc n) m c d =
    let z : suc (n + m) ≡ suc n + m = omega arith in
    subst (Chain P f h) z (c.0, c.1, chain-append P c.0 g h n m c.2 d)
