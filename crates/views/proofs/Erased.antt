-- The operator's listing is the customer's without the values, and is no longer.
use Prim.Native.Nat.{ℕ, zero, suc, ◌+◌, ◌≤◌, ◌<◌}
use mathlib.Core.Path.{◌≡◌, refl, sym, ◌∙◌, ap, subst}
use mathlib.Core.Bool.{Bool, true, false, cond}
use mathlib.Core.List.{List, [], ◌∷◌, ◌++◌, append_assoc, append-nil}
use native.Mathlib.Omega.{arith}
use lib.Dec.{eqb, leb}
use lib.IntN.{ℤ}
use lib.ListN.{length, take, drop, replicate}
use lib.Seq.{take_at}
use Rattle.model.specs.Numbers as No
use Rattle.model.specs.Answers.{Refusal, Answer, Wrote, put}
use Rattle.model.specs.Lists.{Each}
use Rattle.model.specs.Sets.{has}
use Rattle.model.specs.Text.{decimal, signed_decimal, part, signed_part}
use Rattle.model.specs.Pool.{Thread, Pool}
use Rattle.model.specs.Calls.{Lent, lent}
use Rattle.model.proofs.Facts.{refused-given, given-injective, ne_eqb, each_map, each_append}
use Rattle.model.proofs.Texts.{Solid, either, either-most, decimal-solid, decimal-some, signed-solid}
use Rattle.views.specs.Lines.{Viewer, standing, bindings, values, line}
use Rattle.views.specs.Listing.{Tree, Forest, grown, thread_lines, child_lines, root_lines, listing, listed, list}
use Rattle.views.specs.Means.{erased, numbers, rest, Erased, Erases}

-- bytes of a line: above the newline
abbrev Inner : List ℕ → Type 0
Inner xs = Each (λ b. 10 < b) xs

solid-inner : (xs : List ℕ) → Solid xs → Inner xs
solid-inner xs h = each_map (λ b k. omega arith) xs h

part-inner : (n : ℕ) → Inner (part n)
unfolding part
part-inner n = (omega arith, solid-inner (decimal n) (decimal-solid n))

signed-inner : (z : ℤ) → Inner (signed_part z)
unfolding signed_part
signed-inner z = (omega arith, solid-inner (signed_decimal z) (signed-solid z))

-- a line from its start to its first number; a number; a space and a number; and the rest of the line
erased-spaces : (n : ℕ) (ys : List ℕ) → erased (replicate n 32 ++ ys) ≡ replicate n 32 ++ erased ys
unfolding erased
erased-spaces zero ys = refl
erased-spaces (suc n) ys = ap {B = List ℕ} (λ l. 32 ∷ l) (erased-spaces n ys)

numbers-solid : (xs ys : List ℕ) (n : ℕ) → Solid xs → numbers (xs ++ ys) n ≡ xs ++ numbers ys n
unfolding numbers
numbers-solid [] ys n h = refl
numbers-solid (x ∷ xs) ys zero h =
    rw (ne_eqb x 10 (omega (arith, h.0)), ne_eqb x 32 (omega (arith, h.0)), numbers-solid xs ys zero h.1)
numbers-solid (x ∷ xs) ys (suc n) h =
    rw (ne_eqb x 10 (omega (arith, h.0)), ne_eqb x 32 (omega (arith, h.0)), numbers-solid xs ys (suc n) h.1)

erased-solid : (xs ys : List ℕ) → 0 < length xs → Solid xs → erased (xs ++ ys) ≡ xs ++ numbers ys 6
unfolding erased
erased-solid [] ys some h = absurd (omega arith)
erased-solid (x ∷ xs) ys some h = rw (ne_eqb x 32 (omega (arith, h.0)), numbers-solid xs ys 6 h.1)

erased-decimal : (i : ℕ) (ys : List ℕ) → erased (decimal i ++ ys) ≡ decimal i ++ numbers ys 6
erased-decimal i ys = erased-solid (decimal i) ys (decimal-some i) (decimal-solid i)

numbers-part : (a n : ℕ) (ys : List ℕ) → numbers (part a ++ ys) (suc n) ≡ part a ++ numbers ys n
unfolding numbers part
numbers-part a n ys = ap {B = List ℕ} (λ l. 32 ∷ l) (numbers-solid (decimal a) ys n (decimal-solid a))

rest-inner : (xs ys : List ℕ) → Inner xs → rest (xs ++ 10 ∷ ys) ≡ 10 ∷ erased ys
unfolding rest
rest-inner [] ys h = refl
rest-inner (x ∷ xs) ys h = rw (ne_eqb x 10 (omega (arith, h.0)), rest-inner xs ys h.1)

bindings-inner : (Γ x : ℕ) (v̄ : List ℤ) → Inner (bindings Γ x v̄)
unfolding bindings
bindings-inner Γ x [] = tt
bindings-inner Γ x (v ∷ v̄) =
    each_append (λ b. 10 < b) (cond (has Γ x) (part x ++ signed_part v) []) (bindings Γ (x + 1) v̄)
    (either Inner (has Γ x) (part x ++ signed_part v) []
    (each_append (λ b. 10 < b) (part x) (signed_part v) (part-inner x) (signed-inner v)) tt)
    (bindings-inner Γ (x + 1) v̄)

-- the values go, whether there are none or a space begins them
numbers-gone : (x : ℕ) (v : ℤ) (xs ys : List ℕ) → Inner xs → numbers (part x ++ signed_part v ++ xs ++ 10 ∷ ys) 0 ≡ 10 ∷ erased ys
unfolding numbers part
numbers-gone x v xs ys h =
    rest-inner (decimal x ++ signed_part v ++ xs) ys
    (each_append (λ b. 10 < b) (decimal x ++ signed_part v) xs
    (each_append (λ b. 10 < b) (decimal x) (signed_part v) (solid-inner (decimal x) (decimal-solid x)) (signed-inner v)) h)

numbers-bindings : (Γ x : ℕ) (v̄ : List ℤ) (ys : List ℕ) → numbers (bindings Γ x v̄ ++ 10 ∷ ys) 0 ≡ 10 ∷ erased ys
unfolding numbers bindings
numbers-bindings Γ x [] ys = refl
numbers-bindings Γ x (v ∷ v̄) ys = go (has Γ x) (numbers-bindings Γ (x + 1) v̄ ys)
  where
    go : (b : Bool) → numbers (bindings Γ (x + 1) v̄ ++ 10 ∷ ys) 0 ≡ 10 ∷ erased ys
        → numbers (cond b (part x ++ signed_part v) [] ++ bindings Γ (x + 1) v̄ ++ 10 ∷ ys) 0 ≡ 10 ∷ erased ys
    go true e = numbers-gone x v (bindings Γ (x + 1) v̄) ys (bindings-inner Γ (x + 1) v̄)
    go false e = e

-- a line, and a tree's lines, whatever stands behind them
abbrev Erasing : (Viewer → List ℕ) → Type 0
Erasing t = (ys : List ℕ) → erased (t Viewer.customer ++ ys) ≡ t Viewer.operator ++ erased ys

line-erased : (d i : ℕ) (t : Thread) → Erasing (λ who. line who d i t)
unfolding line standing values
line-erased d i t ys =
    simp append_assoc
    (rw (erased-spaces, erased-decimal, numbers-part, numbers-part, numbers-part, numbers-part, numbers-part, numbers-part)
    (rw numbers-bindings))

mutual
  unfolding thread_lines child_lines

  thread-erased : (T : Tree) (d : ℕ) → Erasing (λ who. thread_lines T who d)
  thread-erased (Tree.node i t c) d ys =
      let b : Erasing (λ who. child_lines c who (d + 1)) = λ zs. children-erased c (d + 1) zs in
      simp (append_assoc, line-erased, b)

  children-erased : (f : Forest) (d : ℕ) → Erasing (λ who. child_lines f who d)
  children-erased Forest.none d ys = refl
  children-erased (Forest.more T f) d ys =
      let a : Erasing (λ who. thread_lines T who d) = λ zs. thread-erased T d zs in
      let b : Erasing (λ who. child_lines f who d) = λ zs. children-erased f d zs in
      simp (append_assoc, a, b)

root-erased : (f : Forest) → erased (root_lines f Viewer.customer) ≡ root_lines f Viewer.operator
unfolding root_lines erased
root-erased Forest.none = refl
root-erased (Forest.more T f) =
    ap erased (sym (append-nil (thread_lines T Viewer.customer 0)))
    ∙ thread-erased T 0 []
    ∙ append-nil (thread_lines T Viewer.operator 0)

pub listing-erased : (p : Pool) → erased (listing Viewer.customer p) ≡ listing Viewer.operator p
unfolding listing
listing-erased p = root-erased (grown 0 p)

-- nothing is added
mutual
  unfolding erased numbers rest

  erased-shorter : (s : List ℕ) → length (erased s) ≤ length s
  erased-shorter [] = omega arith
  erased-shorter (b ∷ s) =
      let h = either-most (eqb b 32) (erased s) (numbers s 6) (length s) (erased-shorter s) (numbers-shorter s 6) in
      omega arith

  numbers-shorter : (s : List ℕ) (n : ℕ) → length (numbers s n) ≤ length s
  numbers-shorter [] n = omega arith
  numbers-shorter (b ∷ s) zero =
      let e = erased-shorter s in
      let r = rest-shorter s in
      let h = numbers-shorter s zero in
      either-most (eqb b 10) _ _ (suc (length s)) (omega arith) (either-most (eqb b 32) _ _ (suc (length s)) (omega arith) (omega arith))
  numbers-shorter (b ∷ s) (suc n) =
      let e = erased-shorter s in
      let h = numbers-shorter s (cond (eqb b 32) n (suc n)) in
      either-most (eqb b 10) _ _ (suc (length s)) (omega arith) (omega arith)

  rest-shorter : (s : List ℕ) → length (rest s) ≤ length s
  rest-shorter [] = omega arith
  rest-shorter (b ∷ s) =
      let e = erased-shorter s in
      let r = rest-shorter s in
      either-most (eqb b 10) _ _ (suc (length s)) (omega arith) (omega arith)

-- what was put, where its length is answered
put-given : (q : ℕ) (out t : List ℕ) {n : ℕ} → (put q out t).answer ≡ Answer.given n → take n (put q out t).after ≡ t
unfolding put
put-given q out t {n} e = go (leb (length t) (length out)) e
  where
    wrote : Bool → Wrote
    wrote b =
        cond b (record { answer = Answer.given (length t); after = t ++ drop (length t) out })
        (record { answer = Answer.refused (Refusal.plain q); after = out })

    go : (b : Bool) → (wrote b).answer ≡ Answer.given n → take n (wrote b).after ≡ t
    go true e = take_at t (drop (length t) out) n (given-injective e)
    go false e = refused-given e

pub erases : Erases
unfolding list listed
erases s ws out n e = go (lent s ws) refl e
  where
    go : (a : Answer Lent) → lent s ws ≡ a → (listed Viewer.customer out a).answer ≡ Answer.given n
        → Erased s ws (take n (listed Viewer.customer out a).after)
    go (Answer.refused r) l e = refused-given e
    go (Answer.given l) q e =
        subst (Erased s ws) (sym (put-given No.listing out (listing Viewer.customer l.pool) e))
        (record {
          is = λ out'. rw (q, listing-erased l.pool);
          shorter = erased-shorter (listing Viewer.customer l.pool);
        })
