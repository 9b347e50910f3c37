-- The grammar's rules, passed over: which of them take the same bytes, and what stands behind a kind.
use Prim.Native.Nat.{ℕ, zero, suc, ◌≤◌, min}
use native.Mathlib.Omega.{arith}
use mathlib.Core.Path.{◌≡◌, refl, sym, ap, ◌∙◌}
use mathlib.Core.Bool.{true, false, cond}
use mathlib.Core.List.{List}
use lib.Dec.{eqb}
use borrow.Author.Tests.{eq-eqb, ne_eqb}
use Rattle.model.specs.Read.{Parsed, Parser, next, byte, many, pick}
use Rattle.model.specs.Read as Read
use Rattle.model.specs.Syntax.{Atom, Expression}
use Rattle.model.proofs.Reading.{byte-ok}
use Rattle.code.specs.Bytes.{byte_at, operands}
use Rattle.table.specs.Skips.{skip_of, byte_of}
use Rattle.std.specs.Prelude.{Result, Ok, Err}
use mathlib.Core.Logic.{◌≢◌}
use Rattle.table.proofs.Laws.{byte-then, skip-then, skip-else, skip-last, skip-ok, skips}

-- two readings that end alike, whatever they read, and go on alike
pub next-next : (A B C : Type 0) (p : Parsed A) (k : A → ℕ → Parsed B) (l : B → ℕ → Parsed C)
    → next (next p k) l ≡ next p (λ a m. next (k a m) l)
unfolding next
next-next A B C (Parsed.ok a m) k l = refl
next-next A B C (Parsed.bad x) k l = refl

same_next : (A B C D : Type 0) (p : Parsed A) (q : Parsed C) (k : A → ℕ → Parsed B) (l : C → ℕ → Parsed D) → skip_of p ≡ skip_of q
    → ((a : A) (c : C) (m : ℕ) → skip_of (k a m) ≡ skip_of (l c m)) → skip_of (next p k) ≡ skip_of (next q l)
unfolding next skip_of
same_next A B C D (Parsed.ok a m) (Parsed.ok c n) k l e h = let q : m ≡ n = cc in h a c m ∙ ap (λ (i : ℕ). skip_of (l c i)) q
same_next A B C D (Parsed.ok a m) (Parsed.bad y) k l e h = absurd (let z : ◌≡◌ {A = ℕ} 0 1 = cc in omega arith)
same_next A B C D (Parsed.bad x) (Parsed.ok c n) k l e h = absurd (let z : ◌≡◌ {A = ℕ} 0 1 = cc in omega arith)
same_next A B C D (Parsed.bad x) (Parsed.bad y) k l e h = e

pub next-ok : (A B : Type 0) (a : A) (m : ℕ) (k : A → ℕ → Parsed B) → next (Parsed.ok a m) k ≡ k a m
unfolding next
next-ok A B a m k = refl

same_ok : (A B : Type 0) (a : A) (b : B) (m : ℕ) → skip_of (Parsed.ok a m) ≡ skip_of (Parsed.ok b m)
unfolding skip_of
same_ok A B a b m = refl

pub ruleset flat = (next-next, next-ok)

ruleset alike = (same_next, same_ok)

-- rules that are nothing but bytes
pub half-bytes : (s : List ℕ) (at : ℕ) → skip_of (Read.half s at) ≡ skip_of (many (byte 0 255) 2 s at)
unfolding Read.half many
half-bytes s at = simp flat (search alike)

pub name-bytes : (s : List ℕ) (at : ℕ) → skip_of (byte 0 255 s at) ≡ skip_of (many (byte 0 255) 1 s at)
unfolding many
name-bytes s at = simp flat (skip-last _ _ (byte 0 255 s at) _ _ refl (λ a m. skip-ok _ _ m))

pub value-bytes : (s : List ℕ) (at : ℕ) → skip_of (Read.value s at) ≡ skip_of (many (byte 0 255) 4 s at)
unfolding Read.value Read.word Read.half many
value-bytes s at = simp flat (search alike)

variable-byte : (s : List ℕ) (at : ℕ) → skip_of (Read.variable s at) ≡ skip_of (Read.temporary s at)
unfolding Read.variable
variable-byte s at = sym (skip-last _ _ (Read.temporary s at) _ _ refl (λ a m. skip-ok _ _ m))

spork-bytes : (s : List ℕ) (at : ℕ) → skip_of (Read.spork s at) ≡ skip_of (many (byte 0 255) 2 s at)
unfolding Read.spork Read.name many
spork-bytes s at = simp flat (search alike)

spoin-bytes : (s : List ℕ) (at : ℕ) → skip_of (Read.spoin s at) ≡ skip_of (many (byte 0 255) 2 s at)
unfolding Read.spoin Read.name many
spoin-bytes s at = simp flat (search alike)

return-bytes : (s : List ℕ) (at : ℕ) → skip_of (Read.return s at) ≡ skip_of (Read.counted 4 (byte 0 15) s at)
unfolding Read.return Read.temporary
return-bytes s at = sym (skip-last _ _ (Read.counted 4 (byte 0 15) s at) _ _ refl (λ a m. skip-ok _ _ m))

goto-spawn : (s : List ℕ) (at : ℕ) → skip_of (Read.goto s at) ≡ skip_of (Read.spawn_call s at)
unfolding Read.goto Read.spawn_call
goto-spawn s at = search alike

call-spawn : (s : List ℕ) (at : ℕ) → skip_of (Read.call s at) ≡ skip_of (next (Read.spawn_call s at) (λ S m. Read.name s m))
unfolding Read.call Read.spawn_call
call-spawn s at =
    simp flat
    (same_next _ _ _ _ (Read.name s at) _ _ _ refl
    (λ g h m.
    same_next _ _ _ _ (Read.arguments s m) _ _ _ refl
    (λ x y e. sym (skip-last _ _ (Read.name s e) _ _ refl (λ b k. skip-ok _ _ k)))))

if-names : (s : List ℕ) (at : ℕ) → skip_of (Read.if s at) ≡ skip_of (next (Read.expression s at) (λ e m. many (byte 0 255) 2 s m))
unfolding Read.if Read.name many
if-names s at = simp flat (search alike)

-- a byte that was found is in its range
pub found-range : (lo hi : ℕ) (s : List ℕ) (at v m : ℕ) → byte_of (Ok (v, m)) ≡ byte lo hi s at → v ≤ hi
unfolding byte_of
found-range lo hi s at v m e = (byte-ok lo hi s at v m (sym e)).high

-- what stands behind an atom's kind, and behind an expression's
pub atom-value : (s : List ℕ) (v m : ℕ) (r : Result ℕ ℕ) → v ≡ 0 → r ≡ skip_of (many (byte 0 255) 4 s m) → r ≡ skip_of (pick Read.atoms v s m)
unfolding pick
atom-value s v m r z e = e ∙ sym (value-bytes s m) ∙ ap (λ (k : ℕ). skip_of (pick Read.atoms k s m)) (sym z)

pub atom-variable : (s : List ℕ) (at v m : ℕ) (r : Result ℕ ℕ) → byte_of (Ok (v, m)) ≡ byte 0 1 s at → (v ≡ 0 → ⊥)
    → r ≡ skip_of (Read.temporary s m) → r ≡ skip_of (pick Read.atoms v s m)
unfolding pick
atom-variable s at v m r b z e =
    let h : v ≤ 1 = found-range 0 1 s at v m b in
    let o : v ≢ 0 = z in
    let i : v ≡ 1 = omega arith in
    e ∙ sym (variable-byte s m) ∙ ap (λ (k : ℕ). skip_of (pick Read.atoms k s m)) (sym i)

-- an atom, and where there are two operands another
abbrev atoms : ℕ → Parser Atom
atoms n = Read.◌>>=◌ Read.atom λ a. λ s at. cond (eqb n 2) (Read.atom s at) (Parsed.ok a at)

unary-atoms : (e : Atom → Expression) (s : List ℕ) (at : ℕ) → skip_of (atoms 1 s at) ≡ skip_of (Read.unary e s at)
unfolding Read.unary
unary-atoms e s at = search alike

binary-atoms : (e : Atom → Atom → Expression) (s : List ℕ) (at : ℕ) → skip_of (atoms 2 s at) ≡ skip_of (Read.binary e s at)
unfolding Read.binary
binary-atoms e s at = same_next _ _ _ _ (Read.atom s at) _ _ _ refl (λ a c m. skip-last _ _ (Read.atom s m) _ _ refl (λ b k. skip-ok _ _ k))

operands-atoms : (v : ℕ) (s : List ℕ) (m : ℕ) → v ≤ 3 → skip_of (atoms (operands v) s m) ≡ skip_of (pick Read.expressions v s m)
unfolding pick operands
operands-atoms zero s m h = unary-atoms _ s m
operands-atoms (suc zero) s m h = unary-atoms _ s m
operands-atoms (suc (suc zero)) s m h = binary-atoms _ s m
operands-atoms (suc (suc (suc zero))) s m h = binary-atoms _ s m
operands-atoms (suc (suc (suc (suc v)))) s m h = absurd (omega arith)

module _ (s : List ℕ) (at v m : ℕ) (b : byte_of (Ok (v, m)) ≡ byte 0 3 s at) where
  behind : (r : Result ℕ ℕ) → r ≡ skip_of (atoms (operands v) s m) → r ≡ skip_of (pick Read.expressions v s m)
  behind r h = h ∙ operands-atoms v s m (found-range 0 3 s at v m b)

  pub first-bad : (r : Result ℕ ℕ) (x : ℕ) → Err x ≡ skip_of (Read.atom s m) → r ≡ Err x → r ≡ skip_of (pick Read.expressions v s m)
  first-bad r x e o = behind r (skip-else _ _ (Read.atom s m) _ r x e o)

  pub one-atom : (k n : ℕ) → Ok k ≡ skip_of (Read.atom s m) → n ≡ operands v → (n ≡ 2 → ⊥)
      → Ok k ≡ skip_of (pick Read.expressions v s m)
  one-atom k n e o u =
      let w : eqb (operands v) 2 ≡ false = ne_eqb (operands v) 2 (λ d. u (o ∙ d)) in
      behind _ (skip-then _ _ (Read.atom s m) _ _ k e (λ x. rw w (skip-ok _ x k)))

  pub two-atoms : (k n : ℕ) (r : Result ℕ ℕ) → Ok k ≡ skip_of (Read.atom s m) → n ≡ operands v → n ≡ 2 → r ≡ skip_of (Read.atom s k)
      → r ≡ skip_of (pick Read.expressions v s m)
  two-atoms k n r e o u h =
      let w : eqb (operands v) 2 ≡ true = eq-eqb (operands v) 2 (sym o ∙ u) in
      behind r (skip-then _ _ (Read.atom s m) _ r k e (λ x. rw w h))

-- a transfer's kind, and what stands behind it
pub kind-found : (s : List ℕ) (at v m n : ℕ) → byte_of (Ok (v, m)) ≡ byte 0 5 s at → n ≡ min (byte_at s at) 5 → n ≡ v
unfolding byte_of
kind-found s at v m n e k = let c = byte-ok 0 5 s at v m (sym e) in omega (arith, c.is, c.high, k)

module _ (s : List ℕ) (at : ℕ) (r : Result ℕ ℕ) where
  pub goto-skip : r ≡ skip_of (Read.spawn_call s at) → r ≡ skip_of (pick Read.transfers 0 s at)
  unfolding pick
  goto-skip e = e ∙ sym (goto-spawn s at)

  pub if-skip : r ≡ skip_of (Read.if s at) → r ≡ skip_of (pick Read.transfers 1 s at)
  unfolding pick
  if-skip e = e

  pub call-skip : r ≡ skip_of (Read.call s at) → r ≡ skip_of (pick Read.transfers 2 s at)
  unfolding pick
  call-skip e = e

  pub return-skip : r ≡ skip_of (Read.counted 4 Read.temporary s at) → r ≡ skip_of (pick Read.transfers 3 s at)
  unfolding pick Read.temporary
  return-skip e = e ∙ sym (return-bytes s at)

  pub spork-skip : r ≡ skip_of (many (byte 0 255) 2 s at) → r ≡ skip_of (pick Read.transfers 4 s at)
  unfolding pick
  spork-skip e = e ∙ sym (spork-bytes s at)

  pub spoin-skip : r ≡ skip_of (many (byte 0 255) 2 s at) → r ≡ skip_of (pick Read.transfers 5 s at)
  unfolding pick
  spoin-skip e = e ∙ sym (spoin-bytes s at)

-- two names behind an expression, one behind a call's arguments, and what stands behind a scope and behind a name
module _ (s : List ℕ) (at : ℕ) (r : Result ℕ ℕ) where
  pub if-then : (m : ℕ) → Ok m ≡ skip_of (Read.expression s at) → r ≡ skip_of (many (byte 0 255) 2 s m) → r ≡ skip_of (Read.if s at)
  if-then m a e = skip-then _ _ (Read.expression s at) _ r m a (λ x. e) ∙ sym (if-names s at)

  pub if-else : (x : ℕ) → Err x ≡ skip_of (Read.expression s at) → r ≡ Err x → r ≡ skip_of (Read.if s at)
  if-else x a o = skip-else _ _ (Read.expression s at) _ r x a o ∙ sym (if-names s at)

  pub call-then : (m : ℕ) → Ok m ≡ skip_of (Read.spawn_call s at) → r ≡ skip_of (Read.name s m) → r ≡ skip_of (Read.call s at)
  call-then m a e = skip-then _ _ (Read.spawn_call s at) _ r m a (λ x. e) ∙ sym (call-spawn s at)

  pub call-else : (x : ℕ) → Err x ≡ skip_of (Read.spawn_call s at) → r ≡ Err x → r ≡ skip_of (Read.call s at)
  call-else x a o = skip-else _ _ (Read.spawn_call s at) _ r x a o ∙ sym (call-spawn s at)

  module _ (B : Type 0) (k : ℕ → ℕ → Parsed B) where
    pub half-then : (m : ℕ) → Ok m ≡ skip_of (many (byte 0 255) 2 s at) → ((a : ℕ) → r ≡ skip_of (k a m))
        → r ≡ skip_of (next (Read.half s at) k)
    half-then m e h = skip-then _ _ (Read.half s at) k r m (e ∙ sym (half-bytes s at)) h

    pub half-else : (x : ℕ) → Err x ≡ skip_of (many (byte 0 255) 2 s at) → r ≡ Err x → r ≡ skip_of (next (Read.half s at) k)
    half-else x e o = skip-else _ _ (Read.half s at) k r x (e ∙ sym (half-bytes s at)) o

-- a head without a scope and a nesting
pub bare-skip : (s : List ℕ) (at : ℕ) (r : Result ℕ ℕ) → r ≡ skip_of (Read.counted 8 Read.temporary s at) → r ≡ skip_of (Read.bare s at)
unfolding Read.bare Read.arguments
bare-skip s at r h = skip-last _ _ (Read.counted 8 Read.temporary s at) _ r h (λ a m. skip-ok _ _ m)

pub ruleset kinds-of = (atom-value, atom-variable, first-bad, one-atom, two-atoms, half-then, half-else, skips)
