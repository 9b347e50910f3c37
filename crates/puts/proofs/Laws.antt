-- Laws of `Puts`: no text, one text after another, an equal text, and what the bytes hold in the end.
use Prim.Native.Nat.{ℕ, suc, ◌+◌, ◌-◌, ◌^◌, ◌≤◌, ◌<◌, min}
use native.Mathlib.Omega.{arith}
use native.Mathlib.Nat.{add-zero}
use mathlib.Core.Path.{◌≡◌, refl, sym, ap, subst, ◌∙◌}
use mathlib.Core.Bool.{Bool, true, false}
use mathlib.Core.List.{List, [], ◌∷◌, ◌++◌, append_assoc}
use lib.Dec.{leb}
use lib.ListN.{length, take, drop, set, length-append, length-set}
use lib.Seq.{sets, sets-eq, length-sets, set_out, take_at, drop_at, take-append_seam, length-take-le}
use borrow.Author.Tests.{leb-true, leb-false}
use Rattle.puts.specs.Puts.{Puts}

-- a text that is put in two parts
pub sets-append : (d : List ℕ) (at : ℕ) (xs ys : List ℕ) → sets d at (xs ++ ys) ≡ sets (sets d at xs) (at + length xs) ys
sets-append d at [] ys = ap (λ (k : ℕ). sets d k ys) (sym (add-zero at))
sets-append d at (x ∷ xs) ys =
    let e : suc at + length xs ≡ at + suc (length xs) = omega arith in
    sets-append (set d at x) (suc at) xs ys ∙ ap (λ (k : ℕ). sets (sets (set d at x) (suc at) xs) k ys) e

-- a text past the end
pub sets-past : (d : List ℕ) (at : ℕ) (xs : List ℕ) → length d ≤ at → sets d at xs ≡ d
sets-past d at [] h = refl
sets-past d at (x ∷ xs) h =
    let k : length (set d at x) ≤ suc at = omega (arith, length-set d at x) in
    sets-past (set d at x) (suc at) xs k ∙ set_out d at x h

-- a place that stays at the greatest number is past the end, as the one that it stands for is
stays : (d : List ℕ) (m n : ℕ) (xs : List ℕ) → length d < 2 ^ 63 → m ≡ min n (2 ^ 64 - 1) → sets d m xs ≡ sets d n xs
stays d m n xs l e = go (leb n (2 ^ 64 - 1)) refl
  where
    go : (b : Bool) → leb n (2 ^ 64 - 1) ≡ b → sets d m xs ≡ sets d n xs
    go true t = let h : m ≡ n = omega (arith, leb-true n (2 ^ 64 - 1) t) in ap (λ (k : ℕ). sets d k xs) h
    go false t =
        let h : length d ≤ m = omega (arith, leb-false n (2 ^ 64 - 1) t) in
        let k : length d ≤ n = omega (arith, leb-false n (2 ^ 64 - 1) t) in
        sets-past d m xs h ∙ sym (sets-past d n xs k)

-- no text
pub none : {d : List ℕ} {at : ℕ} → Puts d at [] at d
none = record { is = λ h l. (omega arith, refl) }

-- one text after another
pub then : {d : List ℕ} {at : ℕ} {xs : List ℕ} {m : ℕ} {d' : List ℕ} {ys : List ℕ} {r : ℕ} {d'' : List ℕ}
    → Puts d at xs m d' → Puts d' m ys r d'' → Puts d at (xs ++ ys) r d''
then {d} {at} {xs} {m} {d'} {ys} {r} {d''} p q = record { is = λ h l. go h l (p.is h l) }
  where
    go : at < 2 ^ 64 → length d < 2 ^ 63 → (m ≡ min (at + length xs) (2 ^ 64 - 1)) × (d' ≡ sets d at xs)
        → (r ≡ min (at + length (xs ++ ys)) (2 ^ 64 - 1)) × (d'' ≡ sets d at (xs ++ ys))
    go h l f =
        let l' : length d' < 2 ^ 63 = omega (arith, ap length f.1, length-sets d at xs) in
        let g = q.is (omega arith) l' in (
          omega (arith, length-append xs ys, g.0),
          g.1
              ∙ stays d' m (at + length xs) ys l' f.0
              ∙ ap (λ (l : List ℕ). sets l (at + length xs) ys) f.1
              ∙ sym (sets-append d at xs ys),
        )

-- an equal text
pub same : {d : List ℕ} {at : ℕ} {xs ys : List ℕ} {r : ℕ} {d' : List ℕ} → Puts d at xs r d' → xs ≡ ys → Puts d at ys r d'
same {d} {at} {xs} {ys} {r} {d'} p e = subst (λ (zs : List ℕ). Puts d at zs r d') e p

-- a text that fits is there whole, and the bytes on either side of it are as they were
pub record Shown (d : List ℕ) (at : ℕ) (xs : List ℕ) (r : ℕ) (d' : List ℕ) : Type 0 where
  pub ends : r ≡ at + length xs
  pub long : length d' ≡ length d
  pub before : take at d' ≡ take at d
  pub text : take (length xs) (drop at d') ≡ xs
  pub after : drop (at + length xs) d' ≡ drop (at + length xs) d

pub front : {d : List ℕ} {at : ℕ} {xs : List ℕ} {r : ℕ} {d' : List ℕ} → Puts d at xs r d' → length d < 2 ^ 63 → at + length xs ≤ length d
    → Shown d at xs r d'
front {d} {at} {xs} {r} {d'} p l h =
    let f = p.is (omega arith) l in
    let head : length (take at d) ≡ at = length-take-le at d (omega arith) in
    let rest : List ℕ = drop (at + length xs) d in
    let e : d' ≡ (take at d ++ xs) ++ rest = f.1 ∙ sets-eq xs d at h in
    let e' : d' ≡ take at d ++ (xs ++ rest) = e ∙ append_assoc (take at d) xs rest in
    record {
      ends = omega (arith, f.0);
      long = ap length f.1 ∙ length-sets d at xs;
      before = ap (take at) e' ∙ take_at (take at d) (xs ++ rest) at head;
      text =
          ap (λ (l : List ℕ). take (length xs) (drop at l)) e'
          ∙ ap (take (length xs)) (drop_at (take at d) (xs ++ rest) at head)
          ∙ take-append_seam xs rest;
      after =
          ap (drop (at + length xs)) e
          ∙ drop_at (take at d ++ xs) rest (at + length xs) (length-append (take at d) xs ∙ ap (λ (k : ℕ). k + length xs) head);
    }

-- where the place behind a text is within the bytes, the text fits
pub within : {d : List ℕ} {at : ℕ} {xs : List ℕ} {r : ℕ} {d' : List ℕ} → Puts d at xs r d' → at < 2 ^ 64 → length d < 2 ^ 63 → r ≤ length d
    → at + length xs ≤ length d
within p h l k = omega (arith, (p.is h l).0)

-- a text that was put from the start and fits is the first bytes
pub first : {d : List ℕ} {xs : List ℕ} {r : ℕ} {d' : List ℕ} → Puts d 0 xs r d' → length d < 2 ^ 63 → r ≤ length d → take r d' ≡ xs
first {d} {xs} {r} {d'} p l k =
    let h : 0 + length xs ≤ length d = within p (omega arith) l k in
    let s = front p l h in
    let e : r ≡ length xs = omega (arith, s.ends) in
    ap (λ (n : ℕ). take n d') e ∙ s.text
