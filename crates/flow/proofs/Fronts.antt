-- What is printed byte by byte, and at the end, is the whole output.
use Rattle.std.proofs.Common.{◌≡◌, ℕ, ◌<◌, ◌≤◌, Bool, true, false, not, ◌||◌, leb, List, [], ◌∷◌, ◌++◌, length, take, drop, sym, refl, ap, ◌∙◌, arith, length-append, take-append-drop, length-take}
use lib.Seq.{take-append_seam, drop-append_seam}
use Rattle.model.specs.Numbers as No
use Rattle.model.specs.Answers.{Refusal, Answer, with}
use Rattle.model.specs.Syntax.{Program}
use Rattle.model.specs.Read.{length_field, sized, read_as}
use Rattle.model.specs.Read as Read
use Rattle.model.specs.Calls.{accepted}
use Rattle.model.proofs.Facts.{refused-given, true-false, and_left, and_right, both-and, or_right, leb-true, leb-false, le-leb}
use Rattle.model.proofs.Guarantees.{sized-is}
use Rattle.flow.specs.Stages.{limited, whole}
use Rattle.flow.proofs.Field.{same-field}

-- 1: a table whose size is not right
abbrev too_bad : Answer Program
too_bad = Answer.refused (Refusal.plain No.size)

pub unsized : (t : List ℕ) → sized t (length_field t) ≡ false → accepted t ≡ too_bad
unfolding accepted Read.read read_as with
unsized t e = rw e refl

-- the front of an input that its length field says, where that is a table of the right size
pub record Fronted (x : List ℕ) : Type 0 where
  pub limits : limited (length_field x) ≡ true
  pub enough : length_field x ≤ length x

pub fronted : (x : List ℕ) → sized (take (length_field x) x) (length_field (take (length_field x) x)) ≡ true → Fronted x
unfolding limited
fronted x e =
    let n = length_field x in let u = take n x in
    let z = sized-is u (length_field u) e in
    let l = length-take n x in
    let f : length_field x ≡ length_field u = ap length_field (sym (take-append-drop n x))
    ∙ same-field u (drop n x) (let y = z.least in omega arith) in
    let k : n ≡ length u = f ∙ z.is in
    let lo = z.least in let hi = z.most in
    record {
      limits = both-and (leb 6 n) (leb n 16384) (le-leb 6 n (omega arith)) (le-leb n 16384 (omega arith));
      enough = omega arith;
    }

-- whether the table is whole, taken apart
pub record Lacks (s : List ℕ) : Type 0 where
  pub short : 4 ≤ length s → (limited (length_field s) ≡ true) × (length s < length_field s)

pub lacking : (s : List ℕ) → whole s ≡ false → Lacks s
unfolding whole
lacking s e = record {
  short = λ l. go (limited (length_field s)) (leb (length_field s) (length s)) refl refl (rw (le-leb 4
      (length s) l) at e);
}
  where
    go : (m k : Bool) → limited (length_field s) ≡ m → leb (length_field s) (length s) ≡ k → (not m || k) ≡ false
        → (limited (length_field s) ≡ true) × (length s < length_field s)
    go true true p q z = true-false true refl z
    go true false p q z = (p, leb-false (length_field s) (length s) q)
    go false k p q z = true-false true refl z

pub record Full (t : List ℕ) : Type 0 where
  pub four : 4 ≤ length t
  pub enough : limited (length_field t) ≡ true → length_field t ≤ length t

pub filled : (t : List ℕ) → whole t ≡ true → Full t
unfolding whole
filled t e = record {
  four = leb-true 4 (length t) (and_left (leb 4 (length t)) _ e);
  enough = λ m. leb-true (length_field t) (length t)
      (or_right (not (limited (length_field t))) (leb (length_field t) (length t)) (ap not m) (and_right (leb 4 (length t)) _ e));
}

-- an input whose table is not whole is refused with 1
pub unfinished : (s : List ℕ) → whole s ≡ false → accepted (take (length_field s) s) ≡ too_bad
unfinished s e = go (sized (take (length_field s) s) (length_field (take (length_field s) s))) refl
  where
    go : (z : Bool) → sized (take (length_field s) s) (length_field (take (length_field s) s)) ≡ z → accepted (take (length_field s) s) ≡ too_bad
    go false q = unsized (take (length_field s) s) q
    go true q =
        let f = fronted s q in
        let g = (sized-is (take (length_field s) s) _ q).least in let k = length-take (length_field s) s in
        let h = ((lacking s e).short (omega arith)).1 in let m = f.enough in absurd (omega arith)

-- one whose table has just become whole
pub record Opens (t r : List ℕ) : Type 0 where
  pub front : accepted (take (length_field (t ++ r)) (t ++ r)) ≡ accepted t
  pub back : (P : Program) → accepted t ≡ Answer.given P → drop (length_field (t ++ r)) (t ++ r) ≡ r

pub limits : (n : ℕ) → limited n ≡ true → (6 ≤ n) × (n ≤ 16384)
unfolding limited
limits n e = (leb-true 6 n (and_left (leb 6 n) (leb n 16384) e), leb-true n 16384 (and_right (leb 6 n) (leb n 16384) e))

limited-is : (n : ℕ) → 6 ≤ n → n ≤ 16384 → limited n ≡ true
unfolding limited
limited-is n a b = both-and (leb 6 n) (leb n 16384) (le-leb 6 n a) (le-leb n 16384 b)

module _ (s : List ℕ) (b : ℕ) (r : List ℕ) (before : whole s ≡ false) (now : whole (s ++ b ∷ []) ≡ true) where
  abbrev t : List ℕ
  t = s ++ b ∷ []

  exact : limited (length_field t) ≡ true → length_field t ≡ length t
  exact m =
      let l = length-append s (b ∷ []) in let f = filled t now in let e = f.enough m in let k = limits (length_field t) m in
      let h = f.four in
      let w : 4 ≤ length s → length t ≤ length_field t = λ q. let z = same-field s
      (b ∷ []) q in let y = ((lacking s before).short q).1 in omega arith in
      go (leb 4 (length s)) refl w e k
    where
      go : (z : Bool) → leb 4 (length s) ≡ z → (4 ≤ length s → length t ≤ length_field t) → length_field t ≤ length t
          → (6 ≤ length_field t) × (length_field t ≤ 16384) → length_field t ≡ length t
      go true q w e k = let y = w (leb-true 4 (length s) q) in omega arith
      go false q w e k = let y = leb-false 4 (length s) q in let l = length-append s (b ∷ []) in let i = k.0 in absurd (omega arith)

  same : length_field (t ++ r) ≡ length_field t
  same = same-field t r (filled t now).four

  refused_all : limited (length_field t) ≡ false → (x : List ℕ) → length_field x ≡ length_field t → accepted (take (length_field x) x) ≡ too_bad
  refused_all m x e = go (sized (take (length_field x) x) (length_field (take (length_field x) x))) refl
    where
      go : (z : Bool) → sized (take (length_field x) x) (length_field (take (length_field x) x)) ≡ z
          → accepted (take (length_field x) x) ≡ too_bad
      go false q = unsized (take (length_field x) x) q
      go true q = true-false (limited (length_field x)) (fronted x q).limits (ap limited e ∙ m)

  refused-here : limited (length_field t) ≡ false → accepted t ≡ too_bad
  refused-here m = go (sized t (length_field t)) refl
    where
      go : (z : Bool) → sized t (length_field t) ≡ z → accepted t ≡ too_bad
      go false q = unsized t q
      go true q = let z = sized-is t (length_field t) q in let i = z.is in let lo = z.least in let hi = z.most in
          true-false (limited (length_field t)) (limited-is (length_field t) (omega arith) (omega arith)) m

  pub opens : Opens t r
  opens = go (limited (length_field t)) refl
    where
      go : (m : Bool) → limited (length_field t) ≡ m → Opens t r
      go true m =
          let e : length_field (t ++ r) ≡ length t = same ∙ exact m in
          record {
            front = ap accepted (ap (λ n. take n (t ++ r)) e ∙ take-append_seam t r);
            back = λ P q. ap (λ n. drop n (t ++ r)) e ∙ drop-append_seam t r;
          }
      go false m =
          record {
            front = refused_all m (t ++ r) same ∙ sym (refused-here m);
            back = λ P q. refused-given (sym (refused-here m) ∙ q);
          }
