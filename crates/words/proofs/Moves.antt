-- Runs of words that are stored one after another: what a turn of each loop leaves.
use Prim.Native.Nat.{ℕ, suc, ◌+◌, ◌-◌, ◌≤◌, ◌<◌}
use native.Mathlib.Omega.{arith}
use native.Mathlib.Numerals.{add-one}
use mathlib.Core.Path.{◌≡◌, refl, sym, ap, ◌∙◌}
use mathlib.Core.List.{List, ◌∷◌, ◌++◌, append_assoc}
use lib.IntN.{ℤ, pos}
use lib.ListN.{length, take, drop, set, get_or, replicate, length-set, length-drop, length-replicate}
use lib.Seq.{paste, paste-suc, paste-zero, length-paste, drop-paste, take_at, take-length, length-take-le, take-suc, append_snoc}
use lib.Seq.{set_at, get_or-take, get_or-drop, drop-cons}
use borrow.Rule.Slice.PartMut.{put_mid}
use Rattle.std.proofs.lemmas.Slice.{put_mid-paste}
use Rattle.words.specs.Runs.{pasted, moved, cleared}

-- the next word of s, behind those that are there
pub stored : (d : List ℤ) (at : ℕ) (s : List ℤ) (i : ℕ) (x : ℤ) → at + i < length d → i < length s → x ≡ get_or s i (pos 0)
    → set (paste d at s i) (at + i) x ≡ paste d at s (i + 1)
stored d at s i x p q e = rw (add-one i) (ap (set (paste d at s i) (at + i)) e ∙ paste-suc d at s i (pos 0) p q)

-- behind a run, and before it, d is as it was
pub behind : (d : List ℤ) (at : ℕ) (s : List ℤ) (i k : ℕ) → at ≤ length d → i ≤ length s → at + i ≤ k
    → get_or (paste d at s i) k (pos 0) ≡ get_or d k (pos 0)
behind d at s i k p q h =
    let e : at + i + (k - (at + i)) ≡ k = omega arith in
    ap (λ (j : ℕ). get_or (paste d at s i) j (pos 0)) (sym e)
    ∙ sym (get_or-drop (at + i) (paste d at s i) (k - (at + i)) (pos 0))
    ∙ ap (λ (l : List ℤ). get_or l (k - (at + i)) (pos 0)) (drop-paste d at s i p q)
    ∙ get_or-drop (at + i) d (k - (at + i)) (pos 0)
    ∙ ap (λ (j : ℕ). get_or d j (pos 0)) e

pub before : (d : List ℤ) (at : ℕ) (s : List ℤ) (i k : ℕ) → at ≤ length d → k < at → get_or (paste d at s i) k (pos 0) ≡ get_or d k (pos 0)
before d at s i k p h =
    sym (get_or-take at (paste d at s i) k (pos 0) h)
    ∙ ap (λ (l : List ℤ). get_or (take at l) k (pos 0)) (append_assoc (take at d) (take i s) (drop (at + i) d))
    ∙ ap (λ (l : List ℤ). get_or l k (pos 0)) (take_at (take at d) (take i s ++ drop (at + i) d) at (length-take-le at d p))
    ∙ get_or-take at d k (pos 0) h

-- a run downwards from the end: one more word before those that are there, which comes from further down
one-before : (d : List ℤ) (at : ℕ) (s : List ℤ) (n : ℕ) (x : ℤ) → at < length d
    → set (paste d (suc at) s n) at x ≡ paste d at (x ∷ s) (suc n)
one-before d at s n x h =
    let e : length (take at d) ≡ at = length-take-le at d (omega arith) in
    let e' : suc at + n ≡ at + suc n = omega arith in
    let rest : List ℤ = take n s ++ drop (suc at + n) d in
    ap (λ (l : List ℤ). set l at x) (append_assoc (take (suc at) d) (take n s) (drop (suc at + n) d))
    ∙ ap (λ (l : List ℤ). set (l ++ rest) at x) (take-suc d at (pos 0) h)
    ∙ ap (λ (l : List ℤ). set l at x) (append_snoc (take at d) (get_or d at (pos 0)) rest)
    ∙ set_at (take at d) (get_or d at (pos 0)) rest x at e
    ∙ ap (λ (k : ℕ). take at d ++ (x ∷ (take n s ++ drop k d))) e'
    ∙ sym (append_assoc (take at d) (x ∷ take n s) (drop (at + suc n) d))

-- what a loop keeps: a run of i words is there, of the m that are stored
pub record Run (d₀ : List ℤ) (at : ℕ) (s : List ℤ) (d : List ℤ) (i : ℕ) : Type 0 where
  pub long : length d ≡ length d₀
  pub is : d ≡ paste d₀ at s i

pub none_yet : (d : List ℤ) (at : ℕ) (s : List ℤ) → Run d at s d 0
none_yet d at s = record { long = refl; is = paste-zero d at s }

pub run : (d₀ : List ℤ) (at : ℕ) (s d : List ℤ) (i : ℕ) → at + i ≤ length d₀ → i ≤ length s → d ≡ paste d₀ at s i → Run d₀ at s d i
run d₀ at s d i h k e = record { long = ap length e ∙ length-paste d₀ at s i h k; is = e }

pub one_more : {d₀ : List ℤ} {at : ℕ} {s d : List ℤ} {i : ℕ} → Run d₀ at s d i → (x : ℤ) → at + i < length d₀ → i < length s
    → x ≡ get_or s i (pos 0) → Run d₀ at s (set d (at + i) x) (i + 1)
one_more {d₀} {at} {s} {d} {i} r x h k e =
    run d₀ at s (set d (at + i) x) (i + 1) (omega arith) (omega arith)
    (ap (λ (l : List ℤ). set l (at + i) x) r.is ∙ stored d₀ at s i x h k e)

-- the word that a run upwards from the front stores next is as it was, since it comes from further on
pub further : {d₀ : List ℤ} {to : ℕ} {d : List ℤ} {i : ℕ} (from : ℕ) → Run d₀ to (drop from d₀) d i → from + i < length d₀ → to ≤ from
    → get_or d (from + i) (pos 0) ≡ get_or (drop from d₀) i (pos 0)
further {d₀} {to} {d} {i} from r h k =
    let f : i ≤ length (drop from d₀) = simp length-drop (omega arith) in
    ap (λ (l : List ℤ). get_or l (from + i) (pos 0)) r.is
    ∙ behind d₀ to (drop from d₀) i (from + i) (omega arith) f (omega arith)
    ∙ sym (get_or-drop from d₀ i (pos 0))

-- a run downwards from the end, of which `left` words are still to be moved
pub record Up (d₀ : List ℤ) (from to n : ℕ) (d : List ℤ) (left : ℕ) : Type 0 where
  pub long : length d ≡ length d₀
  pub is : d ≡ paste d₀ (to + left) (drop (from + left) d₀) (n - left)

pub all_left : (d : List ℤ) (from to n : ℕ) → Up d from to n d n
all_left d from to n =
    let e : n - n ≡ 0 = omega arith in
    record { long = refl; is = paste-zero d (to + n) (drop (from + n) d) ∙ ap (paste d (to + n) (drop (from + n) d)) (sym e) }

moved_up : (d : List ℤ) (from to n left : ℕ) → to + n ≤ length d → from ≤ to → 0 < left → left ≤ n →
    set (paste d (to + left) (drop (from + left) d) (n - left)) (to + (left - 1))
    (get_or (paste d (to + left) (drop (from + left) d) (n - left)) (from + (left - 1)) (pos 0))
    ≡ paste d (to + (left - 1)) (drop (from + (left - 1)) d) (n - (left - 1))
moved_up d from to n left h k z l =
    let a : to + left ≡ suc (to + (left - 1)) = omega arith in
    let b : from + left ≡ suc (from + (left - 1)) = omega arith in
    let m : n - (left - 1) ≡ suc (n - left) = omega arith in
    let x = get_or d (from + (left - 1)) (pos 0) in
    ap (set (paste d (to + left) (drop (from + left) d) (n - left)) (to + (left - 1)))
    (before d (to + left) (drop (from + left) d) (n - left) (from + (left - 1)) (omega arith) (omega arith))
    ∙ ap (λ (t : ℕ). set (paste d t (drop (from + left) d) (n - left)) (to + (left - 1)) x) a
    ∙ one-before d (to + (left - 1)) (drop (from + left) d) (n - left) x (omega arith)
    ∙ ap (λ (f : ℕ). paste d (to + (left - 1)) (x ∷ drop f d) (suc (n - left))) b
    ∙ ap (λ (s : List ℤ). paste d (to + (left - 1)) s (suc (n - left))) (sym (drop-cons d (from + (left - 1)) (pos 0) (omega arith)))
    ∙ ap (paste d (to + (left - 1)) (drop (from + (left - 1)) d)) (sym m)

pub one_less : {d₀ : List ℤ} {from to n : ℕ} {d : List ℤ} {left : ℕ} → Up d₀ from to n d left → (x : ℤ) → to + n ≤ length d₀ → from ≤ to
    → 0 < left → left ≤ n → x ≡ get_or d (from + (left - 1)) (pos 0) → Up d₀ from to n (set d (to + (left - 1)) x) (left - 1)
one_less {d₀} {from} {to} {n} {d} {left} u x h k z l e =
    let s : List ℤ = paste d₀ (to + left) (drop (from + left) d₀) (n - left) in
    record {
      long = length-set d (to + (left - 1)) x ∙ u.long;
      is =
          ap (set d (to + (left - 1))) e
          ∙ ap (λ (m : List ℤ). set m (to + (left - 1)) (get_or m (from + (left - 1)) (pos 0))) u.is
          ∙ moved_up d₀ from to n left h k z l;
    }

-- the whole run
pub all-pasted : (d : List ℤ) (at k : ℕ) (s ys : List ℤ) → ys ≡ s → length s ≡ k → put_mid at k d ys ≡ pasted d at s
unfolding pasted
all-pasted d at k s ys e h =
    put_mid-paste at k d ys s (length s) e h refl
    ∙ ap (λ (l : List ℤ). take at d ++ l ++ drop (at + length s) d) (take-length s)

pub all-cleared : (d : List ℤ) (at n : ℕ) (ys : List ℤ) → at + n ≤ length d
    → ys ≡ replicate (length (take (at + n - at) (drop at d))) (pos 0) → put_mid at (at + n - at) d ys ≡ cleared d at n
unfolding cleared pasted
all-cleared d at n ys h e =
    let k : at + n - at ≡ n = omega arith in
    let f : at + n - at ≤ length (drop at d) = omega (arith, length-drop at d) in
    let m : length (take (at + n - at) (drop at d)) ≡ n = length-take-le (at + n - at) (drop at d) f ∙ k in
    let l : length (replicate n (pos 0)) ≡ n = length-replicate n (pos 0) in
    all-pasted d at (at + n - at) (replicate n (pos 0)) ys (e ∙ ap (λ (j : ℕ). replicate j (pos 0)) m) (l ∙ sym k)
    ∙ ap (λ (j : ℕ). take at d ++ replicate n (pos 0) ++ drop (at + j) d) l

pub all_moved : {d₀ : List ℤ} {to : ℕ} {d : List ℤ} {i : ℕ} (from n : ℕ) → Run d₀ to (drop from d₀) d i → i ≡ n → d ≡ moved d₀ from to n
unfolding moved
all_moved {d₀} {to} from n r e = r.is ∙ ap (paste d₀ to (drop from d₀)) e

pub none_left : {d₀ : List ℤ} {from to n : ℕ} {d : List ℤ} {left : ℕ} → Up d₀ from to n d left → left ≡ 0 → d ≡ moved d₀ from to n
unfolding moved
none_left {d₀} {from} {to} {n} {d} {left} u e =
    let a : to + left ≡ to = omega arith in
    let b : from + left ≡ from = omega arith in
    let m : n - left ≡ n = omega arith in
    u.is
    ∙ ap (λ (k : ℕ). paste d₀ k (drop (from + left) d₀) (n - left)) a
    ∙ ap (λ (k : ℕ). paste d₀ to (drop k d₀) (n - left)) b
    ∙ ap (paste d₀ to (drop from d₀)) m
