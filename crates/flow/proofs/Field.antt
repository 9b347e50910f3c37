-- The length field is that of the first four bytes, whatever follows them.
use Rattle.std.proofs.Common.{◌≡◌, ℕ, ◌+◌, ◌<◌, ◌≤◌, List, ◌++◌, length, refl, ap, arith, length-append}
use lib.ListN.{get_or-append}
use Rattle.model.specs.Read.{Parsed, next, byte, half, word, or_zero, length_field}
use Rattle.model.proofs.Facts.{lt-ltb}
use Rattle.model.proofs.Reading.{byte-ok, next-ok, ok-offset}

both-next : {A B : Type 0} (o o' : Parsed A) {f g : A → ℕ → Parsed B} → o ≡ o'
    → ((a : A) (k : ℕ) → o' ≡ Parsed.ok a k → f a k ≡ g a k) → next o f ≡ next o' g
unfolding next
both-next o (Parsed.ok a k) {f} {g} e h = rw e (h a k refl)
both-next o (Parsed.bad place) e h = rw e refl

module _ (s t : List ℕ) where
  same_byte : (at : ℕ) → at < length s → byte 0 255 (s ++ t) at ≡ byte 0 255 s at
  unfolding byte
  same_byte at l =
      let e = lt-ltb at (length s) l in
      let m : at < length (s ++ t) = let k = length-append s t in omega arith in
      let d = get_or-append s t 0 at l in
      rw (e, lt-ltb at (length (s ++ t)) m, d) refl

  after-byte : (at : ℕ) {n k : ℕ} → byte 0 255 s at ≡ Parsed.ok n k → k ≡ at + 1
  after-byte at e = (byte-ok 0 255 s at _ _ e).behind

  same_half : (at : ℕ) → at + 1 < length s → half (s ++ t) at ≡ half s at
  unfolding half
  same_half at l =
      let m : at < length s = omega arith in
      both-next _ _ (same_byte at m) λ a k e. let z = after-byte at e in
      let q : byte 0 255 (s ++ t) k ≡ byte 0 255 s k = rw z (same_byte (at + 1) l) in both-next _ _ q λ b j f. refl

  after-half : (at : ℕ) {n k : ℕ} → half s at ≡ Parsed.ok n k → k ≡ at + 2
  unfolding half
  after-half at e =
      let a = next-ok _ _ e in let b = next-ok _ _ a.then in
      let z = after-byte at a.first in
      let y = after-byte a.between b.first in
      let x = ok-offset b.then in omega arith

  same_word : 4 ≤ length s → word (s ++ t) 0 ≡ word s 0
  unfolding word
  same_word l =
      both-next _ _ (same_half 0 (omega arith)) λ a k e. let z = after-half 0 e in
      let q : half (s ++ t) k ≡ half s k = rw z (same_half 2 (omega arith)) in both-next _ _ q λ b j f. refl

pub same-field : (s t : List ℕ) → 4 ≤ length s → length_field (s ++ t) ≡ length_field s
unfolding length_field
same-field s t l = ap or_zero (same_word s t l)
