-- Passing over the table's rules: what each turn and each return of the code shows, in the shape of its goal.
use Prim.Native.Nat.{ℕ, zero, suc, ◌+◌, ◌-◌, ◌≤◌, ◌<◌}
use native.Mathlib.Omega.{arith}
use mathlib.Core.Path.{◌≡◌, refl, sym, ap, ◌∙◌}
use mathlib.Core.Bool.{Bool, true, false}
use mathlib.Core.List.{List}
use lib.Dec.{ltb}
use borrow.Author.Tests.{ltb-true, ltb-false, lt-ltb, le-ltb, le-leb, lt-leb}
use lib.ListN.{length, get_or}
use Rattle.model.specs.Read.{Parsed, Parser, next, byte, many}
use Rattle.table.specs.Skips.{skip_of, byte_of}
use Rattle.std.specs.Prelude.{Result, Ok, Err}

-- a byte: missing, too low or too high, in range
module _ (s : List ℕ) (at lo hi : ℕ) where
  pub byte-missing : length s ≤ at → byte_of (Err (length s)) ≡ byte lo hi s at
  unfolding byte byte_of
  byte-missing h = simp (le-ltb at (length s) h)

  module _ (b : ℕ) (h : at < length s) (e : b ≡ get_or s at 0) where
    pub byte_low : b < lo → byte_of (Err at) ≡ byte lo hi s at
    unfolding byte byte_of
    byte_low l = simp (lt-ltb at (length s) h, ← e, lt-leb lo b l)

    pub byte_high : lo ≤ b → hi < b → byte_of (Err at) ≡ byte lo hi s at
    unfolding byte byte_of
    byte_high l g = simp (lt-ltb at (length s) h, ← e, le-leb lo b l, lt-leb b hi g)

    pub byte-found : lo ≤ b → b ≤ hi → byte_of (Ok (b, at + 1)) ≡ byte lo hi s at
    unfolding byte byte_of
    byte-found l g = simp (lt-ltb at (length s) h, ← e, le-leb lo b l, le-leb b hi g)

-- a byte that was passed over
pub byte_at : (p : Parsed ℕ) (v m : ℕ) → byte_of (Ok (v, m)) ≡ p → Ok m ≡ skip_of p
unfolding skip_of byte_of
byte_at p v m e = ap skip_of e

pub byte-bad : (p : Parsed ℕ) (x : ℕ) → byte_of (Err x) ≡ p → Err x ≡ skip_of p
unfolding skip_of byte_of
byte-bad p x e = ap skip_of e

-- behind a byte: what follows may look at it
pub byte-then : (B : Type 0) (p : Parsed ℕ) (k : ℕ → ℕ → Parsed B) (r : Result ℕ ℕ) (v m : ℕ) → byte_of (Ok (v, m)) ≡ p
    → r ≡ skip_of (k v m) → r ≡ skip_of (next p k)
unfolding next byte_of
byte-then B p k r v m e h = h ∙ ap (λ (q : Parsed ℕ). skip_of (next q k)) e

-- behind anything else: what follows is passed over alike, whatever was read
pub skip-then : (A B : Type 0) (p : Parsed A) (k : A → ℕ → Parsed B) (r : Result ℕ ℕ) (m : ℕ) → Ok m ≡ skip_of p
    → ((a : A) → r ≡ skip_of (k a m)) → r ≡ skip_of (next p k)
unfolding next skip_of
skip-then A B (Parsed.ok a at) k r m e h = let q : m ≡ at = cc in h a ∙ ap (λ (n : ℕ). skip_of (k a n)) q
skip-then A B (Parsed.bad x) k r m e h = absurd (let z : ◌≡◌ {A = ℕ} 0 1 = cc in omega arith)

-- the first bad byte ends it
pub skip-else : (A B : Type 0) (p : Parsed A) (k : A → ℕ → Parsed B) (r : Result ℕ ℕ) (x : ℕ) → Err x ≡ skip_of p → r ≡ Err x
    → r ≡ skip_of (next p k)
unfolding next skip_of
skip-else A B (Parsed.ok a at) k r x e o = absurd (let z : ◌≡◌ {A = ℕ} 0 1 = cc in omega arith)
skip-else A B (Parsed.bad y) k r x e o = o ∙ e

pub byte-else : (B : Type 0) (p : Parsed ℕ) (k : ℕ → ℕ → Parsed B) (r : Result ℕ ℕ) (x : ℕ) → byte_of (Err x) ≡ p → r ≡ Err x
    → r ≡ skip_of (next p k)
byte-else B p k r x e o = skip-else _ _ p k r x (byte-bad p x e) o

-- the last part of a rule, whose value is only wrapped
pub skip-ok : (A : Type 0) (a : A) (m : ℕ) → Ok m ≡ skip_of (Parsed.ok a m)
unfolding skip_of
skip-ok A a m = refl

pub skip-last : (A B : Type 0) (p : Parsed A) (k : A → ℕ → Parsed B) (r : Result ℕ ℕ) → r ≡ skip_of p
    → ((a : A) (m : ℕ) → Ok m ≡ skip_of (k a m)) → r ≡ skip_of (next p k)
unfolding next skip_of
skip-last A B (Parsed.ok a at) k r e h = e ∙ h a at
skip-last A B (Parsed.bad x) k r e h = e

pub many-none : (A : Type 0) (p : Parser A) (s : List ℕ) (n k : ℕ) → n ≡ 0 → Ok k ≡ skip_of (many p n s k)
unfolding many skip_of
many-none A p s n k e = sym (ap (λ (n : ℕ). skip_of (many p n s k)) e)

-- n repeated items, of which i were passed over: one more is passed, one is bad, none is left
unrolled : {A : Type 0} (p : Parser A) (s : List ℕ) (n i k : ℕ) → i < n
    → skip_of (many p (n - i) s k) ≡ skip_of (many p (suc (n - (i + 1))) s k)
unrolled p s n i k h = let e : n - i ≡ suc (n - (i + 1)) = omega arith in ap (λ (n : ℕ). skip_of (many p n s k)) e

many-begins : (A : Type 0) (p : Parser A) (s : List ℕ) (n k : ℕ) → skip_of (many p n s k) ≡ skip_of (many p (n - 0) s k)
many-begins A p s n k = let e : n ≡ n - 0 = omega arith in ap (λ (n : ℕ). skip_of (many p n s k)) e

pub many-goes : (A : Type 0) (p : Parser A) (s : List ℕ) (n i k m : ℕ) (X : Result ℕ ℕ) → X ≡ skip_of (many p (n - i) s k)
    → Ok m ≡ skip_of (p s k) → i < n → X ≡ skip_of (many p (n - (i + 1)) s m)
unfolding many
many-goes A p s n i k m X e a h =
    e
    ∙ unrolled p s n i k h
    ∙ sym (skip-then _ _ (p s k) _ _ m a (λ x. skip-last _ _ (many p (n - (i + 1)) s m) _ _ refl (λ y n. skip-ok _ _ n)))

pub many-stops : (A : Type 0) (p : Parser A) (s : List ℕ) (n i k x : ℕ) (r X : Result ℕ ℕ) → X ≡ skip_of (many p (n - i) s k)
    → Err x ≡ skip_of (p s k) → r ≡ Err x → i < n → r ≡ X
unfolding many
many-stops A p s n i k x r X e a o h = skip-else _ _ (p s k) _ r x a o ∙ sym (e ∙ unrolled p s n i k h)

pub many-ends : (A : Type 0) (p : Parser A) (s : List ℕ) (n i k : ℕ) (X : Result ℕ ℕ) → X ≡ skip_of (many p (n - i) s k) → n ≤ i → Ok k ≡ X
many-ends A p s n i k X e h = many-none A p s (n - i) k (omega arith) ∙ sym e

-- bytes of any value: all are there, or one is missing
module _ (s : List ℕ) (small : (i : ℕ) → get_or s i 0 < 256) where
  any-goes : (n at : ℕ) → at < length s → skip_of (many (byte 0 255) (suc n) s at) ≡ skip_of (many (byte 0 255) n s (at + 1))
  any-goes n at h =
      let a : Ok (at + 1) ≡ skip_of (byte 0 255 s at) =
      byte_at _ _ _ (byte-found s at 0 255 _ h refl (omega arith) (omega (arith, small at))) in
      let e : suc n - (0 + 1) ≡ n = omega arith in
      many-goes _ (byte 0 255) s (suc n) 0 at (at + 1) _ (many-begins _ _ s (suc n) at) a (omega arith)
      ∙ ap (λ (n : ℕ). skip_of (many (byte 0 255) n s (at + 1))) e

  pub all_there : (n at : ℕ) → at + n ≤ length s → Ok (at + n) ≡ skip_of (many (byte 0 255) n s at)
  all_there zero at h = let e : at + 0 ≡ at = omega arith in ap Ok e ∙ many-none _ (byte 0 255) s 0 at refl
  all_there (suc n) at h =
      let e : at + suc n ≡ at + 1 + n = omega arith in
      ap Ok e ∙ all_there n (at + 1) (omega arith) ∙ sym (any-goes n at (omega arith))

  pub one-missing : (n at : ℕ) → 0 < n → length s < at + n → Err (length s) ≡ skip_of (many (byte 0 255) n s at)
  one-missing zero at p h = absurd (omega arith)
  one-missing (suc n) at p h = go (ltb at (length s)) refl (λ q. one-missing n (at + 1) q (omega arith))
    where
      go : (b : Bool) → ltb at (length s) ≡ b → (0 < n → Err (length s) ≡ skip_of (many (byte 0 255) n s (at + 1)))
          → Err (length s) ≡ skip_of (many (byte 0 255) (suc n) s at)
      go true e rest =
          let l : at < length s = ltb-true at (length s) e in
          rest (omega arith) ∙ sym (any-goes n at l)
      go false e rest =
          let l : length s ≤ at = ltb-false at (length s) e in
          many-stops _ (byte 0 255) s (suc n) 0 at (length s) _ _ (many-begins _ _ s (suc n) at)
          (byte-bad _ _ (byte-missing s at 0 255 l)) refl (omega arith)

pub ruleset loops = (many-goes, many-stops, many-ends, byte_at, byte-bad)

pub ruleset skips = (byte-then, byte-else, skip-then, skip-else, skip-last, skip-ok, byte_at, byte-bad)
