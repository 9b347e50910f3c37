-- Laws of the parsers' combinators, for code that reads at an offset: what a byte is, how `many` goes on, fails and ends, and
-- where its items stand.
use Prim.Native.Nat.{ℕ, zero, suc, ◌+◌, ◌-◌, ◌≤◌, ◌<◌}
use mathlib.Core.Path.{◌≡◌, refl, sym, ◌∙◌, ap}
use mathlib.Core.Bool.{Bool, true, false, ◌&&◌, cond}
use mathlib.Core.Option.{some}
use mathlib.Core.List.{List, [], ◌∷◌, ◌++◌}
use native.Mathlib.Nat.{zero-add, suc-add, not-suc-le-zero, le_of_suc-le-suc}
use native.Mathlib.Omega.{arith}
use lib.Dec.{ltb, leb}
use lib.ListN.{length, get_or, get_elem?, take}
use Rattle.model.specs.Read.{Parsed, Parser, next, byte, many, counted}
use Rattle.model.proofs.Facts.{ltb-true, lt-ltb, le-ltb, leb-true, and_left, and_right}

-- one answer is not two
pub bad-ok : {A B : Type 0} {place k : ℕ} {a : A} → ◌≡◌ {A = Parsed A} (Parsed.bad place) (Parsed.ok a k) → B
bad-ok e = let z : ◌≡◌ {A = ℕ} 0 1 = cc in absurd (omega arith)

pub ok-value : {A : Type 0} {j k : ℕ} {a b : A} → Parsed.ok a j ≡ Parsed.ok b k → a ≡ b
ok-value e = cc

pub ok-offset : {A : Type 0} {j k : ℕ} {a b : A} → Parsed.ok a j ≡ Parsed.ok b k → j ≡ k
ok-offset e = cc

-- one after another
pub record Both {A B : Type 0} (o : Parsed A) (f : A → ℕ → Parsed B) (b : B) (k : ℕ) : Type 0 where
  pub value : A
  pub between : ℕ
  pub first : o ≡ Parsed.ok value between
  pub then : f value between ≡ Parsed.ok b k

module _ {A B : Type 0} where
  pub next-ok : (o : Parsed A) (f : A → ℕ → Parsed B) {b : B} {k : ℕ} → next o f ≡ Parsed.ok b k → Both o f b k
  unfolding next
  next-ok (Parsed.ok a j) f e = record { value = a; between = j; first = refl; then = e }
  next-ok (Parsed.bad place) f e = bad-ok e

  pub ok-next : (o : Parsed A) (f : A → ℕ → Parsed B) {a : A} {j : ℕ} → o ≡ Parsed.ok a j → next o f ≡ f a j
  unfolding next
  ok-next o f e = ap (λ (p : Parsed A). next p f) e

  pub bad-next : (o : Parsed A) (f : A → ℕ → Parsed B) {place : ℕ} → o ≡ Parsed.bad place → next o f ≡ Parsed.bad place
  unfolding next
  bad-next o f e = ap (λ (p : Parsed A). next p f) e

-- a byte: read, out of range, past the end
pub record Byte (lo hi : ℕ) (s : List ℕ) (at n k : ℕ) : Type 0 where
  pub inside : at < length s
  pub low : lo ≤ n
  pub high : n ≤ hi
  pub is : get_or s at 0 ≡ n
  pub behind : k ≡ at + 1

pub byte-ok : (lo hi : ℕ) (s : List ℕ) (at n k : ℕ) → byte lo hi s at ≡ Parsed.ok n k → Byte lo hi s at n k
unfolding byte
byte-ok lo hi s at n k e = go (ltb at (length s)) (leb lo v && leb v hi) refl refl e
  where
    v : ℕ
    v = get_or s at 0

    go : (b c : Bool) → ltb at (length s) ≡ b → (leb lo v && leb v hi) ≡ c
        → cond b (cond c (Parsed.ok v (at + 1)) (Parsed.bad at)) (Parsed.bad (length s)) ≡ Parsed.ok n k → Byte lo hi s at n k
    go true true p q e =
        let low : lo ≤ v = leb-true lo v (and_left _ (leb v hi) q) in
        let high : v ≤ hi = leb-true v hi (and_right (leb lo v) _ q) in
        let is : v ≡ n = ok-value e in
        record { inside = ltb-true at (length s) p; low = omega arith; high = omega arith; is = is; behind = sym (ok-offset e) }
    go true false p q e = bad-ok e
    go false c p q e = bad-ok e

pub bad-byte : (lo hi : ℕ) (s : List ℕ) (at : ℕ) → at < length s → (leb lo (get_or s at 0) && leb (get_or s at 0) hi) ≡ false
    → byte lo hi s at ≡ Parsed.bad at
unfolding byte
bad-byte lo hi s at i e = rw (lt-ltb at (length s) i, e)

pub no_byte : (lo hi : ℕ) (s : List ℕ) (at : ℕ) → length s ≤ at → byte lo hi s at ≡ Parsed.bad (length s)
unfolding byte
no_byte lo hi s at i = rw (le-ltb at (length s) i)

-- items read before others
unfoldable pub joined : {A : Type 0} → List A → Parsed (List A) → Parsed (List A)
joined xs o = next o (λ ys k. Parsed.ok (xs ++ ys) k)

module _ {A : Type 0} where
  pub joined-none : (o : Parsed (List A)) → joined [] o ≡ o
  unfolding joined next
  joined-none (Parsed.ok ys k) = refl
  joined-none (Parsed.bad place) = refl

  pub joined-joined : (x : A) (xs : List A) (o : Parsed (List A)) → joined (x ∷ []) (joined xs o) ≡ joined (x ∷ xs) o
  unfolding joined next
  joined-joined x xs (Parsed.ok ys k) = refl
  joined-joined x xs (Parsed.bad place) = refl

  pub joined-ok : (xs ys : List A) (k : ℕ) → joined xs (Parsed.ok ys k) ≡ Parsed.ok (xs ++ ys) k
  unfolding joined next
  joined-ok xs ys k = refl

  pub joined-bad : (xs : List A) (place : ℕ) → joined xs (Parsed.bad place) ≡ Parsed.bad place
  unfolding joined next
  joined-bad xs place = refl

-- many: it ends, goes on, fails; `suc n` as the definition has it, and n - 1 as a loop that counts down has it
module _ {A : Type 0} (p : Parser A) (s : List ℕ) (at : ℕ) where
  pub many-ends : many p 0 s at ≡ Parsed.ok [] at
  unfolding many
  many-ends = refl

  pub many-goes : (n : ℕ) {x : A} {k : ℕ} → p s at ≡ Parsed.ok x k → many p (suc n) s at ≡ joined (x ∷ []) (many p n s k)
  unfolding many joined
  many-goes n e = ok-next (p s at) _ e

  pub many-fails : (n : ℕ) {place : ℕ} → p s at ≡ Parsed.bad place → many p (suc n) s at ≡ Parsed.bad place
  unfolding many
  many-fails n e = bad-next (p s at) _ e

-- n + 1 items that read: the first, and the rest
pub record Uncons {A : Type 0} (p : Parser A) (n : ℕ) (s : List ℕ) (at : ℕ) (xs : List A) (k : ℕ) : Type 0 where
  pub item : A
  pub between : ℕ
  pub rest : List A
  pub first : p s at ≡ Parsed.ok item between
  pub then : many p n s between ≡ Parsed.ok rest k
  pub is : xs ≡ item ∷ rest

-- item i stands where the i items before it end
pub record Item {A : Type 0} (p : Parser A) (s : List ℕ) (at : ℕ) (xs : List A) (i : ℕ) : Type 0 where
  pub item : A
  pub from : ℕ
  pub to : ℕ
  pub before : many p i s at ≡ Parsed.ok (take i xs) from
  pub here : p s from ≡ Parsed.ok item to
  pub is : get_elem? xs i ≡ some item

module _ {A : Type 0} (p : Parser A) where
  pub many-uncons : (n : ℕ) (s : List ℕ) (at : ℕ) {xs : List A} {k : ℕ} → many p (suc n) s at ≡ Parsed.ok xs k → Uncons p n s at xs k
  unfolding many
  many-uncons n s at e =
      let b = next-ok (p s at) _ e in
      let c = next-ok (many p n s b.between) _ b.then in
      record {
        item = b.value;
        between = b.between;
        rest = c.value;
        first = b.first;
        then = c.first ∙ ap (Parsed.ok c.value) (ok-offset c.then);
        is = sym (ok-value c.then);
      }

  pub many-length : (n : ℕ) (s : List ℕ) (at : ℕ) {xs : List A} {k : ℕ} → many p n s at ≡ Parsed.ok xs k → length xs ≡ n
  unfolding many
  many-length zero s at e = ap length (sym (ok-value e))
  many-length (suc n) s at e = let u = many-uncons n s at e in ap length u.is ∙ ap suc (many-length n s u.between u.then)

  pub many-item : (n i : ℕ) (s : List ℕ) (at : ℕ) {xs : List A} {k : ℕ} → many p n s at ≡ Parsed.ok xs k → i < n → Item p s at xs i
  many-item zero i s at e h = absurd (not-suc-le-zero h)
  many-item (suc n) zero s at e h =
      let u = many-uncons n s at e in
      rw u.is (record { item = u.item; from = at; to = u.between; before = many-ends p s at; here = u.first; is = refl })
  many-item (suc n) (suc i) s at e h =
      let u = many-uncons n s at e in
      let t = many-item n i s u.between u.then (le_of_suc-le-suc h) in
      rw u.is
      (record {
        item = t.item;
        from = t.from;
        to = t.to;
        before = many-goes p s at i u.first ∙ ap (joined (u.item ∷ [])) t.before ∙ joined-ok _ _ _;
        here = t.here;
        is = t.is;
      })

  -- i items, and then n more
  pub many-add : (i n : ℕ) (s : List ℕ) (at : ℕ) {xs : List A} {k : ℕ} → many p i s at ≡ Parsed.ok xs k
      → many p (i + n) s at ≡ joined xs (many p n s k)
  unfolding many
  many-add zero n s at e =
      rw (zero-add n, ← ok-value e, ← ok-offset e) (sym (joined-none (many p n s at)))
  many-add (suc i) n s at e =
      let u = many-uncons i s at e in
      rw (suc-add i n, u.is)
      (many-goes p s at (i + n) u.first ∙
      ap (joined (u.item ∷ [])) (many-add i n s u.between u.then) ∙
      joined-joined u.item u.rest _)

  -- a place where the next item does not read is that of them all
  pub many-stops : (i n : ℕ) (s : List ℕ) (at : ℕ) {xs : List A} {k place : ℕ} → many p i s at ≡ Parsed.ok xs k → i < n
      → p s k ≡ Parsed.bad place → many p n s at ≡ Parsed.bad place
  many-stops i n s at {xs} {k} {place} e h d =
      let q : n ≡ i + suc (n - suc i) = omega arith in
      rw q (many-add i (suc (n - suc i)) s at e ∙ ap (joined xs) (many-fails p s k (n - suc i) d) ∙ joined-bad xs place)

-- a counted list: its length in a byte, and behind that its items
pub counted-ok : {A : Type 0} (most : ℕ) (p : Parser A) (s : List ℕ) (at : ℕ) {xs : List A} {k : ℕ} → counted most p s at ≡ Parsed.ok xs k
    → Byte 0 most s at (length xs) (at + 1) × (many p (length xs) s (at + 1) ≡ Parsed.ok xs k)
unfolding counted
counted-ok most p s at e =
    let b = next-ok (byte 0 most s at) _ e in
    let c : Byte 0 most s at b.value b.between = byte-ok 0 most s at _ _ b.first in
    let n = many-length p b.value s b.between b.then in
    rw (n, ← c.behind) (c, b.then)
