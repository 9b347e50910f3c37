-- Bytes that stand at an offset, and the law of a parser and its writer: what is read at an offset stands there as it is written, and
-- what stands there is read. One law a combinator.
use Prim.Native.Nat.{ℕ, zero, suc, ◌+◌, ◌≤◌, ◌<◌}
use mathlib.Core.Path.{◌≡◌, refl, sym, ◌∙◌, ap, subst}
use mathlib.Core.List.{List, [], ◌∷◌, ◌++◌, map, append_assoc, append-nil}
use native.Mathlib.Nat.{add-zero}
use native.Mathlib.Numerals.{add-one}
use native.Mathlib.Omega.{arith}
use lib.Dec.{leb}
use lib.ListN.{length, get_or, drop, length-append, length-drop}
use lib.Seq.{drop-cons, drop-drop, drop-length, drop-append_seam, get_or-drop}
use Rattle.model.specs.Lists.{Each, concat}
use Rattle.model.specs.Read as Read
use Rattle.model.specs.Read.{Parsed, Parser, byte, many, counted, pick}
use Rattle.model.specs.Write as Write
use Rattle.model.proofs.Facts.{lt-ltb, le-leb, both-and}
use Rattle.model.proofs.Reading.{bad-ok, ok-value, ok-offset, next-ok, ok-next, byte-ok}

-- xs stand in s from an offset on
pub record Stand (s : List ℕ) (at : ℕ) (xs : List ℕ) : Type 0 where
  pub is : drop at s ≡ xs ++ drop (at + length xs) s

-- xs stand in s between two offsets
pub record Between (s : List ℕ) (at k : ℕ) (xs : List ℕ) : Type 0 where
  pub stand : Stand s at xs
  pub end : k ≡ at + length xs

-- what p reads at an offset stands there as w writes it, and is what K says; and where what w writes of such an a stands, p reads a
pub record Law {A : Type 0} (p : Parser A) (w : A → List ℕ) (K : A → Type 0) : Type 0 where
  pub stands : (s : List ℕ) (at : ℕ) (a : A) (k : ℕ) → p s at ≡ Parsed.ok a k → Stand s at (w a)
  pub end : (s : List ℕ) (at : ℕ) (a : A) (k : ℕ) → p s at ≡ Parsed.ok a k → k ≡ at + length (w a)
  pub holds : (s : List ℕ) (at : ℕ) (a : A) (k : ℕ) → p s at ≡ Parsed.ok a k → K a
  pub reads : (s : List ℕ) (at : ℕ) (a : A) → K a → Stand s at (w a) → p s at ≡ Parsed.ok a (at + length (w a))

-- one behind the other, and the two apart
pub stand-append : (s : List ℕ) (at : ℕ) (xs ys : List ℕ) → Stand s at xs → Stand s (at + length xs) ys → Stand s at (xs ++ ys)
stand-append s at xs ys h g =
    let e : at + length xs + length ys ≡ at + length (xs ++ ys) = omega (arith, length-append xs ys) in
    record {
      is =
          h.is
          ∙ ap (λ (l : List ℕ). xs ++ l) g.is
          ∙ sym (append_assoc xs ys _)
          ∙ ap (λ (k : ℕ). (xs ++ ys) ++ drop k s) e;
    }

pub stand-right : (s : List ℕ) (at : ℕ) (xs ys : List ℕ) → Stand s at (xs ++ ys) → Stand s (at + length xs) ys
stand-right s at xs ys h =
    let e : at + length (xs ++ ys) ≡ at + length xs + length ys = omega (arith, length-append xs ys) in
    record {
      is =
          sym (drop-drop (length xs) at s)
          ∙ ap (drop (length xs)) (h.is ∙ append_assoc xs ys _)
          ∙ drop-append_seam xs _
          ∙ ap (λ (k : ℕ). ys ++ drop k s) e;
    }

pub stand-left : (s : List ℕ) (at : ℕ) (xs ys : List ℕ) → Stand s at (xs ++ ys) → Stand s at xs
stand-left s at xs ys h =
    let e : at + length (xs ++ ys) ≡ at + length xs + length ys = omega (arith, length-append xs ys) in
    record {
      is =
          h.is
          ∙ append_assoc xs ys _
          ∙ ap (λ (k : ℕ). xs ++ (ys ++ drop k s)) e
          ∙ ap (λ (l : List ℕ). xs ++ l) (sym (stand-right s at xs ys h).is);
    }

-- the same between offsets, and nothing between an offset and itself
module _ {s : List ℕ} {at : ℕ} where
  pub between_none : Between s at at []
  between_none = let e : at ≡ at + 0 = omega arith in record { stand = record { is = ap (λ (k : ℕ). drop k s) e }; end = e }

  pub between-append : {m k : ℕ} {xs ys : List ℕ} → Between s at m xs → Between s m k ys → Between s at k (xs ++ ys)
  between-append {m} {k} {xs} {ys} h g =
      record {
        stand = stand-append s at xs ys h.stand (subst (λ (j : ℕ). Stand s j ys) h.end g.stand);
        end = omega (arith, h.end, g.end, length-append xs ys);
      }

  pub between_left : {k : ℕ} (xs ys : List ℕ) → Between s at k (xs ++ ys) → Between s at (at + length xs) xs
  between_left xs ys h = record { stand = stand-left s at xs ys h.stand; end = refl }

  pub between-right : {k : ℕ} (xs ys : List ℕ) → Between s at k (xs ++ ys) → Between s (at + length xs) k ys
  between-right xs ys h =
      record { stand = stand-right s at xs ys h.stand; end = omega (arith, h.end, length-append xs ys) }

-- a whole list stands from its start to its end, and nothing else does
pub between-whole : (s : List ℕ) → Between s 0 (length s) s
between-whole s =
    let e : length s ≡ 0 + length s = omega arith in
    record {
      stand = record { is = sym (append-nil s) ∙ ap (λ (l : List ℕ). s ++ l) (sym (drop-length s) ∙ ap (λ (k : ℕ). drop k s) e) };
      end = e;
    }

pub whole-between : (s xs : List ℕ) → Between s 0 (length s) xs → xs ≡ s
whole-between s xs h =
    sym (h.stand.is ∙ ap (λ (l : List ℕ). xs ++ l) (ap (λ (k : ℕ). drop k s) (sym h.end) ∙ drop-length s) ∙ append-nil xs)

-- one byte between two offsets
pub byte-stands : (s : List ℕ) (at n k : ℕ) → at < length s → get_or s at 0 ≡ n → k ≡ at + 1 → Between s at k (n ∷ [])
byte-stands s at n k h e b =
    record { stand = record { is = rw (add-one at) (drop-cons s at 0 h ∙ ap (λ (m : ℕ). m ∷ drop (suc at) s) e) }; end = b }

pub stands-inside : (s : List ℕ) (at n : ℕ) (xs : List ℕ) → Stand s at (n ∷ xs) → at < length s
stands-inside s at n xs h = omega (arith, length-drop at s, ap length h.is)

pub stands-byte : (s : List ℕ) (at n : ℕ) (xs : List ℕ) → Stand s at (n ∷ xs) → get_or s at 0 ≡ n
stands-byte s at n xs h =
    ap (λ (k : ℕ). get_or s k 0) (sym (add-zero at)) ∙ sym (get_or-drop at s 0 0) ∙ ap (λ (l : List ℕ). get_or l 0 0) h.is

-- a law by its two ways, between two offsets
module _ {A : Type 0} {p : Parser A} {w : A → List ℕ} {K : A → Type 0} where
  pub law-by : ((s : List ℕ) (at : ℕ) (a : A) (k : ℕ) → p s at ≡ Parsed.ok a k → Between s at k (w a) × K a)
      → ((s : List ℕ) (at : ℕ) (a : A) (k : ℕ) → K a → Between s at k (w a) → p s at ≡ Parsed.ok a k) → Law p w K
  law-by back forth =
      record {
        stands = λ s at a k e. (back s at a k e).0.stand;
        end = λ s at a k e. (back s at a k e).0.end;
        holds = λ s at a k e. (back s at a k e).1;
        reads = λ s at a h st. forth s at a _ h (record { stand = st; end = refl });
      }

  pub back : Law p w K → (s : List ℕ) (at : ℕ) (a : A) (k : ℕ) → p s at ≡ Parsed.ok a k → Between s at k (w a)
  back l s at a k e = record { stand = l.stands s at a k e; end = l.end s at a k e }

  pub forth : Law p w K → (s : List ℕ) (at : ℕ) (a : A) (k : ℕ) → K a → Between s at k (w a) → p s at ≡ Parsed.ok a k
  forth l s at a k h b = l.reads s at a h b.stand ∙ ap (Parsed.ok a) (sym b.end)

-- the same law, with K in other words
pub law-as : {A : Type 0} {p : Parser A} {w : A → List ℕ} {K L : A → Type 0} → Law p w K → ((a : A) → K a → L a)
    → ((a : A) → L a → K a) → Law p w L
law-as l f g = law-by (λ s at a k e. (back l s at a k e, f a (l.holds s at a k e))) (λ s at a k h b. forth l s at a k (g a h) b)

-- a parser of what `mk` makes of a c: what it reads is some mk c, which stands there as w writes c
pub record Made {C B : Type 0} (p : Parser B) (mk : C → B) (w : C → List ℕ) (K : C → Type 0) : Type 0 where
  pub from : (s : List ℕ) (at : ℕ) (b : B) (k : ℕ) → p s at ≡ Parsed.ok b k → (c : C) × (b ≡ mk c) × Between s at k (w c) × K c
  pub to : (s : List ℕ) (at : ℕ) (c : C) (k : ℕ) → K c → Between s at k (w c) → p s at ≡ Parsed.ok (mk c) k

-- a value as it is
pub made-law : {A : Type 0} {p : Parser A} {w : A → List ℕ} {K : A → Type 0} → Law p w K → Made p (λ (a : A). a) w K
made-law l =
    record { from = λ s at a k e. (a, refl, back l s at a k e, l.holds s at a k e); to = λ s at a k h b. forth l s at a k h b }

-- a last value, and what is made of it
pub made : {A B : Type 0} {p : Parser A} {w : A → List ℕ} {K : A → Type 0} (mk : A → B) → Law p w K
    → Made (Read.◌>>=◌ p (λ a. Read.pure (mk a))) mk w K
made {A} {B} {p} {w} {K} mk l =
    record {
      from = λ s at b k e.
          let t = next-ok (p s at) (λ a j. Parsed.ok (mk a) j) e in
          let q : t.between ≡ k = ok-offset t.then in
          let f : p s at ≡ Parsed.ok t.value k = t.first ∙ ap (Parsed.ok t.value) q in
          (t.value, sym (ok-value t.then), back l s at _ k f, l.holds s at _ k f);
      to = λ s at c k h b. ok-next (p s at) _ (forth l s at c k h b);
    }

-- a value, and what is made of it and of what is read behind it
pub made_then : {A B C : Type 0} {p : Parser A} {f : A → Parser B} {w : A → List ℕ} {K : A → Type 0} {mk : A → C → B} {v : C → List ℕ}
    {J : A → C → Type 0} → Law p w K → ((a : A) → Made (f a) (mk a) v (J a))
    → Made (Read.◌>>=◌ p f) (λ (c : A × C). mk c.0 c.1) (λ c. w c.0 ++ v c.1) (λ c. K c.0 × J c.0 c.1)
made_then {A} {B} {C} {p} {f} {w} {K} {mk} {v} {J} l g =
    record {
      from = λ s at b k e.
          let t = next-ok (p s at) (λ a j. f a s j) e in
          let (c, m, h, j) = (g t.value).from s t.between b k t.then in
          ((t.value, c), m, between-append (back l s at _ _ t.first) h, (l.holds s at _ _ t.first, j));
      to = λ s at c k h b.
          ok-next (p s at) (λ a j. f a s j) (forth l s at c.0 _ h.0 (between_left (w c.0) (v c.1) b))
          ∙ (g c.0).to s _ c.1 k h.1 (between-right (w c.0) (v c.1) b);
    }

-- the law of a parser of which every value is made so
pub law-made : {B C : Type 0} {p : Parser B} {mk : C → B} {v : C → List ℕ} {J : C → Type 0} {w : B → List ℕ} {K : B → Type 0}
    → Made p mk v J → ((c : C) → J c → (w (mk c) ≡ v c) × K (mk c)) → ((b : B) → K b → (c : C) × (mk c ≡ b) × (w b ≡ v c) × J c) → Law p w K
law-made {B} {C} {p} {mk} {v} {J} {w} {K} m f g =
    law-by (λ s at b k e. there s at b k (m.from s at b k e)) (λ s at b k h i. here s at b k i (g b h))
  where
    there : (s : List ℕ) (at : ℕ) (b : B) (k : ℕ) → (c : C) × (b ≡ mk c) × Between s at k (v c) × J c → Between s at k (w b) × K b
    there s at b k (c, e, h, j) =
        rw e (subst (λ (xs : List ℕ). Between s at k xs) (sym (f c j).0) h, (f c j).1)

    here : (s : List ℕ) (at : ℕ) (b : B) (k : ℕ) → Between s at k (w b) → (c : C) × (mk c ≡ b) × (w b ≡ v c) × J c → p s at ≡ Parsed.ok b k
    here s at b k i (c, e, q, j) =
        m.to s at c k j (subst (λ (xs : List ℕ). Between s at k xs) q i) ∙ ap (λ (x : B). Parsed.ok x k) e

-- a byte
pub law-byte : (lo hi : ℕ) → Law (byte lo hi) Write.byte (λ n. (lo ≤ n) × (n ≤ hi))
unfolding byte
law-byte lo hi =
    law-by
    (λ s at n k e. let b = byte-ok lo hi s at n k e in (byte-stands s at n k b.inside b.is b.behind, (b.low, b.high)))
    (λ s at n k h b.
    let e : get_or s at 0 ≡ n = stands-byte s at n [] b.stand in
    rw
    (lt-ltb at (length s) (stands-inside s at n [] b.stand), e, both-and (leb lo n) _ (le-leb lo n h.0) (le-leb n hi h.1), b.end))

-- so many of what p reads
module _ {A : Type 0} (w : A → List ℕ) (K : A → Type 0) where
  law-nothing : Law (Read.pure []) (λ xs. concat (map w xs)) (λ xs. Each K xs × (length xs ≡ 0))
  unfolding concat
  law-nothing = law-by nothing-back nothing-forth
    where
      nothing-back : (s : List ℕ) (at : ℕ) (xs : List A) (k : ℕ) → Parsed.ok [] at ≡ Parsed.ok xs k
          → Between s at k (concat (map w xs)) × (Each K xs × (length xs ≡ 0))
      nothing-back s at xs k e = rw (← ok-value e, ← ok-offset e) (between_none, (tt, refl))

      nothing-forth : (s : List ℕ) (at : ℕ) (xs : List A) (k : ℕ) → Each K xs × (length xs ≡ 0) → Between s at k (concat (map w xs))
          → Parsed.ok [] at ≡ Parsed.ok xs k
      nothing-forth s at [] k h b = ap (Parsed.ok []) (omega (arith, b.end))
      nothing-forth s at (x ∷ xs) k h b = absurd (omega (arith, h.1))

  -- a list that is not empty: its first, and the others
  uncons : (n : ℕ) (xs : List A) → Each K xs × (length xs ≡ suc n)
      → (c : A × List A) × (c.0 ∷ c.1 ≡ xs) × (concat (map w xs) ≡ w c.0 ++ concat (map w c.1))
      × (K c.0 × (Each K c.1 × (length c.1 ≡ n)))
  unfolding concat
  uncons n [] h = absurd (omega (arith, h.1))
  uncons n (x ∷ xs) ((h, hs), e) = ((x, xs), refl, refl, (h, (hs, omega arith)))

module _ {A : Type 0} {p : Parser A} {w : A → List ℕ} {K : A → Type 0} (l : Law p w K) where
  pub law-many : (n : ℕ) → Law (many p n) (λ xs. concat (map w xs)) (λ xs. Each K xs × (length xs ≡ n))
  unfolding many concat
  law-many zero = law-nothing w K
  law-many (suc n) =
      law-made (made_then l (λ x. made (λ xs. x ∷ xs) (law-many n))) (λ (x, xs) (h, (hs, e)). (refl, ((h, hs), ap suc e)))
      (uncons w K n)

  -- behind their number, which is from lo to hi
  pub law-numbered : (lo hi : ℕ)
      → Law (Read.◌>>=◌ (byte lo hi) (λ n. many p n)) (Write.counted w) (λ xs. Each K xs × ((lo ≤ length xs) × (length xs ≤ hi)))
  unfolding Write.counted
  law-numbered lo hi =
      law-made (made_then (law-byte lo hi) (λ n. made-law (law-many n)))
      (λ (n, xs) ((a, b), (h, e)). (ap (λ (m : ℕ). m ∷ concat (map w xs)) e, (h, (omega arith, omega arith))))
      (λ xs (h, b). ((length xs, xs), refl, refl, (b, (h, refl))))

  pub law-counted : (most : ℕ) → Law (counted most p) (Write.counted w) (λ xs. Each K xs × (length xs ≤ most))
  unfolding counted
  law-counted most = law-as (law-numbered 0 most) (λ xs (h, (a, b)). (h, b)) (λ xs (h, b). (h, (omega arith, b)))

-- what p reads, w writes behind the kind k
pub record Kind {B : Type 0} (p : Parser B) (w : B → List ℕ) (K : B → Type 0) (k : ℕ) : Type 0 where
  pub kind : (s : List ℕ) (at : ℕ) (b : B) (j : ℕ) → p s at ≡ Parsed.ok b j → (ys : List ℕ) × (w b ≡ k ∷ ys) × Between s at j ys × K b

module _ {B C : Type 0} {p : Parser B} {mk : C → B} {v : C → List ℕ} {J : C → Type 0} {w : B → List ℕ} {K : B → Type 0} {k : ℕ} where
  pub kind-made : Made p mk v J → ((c : C) → J c → (w (mk c) ≡ k ∷ v c) × K (mk c)) → Kind p w K k
  kind-made m f = record { kind = λ s at b j e. there s at b j (m.from s at b j e) }
    where
      there : (s : List ℕ) (at : ℕ) (b : B) (j : ℕ) → (c : C) × (b ≡ mk c) × Between s at j (v c) × J c
          → (ys : List ℕ) × (w b ≡ k ∷ ys) × Between s at j ys × K b
      there s at b j (c, e, h, i) = (v c, ap w e ∙ (f c i).0, h, subst K (sym e) (f c i).1)

pub kind-none : {B : Type 0} {w : B → List ℕ} {K : B → Type 0} {k : ℕ} → Kind (λ s at. Parsed.bad at) w K k
kind-none = record { kind = λ s at b j e. bad-ok e }

-- one of several kinds: what is read has one of them; and what stands behind a kind is read by it
module _ {B : Type 0} (ps : List (Parser B)) (hi : ℕ) where
  pub kinds-back : {w : B → List ℕ} {K : B → Type 0} → ((k : ℕ) → Kind (pick ps k) w K k) → (s : List ℕ) (at : ℕ) (b : B) (j : ℕ)
      → Read.◌>>=◌ (byte 0 hi) (pick ps) s at ≡ Parsed.ok b j → Between s at j (w b) × K b
  kinds-back {w} {K} f s at b j e =
      let t = next-ok (byte 0 hi s at) (λ k i. pick ps k s i) e in
      let (ys, q, h, i) = (f t.value).kind s t.between b j t.then in
      (subst (λ (xs : List ℕ). Between s at j xs) (sym q) (between-append (back (law-byte 0 hi) s at _ _ t.first) h), i)

  pub kind-reads : {C : Type 0} {mk : C → B} {v : C → List ℕ} {J : C → Type 0} (k : ℕ) → k ≤ hi → Made (pick ps k) mk v J
      → (s : List ℕ) (at : ℕ) (c : C) (j : ℕ) → J c → Between s at j (k ∷ v c)
      → Read.◌>>=◌ (byte 0 hi) (pick ps) s at ≡ Parsed.ok (mk c) j
  kind-reads {C} {mk} {v} k i m s at c j h b =
      ok-next (byte 0 hi s at) (λ n l. pick ps n s l) (forth (law-byte 0 hi) s at k _ (omega arith, i) (between_left (k ∷ []) (v c) b))
      ∙ m.to s _ c j h (between-right (k ∷ []) (v c) b)
