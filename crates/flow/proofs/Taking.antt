-- The table is taken byte by byte, until it is whole.
use Rattle.std.proofs.Common.{◌≡◌, ℕ, zero, suc, ◌+◌, ◌<◌, ◌≤◌, min, Bool, true, false, not, ◌||◌, leb, List, [], ◌∷◌, ◌++◌, length, get_or, take, drop, set, sym, refl, ap, ◌∙◌, add-one, arith, take-append-drop, length-take, take_all}
use mathlib.Core.Logic.{◌⊎◌, inl, inr}
use Rattle.model.specs.Read.{length_field}
use Rattle.model.proofs.Facts.{le-leb, lt-leb, leb-true, leb-false}
use Rattle.code.specs.Bytes.{word_at}
use Rattle.table.proofs.Answered.{field_is}
use Rattle.flow.specs.Stages.{whole, limited}
use Rattle.flow.specs.Stands.{Looks}
use Rattle.flow.proofs.Field.{same-field}

-- the front of a slice
pub front-part : (s : List ℕ) (n : ℕ) {m : ℕ} → m ≡ min n (length s) → take m s ≡ take n s
front-part s n {m} e = go (leb n (length s)) refl
  where
    go : (b : Bool) → leb n (length s) ≡ b → take m s ≡ take n s
    go true t = let h : m ≡ n = omega (arith, leb-true n (length s) t) in ap (λ (k : ℕ). take k s) h
    go false t =
        let h : length s < n = leb-false n (length s) t in
        take_all m s (omega arith) ∙ sym (take_all n s (omega arith))

-- a byte is put behind the first n
put_next : (s : List ℕ) (n b : ℕ) → n < length s → take (suc n) (set s n b) ≡ take n s ++ b ∷ []
put_next [] n b h = absurd (omega arith)
put_next (x ∷ s) zero b h = refl
put_next (x ∷ s) (suc n) b h = ap (λ l. x ∷ l) (put_next s n b (omega arith))

pub put-behind : (s : List ℕ) (n b : ℕ) → n < length s → take (n + 1) (set s n b) ≡ take n s ++ b ∷ []
put-behind s n b h = ap (λ (k : ℕ). take k (set s n b)) (add-one n) ∙ put_next s n b h

-- whether the first n bytes are a whole table
module _ (table : List ℕ) (n : ℕ) where
  pub short : n < 4 → Looks table n false
  unfolding whole
  short h l =
      let k = length-take n table in
      let e : leb 4 (length (take n table)) ≡ false = lt-leb 4 (length (take n table)) (omega arith) in rw e refl

  module _ (bytes : (i : ℕ) → get_or table i 0 < 256) (w : ℕ) (is : w ≡ word_at table 0) (four : 4 ≤ n) where
    field : n ≤ length table → length_field (take n table) ≡ w
    field l =
        let k = length-take n table in
        sym (same-field (take n table) (drop n table) (omega arith)) ∙ ap length_field (take-append-drop n table)
        ∙ field_is table bytes (omega arith) ∙ sym is

    -- a length that is no table's, and one that is
    by-limits : (b : Bool) → limited w ≡ b → n ≤ length table → whole (take n table) ≡ not b || leb w n
    unfolding whole
    by-limits b e l =
        let k : length (take n table) ≡ n = let z = length-take n table in omega arith in
        rw (field l, k, e, le-leb 4 n four) refl

    pub outside : (w < 6) ⊎ ((6 ≤ w) × (16384 < w)) → Looks table n true
    unfolding limited
    outside (inl h) l = sym (by-limits false (rw (lt-leb 6 w h) refl) l)
    outside (inr (a, h)) l = sym (by-limits false (rw (le-leb 6 w a, lt-leb w 16384 h) refl) l)

    pub between : 6 ≤ w → w ≤ 16384 → Looks table n (leb w n)
    unfolding limited
    between a b l = sym (by-limits true (rw (le-leb 6 w a, le-leb w 16384 b) refl) l)
