-- A block leads to its targets; rounds over the blocks; the beginning; how many blocks there are; the lowest without a mark.
use Prim.Native.Nat.{ℕ, zero, suc, ◌+◌, ◌-◌, ◌^◌, ◌≤◌, ◌<◌}
use mathlib.Core.Path.{◌≡◌, refl, sym, ◌∙◌, ap, subst}
use mathlib.Core.Bool.{Bool, false, ◌||◌}
use mathlib.Core.Option.{Option as Maybe, none, some}
use Rattle.std.specs.Prelude.{◌==◌, Option, Some, None, option_map}
use Rattle.std.specs.List.{find, range_with_len}
use mathlib.Core.List.{List, [], ◌∷◌}
use native.Mathlib.Omega.{arith}
use borrow.Author.Tests.{ne_eqb}
use lib.ListN.{length, get_or, get_elem?, drop, drop_of_length-le}
use Rattle.model.specs.Syntax.{Transfer, Head, Block, Function, Program, targets}
use Rattle.model.specs.Read as Read
use Rattle.model.specs.Read.{Parsed, Parser, byte, many}
use Rattle.model.specs.Pool.{block_in}
use Rattle.model.proofs.Facts.{none-some, some-injective, map-some, drop-some, below_at}
use Rattle.model.proofs.Reading.{next-ok, byte-ok, ok-value, many-length}
use Rattle.code.specs.Bytes.{byte_at, past}
use Rattle.code.specs.Code.{transfer_at}
use Rattle.code.proofs.Offsets.{past-in}
use Rattle.places.specs.Places.{Place, FindsFunction}
use Rattle.transfers.specs.Transfers.{transfer_in, FindsTransfer}
use Rattle.transfers.proofs.Blocks.{transfer-is}
use Rattle.inference.specs.Infer.{Mark, at, leads, lead, upward, sweep, entered}
use Rattle.inference.specs.Complete.{unmarked}
use Rattle.scopings.specs.Words.{digits, mark_of, Held}
use Rattle.scopings.specs.Changes.{level_in, names_in, Cleared, marked, Whole}
use Rattle.scopings.proofs.Changing.{mark-is, whole-cleared, whole-marked, one-marks}
use Rattle.infer.specs.declared.Nesting.{Nesting}
use Rattle.infer.specs.Infers.{lowest_of}
use Rattle.infer.specs.Nestings.{mark_by, Turns, under_at, Follows, Ended, Leads, LeadsAll, Reached, Begun, Counts, Lows}
use Rattle.infer.proofs.Sweeps.{Sweeping, upward-goes, upward-none, still, sweep-all, sweep-next, sweep-end, rounds-taken}
use Rattle.infer.specs.Rounds.{RoundsBy}
use denote.Ref.{MutBor}
use Rattle.infer.proofs.Marking.{mark-there}

-- what the words hold while the scopes stay
abbrev pub Marks : List ℕ → List ℕ → List Mark → Type 0
Marks Γs words ms = Whole words ms Γs

-- where there is no transfer there is no block; where there is one it is the block's
pub no_block : (o : Maybe Block) → transfer_in o ≡ none → o ≡ none
unfolding transfer_in
no_block none e = refl
no_block (some B) e = none-some (sym e)

pub the_block : (o : Maybe Block) {T : Transfer} → transfer_in o ≡ some T → (B : Block) × (o ≡ some B) × (B.transfer ≡ T)
unfolding transfer_in
the_block o e = map-some _ o e

module _ {s transfers : List ℕ} {f b : ℕ} {words : List ℕ} where
  -- a block that is not reached, and one that is not there
  pub lead-unreached : {level : ℕ} → level ≡ level_in words b → level ≡ 0 → Leads s transfers f b words false words
  unfolding lead at leads mark_of
  lead-unreached {level} e z =
      record {
        is = λ P F w ms Γs l h.
            let m : get_or ms b none ≡ none = mark-there h b (omega (arith, h.held.same)) ∙ rw (← e, z) in
            go (get_elem? F.blocks b) m h;
        same = λ q. refl;
      }
    where
      go : {ms : List Mark} {Γs : List ℕ} (o : Maybe Block) → get_or ms b none ≡ none → Whole words ms Γs
          → Whole words (at o (λ B ms. leads (get_or ms b none) B.transfer ms) ms) Γs
      go none m h = h
      go (some B) m h = rw m h

  module _ {r : Place} (find : FindsTransfer transfers f b r) where
    pub lead-nowhere : r ≡ None → Leads s transfers f b words false words
    unfolding lead at block_in
    lead-nowhere e =
        record {
          is = λ P F w ms Γs l h.
              let g : transfer_in (get_elem? F.blocks b) ≡ none =
              rw w.there at (subst (FindsTransfer transfers f b) e find s P w.ends) in
              rw (no_block (get_elem? F.blocks b) g) h;
          same = λ q. refl;
        }

    -- a block that is reached and there
    pub lead-at : {p level names : ℕ} {n u : Nesting} {t : Bool} {words' : List ℕ} → r ≡ Some p → level ≡ level_in words b
        → (level ≡ 0 → ⊥) → names ≡ names_in words b → n ≡ record { level = level; names = names } → Turns n (under_at s p) u
        → Follows u (targets (transfer_at s p)) words t words' → Leads s transfers f b words t words'
    unfolding lead at leads block_in mark_of
    lead-at {p} {level} {names} {n} {u} {t} {words'} e d z c k turns follows =
        record {
          is = λ P F w ms Γs l h.
              let (T, g, y) = subst (FindsTransfer transfers f b) e find s P w.ends in
              let g' : transfer_in (get_elem? F.blocks b) ≡ some T = rw w.there at g in
              let (B, i, j) = the_block (get_elem? F.blocks b) g' in
              let q : B.transfer ≡ transfer_at s p = j ∙ transfer-is s p T w.short y in
              let m : get_or ms b none ≡ mark_of level names = mark-there h b (omega (arith, h.held.same)) ∙ rw (d, c) in
              rw (i, q, m) (go level refl ms Γs h);
          same = follows.same;
        }
      where
        go : (v : ℕ) → level ≡ v → (ms : List Mark) (Γs : List ℕ) → Whole words ms Γs
            → Whole words' (leads (mark_of level names) (transfer_at s p) ms) Γs
        go zero e ms Γs h = absurd (z e)
        go (suc v) e ms Γs h = reached (digits v names) ms Γs (rw e (some_level v)) h
          where
            some_level : (v : ℕ) → mark_of (suc v) names ≡ some (digits v names)
            some_level v = refl

            reached : (ρ : List ℕ) (ms : List Mark) (Γs : List ℕ) → mark_of level names ≡ some ρ → Whole words ms Γs
                → Whole words' (leads (mark_of level names) (transfer_at s p) ms) Γs
            reached ρ ms Γs m h =
                let m' : mark_by n ≡ some ρ = rw k m in
                rw m (follows.is _ ms Γs (turns.is ρ m') h)

-- a round, block by block
pub record LeadsLeft (s transfers : List ℕ) (f n : ℕ) (words₀ words : List ℕ) (changed : Bool) (b : ℕ) : Type 0 where
  pub is : (P : Program) (F : Function) → Ended s transfers f P F → (Γs : List ℕ) → n ≡ length Γs →
      Sweeping (Marks Γs) (lead F) (upward 0 n) (upward b (n - b)) words₀ words
  pub same : changed ≡ false → words ≡ words₀

module _ {s transfers : List ℕ} {f n : ℕ} {words₀ : List ℕ} where
  pub leads-first : LeadsLeft s transfers f n words₀ words₀ false 0
  leads-first =
      let e : n - 0 ≡ n = omega arith in
      record { is = λ P F w Γs l. rw e (sweep-all (Marks Γs)); same = λ q. refl }

  module _ {words : List ℕ} {changed : Bool} {b : ℕ} (t : LeadsLeft s transfers f n words₀ words changed b) where
    pub leads-next : {words' : List ℕ} {m r : Bool} → b < n → Leads s transfers f b words m words' → r ≡ (changed || m)
        → LeadsLeft s transfers f n words₀ words' r (b + 1)
    leads-next l p e =
        record {
          is = λ P F w Γs d. sweep-next (Marks Γs) (t.is P F w Γs d) (upward-goes b n l) (λ ms h. p.is P F w ms Γs (omega arith) h);
          same = still t.same p.same e;
        }

    pub leads-end : n ≤ b → LeadsAll s transfers f n words₀ changed words
    leads-end l =
        record {
          is = λ P F w ms Γs d h. sweep-end (Marks Γs) (t.is P F w Γs d) (upward-none b n l) ms h;
          same = t.same;
        }

-- rounds, each of which leads all blocks to their targets
module _ {s transfers : List ℕ} {f n : ℕ} (post : MutBor (List ℕ) → Bool → MutBor (List ℕ) → Type 0)
    (all : (p : MutBor (List ℕ)) (r : Bool) (p' : MutBor (List ℕ)) → post p r p' → LeadsAll s transfers f n p.now r p'.now) where
  pub reaches : {words words' : List ℕ} → RoundsBy post n words words' → Reached s transfers f n words words'
  reaches t =
      record {
        is = λ P F w ms Γs d h.
            rounds-taken (Marks Γs) post (sweep (lead F) (upward 0 n)) (λ ws ms ns g k. one-marks g.held k.held)
            (λ p r p' c. let u = all p r p' c in (λ ms h. u.is P F w ms Γs d h, u.same)) n t ms h;
      }

-- the beginning
pub begun : {words words₁ words₂ : List ℕ} → Cleared words words₁ → words₂ ≡ marked words₁ 0 1 0 → Begun words words₂
unfolding entered mark_of digits
begun {words} {words₁} {words₂} c e =
    record { is = λ n l few. rw e (whole-marked (whole-cleared words words₁ n c l few) 0 1 0) }

-- what a function begins with: its number of parameters, and behind that of its returned values the number of its blocks
pub record Begins (s : List ℕ) (at : ℕ) (F : Function) : Type 0 where
  pub parameters : byte_at s at ≡ F.signature.parameters
  pub count : byte_at s (past at 2) ≡ length F.blocks

pub function-begins : (p : Parser Head) (s : List ℕ) (at : ℕ) (F : Function) (k : ℕ) → length s < 2 ^ 64
    → Read.function_by p s at ≡ Parsed.ok F k → Begins s at F
unfolding Read.function_by
function-begins p s at F k short e =
    let t = next-ok (byte 0 8 s at) _ e in
    let u = next-ok (byte 0 4 s t.between) _ t.then in
    let v = next-ok (byte 1 32 s u.between) _ u.then in
    let w = next-ok (byte 0 8 s v.between) _ v.then in
    let x = next-ok (many Read.spawn_call w.value s w.between) _ w.then in
    let y = next-ok (many (Read.block_by p) v.value s x.between) _ x.then in
    let b = byte-ok 0 8 s at _ _ t.first in
    let c = byte-ok 0 4 s t.between _ _ u.first in
    let d = byte-ok 1 32 s u.between _ _ v.first in
    let z : past at 2 ≡ u.between =
    past-in s at 2 short (omega (arith, b.behind, c.inside)) ∙ omega (arith, b.behind, c.behind) in
    let q : y.value ≡ F.blocks = ap (λ (F : Function). F.blocks) (ok-value y.then) in
    record {
      parameters = b.is ∙ ap (λ (F : Function). F.signature.parameters) (ok-value y.then);
      count = rw z (d.is ∙ sym (many-length (Read.block_by p) v.value s x.between y.first) ∙ ap length q);
    }

module _ (s places : List ℕ) (f : ℕ) {r : Place} (find : FindsFunction places f r) where
  pub count-nowhere : r ≡ None → Counts s places f 0
  count-nowhere e =
      record {
        is = λ P F w. none-some (sym (subst (FindsFunction places f) e find s P Read.bare w.placed) ∙ w.there);
      }

  pub count_at : {p k n : ℕ} → r ≡ Some p → k ≡ past p 2 → n ≡ byte_at s k → Counts s places f n
  count_at {p} {k} {n} e d c =
      record {
        is = λ P F w.
            let (G, g, t) = subst (FindsFunction places f) e find s P Read.bare w.placed in
            let z : G ≡ F = some-injective (sym g ∙ w.there) in
            c ∙ rw d ((function-begins Read.bare s p G t.behind w.placed.short t.is).count ∙ rw z);
      }

-- the lowest block without a mark
from : (ms : List Mark) (b : ℕ) → b < length ms → drop b ms ≡ get_or ms b none ∷ drop (b + 1) ms
from ms b l = let (m, e) = below_at ms b l in drop-some ms b e ∙ rw (at-get_or ms b e)
  where
    at-get_or : (ms : List Mark) (b : ℕ) {m : Mark} → get_elem? ms b ≡ some m → m ≡ get_or ms b none
    at-get_or [] b e = none-some e
    at-get_or (m ∷ ms) zero e = sym (some-injective e)
    at-get_or (m ∷ ms) (suc b) e = at-get_or ms b e

module _ {words : List ℕ} {ms : List Mark} {Γs : List ℕ} (h : Held words ms Γs) where
  low_from : (k b : ℕ) → b + k ≡ length ms → lowest_of (find (λ c. level_in words c == 0) (range_with_len b k)) ≡ unmarked b (drop b ms)
  unfolding unmarked mark_of
  low_from zero b e = rw (drop_of_length-le ms {i = b} (omega arith)) refl
  low_from (suc k) b e = rw here (go (level_in words b) refl (low_from k (b + 1) (omega arith)))
    where
      here : drop b ms ≡ mark_of (level_in words b) (names_in words b) ∷ drop (b + 1) ms
      here = from ms b (omega arith) ∙ rw (← h.marks b (omega arith), mark-is words b)

      go : (v : ℕ) → level_in words b ≡ v
          → lowest_of (find (λ c. level_in words c == 0) (range_with_len (b + 1) k)) ≡ unmarked (b + 1) (drop (b + 1) ms)
          → lowest_of (find (λ c. level_in words c == 0) (range_with_len b (suc k)))
          ≡ unmarked b (mark_of (level_in words b) (names_in words b) ∷ drop (b + 1) ms)
      go zero q i = rw q refl
      go (suc v) q i = let n : (suc v == 0) ≡ false = ne_eqb (suc v) 0 (λ z. absurd (omega arith)) in rw (q, n) i

pub low-is : {words : List ℕ} {n : ℕ} {r : Option ℕ} → option_map (λ x. x) r ≡ find (λ b. level_in words b == 0) (range_with_len 0 n)
    → Lows words n r
low-is {words} {n} {r} e = record { is = λ ms Γs d h. ap lowest_of (same r ∙ e) ∙ low_from h n 0 (omega arith) }
  where
    same : (r : Option ℕ) → r ≡ option_map (λ x. x) r
    same None = refl
    same (Some x) = refl
