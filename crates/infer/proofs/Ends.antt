-- All marks of a function, and all scopes: the entry's scope, and what the two calls leave.
use Prim.Native.Nat.{ℕ, ◌*◌, ◌-◌, ◌%◌, ◌^◌, ◌<◌}
use mathlib.Core.Path.{◌≡◌, sym, ◌∙◌, ap, subst}
use mathlib.Core.List.{List}
use native.Mathlib.Omega.{arith}
use native.Mathlib.Nat.{mod-eq_of_lt}
use lib.ListN.{length, replicate, length-replicate}
use Rattle.model.specs.Sets.{below}
use Rattle.model.specs.Syntax.{Function, Program}
use Rattle.model.specs.Limits.{InFunction}
use Rattle.model.specs.Read as Read
use Rattle.model.proofs.Facts.{none-some, some-injective, each_at}
use Rattle.words.proofs.Sets.{low}
use Rattle.code.specs.Bytes.{byte_at}
use Rattle.places.specs.Places.{Place, FindsFunction}
use Rattle.inference.specs.Infer.{marks, given, needed, scopes, entered, downward, sweep, rounds, need, grow}
use Rattle.scopings.specs.Words.{len, blocks}
use Rattle.scopings.specs.Changes.{scoped, Whole}
use Rattle.scopings.proofs.Changing.{whole-scoped}
use Rattle.std.specs.Prelude.{Option, Some, None}
use Rattle.infer.specs.Infers.{Known, Reaches, Infers}
use Rattle.infer.specs.Nestings.{Ended, Placed, Begun, Counts, Reached, Lows}
use Rattle.infer.specs.Needs.{Enters, NeedsAll, Bounded, Settles}
use Rattle.infer.proofs.Leading.{function-begins}

-- the temporaries 0 to n - 1, as the code makes them
pub below-is : (n : ℕ) → 1 * 2 ^ (n % 16) % 65536 - 1 ≡ below (n % 16)
unfolding below
below-is n = ap (λ (k : ℕ). k - 1) (low (n % 16) (omega arith))

-- the entry's scope
module _ (s places : List ℕ) (f : ℕ) {r : Place} (find : FindsFunction places f r) where
  pub given-nowhere : r ≡ None → Enters s places f 0
  given-nowhere e =
      record {
        is = λ P F w. none-some (sym (subst (FindsFunction places f) e find s P Read.bare w.placed) ∙ w.there);
      }

  pub given-at : {p n v : ℕ} → r ≡ Some p → n ≡ byte_at s p → v ≡ below (n % 16) → Enters s places f v
  given-at {p} {n} {v} e d c =
      record {
        is = λ P F w.
            let (G, g, t) = subst (FindsFunction places f) e find s P Read.bare w.placed in
            let z : G ≡ F = some-injective (sym g ∙ w.there) in
            let b = function-begins Read.bare s p G t.behind w.placed.short t.is in
            let y : n ≡ F.signature.parameters = d ∙ b.parameters ∙ rw z in
            let i = each_at InFunction P f w.placed.limits.functions w.there in
            c ∙ ap below (mod-eq_of_lt (omega (arith, i.parameters)) ∙ y);
      }

-- what is known of a function, of which the places and the transfers are those
module _ {s places transfers : List ℕ} {f : ℕ} {P : Program} {F : Function} (k : Known s places transfers f P F) where
  as-ended : Ended s transfers f P F
  as-ended = record { short = k.placed.short; ends = k.ended; there = k.there }

  as-placed : Placed s places f P F
  as-placed = record { placed = k.placed; there = k.there }

  limits : InFunction F
  limits = each_at InFunction P f k.placed.limits.functions k.there

module _ {s places transfers : List ℕ} {f n : ℕ} {words words₁ words₂ : List ℕ} (c : Counts s places f n) (b : Begun words words₁)
    (r : Reached s transfers f n words₁ words₂) where
  -- the marks, with empty scopes
  marks-held : (P : Program) (F : Function) → Known s places transfers f P F → length words ≡ len
      → Whole words₂ (marks F) (replicate (length F.blocks) 0)
  unfolding marks
  marks-held P F k l =
      let e : n ≡ length F.blocks = c.is P F (as-placed k) in
      let d : n ≡ length (replicate {A = ℕ} n 0) = sym (length-replicate {A = ℕ} n 0) in
      rw (← e) (r.is P F (as-ended k) (entered n) (replicate n 0) d (b.is n l (omega (arith, (limits k).few_blocks))))

  pub reaches : {v : Option ℕ} → Lows words₂ n v → Reaches s places transfers f words v words₂
  reaches o =
      record {
        is = λ P F k l.
            let w = marks-held P F k l in
            let e : n ≡ length F.blocks = c.is P F (as-placed k) in
            let d : n ≡ length (marks F) = e ∙ sym (length-replicate {A = ℕ} (length F.blocks) 0) ∙ w.held.same in
            (o.is (marks F) _ d w.held, w.held.long);
      }

  -- and the scopes, from those that are given: first with what each block needs itself
  module _ {words₃ words₄ words₅ bounds bounds' : List ℕ} (m : NeedsAll s places f n words₃ bounds words₄ bounds')
      (t : Settles s transfers f n bounds' words₄ words₅) where
    scopes-held : (P : Program) (F : Function) → Known s places transfers f P F → length bounds ≡ blocks → n ≡ length F.blocks
        → length F.blocks ≡ length (marks F) → Whole words₃ (marks F) (given F) → Whole words₅ (marks F) (scopes F)
    unfolding scopes needed
    scopes-held P F k l e d g =
        let w : Bounded s transfers f bounds' P F = record { ended = as-ended k; bound = m.keeps P F (as-placed k) e l } in
        let v = m.is P F (as-placed k) (marks F) (given F) d (e ∙ d) g in
        subst
        (λ (n : ℕ).
        Whole words₅ (marks F) (rounds (sweep (grow F) (downward n)) (16 * n) (sweep (need F (marks F)) (downward n) (given F))))
        e (t.is P F w (marks F) _ d (e ∙ d) v)

    pub infers : {v : ℕ} → Enters s places f v → v < 65536 → words₃ ≡ scoped words₂ 0 v → bounds ≡ replicate blocks 0
        → Infers s places transfers f words words₅
    unfolding given
    infers {v} o h q z =
        record {
          is = λ P F k l.
              let w = marks-held P F k l in
              let d : length F.blocks ≡ length (marks F) = sym (length-replicate {A = ℕ} (length F.blocks) 0) ∙ w.held.same in
              let g : Whole words₃ (marks F) (given F) =
              rw (q, ← o.is P F (as-placed k)) (whole-scoped w 0 v (omega (arith, (limits k).some_block)) h) in
              (scopes-held P F k (ap length z ∙ length-replicate {A = ℕ} blocks 0) (c.is P F (as-placed k)) d g).held;
        }
