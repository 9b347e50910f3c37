-- Nestings as a level and names: opened, closed, under a transfer. And what marking blocks with one does to the words.
use Prim.Native.Nat.{ℕ, zero, suc, ◌+◌, ◌*◌, ◌-◌, ◌/◌, ◌%◌, ◌≤◌, ◌<◌}
use mathlib.Core.Path.{◌≡◌, refl, sym, ◌∙◌, ap}
use mathlib.Core.Bool.{Bool, true, false, ◌||◌}
use mathlib.Core.Option.{none, some}
use mathlib.Core.Logic.{◌⊎◌}
use mathlib.Core.List.{List, [], ◌∷◌, ◌++◌}
use native.Mathlib.Omega.{arith}
use Rattle.std.specs.Prelude.{min}
use Rattle.code.specs.declared.Kind.{Kind}
use Rattle.code.specs.declared.Kind.TheVariants.{Goto, If, Call, Return, Spork, Spoin}
use Rattle.code.specs.Kinds.{number_of}
use lib.Arith.{digits_div, digits_mod, mod-mul}
use lib.Dec.{ltb}
use lib.ListN.{length, get_or, set, get_or-eq_default}
use lib.Seq.{set-get_or, set_out}
use Rattle.model.specs.Lists.{unsnoc}
use Rattle.model.proofs.Facts.{ltb-true, ltb-false, lt-ltb, le-ltb, none-some, some-injective}
use Rattle.code.specs.Bytes.{byte_at, past}
use Rattle.code.specs.Code.{run}
use Rattle.inference.specs.Infer.{Mark, opened, front, closed, first, mark, mark_all}
use Rattle.scopings.specs.Words.{digits, mark_of}
use Rattle.scopings.specs.Changes.{level_in, names_in, marked, Whole}
use Rattle.scopings.proofs.Changing.{mark-is, whole-marked, digits-length}
use Rattle.infer.specs.declared.Nesting.{Nesting}
use Rattle.infer.specs.Nestings.{mark_by, Turns, opened_by, under_at, Follows}
use Rattle.infer.proofs.Sweeps.{still}
use Rattle.infer.proofs.ByKind.{under_same, under-opened, under-closed}
use Rattle.code.proofs.Ends.{run-goes, run_none}

-- the nesting of a level above 0
levelled : (level names d : ℕ) {ρ : List ℕ} → level ≡ suc d → mark_of level names ≡ some ρ → digits d names ≡ ρ
unfolding mark_of
levelled level names d e h = some-injective (rw e at h)

-- no level, no nesting
unlevelled : {A : Type 0} (level names : ℕ) {ρ : List ℕ} → level ≡ 0 → mark_of level names ≡ some ρ → A
unfolding mark_of
unlevelled level names e h = none-some (rw e at h)

-- one name more, behind d names, which come to m numbers: the first name stays, and the others are those of a quotient
more-next : (m d names x : ℕ) → 0 < m → digits (suc d) (names / 256 % m + m * x) ≡ digits d (names / 256) ++ (x ∷ [])
    → digits (suc (suc d)) (names % (m * 256) + m * 256 * x) ≡ digits (suc d) names ++ (x ∷ [])
unfolding digits
more-next m d names x h e =
    let z : names % (m * 256) + m * 256 * x ≡ (names / 256 % m + m * x) * 256 + names % 256 =
    omega (arith, mod-mul names {m = m} {c = 256} h (omega arith)) in
    let l : names % 256 < 256 = omega arith in
    rw (z, digits_mod (names / 256 % m + m * x) {m = 256} l, digits_div (names / 256 % m + m * x) {m = 256} l)
    (ap (λ (ρ : List ℕ). names % 256 ∷ ρ) e)

more-none : (x : ℕ) → x < 256 → digits 1 x ≡ x ∷ []
unfolding digits
more-none x h = let e : x % 256 ≡ x = omega arith in rw e

more-one : (names x : ℕ) → x < 256 → digits 2 (names % 256 + 256 * x) ≡ digits 1 names ++ (x ∷ [])
unfolding digits
more-one names x h =
    let e : names / 256 % 1 + 1 * x ≡ x = omega arith in
    more-next 1 0 names x (omega arith) (rw e (more-none x h))

more-two : (names x : ℕ) → x < 256 → digits 3 (names % 65536 + 65536 * x) ≡ digits 2 names ++ (x ∷ [])
more-two names x h = more-next 256 1 names x (omega arith) (more-one (names / 256) x h)

more-three : (names x : ℕ) → x < 256 → digits 4 (names % 16777216 + 16777216 * x) ≡ digits 3 names ++ (x ∷ [])
more-three names x h = more-next 65536 2 names x (omega arith) (more-two (names / 256) x h)

-- opened behind d names, of which there are less than four
opens : (d : ℕ) (n : Nesting) (x : ℕ) (r : Nesting) → d < 4 → n.level ≡ suc d → r.level ≡ suc (suc d)
    → digits (suc d) r.names ≡ digits d n.names ++ (x ∷ []) → Turns n (opened_by x) r
unfolding mark_of opened
opens d n x r l e f g =
    record {
      is = λ ρ h.
          let z : digits d n.names ≡ ρ = levelled n.level n.names d e h in
          let q : ltb (length ρ) 4 ≡ true = lt-ltb (length ρ) 4 (omega (arith, digits-length d n.names, ap length z)) in
          rw (f, g, z, q);
    }

module _ (n : Nesting) (x : ℕ) (h : x < 256) where
  pub opened-first : n.level ≡ 1 → Turns n (opened_by x) (record { level = 2; names = x })
  unfolding digits
  opened-first e = opens 0 n x _ (omega arith) e refl (more-none x h)

  pub opened-second : n.level ≡ 2 → Turns n (opened_by x) (record { level = 3; names = n.names % 256 + 256 * x })
  opened-second e = opens 1 n x _ (omega arith) e refl (more-one n.names x h)

  pub opened-third : n.level ≡ 3 → Turns n (opened_by x) (record { level = 4; names = n.names % 65536 + 65536 * x })
  opened-third e = opens 2 n x _ (omega arith) e refl (more-two n.names x h)

  pub opened-fourth : n.level ≡ 4 → Turns n (opened_by x) (record { level = 5; names = n.names % 16777216 + 16777216 * x })
  opened-fourth e = opens 3 n x _ (omega arith) e refl (more-three n.names x h)

-- four names are the most
pub opened-full : (n : Nesting) (x : ℕ) → (n.level ≡ 1 → ⊥) → (n.level ≡ 2 → ⊥) → (n.level ≡ 3 → ⊥) → (n.level ≡ 4 → ⊥)
    → Turns n (opened_by x) n
unfolding opened
opened-full n x h₁ h₂ h₃ h₄ = record { is = λ ρ h. h ∙ ap some (sym (go n.level refl ρ h)) }
  where
    go : (k : ℕ) → n.level ≡ k → (ρ : List ℕ) → mark_by n ≡ some ρ → opened ρ x ≡ ρ
    go zero e ρ h = unlevelled n.level n.names e h
    go (suc d) e ρ h =
        let z : digits d n.names ≡ ρ = levelled n.level n.names d e h in
        let q : ltb (length ρ) 4 ≡ false = le-ltb (length ρ) 4 (omega (arith, digits-length d n.names, ap length z)) in
        rw q

-- one name less
closed-digits : (d names : ℕ) → closed (digits (suc d) names) ≡ digits d names
unfolding closed front unsnoc digits
closed-digits zero names = refl
closed-digits (suc d) names = ap (λ (ρ : List ℕ). names % 256 ∷ ρ) (closed-digits d (names / 256))

pub closed_none : (n : Nesting) → n.level < 2 → Turns n closed n
unfolding closed front unsnoc digits
closed_none n l = record { is = λ ρ h. h ∙ ap some (sym (go n.level refl ρ h)) }
  where
    go : (k : ℕ) → n.level ≡ k → (ρ : List ℕ) → mark_by n ≡ some ρ → closed ρ ≡ ρ
    go zero e ρ h = unlevelled n.level n.names e h
    go (suc zero) e ρ h = let z : [] ≡ ρ = levelled n.level n.names 0 e h in rw (← z)
    go (suc (suc d)) e ρ h = absurd (omega arith)

pub closed_some : (n : Nesting) → 2 ≤ n.level → Turns n closed (record { level = n.level - 1; names = n.names })
unfolding mark_of
closed_some n l = record { is = λ ρ h. go n.level refl ρ h }
  where
    go : (k : ℕ) → n.level ≡ k → (ρ : List ℕ) → mark_by n ≡ some ρ → mark_of (n.level - 1) n.names ≡ some (closed ρ)
    go zero e ρ h = absurd (omega arith)
    go (suc zero) e ρ h = absurd (omega arith)
    go (suc (suc d)) e ρ h =
        let z : digits (suc d) n.names ≡ ρ = levelled n.level n.names (suc d) e h in
        let y : n.level - 1 ≡ suc d = omega arith in
        rw (y, ← z, closed-digits d n.names)

-- under a transfer
turns_as : {n r : Nesting} {g h : List ℕ → List ℕ} → Turns n g r → ((ρ : List ℕ) → h ρ ≡ g ρ) → Turns n h r
turns_as t e = record { is = λ ρ m. t.is ρ m ∙ ap some (sym (e ρ)) }

module _ (s : List ℕ) (at : ℕ) {g : Kind} (k : number_of g ≡ min (byte_at s at) 5) (n : Nesting) where
  pub under-stays : (g ≡ Goto) ⊎ ((g ≡ If) ⊎ ((g ≡ Call) ⊎ (g ≡ Return))) → Turns n (under_at s at) n
  under-stays h = record { is = λ ρ m. m ∙ ap some (sym (under_same s at k ρ h)) }

  pub under-opens : {j x : ℕ} {r : Nesting} → g ≡ Spork → j ≡ past at 2 → x ≡ byte_at s j → Turns n (opened_by x) r
      → Turns n (under_at s at) r
  under-opens z e d t = turns_as t (λ ρ. under-opened s at k ρ z e ∙ rw d)

  pub under-closes : {r : Nesting} → g ≡ Spoin → Turns n closed r → Turns n (under_at s at) r
  under-closes z t = turns_as t (λ ρ. under-closed s at k ρ z)

-- the mark of a block in the words, where there is one
module _ {words : List ℕ} {ms : List Mark} {Γs : List ℕ} (w : Whole words ms Γs) (b : ℕ) where
  pub mark-there : b < length ms → get_or ms b none ≡ mark_of (level_in words b) (names_in words b)
  mark-there l = sym (w.held.marks b l) ∙ mark-is words b

  -- a block that has no level has no mark; a mark that is there stays
  unmarked : {level : ℕ} → level ≡ level_in words b → level ≡ 0 → get_or ms b none ≡ none
  unfolding mark_of
  unmarked e z = go (ltb b (length ms)) refl
    where
      go : (t : Bool) → ltb b (length ms) ≡ t → get_or ms b none ≡ none
      go true q = mark-there (ltb-true b (length ms) q) ∙ rw (← e, z)
      go false q = get_or-eq_default ms none {n = b} (ltb-false b (length ms) q)

  remains : {level : ℕ} (ρ : List ℕ) → level ≡ level_in words b → (level ≡ 0 → ⊥) → mark ρ ms b ≡ ms
  unfolding mark first mark_of
  remains {level} ρ e z = go (ltb b (length ms)) refl
    where
      some_level : (k : ℕ) → (k ≡ 0 → ⊥) → first (mark_of k (names_in words b)) ρ ≡ mark_of k (names_in words b)
      some_level zero n = absurd (n refl)
      some_level (suc k) n = refl

      go : (t : Bool) → ltb b (length ms) ≡ t → set ms b (first (get_or ms b none) ρ) ≡ ms
      go true q =
          let m : get_or ms b none ≡ mark_of level (names_in words b) = mark-there (ltb-true b (length ms) q) ∙ rw (← e) in
          let y : first (get_or ms b none) ρ ≡ get_or ms b none = rw m (some_level level z) in
          rw y (set-get_or ms b none)
      go false q = set_out ms b _ (ltb-false b (length ms) q)

-- one block
pub follow-old : {n : Nesting} {b : ℕ} {words : List ℕ} {level : ℕ} → level ≡ level_in words b → (level ≡ 0 → ⊥)
    → Follows n (b ∷ []) words false words
unfolding mark_all
follow-old {n} {b} {words} e z =
    record { is = λ ρ ms Γs h w. rw (remains w b ρ e z) w; same = λ q. refl }

pub follow-new : {n : Nesting} {b : ℕ} {words words' : List ℕ} {level : ℕ} → level ≡ level_in words b → level ≡ 0
    → words' ≡ marked words b n.level n.names → Follows n (b ∷ []) words true words'
unfolding mark_all mark first
follow-new {n} {b} {words} e z d =
    record {
      is = λ ρ ms Γs h w. rw (d, unmarked w b e z, ← h) (whole-marked w b n.level n.names);
      same = λ q. let y : ◌≡◌ {A = ℕ} 0 1 = cc in absurd (omega arith);
    }

-- blocks that are named at an offset, of which so many are left
pub record FollowsLeft (s : List ℕ) (at count : ℕ) (n : Nesting) (words₀ words : List ℕ) (changed : Bool) (next left : ℕ) : Type 0 where
  pub is : (ρ : List ℕ) (ms : List Mark) (Γs : List ℕ) → mark_by n ≡ some ρ → Whole words₀ ms Γs →
      (ms' : List Mark) × Whole words ms' Γs × (mark_all ρ ms' (run s next left) ≡ mark_all ρ ms (run s at count))
  pub same : changed ≡ false → words ≡ words₀

mark-first : (ρ : List ℕ) (ms : List Mark) (b : ℕ) (b̄ : List ℕ) → mark_all ρ ms (b ∷ b̄) ≡ mark_all ρ (mark_all ρ ms (b ∷ [])) b̄
unfolding mark_all
mark-first ρ ms b b̄ = refl

module _ {s : List ℕ} {at count : ℕ} {n : Nesting} {words₀ : List ℕ} where
  pub follows-first : FollowsLeft s at count n words₀ words₀ false at (count - 0)
  follows-first =
      let e : count - 0 ≡ count = omega arith in
      record { is = λ ρ ms Γs h w. (ms, w, rw e refl); same = λ q. refl }

  module _ {words : List ℕ} {changed : Bool} {next k : ℕ} (t : FollowsLeft s at count n words₀ words changed next (count - k)) where
    pub follows-next : {x j : ℕ} {m r : Bool} {words' : List ℕ} → k < count → x ≡ byte_at s next → Follows n (x ∷ []) words m words'
        → j ≡ past next 1 → r ≡ (changed || m) → FollowsLeft s at count n words₀ words' r j (count - (k + 1))
    follows-next {x} l e f d c =
        let z : count - k - 1 ≡ count - (k + 1) = omega arith in
        record {
          is = λ ρ ms Γs h w.
              let (ms', u, q) = t.is ρ ms Γs h w in
              let g = mark-first ρ ms' x (run s (past next 1) (count - (k + 1))) in (
                mark_all ρ ms' (x ∷ []),
                f.is ρ ms' Γs h u,
                rw d (sym g) ∙ rw (run-goes s next (count - k) (omega arith), z, ← e) at q,
              );
          same = still t.same f.same c;
        }

    pub follows-end : {b̄ : List ℕ} → count ≤ k → run s at count ≡ b̄ → Follows n b̄ words₀ changed words
    unfolding mark_all
    follows-end l e =
        record {
          is = λ ρ ms Γs h w.
              let (ms', u, q) = t.is ρ ms Γs h w in
              let y : ms' ≡ mark_all ρ ms (run s at count) = rw (run_none s next (count - k) (omega arith)) at q in
              rw (← e, ← y) u;
          same = t.same;
        }
