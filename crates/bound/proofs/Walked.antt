-- What the walks that bind find, one thing after another; and the check's tests by what they find.
use Prim.Native.Nat.{ℕ, ◌+◌, ◌-◌, ◌%◌, ◌^◌, ◌≤◌, ◌<◌}
use mathlib.Core.Path.{◌≡◌, refl, sym, ◌∙◌, ap}
use mathlib.Core.Bool.{Bool, true, false, not, cond}
use mathlib.Core.Option.{Option as Maybe, some}
use Rattle.std.specs.Prelude.{Option, Some, None, Ok, Err}
use mathlib.Core.List.{List, [], ◌∷◌}
use native.Mathlib.Omega.{arith}
use Rattle.model.specs.Numbers as Numbers
use Rattle.answers.specs.declared.No.{No}
use Rattle.model.specs.Lists.{all, Each}
use Rattle.model.specs.Sets.{has, with, with_all}
use Rattle.model.specs.Limits.{Temporaries, InStatement}
use Rattle.model.specs.Syntax.{Statement, Transfer, uses}
use Rattle.model.specs.Tests.{Tests, ◌then◌, or, failed, fault}
use Rattle.model.specs.WellFormed.{Env}
use Rattle.model.specs.Check as Check
use Rattle.code.specs.Bytes.{byte_at, past}
use Rattle.code.specs.Code.{run, expression_at, expression_end, statement_at, statement_end, statements_at, statements_end}
use Rattle.code.proofs.Ends.{run-goes, run_none, statements-goes, statements-none, statements-first, no-statements}
use Rattle.bound.specs.Walks.{Walked, done, stopped, holds, binding, seen_as, walked, operands_of, target_of, statements_as, fresh_as}
use Rattle.bound.proofs.Looks.{holds_has, binding-with, all-has, seen-in, seen-out}

-- the set and the offset that a walk ends with
done_same : {Γ Δ e j : ℕ} → done Γ e ≡ done Δ j → (Γ ≡ Δ) × (e ≡ j)
done_same {Γ} {Δ} {e} {j} h = let p : ◌≡◌ {A = ℕ × ℕ} (Γ, e) (Δ, j) = cc in (ap (λ (q : ℕ × ℕ). q.0) p, ap (λ (q : ℕ × ℕ). q.1) p)

-- the first thing decides, or the rest goes on with its set; and where a walk ends
module _ {A : Type 0} (of : A → List ℕ) (binds : A → ℕ) where
  stops : (Γ : ℕ) (a : A) (as' : List A) (e k : ℕ) {m : No} → walked of binds Γ (a ∷ []) k ≡ Err m
      → walked of binds Γ (a ∷ as') e ≡ Err m
  unfolding walked
  stops Γ a as' e k {m} h = go (all (holds Γ) (of a)) (holds Γ (binds a)) h
    where
      go : (b c : Bool) → cond b (cond c (stopped Numbers.twice) (done (binding Γ (binds a)) k)) (stopped Numbers.unbound) ≡ Err m
          → cond b (cond c (stopped Numbers.twice) (walked of binds (binding Γ (binds a)) as' e)) (stopped Numbers.unbound) ≡ Err m
      go true true h = h
      go true false h = let z : ◌≡◌ {A = ℕ} 0 1 = cc in absurd (omega arith)
      go false c h = h

  goes : (Γ : ℕ) (a : A) (as' : List A) (e k : ℕ) {j Δ : ℕ} → walked of binds Γ (a ∷ []) k ≡ done Δ j
      → (walked of binds Γ (a ∷ as') e ≡ walked of binds Δ as' e) × (j ≡ k)
  unfolding walked
  goes Γ a as' e k {j} {Δ} h = go (all (holds Γ) (of a)) (holds Γ (binds a)) h
    where
      go : (b c : Bool) → cond b (cond c (stopped Numbers.twice) (done (binding Γ (binds a)) k)) (stopped Numbers.unbound) ≡ done Δ j
          → (cond b (cond c (stopped Numbers.twice) (walked of binds (binding Γ (binds a)) as' e)) (stopped Numbers.unbound)
          ≡ walked of binds Δ as' e) × (j ≡ k)
      go true true h = let z : ◌≡◌ {A = ℕ} 0 1 = cc in absurd (omega arith)
      go true false h = let (d, q) = done_same h in (rw d, sym q)
      go false c h = let z : ◌≡◌ {A = ℕ} 0 1 = cc in absurd (omega arith)

  ends : (Γ : ℕ) (as' : List A) (e : ℕ) {j Δ : ℕ} → walked of binds Γ as' e ≡ done Δ j → j ≡ e
  unfolding walked
  ends Γ [] e h = sym (done_same h).1
  ends Γ (a ∷ as') e {j} {Δ} h = go (all (holds Γ) (of a)) (holds Γ (binds a)) (λ w. ends (binding Γ (binds a)) as' e w) h
    where
      go : (b c : Bool) → (walked of binds (binding Γ (binds a)) as' e ≡ done Δ j → j ≡ e)
          → cond b (cond c (stopped Numbers.twice) (walked of binds (binding Γ (binds a)) as' e)) (stopped Numbers.unbound) ≡ done Δ j
          → j ≡ e
      go true true i h = let z : ◌≡◌ {A = ℕ} 0 1 = cc in absurd (omega arith)
      go true false i h = i h
      go false c i h = let z : ◌≡◌ {A = ℕ} 0 1 = cc in absurd (omega arith)

-- parameters: the first of n left
past-on : (k n : ℕ) → 0 < n → past k n ≡ past (past k 1) (n - 1)
unfolding past
past-on k n h = omega arith

module _ (s : List ℕ) (Γ k n : ℕ) {v : Walked} (i : v ≡ fresh_as Γ (run s k n) (past k n)) where
  pub fresh-end : n ≤ 0 → k < 2 ^ 64 → done Γ k ≡ v
  unfolding fresh_as walked past
  fresh-end h l = let e : (k + n) % 2 ^ 64 ≡ k = omega arith in sym (i ∙ rw (run_none s k n h, e))

  module _ {x : ℕ} {b : Bool} (h : 0 < n) (e : x ≡ byte_at s k) (d : b ≡ holds Γ x) where
    pub fresh-twice : b ≡ true → stopped Numbers.twice ≡ v
    unfolding fresh_as walked all
    fresh-twice z = sym (i ∙ rw (run-goes s k n h, ← e, ← d, z))

    pub fresh-new : {Δ j m : ℕ} → b ≡ false → Δ ≡ binding Γ x → j ≡ past k 1 → m ≡ n - 1 → v ≡ fresh_as Δ (run s j m) (past j m)
    unfolding fresh_as walked all
    fresh-new z w q l = i ∙ rw (run-goes s k n h, ← e, ← d, z, ← w, past-on k n h, q, l)

-- a statement
module _ (s : List ℕ) (at Γ : ℕ) {f : ℕ} {r : Option ℕ} (q : f ≡ past at 1)
    (h : r ≡ seen_as (all (holds Γ) (uses (expression_at s f))) (expression_end s f)) where
  pub statement-unbound : r ≡ None → stopped Numbers.unbound ≡ statements_as Γ (statements_at s at 1) (statements_end s at 1)
  unfolding statements_as walked statements_at statement_at
  statement-unbound z = rw (← q, seen-out (all (holds Γ) (uses (expression_at s f))) (expression_end s f) h z)

  module _ {k x : ℕ} {b : Bool} (z : r ≡ Some k) (e : x ≡ byte_at s at) (d : b ≡ holds Γ x) where
    pub statement-twice : b ≡ true → stopped Numbers.twice ≡ statements_as Γ (statements_at s at 1) (statements_end s at 1)
    unfolding statements_as walked statements_at statement_at
    statement-twice t = rw (← q, (seen-in (all (holds Γ) (uses (expression_at s f))) (expression_end s f) h z).0, ← e, ← d, t)

    pub statement-done : {Δ : ℕ} → b ≡ false → Δ ≡ binding Γ x → done Δ k ≡ statements_as Γ (statements_at s at 1) (statements_end s at 1)
    unfolding statements_as walked statements_at statements_end statement_at statement_end
    statement-done t w =
        let (u, j) = seen-in (all (holds Γ) (uses (expression_at s f))) (expression_end s f) h z in
        rw (← q, u, ← e, ← d, t, w, j)

-- statements: what is left of n decides
module _ (s : List ℕ) (Γ k n : ℕ) {v : Walked} (i : v ≡ statements_as Γ (statements_at s k n) (statements_end s k n)) where
  pub statements-end : n ≤ 0 → done Γ k ≡ v
  unfolding statements_as walked
  statements-end h = sym (i ∙ rw (no-statements s k n h, statements-none s k n h))

  module _ {w : Walked} (h : 0 < n) (g : w ≡ statements_as Γ (statements_at s k 1) (statements_end s k 1)) where
    pub statements-fault : {m : No} → w ≡ Err m → Err m ≡ v
    unfolding statements_as statements_at statements_end
    statements-fault z =
        sym (i ∙ rw (statements-first s k n h) (stops operands_of target_of Γ (statement_at s k) _ _ (statement_end s k) (sym g ∙ z)))

    pub statements-on : {Δ j m : ℕ} → w ≡ done Δ j → m ≡ n - 1 → v ≡ statements_as Δ (statements_at s j m) (statements_end s j m)
    unfolding statements_as statements_at statements_end
    statements-on z l =
        let (u, j) = goes operands_of target_of Γ (statement_at s k) (statements_at s (statement_end s k) (n - 1))
        (statements_end s (statement_end s k) (n - 1)) (statement_end s k) (sym g ∙ z) in
        i ∙ rw (statements-first s k n h, statements-goes s k n h, j, l) u

-- where statements end
pub walk_ends : (Γ : ℕ) (C : List Statement) (e : ℕ) {j Δ : ℕ} → statements_as Γ C e ≡ done Δ j → j ≡ e
unfolding statements_as
walk_ends Γ C e h = ends operands_of target_of Γ C e h

-- the check's tests, by what a walk finds: its fault, or what is tested of the set afterwards
unfoldable pub resumed : Walked → (ℕ → Maybe ℕ) → Maybe ℕ
resumed (Ok (Δ, k)) f = f Δ
resumed (Err n) f = some n.0

pub code-walked : (E : Env) (Γ : ℕ) (ρ : List ℕ) (C : List Statement) (T : Transfer) (e : ℕ) → Each InStatement C
    → fault (Check.code E Γ ρ C T) ≡ resumed (statements_as Γ C e) (λ Δ. fault (Check.transfer E Δ ρ T))
unfolding statements_as walked resumed Check.code Check.bound fault or
code-walked E Γ ρ [] T e h = refl
code-walked E Γ ρ (S ∷ C) T e (h, hs) =
    rw (all-has Γ (uses S.source) h.source, holds_has Γ S.target h.target, binding-with Γ S.target h.target)
    (go _ _ (all (has Γ) (uses S.source)) (has Γ S.target) (code-walked E (with Γ S.target) ρ C T e hs))
  where
    go : {o : Maybe ℕ} (w : Walked) (f : ℕ → Maybe ℕ) (b c : Bool) → o ≡ resumed w f
        → or (failed b Numbers.unbound) (or (failed (not c) Numbers.twice) o)
        ≡ resumed (cond b (cond c (stopped Numbers.twice) w) (stopped Numbers.unbound)) f
    go w f true true i = refl
    go w f true false i = i
    go w f false c i = refl

pub fresh-walked : (Γ : ℕ) (x̄ : List ℕ) (e : ℕ) (t : ℕ → Tests) → Temporaries x̄
    → fault (Check.fresh Γ x̄ then t (with_all Γ x̄)) ≡ resumed (fresh_as Γ x̄ e) (λ Δ. fault (t Δ))
unfolding fresh_as walked resumed Check.fresh fault or with_all all
fresh-walked Γ [] e t h = refl
fresh-walked Γ (x ∷ x̄) e t (h, hs) =
    rw (holds_has Γ x h, binding-with Γ x h) (go _ _ _ _ (has Γ x) (fresh-walked (with Γ x) x̄ e t hs))
  where
    go : (o p : Maybe ℕ) (w : Walked) (f : ℕ → Maybe ℕ) (c : Bool) → or o p ≡ resumed w f
        → or (or (failed (not c) Numbers.twice) o) p ≡ resumed (cond c (stopped Numbers.twice) w) f
    go o p w f true i = refl
    go o p w f false i = i
