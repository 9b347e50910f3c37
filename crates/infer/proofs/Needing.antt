-- What the walks that ask what is needed find, from what their parts find; and that they find what the definitions say of temporaries.
use Prim.Native.Nat.{ℕ, ◌+◌, ◌-◌, ◌≤◌, ◌<◌}
use mathlib.Core.Path.{◌≡◌, refl, sym, ◌∙◌, ap}
use mathlib.Core.Bool.{Bool, true, false, cond}
use mathlib.Core.List.{List, [], ◌∷◌, ◌++◌}
use native.Mathlib.Omega.{arith}
use mathlib.Core.Logic.{◌⊎◌}
use Rattle.std.specs.Prelude.{min}
use Rattle.code.specs.declared.Kind.{Kind}
use Rattle.code.specs.declared.Kind.TheVariants.{Goto, If, Call, Return, Spork, Spoin}
use Rattle.code.specs.Kinds.{number_of}
use Rattle.std.proofs.lemmas.Nat.{and-not, and_comm}
use Rattle.std.specs.Int.Bits.{bit_and}
use lib.ListN.{get_or}
use Rattle.model.specs.Lists.{Each}
use Rattle.model.specs.Sets.{has, with, with_all}
use Rattle.model.specs.Syntax.{Statement, Transfer, uses, uses_atom}
use Rattle.model.specs.Limits.{Temporaries, InStatement, InTransfer}
use Rattle.code.specs.Bytes.{byte_at, past, operands}
use Rattle.code.specs.Code.{run, arguments_at, atom_at, atom_end, expression_at, second_at, expression_end, statement_at}
use Rattle.code.specs.Code.{statement_end, statements_at, statements_end, transfer_at, code_at, code_end, list_end}
use Rattle.code.proofs.Ends.{run-goes, run_none, statements-goes, statements-none, statements-first, no-statements}
use Rattle.bound.specs.Walks.{holds, binding}
use Rattle.bound.proofs.Looks.{holds_has, binding-with, value-uses, temporary-uses, uses-one, uses-two}
use Rattle.inference.specs.Infer.{lacking, needing, used_by, used_behind, joined_all}
use Rattle.infer.specs.declared.Needed.{Needed}
use Rattle.infer.specs.Needs.{binding_all, lacking_in, lacks, needed_in, needed_behind, walked_at, code_needs_at, block_needs_at}
use Rattle.infer.specs.Needs.{joining, joins}
use Rattle.infer.proofs.ByKind.{uses-behind, uses-if, uses-return, uses-none}

-- of temporaries, sets are asked as they are
pub bindings : (Γ : ℕ) (x̄ : List ℕ) → Temporaries x̄ → binding_all Γ x̄ ≡ with_all Γ x̄
unfolding binding_all with_all
bindings Γ [] h = refl
bindings Γ (x ∷ x̄) (h, hs) = rw (binding-with Γ x h) (bindings (with Γ x) x̄ hs)

pub lackings : (Γ Δ : ℕ) (x̄ : List ℕ) → Temporaries x̄ → lacking_in Γ Δ x̄ ≡ lacking Γ Δ x̄
unfolding lacking_in lacking
lackings Γ Δ [] h = refl
lackings Γ Δ (x ∷ x̄) (h, hs) = rw (holds_has Γ x h, binding-with Δ x h) (lackings Γ (cond (has Γ x) Δ (with Δ x)) x̄ hs)

pub neededs : (Γ Δ : ℕ) (C : List Statement) → Each InStatement C → needed_in Γ Δ C ≡ needing Γ Δ C
unfolding needed_in needing
neededs Γ Δ [] h = refl
neededs Γ Δ (S ∷ C) (h, hs) =
    rw (binding-with Γ S.target h.target, lackings Γ Δ (uses S.source) h.source)
    (neededs (with Γ S.target) (lacking Γ Δ (uses S.source)) C hs)

pub joineds : (n : Needed) (scope : ℕ → ℕ) (Γs b̄ : List ℕ) → ((b : ℕ) → scope b ≡ get_or Γs b 0)
    → (joins n scope b̄).needs ≡ joined_all n.bound n.needs Γs b̄
unfolding joins joining joined_all
joineds n scope Γs [] e = refl
joineds n scope Γs (b ∷ b̄) e =
    ap (λ (Θ : ℕ). (joins (joining n Θ) scope b̄).needs) (e b) ∙ joineds (joining n (get_or Γs b 0)) scope Γs b̄ e

used-temporaries : (T : Transfer) → InTransfer T → Temporaries (used_by T)
unfolding InTransfer used_by
used-temporaries (Transfer.goto b x̄) h = h.each
used-temporaries (Transfer.if e b c) h = h
used-temporaries (Transfer.call g x̄ b) h = h.each
used-temporaries (Transfer.return x̄) h = h.each
used-temporaries (Transfer.spork b π) h = tt
used-temporaries (Transfer.spoin b c) h = tt

-- what is bound behind statements, whatever was needed before them
bound-same : (Γ Δ Θ : ℕ) (C : List Statement) → (needing Γ Δ C).bound ≡ (needing Γ Θ C).bound
unfolding needing
bound-same Γ Δ Θ [] = refl
bound-same Γ Δ Θ (S ∷ C) = bound-same (with Γ S.target) (lacking Γ Δ (uses S.source)) (lacking Γ Θ (uses S.source)) C

-- what a block binds and needs
module _ (s : List ℕ) (at Δ : ℕ) (p : Temporaries (arguments_at s at)) (c : Each InStatement (code_at s (list_end s at))) where
  block_walked : needed_in (binding_all 0 (arguments_at s at)) Δ (code_at s (list_end s at))
      ≡ needing (with_all 0 (arguments_at s at)) Δ (code_at s (list_end s at))
  block_walked = rw (bindings 0 (arguments_at s at) p) (neededs (with_all 0 (arguments_at s at)) Δ (code_at s (list_end s at)) c)

  pub bound-is : (block_needs_at s at Δ).bound ≡ (needing (with_all 0 (arguments_at s at)) 0 (code_at s (list_end s at))).bound
  unfolding block_needs_at code_needs_at lacks needed_behind
  bound-is = rw block_walked (bound-same (with_all 0 (arguments_at s at)) Δ 0 (code_at s (list_end s at)))

  pub needs-is : InTransfer (transfer_at s (code_end s (list_end s at)))
      → (block_needs_at s at Δ).needs
      ≡ used_behind (transfer_at s (code_end s (list_end s at))) (needing (with_all 0 (arguments_at s at)) Δ (code_at s (list_end s at)))
  unfolding block_needs_at code_needs_at lacks needed_behind used_behind
  needs-is t = rw block_walked (lackings _ _ (used_by (transfer_at s (code_end s (list_end s at)))) (used-temporaries _ t))

-- a run of temporaries that are bound: what is left of n decides
bind-first : (Γ x : ℕ) (x̄ : List ℕ) → binding_all Γ (x ∷ x̄) ≡ binding_all (binding Γ x) x̄
unfolding binding_all
bind-first Γ x x̄ = refl

module _ (s : List ℕ) (Γ k n m : ℕ) {v : ℕ} (i : v ≡ binding_all Γ (run s k (n - m))) where
  pub bind-end : n ≤ m → Γ ≡ v
  unfolding binding_all
  bind-end h = sym (i ∙ rw (run_none s k (n - m) (omega arith)))

  pub bind-next : {x Δ j : ℕ} → m < n → x ≡ byte_at s k → Δ ≡ binding Γ x → j ≡ past k 1 → v ≡ binding_all Δ (run s j (n - (m + 1)))
  bind-next {x} h e d q =
      let z : n - m - 1 ≡ n - (m + 1) = omega arith in
      i ∙ rw (run-goes s k (n - m) (omega arith), ← e, bind-first Γ x (run s (past k 1) (n - m - 1)), ← d, ← q, z)

-- one temporary
module _ (n : Needed) (x : ℕ) {b : Bool} (e : b ≡ holds n.bound x) where
  pub lack-bound : b ≡ true → n ≡ lacks n (x ∷ [])
  unfolding lacks lacking_in
  lack-bound z = rw (← e, z) refl

  pub lack-new : {r : ℕ} → b ≡ false → r ≡ binding n.needs x → record { bound = n.bound; needs = r } ≡ lacks n (x ∷ [])
  unfolding lacks lacking_in
  lack-new z d = rw (← e, z, d) refl

-- temporaries after others
lack-append : (Γ Δ : ℕ) (xs ys : List ℕ) → lacking_in Γ Δ (xs ++ ys) ≡ lacking_in Γ (lacking_in Γ Δ xs) ys
unfolding lacking_in
lack-append Γ Δ [] ys = refl
lack-append Γ Δ (x ∷ xs) ys = lack-append Γ (cond (holds Γ x) Δ (binding Δ x)) xs ys

lacks-append : (n : Needed) (xs ys : List ℕ) → lacks n (xs ++ ys) ≡ lacks (lacks n xs) ys
unfolding lacks
lacks-append n xs ys = rw (lack-append n.bound n.needs xs ys) refl

lacks-first : (n : Needed) (x : ℕ) (xs : List ℕ) → lacks n (x ∷ xs) ≡ lacks (lacks n (x ∷ [])) xs
unfolding lacks lacking_in
lacks-first n x xs = refl

lacks_none : (n : Needed) → lacks n [] ≡ n
unfolding lacks lacking_in
lacks_none n = refl

-- a run of them, of which m are done
module _ (s : List ℕ) (n : Needed) (k count m : ℕ) {v : Needed} (i : v ≡ lacks n (run s k (count - m))) where
  pub lack-end : count ≤ m → n ≡ v
  lack-end h = sym (i ∙ rw (run_none s k (count - m) (omega arith)) (lacks_none n))

  pub lack-next : {x j : ℕ} {o : Needed} → m < count → x ≡ byte_at s k → o ≡ lacks n (x ∷ []) → j ≡ past k 1
      → v ≡ lacks o (run s j (count - (m + 1)))
  lack-next {x} h e d q =
      let z : count - m - 1 ≡ count - (m + 1) = omega arith in
      i ∙ rw (run-goes s k (count - m) (omega arith), ← e, lacks-first n x (run s (past k 1) (count - m - 1)), ← d, ← q, z)

-- atoms and expressions
module _ (s : List ℕ) (at : ℕ) (n : Needed) {b : ℕ} (e : b ≡ byte_at s at) where
  pub atom-value : b ≡ 0 → n ≡ lacks n (uses_atom (atom_at s at))
  atom-value h = rw (value-uses s at (sym e ∙ h)) (sym (lacks_none n))

  pub atom-temporary : {k x : ℕ} {r : Needed} → (b ≡ 0 → ⊥) → k ≡ past at 1 → x ≡ byte_at s k → r ≡ lacks n (x ∷ [])
      → r ≡ lacks n (uses_atom (atom_at s at))
  atom-temporary h q y d = rw (temporary-uses s at (λ w. h (e ∙ w)), ← q, ← y) d

module _ (s : List ℕ) (at : ℕ) (n : Needed) {f b o : ℕ} {m : Needed} (q : f ≡ past at 1) (a : m ≡ lacks n (uses_atom (atom_at s f)))
    (e : b ≡ byte_at s at)
    (d : o ≡ operands b) where
  pub expression-one : (o ≡ 2 → ⊥) → m ≡ lacks n (uses (expression_at s at))
  unfolding expression_at
  expression-one h = rw (uses-one (byte_at s at) _ _ (λ w. h (d ∙ ap operands e ∙ w)), ← q) a

  pub expression-two : {k : ℕ} {r : Needed} → o ≡ 2 → k ≡ atom_end s f → r ≡ lacks m (uses_atom (atom_at s k))
      → r ≡ lacks n (uses (expression_at s at))
  unfolding expression_at second_at
  expression-two h z w =
      rw (
        uses-two (byte_at s at) (atom_at s (past at 1)) (atom_at s (atom_end s (past at 1))) (sym (ap operands e) ∙ sym d ∙ h),
        ← q,
        lacks-append n (uses_atom (atom_at s f)),
        ← a,
        ← z,
      ) w

-- statements, of which m are done
walk_first : (n : Needed) (S : Statement) (C : List Statement) (e : ℕ)
    → walked_at n (S ∷ C) e ≡ walked_at (record { bound = binding n.bound S.target; needs = (lacks n (uses S.source)).needs }) C e
unfolding walked_at needed_behind needed_in lacks
walk_first n S C e = refl

walk_none : (n : Needed) (e : ℕ) → walked_at n [] e ≡ (n, e)
unfolding walked_at needed_behind needed_in
walk_none n e = refl

bound_stays : (n : Needed) (xs : List ℕ) → (lacks n xs).bound ≡ n.bound
unfolding lacks
bound_stays n xs = refl

module _ (s : List ℕ) (n : Needed) (k count m : ℕ) {v : Needed × ℕ}
    (i : v ≡ walked_at n (statements_at s k (count - m)) (statements_end s k (count - m))) where
  pub walk-end : count ≤ m → (n, k) ≡ v
  walk-end h =
      let z : count - m ≤ 0 = omega arith in
      sym (i ∙ rw (no-statements s k (count - m) z, statements-none s k (count - m) z) (walk_none n k))

  pub walk-next : {j x Γ e : ℕ} {o : Needed} → m < count → j ≡ past k 1 → o ≡ lacks n (uses (expression_at s j)) → x ≡ byte_at s k
      → Γ ≡ binding o.bound x → e ≡ expression_end s j
      → v ≡ walked_at (record { bound = Γ; needs = o.needs }) (statements_at s e (count - (m + 1))) (statements_end s e (count - (m + 1)))
  unfolding statement_at statement_end
  walk-next {j} {x} {Γ} {e} {o} h q d y g z =
      let l : 0 < count - m = omega arith in
      let p : count - m - 1 ≡ count - (m + 1) = omega arith in
      let b : Γ ≡ binding n.bound x = g ∙ rw (d, bound_stays n (uses (expression_at s j))) in
      i
      ∙ rw (
        statements-first s k (count - m) l,
        statements-goes s k (count - m) l,
        p,
        walk_first n (statement_at s k) (statements_at s (statement_end s k) (count - (m + 1)))
            (statements_end s (statement_end s k) (count - (m + 1))),
        ← q,
        ← d,
        ← y,
        ← b,
        ← z,
      )

-- code: statements, and then the transfer
pub code-walked : (s : List ℕ) (at : ℕ) (n : Needed) {k c : ℕ} {u : Needed} {w : Needed × ℕ} → k ≡ past at 1 → c ≡ byte_at s at
    → w ≡ walked_at n (statements_at s k c) (statements_end s k c) → u ≡ lacks w.0 (used_by (transfer_at s w.1))
    → u ≡ code_needs_at s at n
unfolding walked_at code_needs_at code_at code_end
code-walked s at n q e d z = rw (z, d, q, e)

-- what a transfer uses itself
module _ (s : List ℕ) (at : ℕ) (n : Needed) {first : ℕ} (f : first ≡ past at 1) {g : Kind} (k : number_of g ≡ min (byte_at s at) 5) where
  pub used-none : (g ≡ Spork) ⊎ (g ≡ Spoin) → n ≡ lacks n (used_by (transfer_at s at))
  used-none e = rw (uses-none s at f k e) (sym (lacks_none n))

  module _ {r : Needed} where
    pub used-behind : {x : ℕ} → (g ≡ Goto) ⊎ (g ≡ Call) → x ≡ past first 1 → r ≡ lacks n (arguments_at s x)
        → r ≡ lacks n (used_by (transfer_at s at))
    used-behind e z d = rw (uses-behind s at f k e z) d

    pub used-if : g ≡ If → r ≡ lacks n (uses (expression_at s first)) → r ≡ lacks n (used_by (transfer_at s at))
    used-if e d = rw (uses-if s at f k e) d

    pub used-return : g ≡ Return → r ≡ lacks n (arguments_at s first) → r ≡ lacks n (used_by (transfer_at s at))
    used-return e d = rw (uses-return s at f k e) d

-- what of a set is not in another
pub without : (Γ Θ : ℕ) → Γ < 65536 → Θ < 65536 → bit_and Θ (65535 - Γ) ≡ Θ - bit_and Θ Γ
without Γ Θ h g = omega (arith, and-not 16 Γ Θ h g, and_comm Θ (65535 - Γ), and_comm Θ Γ)

-- what its targets need
pub joins-one : (n : Needed) (b : ℕ) (scope : ℕ → ℕ) {x : ℕ} {r : Needed} → x ≡ scope b → r ≡ joining n x → r ≡ joins n scope (b ∷ [])
unfolding joins
joins-one n b scope e d = rw (← e) d

joins-first : (n : Needed) (scope : ℕ → ℕ) (b : ℕ) (b̄ : List ℕ) → joins n scope (b ∷ b̄) ≡ joins (joins n scope (b ∷ [])) scope b̄
unfolding joins
joins-first n scope b b̄ = refl

joins_none : (n : Needed) (scope : ℕ → ℕ) → joins n scope [] ≡ n
unfolding joins
joins_none n scope = refl

module _ (s : List ℕ) (n : Needed) (scope : ℕ → ℕ) (k count m : ℕ) {v : Needed} (i : v ≡ joins n scope (run s k (count - m))) where
  pub joins-end : {w : Needed} → count ≤ m → v ≡ w → n ≡ w
  joins-end h e = sym (i ∙ rw (run_none s k (count - m) (omega arith)) (joins_none n scope)) ∙ e

  pub joins-next : {x j : ℕ} {o : Needed} → m < count → x ≡ byte_at s k → o ≡ joins n scope (x ∷ []) → j ≡ past k 1
      → v ≡ joins o scope (run s j (count - (m + 1)))
  joins-next {x} h e d q =
      let z : count - m - 1 ≡ count - (m + 1) = omega arith in
      i ∙ rw (run-goes s k (count - m) (omega arith), ← e, joins-first n scope x (run s (past k 1) (count - m - 1)), ← d, ← q, z)
