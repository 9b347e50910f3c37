-- A transfer at an offset, by its kind: what it uses, the nesting of its targets, and where they are named.
use Prim.Native.Nat.{ℕ}
use mathlib.Core.Path.{◌≡◌, refl, sym}
use mathlib.Core.List.{List, []}
use mathlib.Core.Logic.{◌⊎◌, inl, inr}
use Rattle.std.specs.Prelude.{min}
use Rattle.code.specs.declared.Kind.{Kind}
use Rattle.code.specs.declared.Kind.TheVariants.{Goto, If, Call, Return, Spork, Spoin}
use Rattle.code.specs.Kinds.{number_of}
use Rattle.code.proofs.KindLaws.{by-kind}
use Rattle.model.specs.Syntax.{uses, targets}
use Rattle.code.specs.Bytes.{byte_at, past}
use Rattle.code.specs.Code.{run, arguments_at, expression_at, expression_end, spawn_end, transfer_of, transfer_at}
use Rattle.code.proofs.Targets.{past-past, names-goto, names-if, names-call, names-return, names-spork, names-spoin}
use Rattle.inference.specs.Infer.{opened, closed, under, used_by}

module _ (s : List ℕ) (at : ℕ) {first : ℕ} (f : first ≡ past at 1) {g : Kind} (k : number_of g ≡ min (byte_at s at) 5) where
  -- the temporaries that it uses itself
  pub uses-behind : {x : ℕ} → (g ≡ Goto) ⊎ (g ≡ Call) → x ≡ past first 1 → used_by (transfer_at s at) ≡ arguments_at s x
  unfolding transfer_of used_by
  uses-behind (inl e) z = rw (by-kind s at k f e, z)
  uses-behind (inr e) z = rw (by-kind s at k f e, z)

  pub uses-if : g ≡ If → used_by (transfer_at s at) ≡ uses (expression_at s first)
  unfolding transfer_of used_by
  uses-if e = rw (by-kind s at k f e)

  pub uses-return : g ≡ Return → used_by (transfer_at s at) ≡ arguments_at s first
  unfolding transfer_of used_by
  uses-return e = rw (by-kind s at k f e)

  pub uses-none : (g ≡ Spork) ⊎ (g ≡ Spoin) → used_by (transfer_at s at) ≡ []
  unfolding transfer_of used_by
  uses-none (inl e) = rw (by-kind s at k f e)
  uses-none (inr e) = rw (by-kind s at k f e)

-- the nesting of its targets
module _ (s : List ℕ) (at : ℕ) {g : Kind} (k : number_of g ≡ min (byte_at s at) 5) (ρ : List ℕ) where
  pub under_same : (g ≡ Goto) ⊎ ((g ≡ If) ⊎ ((g ≡ Call) ⊎ (g ≡ Return))) → under ρ (transfer_at s at) ≡ ρ
  unfolding transfer_of under
  under_same (inl e) = rw (by-kind s at k refl e)
  under_same (inr (inl e)) = rw (by-kind s at k refl e)
  under_same (inr (inr (inl e))) = rw (by-kind s at k refl e)
  under_same (inr (inr (inr e))) = rw (by-kind s at k refl e)

  pub under-opened : {j : ℕ} → g ≡ Spork → j ≡ past at 2 → under ρ (transfer_at s at) ≡ opened ρ (byte_at s j)
  unfolding transfer_of under
  under-opened e d = rw (by-kind s at k refl e, d, past-past at)

  pub under-closed : g ≡ Spoin → under ρ (transfer_at s at) ≡ closed ρ
  unfolding transfer_of under
  under-closed e = rw (by-kind s at k refl e)

-- where its targets are named
module _ (s : List ℕ) (at : ℕ) {first : ℕ} (f : first ≡ past at 1) {g : Kind} (k : number_of g ≡ min (byte_at s at) 5) where
  pub at-one : (g ≡ Goto) ⊎ (g ≡ Spork) → run s first 1 ≡ targets (transfer_at s at)
  unfolding run
  at-one (inl e) = sym (names-goto s at f k e)
  at-one (inr e) = sym (names-spork s at f k e)

  pub at-if : {x : ℕ} → g ≡ If → x ≡ expression_end s first → run s x 2 ≡ targets (transfer_at s at)
  at-if e d = sym (names-if s at f k e d)

  pub at-call : {x : ℕ} → g ≡ Call → x ≡ spawn_end s first → run s x 1 ≡ targets (transfer_at s at)
  unfolding run
  at-call e d = sym (names-call s at f k e d)

  pub at-return : g ≡ Return → run s first 0 ≡ targets (transfer_at s at)
  unfolding run
  at-return e = sym (names-return s at f k e)

  pub at-spoin : g ≡ Spoin → run s first 2 ≡ targets (transfer_at s at)
  at-spoin e = sym (names-spoin s at f k e)
