-- The open calls of a typed frame keep their arguments' values: what the frame binds lies outside the scope of its block, and the
-- arguments of its open calls lie in it.
use Prim.Native.Nat.{ℕ}
use mathlib.Core.Path.{◌≡◌, refl, sym, ◌∙◌, ap, ap₂}
use mathlib.Core.Logic.{◌≢◌}
use mathlib.Core.Option.{Option, none, some}
use mathlib.Core.List.{List, [], ◌∷◌, map, map_congr_left}
use lib.IntN.{ℤ, pos}
use lib.ListN.{get_elem?}
use lib.Seq.{get_or-set_other}
use Rattle.model.specs.Lists.{Each}
use Rattle.model.specs.Sets.{has, with, ◌∈◌, ◌∉◌}
use Rattle.model.specs.Syntax.{SpawnCall, Function, Program}
use Rattle.model.specs.WellFormed.{env, Fresh, Nested, WF-prog}
use Rattle.model.specs.Pool.{Frame, function_of}
use Rattle.model.specs.Frames.{◌>>=◌, look, look_all, bind, bind_all, go_to, deque, entering, enter}
use Rattle.model.proofs.Facts.{true-false, each_map, at_each}
use Rattle.model.proofs.Sets.{Part, with-other, with-more}
use Rattle.model.proofs.Kept.{OnSome, on-when}
use Rattle.safety.proofs.Typing.{Opens}
use Rattle.safety.proofs.Frames.{block-of, wf-block}
use Rattle.sporks.specs.Handed.{arguments_of, OpenCall, standing}

-- a frame's open calls, as they stand in it
abbrev pub opened : Program → Frame → List OpenCall
opened P k = map (standing P k) k.calls

-- the frame k' is of the same function as k, and in it the temporaries in Γ have what they have in k
pub record Keeps (Γ : ℕ) (k k' : Frame) : Type 0 where
  pub function : k'.function ≡ k.function
  pub looks : (x : ℕ) → x ∈ Γ → look k' x ≡ look k x

pub keeps-trans : {Γ : ℕ} {k l m : Frame} → Keeps Γ k l → Keeps Γ l m → Keeps Γ k m
keeps-trans g h = record { function = h.function ∙ g.function; looks = λ x i. h.looks x i ∙ g.looks x i }

pub keeps-part : {Γ Δ : ℕ} {k k' : Frame} → Part Γ Δ → Keeps Δ k k' → Keeps Γ k k'
keeps-part p h = record { function = h.function; looks = λ x i. h.looks x (p.each x i) }

pub keeps-bind : {Γ : ℕ} (k : Frame) (y : ℕ) (v : ℤ) → y ∉ Γ → Keeps Γ k (bind k y v)
unfolding bind look
keeps-bind {Γ} k y v n =
    record {
      function = refl;
      looks = λ x i.
          let d : x ≢ y = λ e. true-false (has Γ x) i (rw e n) in
          rw (with-other k.bound y x d, get_or-set_other k.values y x v (pos 0) d);
    }

keeps-all : {Γ : ℕ} (k : Frame) (ȳ : List ℕ) (v̄ : List ℤ) → Fresh Γ ȳ → Keeps Γ k (bind_all k ȳ v̄)
unfolding bind_all Fresh
keeps-all k [] v̄ h = record { function = refl; looks = λ x i. refl }
keeps-all k (y ∷ ȳ) [] h = record { function = refl; looks = λ x i. refl }
keeps-all {Γ} k (y ∷ ȳ) (v ∷ v̄) h =
    let p : Part Γ (with Γ y) = record { each = λ x i. with-more Γ y x i } in
    keeps-trans (keeps-bind k y v h.0) (keeps-part p (keeps-all {Γ = with Γ y} (bind k y v) ȳ v̄ h.1))

pub keeps-go_to : {Γ : ℕ} (k : Frame) (b n : ℕ) → Keeps Γ k (go_to k b n)
unfolding go_to look
keeps-go_to k b n = record { function = refl; looks = λ x i. refl }

all-calls : (k : Frame) (ȳ : List ℕ) (v̄ : List ℤ) → (bind_all k ȳ v̄).calls ≡ k.calls
unfolding bind_all bind
all-calls k [] v̄ = refl
all-calls k (y ∷ ȳ) [] = refl
all-calls k (y ∷ ȳ) (v ∷ v̄) = all-calls (bind k y v) ȳ v̄

look-same : (k k' : Frame) (x̄ : List ℕ) → Each (λ x. look k' x ≡ look k x) x̄ → look_all k' x̄ ≡ look_all k x̄
unfolding look_all
look-same k k' [] h = refl
look-same k k' (x ∷ x̄) h = rw (h.0, look-same k k' x̄ h.1)

bind-same : {A B : Type 0} (o : Option A) (f g : A → Option B) → ((a : A) → f a ≡ g a) → ◌>>=◌ o f ≡ ◌>>=◌ o g
bind-same none f g h = refl
bind-same (some a) f g h = h a

-- a call stands the same in every frame of the same function and temporaries
standing-same : (P : Program) (k k' : Frame) → k'.function ≡ k.function → ((x : ℕ) → look k' x ≡ look k x) → (ρ : List ℕ) →
    map (standing P k') ρ ≡ map (standing P k) ρ
unfolding standing arguments_of function_of
standing-same P k k' e h ρ = map_congr_left {l = ρ} λ π _.
    ap₂ (λ (g : ℕ) (o : Option (List ℤ)). record { function = g; call = π; arguments = o }) e
    (ap (λ (g : ℕ). ◌>>=◌ (get_elem? P g) λ F. ◌>>=◌ (get_elem? F.spawns π) λ S. look_all k' S.arguments) e ∙
    bind-same (get_elem? P k.function) _ _ λ F.
    bind-same (get_elem? F.spawns π) _ _ λ S. look-same k k' S.arguments (at_each _ S.arguments λ _ x _. h x))

-- with another deque, and somewhere else
pub deque-opened : (P : Program) (k : Frame) (ρ : List ℕ) (n : ℕ) → opened P (deque k ρ n) ≡ map (standing P k) ρ
unfolding deque look
deque-opened P k ρ n = standing-same P k (deque k ρ n) refl (λ x. refl) ρ

pub moved-opened : (P : Program) (k : Frame) (b n : ℕ) → opened P (go_to k b n) ≡ opened P k
unfolding go_to look
moved-opened P k b n = standing-same P k (go_to k b n) refl (λ x. refl) k.calls

-- the arguments of a spawn call that is there
pub arguments-are : (P : Program) {F : Function} {S : SpawnCall} (k : Frame) (π : ℕ) → get_elem? P k.function ≡ some F →
    get_elem? F.spawns π ≡ some S → arguments_of P k π ≡ look_all k S.arguments
unfolding arguments_of function_of
arguments-are P k π f e = rw (f, e)

module _ (P : Program) {F : Function} {Γ : ℕ} {k k' : Frame} (f : get_elem? P k.function ≡ some F) (h : Keeps Γ k k') where
  standing-kept : (π : ℕ) → Nested (env P F) Γ π → standing P k' π ≡ standing P k π
  unfolding standing env
  standing-kept π N =
      let S = N.spawned.call in
      let l = look-same k k' S.arguments (each_map (λ x i. h.looks x i) S.arguments N.bound) in
      let a : arguments_of P k' π ≡ arguments_of P k π =
      arguments-are P k' π (ap (get_elem? P) h.function ∙ f) N.spawned.there ∙ l ∙
      sym (arguments-are P k π f N.spawned.there)
      in
      ap₂ (λ (g : ℕ) (o : Option (List ℤ)). record { function = g; call = π; arguments = o }) h.function a

  pub calls-kept : (ρ : List ℕ) → Each (Nested (env P F) Γ) ρ → map (standing P k') ρ ≡ map (standing P k) ρ
  calls-kept [] N = refl
  calls-kept (π ∷ ρ) N = ap₂ ◌∷◌ (standing-kept π N.0) (calls-kept ρ N.1)

module _ {P : Program} (W : WF-prog P) where
  -- the open calls of a frame that opens a block have their arguments in the block's scope
  pub nested-in : {F : Function} {k : Frame} {b r : ℕ} (o : Opens P F k b r) → Each (Nested (env P F) o.block.head.scope) k.calls
  nested-in {k = k} {b} o = rw (← o.nests) (wf-block W k.function b o.function o.there).nested

  -- a frame that enters a block keeps its open calls as they stand
  pub enter-opened : {F : Function} {k : Frame} {b r : ℕ} (v̄ : List ℤ) → Opens P F k b r →
      OnSome (λ k'. opened P k' ≡ opened P k) (enter P k b v̄)
  unfolding enter entering go_to
  enter-opened {k = k} {b} v̄ o =
      rw (block-of P k b o.function o.there)
      (on-when _ _ _ λ _.
      let w = wf-block W k.function b o.function o.there in
      let x̄ = o.block.head.parameters in
      let h = keeps-trans (keeps-go_to k b 0) (keeps-all (go_to k b 0) x̄ v̄ w.fresh) in
      ap (map (standing P (bind_all (go_to k b 0) x̄ v̄))) (all-calls (go_to k b 0) x̄ v̄) ∙
      calls-kept P o.function h k.calls (nested-in o))
