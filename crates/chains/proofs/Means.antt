-- The depth of a table is the greatest number of frames of a chain, or there is a cycle: both ways, for every accepted table.
-- Acceptance is used once: every function that is called is there.
use Prim.Native.Nat.{ℕ, zero, suc, ◌≤◌, ◌<◌}
use mathlib.Core.Path.{◌≡◌, refl, sym, ◌∙◌, ap, subst}
use mathlib.Core.Logic.{◌⊎◌, inl, inr, ⊎_elim}
use mathlib.Core.Option.{Option, none, some}
use mathlib.Core.List.{List}
use native.Mathlib.Nat.{eq-or-lt_of_le, le_of_suc-le-suc}
use native.Mathlib.Omega.{arith}
use lib.ListN.{length, get_elem?}
use Rattle.model.specs.Numbers as No
use Rattle.model.specs.Answers.{Refusal, Answer, with}
use Rattle.model.specs.Syntax.{Transfer, Signature, Program}
use Rattle.model.specs.WellFormed.{Env, env, signature_of, WF-transfer, WF-block, WF-fun, WF-prog}
use Rattle.model.specs.Calls.{read, check}
use Rattle.model.proofs.Facts.{map-some, refused-given, given-injective, each_at, at-below}
use Rattle.model.proofs.Accepted.{check-wf, accepts, refuses, code-transfer}
use Rattle.model.proofs.Guarantees.{read-limits}
use Rattle.chains.specs.Chains.{Calls, Cyclic, Needs, Deepest}
use Rattle.chains.specs.Depth.{frames_from, numbers, deepest, deep, depth}
use Rattle.chains.specs.Means.{Accepted, Means}
use Rattle.chains.proofs.Steps.{In}
use Rattle.chains.proofs.Worked.{Greatest, Says, greatest-says, needs-one, Is, frames-is}
use Rattle.chains.proofs.Cycles.{long-cyclic, cyclic-there, cyclic-beyond}

-- in a well-formed program every function that is called is there
call-there : (E : Env) (Γ : ℕ) (ρ : List ℕ) {T : Transfer} {g b : ℕ} {x̄ : List ℕ} → T ≡ Transfer.call g x̄ b → WF-transfer E Γ ρ T →
    (S : Signature) × (E.function g ≡ some S)
unfolding WF-transfer
call-there E Γ ρ {T} {g} {b} {x̄} e h =
    let w : WF-transfer E Γ ρ (Transfer.call g x̄ b) = subst (WF-transfer E Γ ρ) e h in
    (w.1.0.signature, w.1.0.there)

pub callee-there : (P : Program) → WF-prog P → (f g : ℕ) → Calls P f g → g < length P
unfolding env
callee-there P W f g c =
    let F = each_at (WF-fun P) P f W.functions c.there in
    let B = each_at (WF-block (env P c.function)) c.function.blocks c.number F.blocks c.has in
    let T = code-transfer (env P c.function) _ _ c.block.code c.block.transfer B.code in
    let S = call-there (env P c.function) _ _ c.is T.1 in
    let G = map-some signature_of (get_elem? P g) S.1 in
    at-below P g G.1

-- the numbers below n
in-numbers : (f n : ℕ) → In f (numbers n) → f < n
unfolding numbers
in-numbers f zero i = absurd i
in-numbers f (suc n) (inl e) = omega arith
in-numbers f (suc n) (inr i) = omega (arith, in-numbers f n i)

numbers-in : (f n : ℕ) → f < n → In f (numbers n)
unfolding numbers
numbers-in f zero l = absurd (omega arith)
numbers-in f (suc n) l = ⊎_elim inl (λ k. inr (numbers-in f n k)) (eq-or-lt_of_le (le_of_suc-le-suc l))

-- what `deepest` says, where every callee is there
abbrev IsDeepest : Program → Option ℕ → Type 0
IsDeepest P none = Cyclic P
IsDeepest P (some d) = Deepest P d × (d ≤ length P)

module _ (P : Program) (some-function : 0 < length P) (there : (f g : ℕ) → Calls P f g → g < length P) where
  first-is : (f : ℕ) (o : Option ℕ) → frames_from P (length P) f ≡ o → Is P (length P) f o
  first-is f o e = subst (Is P (length P) f) e (frames-is P (length P) f)

  is-given : (d : ℕ) → Greatest (frames_from P (length P)) (numbers (length P)) d → Deepest P d × (d ≤ length P)
  is-given d G = go G.one
    where
      most : (f e : ℕ) → f < length P → Needs P f e → e ≤ d
      most f e l n =
          let m = G.most f (numbers-in f (length P) l) in
          omega (arith, m.2, (first-is f (some m.0) m.1).0.most e n)

      one : Needs P 0 1
      one = needs-one P 0

      go : (d ≡ 0) ⊎ ((f : ℕ) × In f (numbers (length P)) × (frames_from P (length P) f ≡ some d)) → Deepest P d × (d ≤ length P)
      go (inl z) = absurd (omega (arith, most 0 1 some-function one))
      go (inr k) =
          let i = first-is k.0 (some d) k.2 in
          (record { first = k.0; there = in-numbers k.0 (length P) k.1; needs = i.0.needs; most = most }, i.1)

  is_none : (f : ℕ) → In f (numbers (length P)) → frames_from P (length P) f ≡ none → Cyclic P
  is_none f i e = let c = first-is f none e in long-cyclic P there f c.0 (in-numbers f (length P) i) c.1

  by-says : (o : Option ℕ) → Says (frames_from P (length P)) (numbers (length P)) o → IsDeepest P o
  by-says none s = is_none s.0 s.1 s.2
  by-says (some d) G = is-given d G

  deepest-is : (o : Option ℕ) → deepest P ≡ o → IsDeepest P o
  unfolding deepest
  deepest-is o e = subst (IsDeepest P) e (by-says (deepest P) (greatest-says (frames_from P (length P)) (numbers (length P))))

  -- there is one greatest number, and none where there is a cycle
  deepest-one : (d e : ℕ) → Deepest P d → Deepest P e → d ≡ e
  deepest-one d e k l =
      omega (arith, l.most k.first d k.there k.needs, k.most l.first e l.there l.needs)

  not-both : {A : Type 0} (d : ℕ) → Deepest P d → Cyclic P → A
  not-both d k C =
      let (e, n, l) = cyclic-beyond P C d in
      absurd (omega (arith, l, k.most C.function e (cyclic-there P C) n))

  deepest-some : (d : ℕ) → Deepest P d → deepest P ≡ some d
  deepest-some d k = go (deepest P) refl
    where
      go : (o : Option ℕ) → deepest P ≡ o → deepest P ≡ some d
      go none e = not-both d k (deepest-is none e)
      go (some c) e = e ∙ ap some (deepest-one c d (deepest-is (some c) e).0 k)

  deepest-none : Cyclic P → deepest P ≡ none
  deepest-none C = go (deepest P) refl
    where
      go : (o : Option ℕ) → deepest P ≡ o → deepest P ≡ none
      go none e = e
      go (some c) e = not-both c (deepest-is (some c) e).0 C

-- what is given, and 22
deep-some : (o : Option ℕ) (d : ℕ) → deep o ≡ Answer.given d → o ≡ some d
unfolding deep
deep-some none d e = refused-given e
deep-some (some c) d e = ap some (given-injective e)

deep_none : (o : Option ℕ) → deep o ≡ Answer.refused (Refusal.plain No.cycle) → o ≡ none
unfolding deep
deep_none none e = refl
deep_none (some c) e = refused-given (sym e)

deep-either : (o : Option ℕ) → ((d : ℕ) × (deep o ≡ Answer.given d)) ⊎ (deep o ≡ Answer.refused (Refusal.plain No.cycle))
unfolding deep
deep-either none = inr refl
deep-either (some d) = inl (d, refl)

-- the depth of a table that the check accepts, refuses, or that has one
pub depth-accepted : (s : List ℕ) (P : Program) → check s ≡ Answer.given tt → read s ≡ Answer.given P → depth s ≡ deep (deepest P)
unfolding depth with
depth-accepted s P h r =
    let A = accepts s h in
    let e : A.program ≡ P = given-injective (sym A.reads ∙ r) in
    rw (A.is, e) refl

module _ (s : List ℕ) where
  depth-refused : (q : Refusal) → check s ≡ Answer.refused q → depth s ≡ Answer.refused q
  unfolding depth with
  depth-refused q h = rw (refuses s q h) refl

  depth-only : (d : ℕ) → depth s ≡ Answer.given d → check s ≡ Answer.given tt
  depth-only d e = go (check s) refl
    where
      go : (a : Answer (Unit {0})) → check s ≡ a → check s ≡ Answer.given tt
      go (Answer.given u) h = h
      go (Answer.refused q) h = refused-given (sym (depth-refused q h) ∙ e)

accepted : (s : List ℕ) (P : Program) → check s ≡ Answer.given tt → read s ≡ Answer.given P → Accepted s P
unfolding deep
accepted s P h r =
    let L = read-limits s P r in
    let w = check-wf s h in
    let same : w.0 ≡ P = given-injective (sym w.1 ∙ r) in
    let W : WF-prog P = subst WF-prog same w.2 in
    let some-function : 0 < length P = omega (arith, L.some) in
    let there = callee-there P W in
    let is = depth-accepted s P h r in
    let right : (d : ℕ) → Deepest P d → deepest P ≡ some d = deepest-some P some-function there in
    record {
      answered = rw is (deep-either (deepest P));
      deep = λ d e. (deepest-is P some-function there (some d) (deep-some (deepest P) d (sym is ∙ e))).0;
      given = λ d k. is ∙ ap deep (right d k);
      within = λ d k.
          let (D, few) = deepest-is P some-function there (some d) (right d k) in
          (omega (arith, k.needs.frames), omega (arith, few, L.few));
      cyclic = λ e. deepest-is P some-function there none (deep_none (deepest P) (sym is ∙ e));
      cycle = λ C. is ∙ ap deep (deepest-none P some-function there C);
    }

pub depth-means : Means
depth-means = record { refused = depth-refused; accepted = accepted; only = depth-only }
