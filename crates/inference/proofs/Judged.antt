-- How a program is judged, function by function: it is given where every function passes the rules, and otherwise refused at the first
-- that does not. Of the other functions nothing is looked at but their signatures.
use Prim.Native.Nat.{ℕ, zero, suc, ◌+◌, ◌<◌}
use mathlib.Core.Path.{◌≡◌, refl, sym, ◌∙◌, ap, subst}
use mathlib.Core.Bool.{Bool, true, false, not}
use mathlib.Core.Option.{Option, none, some, map}
use mathlib.Core.List.{List, [], ◌∷◌, ◌++◌}
use native.Mathlib.Omega.{arith}
use lib.Dec.{eqb}
use lib.ListN.{get_elem?}
use Rattle.model.specs.Numbers as No
use Rattle.model.specs.Answers.{Refusal, Answer}
use Rattle.model.specs.Lists.{Each}
use Rattle.model.specs.Syntax.{Block, Function, Program}
use Rattle.model.specs.Tests.{fault, failed}
use Rattle.model.specs.WellFormed.{Env, env, signature_of, WF-block, WF-spawn, WF-fun, WF-prog}
use Rattle.model.specs.Limits.{InFunction, Limits}
use Rattle.model.specs.Check as Check
use Rattle.model.specs.Check.{Placed, nowhere, at, first_fault, judge}
use Rattle.model.proofs.Facts.{eqb-true, eqb-false, some-injective, refused-given}
use Rattle.model.proofs.Facts.{below_at}
use Rattle.model.proofs.Accepted.{of_function, function-accepted, accepted-function}

-- P and Q have the same signatures
abbrev pub Alike : Program → Program → Type 0
Alike P Q = (g : ℕ) → map signature_of (get_elem? P g) ≡ map signature_of (get_elem? Q g)

env-alike : (P Q : Program) (F : Function) → Alike P Q → env P F ≡ env Q F
unfolding env
env-alike P Q F e = λ i. record { block = (env P F).block; spawn = (env P F).spawn; function = λ g. e g i; own = F.signature }

pub wf-alike : (P Q : Program) (F : Function) → Alike P Q → WF-fun P F → WF-fun Q F
wf-alike P Q F e w =
    let q = env-alike P Q F e in
    record {
      spawns = subst (λ (E : Env). Each (WF-spawn E) F.spawns) q w.spawns;
      entry = w.entry;
      first = w.first;
      enters = w.enters;
      blocks = subst (λ (E : Env). Each (WF-block E) F.blocks) q w.blocks;
    }

-- no test fails
abbrev Clear : List Placed → Type 0
Clear ps = first_fault ps ≡ Answer.given tt

none-clear : Clear []
unfolding first_fault
none-clear = refl

-- a test that holds is passed over; one that fails is the answer
goes : (p : Placed) (ps : List Placed) → fault p.tests ≡ none → first_fault (p ∷ ps) ≡ first_fault ps
unfolding first_fault at
goes p ps e = rw e

fails : (p : Placed) (ps : List Placed) (n : ℕ) → fault p.tests ≡ some n →
    first_fault (p ∷ ps) ≡ Answer.refused (Refusal.fault n p.function p.block)
unfolding first_fault at
fails p ps n e = rw e

-- tests of function f
abbrev In : ℕ → List Placed → Type 0
In f [] = Unit {0}
In f (p ∷ ps) = (p.function ≡ f) × In f ps

blocks-in : (E : Env) (f b : ℕ) (B̄ : List Block) → In f (Check.of_blocks E f b B̄)
unfolding Check.of_blocks
blocks-in E f b [] = tt
blocks-in E f b (B ∷ B̄) = (refl, blocks-in E f (b + 1) B̄)

-- before others: none fails, and the others are judged; or the first that fails is of f
data Before (f : ℕ) (ps qs : List Placed) : Type 0 where
  clear : Clear ps → first_fault (ps ++ qs) ≡ first_fault qs → Before f ps qs
  stops : (n b : ℕ) → (Clear ps → ⊥) → first_fault (ps ++ qs) ≡ Answer.refused (Refusal.fault n f b) → Before f ps qs

before : (f : ℕ) (ps qs : List Placed) → In f ps → Before f ps qs
before f [] qs i = Before.clear none-clear refl
before f (p ∷ ps) qs (i, is) = go (fault p.tests) refl (before f ps qs is)
  where
    go : (o : Option ℕ) → fault p.tests ≡ o → Before f ps qs → Before f (p ∷ ps) qs
    go none e (Before.clear c d) = Before.clear (goes p ps e ∙ c) (goes p (ps ++ qs) e ∙ d)
    go none e (Before.stops n b c d) = Before.stops n b (λ k. c (sym (goes p ps e) ∙ k)) (goes p (ps ++ qs) e ∙ d)
    go (some n) e k =
        Before.stops n p.block (λ k. refused-given (sym (fails p ps n e) ∙ k))
        (fails p (ps ++ qs) n e ∙ ap (λ (g : ℕ). Answer.refused (Refusal.fault n g p.block)) i)

-- functions, numbered from f on: every one passes; or function k does not, and those before it do
data From (P : Program) (f : ℕ) (F̄ : List Function) : Answer (Unit {0}) → Type 0 where
  pass : Each (WF-fun P) F̄ → From P f F̄ (Answer.given tt)
  fail : (n k b i : ℕ) (F : Function) → f + i ≡ k → get_elem? F̄ i ≡ some F → (WF-fun P F → ⊥) →
      ((j : ℕ) (G : Function) → j < i → get_elem? F̄ j ≡ some G → WF-fun P G) →
      From P f F̄ (Answer.refused (Refusal.fault n k b))

-- what is so before an index, and of one more at the front
pub below_more : (Q : Function → Type 0) (F : Function) (F̄ : List Function) (i : ℕ) → Q F →
    ((j : ℕ) (G : Function) → j < i → get_elem? F̄ j ≡ some G → Q G) →
    (j : ℕ) (G : Function) → j < suc i → get_elem? (F ∷ F̄) j ≡ some G → Q G
below_more Q F F̄ i q h zero G l e = subst Q (some-injective e) q
below_more Q F F̄ i q h (suc j) G l e = h j G (omega arith) e

functions : (P : Program) (f : ℕ) (F̄ : List Function) → Each InFunction F̄ → From P f F̄ (first_fault (Check.of_functions P f F̄))
unfolding Check.of_functions
functions P f [] l = subst (From P f []) (sym none-clear) (From.pass tt)
functions P f (F ∷ F̄) (l, ls) =
    go (first_fault qs) refl (functions P (f + 1) F̄ ls) (before f (of_function P f F) qs (refl, blocks-in (env P F) f 0 F.blocks))
  where
    qs : List Placed
    qs = Check.of_functions P (f + 1) F̄

    go : (a : Answer (Unit {0})) → first_fault qs ≡ a → From P (f + 1) F̄ a → Before f (of_function P f F) qs →
        From P f (F ∷ F̄) (first_fault (of_function P f F ++ qs))
    go a q r (Before.stops n b c d) =
        subst (From P f (F ∷ F̄)) (sym d)
        (From.fail n f b 0 F (omega arith) refl (λ w. c (accepted-function P f F w)) (λ j G h. absurd (omega arith)))
    go a q (From.pass w) (Before.clear c d) = subst (From P f (F ∷ F̄)) (sym (d ∙ q)) (From.pass (function-accepted P f F l c, w))
    go a q (From.fail n k b i G e there not lower) (Before.clear c d) =
        subst (From P f (F ∷ F̄)) (sym (d ∙ q))
        (From.fail n k b (suc i) G (omega arith) there not (below_more (WF-fun P) F F̄ i (function-accepted P f F l c) lower))

-- function f passes the rules, among them that main has no parameters
abbrev pub Right : Program → ℕ → Function → Type 0
Right P f F = WF-fun P F × (f ≡ 0 → F.signature.parameters ≡ 0)

-- a program: every function passes; or function f does not, and those before it do
pub data Judged (P : Program) : Answer (Unit {0}) → Type 0 where
  pass : WF-prog P → Judged P (Answer.given tt)
  fail : (n f b : ℕ) (F : Function) → get_elem? P f ≡ some F → (Right P f F → ⊥) →
      ((g : ℕ) (G : Function) → g < f → get_elem? P g ≡ some G → Right P g G) → Judged P (Answer.refused (Refusal.fault n f b))

-- function f is main, where f is 0
pub main-starts : (P : Program) (M : Function) (f : ℕ) (F : Function) → get_elem? P 0 ≡ some M → M.signature.parameters ≡ 0 →
    get_elem? P f ≡ some F → f ≡ 0 → F.signature.parameters ≡ 0
main-starts P M f F first z e o =
    let same : M ≡ F = some-injective (sym first ∙ sym (ap (get_elem? P) o) ∙ e) in
    subst (λ (G : Function). G.signature.parameters ≡ 0) same z

main-fault : (P : Program) (M : Function) → get_elem? P 0 ≡ some M →
    fault (Check.of_main (get_elem? P 0)) ≡ failed (eqb M.signature.parameters 0) No.main
unfolding Check.of_main fault
main-fault P M e = rw e

pub judged : (P : Program) → Limits P → Judged P (judge P)
unfolding judge Check.tests
judged P L =
    let (M, first) = below_at P 0 L.some in
    main M first (eqb M.signature.parameters 0) refl
  where
    ps : List Placed
    ps = Check.of_functions P 0 P

    p : Placed
    p = record { function = 0; block = nowhere; tests = Check.of_main (get_elem? P 0) }

    rest : (M : Function) → get_elem? P 0 ≡ some M → M.signature.parameters ≡ 0 → {a : Answer (Unit {0})} → From P 0 P a → Judged P a
    rest M first z (From.pass w) = Judged.pass (record { main = M; first = first; starts = z; functions = w })
    rest M first z (From.fail n k b i F e there not lower) =
        let q : i ≡ k = omega (arith, e) in
        Judged.fail n k b F (subst (λ (j : ℕ). get_elem? P j ≡ some F) q there) (λ r. not r.0)
        (λ g G l h. (lower g G (omega (arith, q)) h, main-starts P M g G first z h))

    main : (M : Function) → get_elem? P 0 ≡ some M → (b : Bool) → eqb M.signature.parameters 0 ≡ b → Judged P (first_fault (p ∷ ps))
    main M first true q =
        subst (Judged P) (sym (goes p ps (main-fault P M first ∙ ap (λ (b : Bool). failed b No.main) q)))
        (rest M first (eqb-true _ _ q) (functions P 0 P L.functions))
    main M first false q =
        subst (Judged P) (sym (fails p ps No.main (main-fault P M first ∙ ap (λ (b : Bool). failed b No.main) q)))
        (Judged.fail No.main 0 nowhere M first (λ r. eqb-false _ _ q (r.1 refl)) (λ g G h. absurd (omega arith)))
