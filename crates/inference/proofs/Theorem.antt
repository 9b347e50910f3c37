-- What S-4 promises is so: `Means`, from the laws of marks and scopes.
use Prim.Native.Nat.{ℕ, zero, suc, ◌+◌, ◌<◌}
use mathlib.Core.Path.{◌≡◌, refl, sym, ◌∙◌, ap, subst}
use mathlib.Core.Bool.{Bool, true, false, cond, true≢false}
use mathlib.Core.Option.{Option, none, some, map}
use mathlib.Core.List.{List, [], ◌∷◌}
use native.Mathlib.Omega.{arith}
use lib.ListN.{length, get_or, get_elem?}
use Rattle.model.specs.Numbers as No
use Rattle.model.specs.Answers as Answers
use Rattle.model.specs.Answers.{Refusal, Answer}
use Rattle.model.specs.Lists.{Each, pad}
use Rattle.model.specs.Sets.{◌⊆◌}
use Rattle.model.specs.Syntax.{Function, Program}
use Rattle.model.specs.WellFormed.{WF-fun, WF-prog}
use Rattle.model.specs.Limits.{InFunction, Limits}
use Rattle.model.specs.Read.{read_brief}
use Rattle.model.specs.Check.{judge}
use Rattle.model.specs.Calls.{read, check}
use Rattle.model.specs.Write as Write
use Rattle.model.specs.Write.{HoldsFunction}
use Rattle.model.proofs.Facts.{none-some, map-some, given-injective, refused-given, each_both, each_at, at-below, map_at}
use Rattle.model.proofs.Guarantees.{brief-limits}
use Rattle.model.proofs.Writing.{HeldFunction, brief-written}
use Rattle.inference.specs.Filled.{Scoping, Holds, filled, each_filled, filled_all}
use Rattle.inference.specs.Infer.{marks, nesting_of, infer, completed_function, completed}
use Rattle.inference.specs.Complete as Complete
use Rattle.inference.specs.Complete.{Completed, output_bytes, enough, unmarked, reached_or, reached, possible, inferred, finish}
use Rattle.inference.specs.Complete.{lend, complete}
use Rattle.inference.specs.Means.{Reached, Function-of, ReachedAll, ReachedBelow, Passes, SomePasses, Completes, Smallest}
use Rattle.inference.specs.Means.{Accepted, Written, Unreached, Impossible, Says, Means}
use Rattle.inference.proofs.Filled.{filled-function}
use Rattle.inference.proofs.Marks.{Has, marks-length, marks-reached, reached-marks, marks-passing, unmarked-none, unmarked-some}
use Rattle.inference.proofs.Scopes.{scopes-least, scopes-pass}
use Rattle.inference.proofs.Held.{inferred-holds, completed-holds, completed-reads, completed-check}
use Rattle.inference.proofs.Judged.{Alike, wf-alike, below_more, Right, Judged, main-starts, judged}

-- with scopes and nestings a program has the signatures that it had
completed-alike : (P : Program) → Alike P (completed P)
unfolding completed completed_function filled
completed-alike [] g = refl
completed-alike (F ∷ P) zero = refl
completed-alike (F ∷ P) (suc g) = completed-alike P g

filled-alike : (a : ℕ → ℕ → Scoping) (n : ℕ) (P : Program) → Alike P (each_filled a n P)
unfolding each_filled filled
filled-alike a n [] g = refl
filled-alike a n (F ∷ P) zero = refl
filled-alike a n (F ∷ P) (suc g) = filled-alike a (n + 1) P g

-- what is inferred of each function, by number
abbrev infer_at : Option Function → ℕ → Scoping
infer_at none b = record { scope = 0; nesting = [] }
infer_at (some F) b = infer F b

abbrev scoping : Program → ℕ → ℕ → Scoping
scoping P f = infer_at (get_elem? P f)

filled-completed : (a : ℕ → ℕ → Scoping) (n : ℕ) (P : Program) →
    ((i k : ℕ) (F : Function) → n + i ≡ k → get_elem? P i ≡ some F → a k ≡ infer F) → each_filled a n P ≡ completed P
unfolding each_filled completed completed_function
filled-completed a n [] h = refl
filled-completed a n (F ∷ P) h =
    rw (h 0 n F (omega arith) refl, filled-completed a (n + 1) P (λ i k G q e. h (suc i) k G (omega (arith, q)) e))

scoping-completes : (P : Program) → filled_all (scoping P) P ≡ completed P
scoping-completes P = filled-completed (scoping P) 0 P
    (λ i k F q e. let p : i ≡ k = omega (arith, q) in ap infer_at (ap (get_elem? P) (sym p) ∙ e))

-- what completes the program makes each of its functions pass
completes-passes : (P : Program) (a : ℕ → ℕ → Scoping) → Completes P a → (f : ℕ) (F : Function) → Function-of P f F → Passes P f F (a f)
unfolding filled
completes-passes P a c f F there =
    let Q : Program = filled_all a P in
    let at : get_elem? Q f ≡ some (filled (a f) F) = filled-function a P f F there in
    let W = c.well_formed in
    record {
      holds = λ b i. c.holds f b F there i;
      well_formed = wf-alike Q P (filled (a f) F) (λ g. sym (filled-alike a 0 P g)) (each_at (WF-fun Q) Q f W.functions at);
      starts = main-starts Q W.main f (filled (a f) F) W.first W.starts at;
    }

-- what can be completed is refused neither by 25 nor by 26
module _ (s : List ℕ) (A : Accepted s) where
  function_of : (f : ℕ) (F : Function) (P : Program) → read_brief s ≡ Answer.given P → Function-of P f F → Function-of A.program f F
  function_of f F P e there = subst (λ (Q : Program). Function-of Q f F) (given-injective (sym e ∙ A.reads)) there

  not-unreached : (f b : ℕ) → Unreached s f b → ⊥
  not-unreached f b U =
      let F = U.function in
      let there = function_of f F U.program U.reads U.there in
      U.not (A.reached f F (at-below A.program f there) there b U.inside)

  not-impossible : (f : ℕ) → Impossible s f → ⊥
  not-impossible f I =
      let F = I.function in
      let (a, c) = A.some in
      let there = function_of f F I.program I.reads I.there in
      I.none (subst (λ (Q : Program). SomePasses Q f F) (given-injective (sym A.reads ∙ I.reads))
      (a f, completes-passes A.program a c f F there))

-- what is answered and left is one of what is said
abbrev SaysOf : (s out words : List ℕ) → Completed → Type 0
SaysOf s out words c = Says s out words c.answer c.out c.words

-- 25. Functions, numbered from f on: every block of each is reached; or block b of function k is not, and what is before it is
data From (f : ℕ) (F̄ : List Function) : Answer (Unit {0}) → Type 0 where
  all : Each ReachedAll F̄ → From f F̄ (Answer.given tt)
  lost : (k b i : ℕ) (F : Function) → f + i ≡ k → get_elem? F̄ i ≡ some F → b < length F.blocks → (Reached F b → ⊥) →
      ((c : ℕ) → c < b → Reached F c) → ((j : ℕ) (G : Function) → j < i → get_elem? F̄ j ≡ some G → ReachedAll G) →
      From f F̄ (Answer.refused (Refusal.fault No.unreached k b))

marked-reached : (F : Function) (b : ℕ) → Has (marks F) b → Reached F b
marked-reached F b (ρ, e) = marks-reached F b ρ e

-- of one function: every block has its mark, or block b is the lowest that has none
all-reached : (F : Function) → unmarked 0 (marks F) ≡ none → ReachedAll F
all-reached F e b h = marked-reached F b (unmarked-none (marks F) e b (omega (arith, marks-length F)))

lost-block : (F : Function) (b : ℕ) → 0 < length F.blocks → unmarked 0 (marks F) ≡ some b →
    (b < length F.blocks) × (Reached F b → ⊥) × ((c : ℕ) → c < b → Reached F c)
lost-block F b l e =
    let (i, n, below) = unmarked-some (marks F) b e in
    let inside : b < length F.blocks = omega (arith, marks-length F) in
    (inside, (λ r. none-some (sym n ∙ (reached-marks F b l inside r).1)), (λ c h. marked-reached F c (below c h)))

reached-says : (f : ℕ) (F̄ : List Function) → Each InFunction F̄ → From f F̄ (reached f F̄)
unfolding reached reached_or
reached-says f [] l = From.all tt
reached-says f (F ∷ F̄) (l, ls) = go (unmarked 0 (marks F)) refl (reached (f + 1) F̄) (reached-says (f + 1) F̄ ls)
  where
    go : (o : Option ℕ) → unmarked 0 (marks F) ≡ o → (a : Answer (Unit {0})) → From (f + 1) F̄ a → From f (F ∷ F̄) (reached_or f o a)
    go (some b) e a r =
        let (inside, not, below) = lost-block F b l.some_block e in
        From.lost f b 0 F (omega arith) refl inside not below (λ j G h. absurd (omega arith))
    go none e a (From.all r) = From.all (all-reached F e, r)
    go none e a (From.lost k b i G q there inside not below before) =
        From.lost k b (suc i) G (omega (arith, q)) there inside not below (below_more ReachedAll F F̄ i (all-reached F e) before)

-- 26. Where every block is reached, what makes a function pass has the inferred nestings
module _ (P : Program) (F : Function) (a : ℕ → Scoping) (l : InFunction F) (r : ReachedAll F)
    (h : (b : ℕ) → b < length F.blocks → Holds (a b)) (w : WF-fun P (filled a F)) where
  nests : (b : ℕ) → b < length F.blocks → nesting_of (get_or (marks F) b none) ≡ (a b).nesting
  unfolding nesting_of
  nests b i =
      let (ρ, e) = reached-marks F b l.some_block i (r b i) in
      rw e (sym (marks-passing P F a h w b ρ e))

  inferred-passes : WF-fun P (completed_function F)
  unfolding completed_function
  inferred-passes = scopes-pass P F a l w nests

  inferred-least : (b : ℕ) → b < length F.blocks → ((infer F b).nesting ≡ (a b).nesting) × ((infer F b).scope ⊆ (a b).scope)
  unfolding infer
  inferred-least b i = (nests b i, scopes-least P F a w nests b i)

-- a table of version 2 that reads
module _ (s : List ℕ) (P : Program) (e : read_brief s ≡ Answer.given P) where
  held : Each HeldFunction P
  held = let (_, (i, h), _) = brief-written s P e in each_both InFunction HoldsFunction P i.functions h

  held_at : (f : ℕ) (F : Function) → Function-of P f F → HeldFunction F
  held_at f F there = each_at HeldFunction P f held there

  completed-limits : Limits (completed P)
  completed-limits = (completed-holds s P e).limits

  -- a function of the completed program is one of P, completed
  completed-of : (f : ℕ) (G : Function) → get_elem? (completed P) f ≡ some G →
      (F : Function) × Function-of P f F × (completed_function F ≡ G)
  unfolding completed
  completed-of f G there = map-some completed_function (get_elem? P f) (sym (map_at completed_function P f) ∙ there)

  of-completed : (f : ℕ) (F : Function) → Function-of P f F → get_elem? (completed P) f ≡ some (completed_function F)
  unfolding completed
  of-completed f F there = map_at completed_function P f ∙ ap (map completed_function) there

  -- it passes the rules exactly where some scopes and nestings make it pass
  passes-right : (f : ℕ) (F : Function) → Function-of P f F → ReachedAll F → SomePasses P f F →
      Right (completed P) f (completed_function F)
  unfolding completed_function filled
  passes-right f F there r (a, p) = (
    wf-alike P (completed P) (completed_function F) (completed-alike P)
        (inferred-passes P F a (held_at f F there).0 r p.holds p.well_formed),
    p.starts,
  )

  right-passes : (f : ℕ) (F : Function) → Function-of P f F → Right (completed P) f (completed_function F) → SomePasses P f F
  unfolding completed_function filled
  right-passes f F there (w, z) = (
    infer F,
    record {
      holds = λ b i. inferred-holds F (held_at f F there) b;
      well_formed = wf-alike (completed P) P (completed_function F) (λ g. sym (completed-alike P g)) w;
      starts = z;
    },
  )

  -- what else completes the program has the same nestings, and contains the scopes
  smallest : ReachedBelow P (length P) → Smallest P (scoping P)
  smallest r c k f b F there i =
      let p = completes-passes P c k f F there in
      rw there (inferred-least P F (c f) (held_at f F there).0 (r f F (at-below P f there) there) p.holds p.well_formed b i)

  -- what is so where the program is judged as given
  module _ (r : ReachedBelow P (length P)) (w : WF-prog (completed P)) where
    completes : Completes P (scoping P)
    completes =
        record {
          holds = λ f b F there i. rw there (inferred-holds F (held_at f F there) b);
          well_formed = subst WF-prog (sym (scoping-completes P)) w;
        }

    accepted : Accepted s
    accepted = record { program = P; reads = e; reached = r; some = (scoping P, completes) }

    written : judge (completed P) ≡ Answer.given tt →
        Written s (pad output_bytes 0 (Write.table (completed P))) (length (Write.table (completed P)))
    written j =
        let q : completed P ≡ filled_all (scoping P) P = sym (scoping-completes P) in
        record {
          program = P;
          reads = e;
          scoping = scoping P;
          completes = completes;
          smallest = smallest r;
          long = ap (λ (Q : Program). length (Write.table Q)) q;
          fits = (completed-holds s P e).short;
          bytes = ap (λ (Q : Program). pad output_bytes 0 (Write.table Q)) q;
          reads-back = subst (λ (Q : Program). read (Write.table Q) ≡ Answer.given Q) q (completed-reads s P e);
          accepted = subst (λ (Q : Program). check (Write.table Q) ≡ Answer.given tt) q (completed-check s P e ∙ j);
        }

  module _ (out words : List ℕ) (enough_lent : enough out words ≡ true) where
    judged-says : ReachedBelow P (length P) → (j : Answer (Unit {0})) → judge (completed P) ≡ j → Judged (completed P) j →
        SaysOf s out words (finish out words (Answers.with (possible j) (λ _. Answer.given (completed P))))
    unfolding finish possible Answers.with Complete.impossible
    judged-says r j q (Judged.pass w) = Says.given enough_lent (accepted r w) (written r w q)
    judged-says r j q (Judged.fail n f b G there not before) =
        let (F, there_f, is) = completed-of f G there in
        Says.impossible enough_lent
        (record {
          program = P;
          reads = e;
          reached = r;
          function = F;
          there = there_f;
          none = λ p. not (subst (Right (completed P) f) is (passes-right f F there_f (r f F (at-below P f there_f) there_f) p));
          before = λ g H l there_h. right-passes g H there_h (before g (completed_function H) l (of-completed g H there_h));
        })

    reached-all : Each ReachedAll P → ReachedBelow P (length P)
    reached-all h f F l there = each_at ReachedAll P f h there

    inferred-says : (a : Answer (Unit {0})) → From 0 P a →
        SaysOf s out words
        (finish out words (Answers.with a (λ _. Answers.with (possible (judge (completed P))) (λ _. Answer.given (completed P)))))
    unfolding finish Answers.with
    inferred-says a (From.all h) = judged-says (reached-all h) (judge (completed P)) refl (judged (completed P) completed-limits)
    inferred-says a (From.lost k b i F q there inside not below before) =
        let p : i ≡ k = omega (arith, q) in
        Says.unreached enough_lent
        (record {
          program = P;
          reads = e;
          function = F;
          there = subst (λ (j : ℕ). get_elem? P j ≡ some F) p there;
          inside = inside;
          not = not;
          below = below;
          before = λ g G l there_g. before g G (omega (arith, p)) there_g;
        })

    given-says : SaysOf s out words (finish out words (inferred P))
    unfolding inferred
    given-says = inferred-says (reached 0 P) (reached-says 0 P (brief-limits s P e).functions)

-- the order of the refusals before: 1 to 3, then 24
says : (s out words : List ℕ) → SaysOf s out words (complete s out words)
unfolding complete lend
says s out words = go (read_brief s) refl
  where
    lent_says : (P : Program) → read_brief s ≡ Answer.given P → (b : Bool) → enough out words ≡ b →
        SaysOf s out words
        (cond b (finish out words (inferred P))
        (record { answer = Answer.refused (Refusal.plain No.lent); out = out; words = words }))
    lent_says P e true q = given-says s P e out words q
    lent_says P e false q = Says.lent e (λ h. true≢false (sym h ∙ q))

    go : (a : Answer Program) → read_brief s ≡ a → SaysOf s out words (lend out words a)
    go (Answer.given P) e = lent_says P e (enough out words) refl
    go (Answer.refused r) e = Says.unread e

accepts : (s out words : List ℕ) → enough out words ≡ true → Accepted s → (n : ℕ) × ((complete s out words).answer ≡ Answer.given n)
accepts s out words q A = go c.answer c.out c.words refl (says s out words)
  where
    c : Completed
    c = complete s out words

    go : (a : Answer ℕ) (out' words' : List ℕ) → c.answer ≡ a → Says s out words a out' words' → (n : ℕ) × (c.answer ≡ Answer.given n)
    go a out' words' e (Says.unread r) = refused-given (sym r ∙ A.reads)
    go a out' words' e (Says.lent r h) = absurd (h q)
    go a out' words' e (Says.unreached {f = f} {b = b} h U) = absurd (not-unreached s A f b U)
    go a out' words' e (Says.impossible {f = f} h I) = absurd (not-impossible s A f I)
    go a out' words' e (Says.given {n = n} h B W) = (n, e)

pub completion-means : Means
completion-means = record { says = says; accepts = accepts }
