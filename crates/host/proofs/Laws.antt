-- The laws of specs/Laws: from the numbers that the model's calls can give, and what the macros read in them.
use Prim.Native.Nat.{ℕ, ◌^◌, ◌≤◌, ◌<◌}
use mathlib.Core.Path.{◌≡◌, refl, sym, ◌∙◌, ap, subst}
use mathlib.Core.Logic.{◌⊎◌, inl, inr, ◌≢◌}
use mathlib.Core.Bool.{Bool, true, false}
use mathlib.Core.Option.{Option, none, some}
use mathlib.Core.List.{List, [], ◌∷◌, ◌++◌}
use native.Mathlib.Omega.{arith}
use lib.Dec.{eqb, leb, lit≤}
use lib.IntN.{ℤ}
use lib.ListN.{length, get_or, get_elem?, take, drop}
use lib.Seq.{drop-append_seam}
use Rattle.model.specs.Numbers as No
use Rattle.model.specs.Numbers.{Within, RuleOf, RefusalOf}
use Rattle.model.specs.Answers.{Refusal, Answer, number_of, outcome, Wrote, put}
use Rattle.model.specs.Syntax.{Function, Program}
use Rattle.model.specs.Limits.{InFunction}
use Rattle.model.specs.Pool.{words_of, started}
use Rattle.model.specs.Calls as Calls
use Rattle.model.specs.Calls.{Choice, lent}
use Rattle.model.proofs.Facts.{true-false, refused-given, ne_eqb, leb-true, leb-false, each_at, at-below, put-fits, put-short}
use Rattle.model.proofs.Words.{started-words}
use Rattle.model.proofs.Accepted.{check-wf}
use Rattle.model.proofs.Guarantees.{sized-is, reads, read-limits}
use Rattle.model.proofs.Kept.{OnSome}
use Rattle.model.proofs.Numbers as Numbers
use Rattle.model.proofs.Numbers.{Can, Any, read-can, check-can, start-can, choose-can, schedule-can, which-can, values-can}
use Rattle.model.proofs.Numbers.{read-heading, start-begins, start-leaves, choose-leaves}
use Rattle.answers.specs.Coded.{code_of}
use Rattle.chains.specs.Depth.{depth}
use Rattle.chains.specs.Means.{Accepted}
use Rattle.chains.proofs.Means.{depth-means}
use Rattle.numbering.specs.Tidy.{tidy}
use Rattle.numbering.specs.Means.{Tidies}
use Rattle.numbering.proofs.Theorem.{tidy-means}
use Rattle.inference.proofs.Theorem.{completion-means}
use Rattle.overflows.proofs.Theorem.{naming}
use Rattle.first.specs.Means.{Steps, Right}
use Rattle.first.proofs.Means.{right}
use Rattle.host.specs.Macros.{is_given, value, number, function, step, no_thread}
use Rattle.host.specs.Exports.{done, as_number, stepper_of, counted, over, written}
use Rattle.host.specs.CallContracts.{Read, Check, Depth, Tidy, Start, Choose, Schedule, Which, Values}
use Rattle.host.specs.Laws as Laws
use Rattle.host.specs.Laws.{answer_in, thread_in, values_in, fresh, Placed, OfTable, OfProgram, OfPool, OfChoice, StopsAt}
use Rattle.host.specs.Laws.{ReadTells, CheckTells, DepthTells, TidyTells, StartTells, ChooseTells, ScheduleTells, WhichTells}
use Rattle.host.specs.Laws.{ValuesTells}
use Rattle.host.proofs.Codes.{Bare, Fits, Gave, number-code, stepper-code, counted-code, thread, count}
use Rattle.host.proofs.Codes.{plain_in, valued, tells, gave, refused}
use Rattle.host.proofs.Tables.{table_fits, table-told}
use Rattle.host.proofs.Refusals.{start_fits, start-told, lent_fits, lent-told, pool-below, chosen-fits, chosen-number, chosen-above}
use Rattle.host.proofs.Refusals.{done-in, done-gave, done_refused}
use Rattle.host.proofs.Beats.{choose-first, beat-law, run-law}
use Rattle.host.proofs.Completion.{complete-law}
use Rattle.host.proofs.Written.{was-put, was-refused}
use Rattle.host.proofs.Views.{listing-law}
use Rattle.host.proofs.Macros.{given-read, refused-read, read-given, read-refused, done-read, stopped-read, read_done}

-- what a choice can be refused fits into a number, and what the macros then read
choice-fits : {s : List ℕ} {kind : ℕ} (q : Refusal) → Numbers.OfChoice s kind q → Fits q
choice-fits _ (Numbers.OfChoice.lends h) = lent_fits _ h
choice-fits _ (Numbers.OfChoice.chosen w) = chosen-fits w

wider : {s : List ℕ} {r : ℕ} → OfPool s r → OfChoice s r
wider (inl h) = inl h
wider (inr h) = inr (inl (h.0, omega arith))

chosen-told : {s : List ℕ} {kind n : ℕ} → RefusalOf kind n → OfChoice s (code_of (Refusal.plain n))
chosen-told (inl w) = inr (inl (omega arith, omega arith))
chosen-told (inr e) = inr (inr (omega arith))

choice-told : {s : List ℕ} {kind : ℕ} {q : Refusal} → Numbers.OfChoice s kind q → OfChoice s (code_of q)
choice-told (Numbers.OfChoice.lends h) = wider (lent-told h)
choice-told (Numbers.OfChoice.chosen w) = chosen-told w

-- a fault's function and block are in the table
record Lies (s : List ℕ) (P : Program) : Type 0 where
  functions : length P ≡ get_or s 5 0
  nonempty : 1 ≤ length P
  few : length P ≤ 16
  blocks : (f : ℕ) {F : Function} → get_elem? P f ≡ some F → length F.blocks ≤ 32

lies : {s : List ℕ} {P : Program} → Calls.read s ≡ Answer.given P → Lies s P
lies {s} {P} e =
    let L = read-limits s P e in
    record {
      functions = (read-heading s P e).functions;
      nonempty = L.some;
      few = L.few;
      blocks = λ f g. (each_at InFunction P f L.functions g).few_blocks;
    }

fault-fits : {s : List ℕ} {P : Program} → Lies s P → (q : Refusal) → Numbers.Faults P q → Fits q
fault-fits h _ Numbers.Faults.main = (inl (lit≤ tt, lit≤ tt), lit≤ tt, lit≤ tt)
fault-fits h _ (Numbers.Faults.spawn l (inl e)) = (inl (omega arith, omega arith), omega arith, lit≤ tt)
fault-fits h _ (Numbers.Faults.spawn l (inr e)) = (inl (omega arith, omega arith), omega arith, lit≤ tt)
fault-fits {s} {P} h _ (Numbers.Faults.block {f = f} g l w) =
    let i = at-below P f g in
    let j = h.blocks f g in
    (inl (omega arith, omega arith), omega arith, omega arith)

in-program : {s : List ℕ} {r : ℕ} → Within No.main No.nesting (number r) → Placed r → function r < get_or s 5 0 → get_or s 5 0 ≤ 16
    → OfProgram s r
in-program n p f m = record { numbered = n; placed = p; function_there = f; functions = m }

fault-told : {s : List ℕ} {P : Program} → Lies s P → {q : Refusal} → Numbers.Faults P q → OfProgram s (code_of q)
fault-told h Numbers.Faults.main = in-program (lit≤ tt, lit≤ tt) (Placed.at_main refl refl refl) (omega arith) (omega arith)
fault-told h (Numbers.Faults.spawn l (inl e)) =
    in-program (omega arith, omega arith) (Placed.at_spawn (inl (omega arith)) (omega arith)) (omega arith) (omega arith)
fault-told h (Numbers.Faults.spawn l (inr e)) =
    in-program (omega arith, omega arith) (Placed.at_spawn (inr (omega arith)) (omega arith)) (omega arith) (omega arith)
fault-told {P = P} h (Numbers.Faults.block {f = f} g l w) =
    let i = at-below P f g in
    let j = h.blocks f g in
    in-program (omega arith, omega arith) (Placed.at_block (omega arith, omega arith) (omega arith)) (omega arith) (omega arith)

check-fits : {s : List ℕ} (q : Refusal) → Numbers.OfCheck s q → Fits q
check-fits _ (Numbers.OfCheck.table h) = table_fits _ h
check-fits _ (Numbers.OfCheck.program e h) = fault-fits (lies e) _ h

check-told : {s : List ℕ} {q : Refusal} → Numbers.OfCheck s q → OfTable s (code_of q) ⊎ OfProgram s (code_of q)
check-told (Numbers.OfCheck.table h) = inl (table-told h)
check-told (Numbers.OfCheck.program e h) = inr (fault-told (lies e) h)

outcome-can : {A : Type 0} (R : Refusal → Type 0) (a : Answer A) → Can Any R a → Can Any R (outcome a)
unfolding outcome
outcome-can R (Answer.given x) h = tt
outcome-can R (Answer.refused q) h = h

pub read-law : (s : List ℕ) (r : ℕ) → Read s r → ReadTells s r
read-law s r e =
    let a = outcome (Calls.read s) in
    let R = Numbers.OfTable s in
    let can = outcome-can R (Calls.read s) (read-can s) in
    rw e
    (record {
      answers = done-in a Any R table_fits can;
      given = λ g. (done-gave a Any R table_fits can g).told;
      refused = λ g. let q = done_refused a Any R table_fits can g in rw q.told (table-told q.has);
    })

pub check-law : (s : List ℕ) (r : ℕ) → Check s r → CheckTells s r
check-law s r e =
    let a = Calls.check s in
    let R = Numbers.OfCheck s in
    let can = check-can s in
    rw e
    (record {
      answers = done-in a Any R check-fits can;
      given = λ g. (done-gave a Any R check-fits can g).told;
      refused = λ g. let q = done_refused a Any R check-fits can g in rw q.told (check-told q.has);
    })

-- the depth of a table
data OfDepth (s : List ℕ) : Refusal → Type 0 where
  check : {q : Refusal} → Numbers.OfCheck s q → OfDepth s q
  cycle : OfDepth s (Refusal.plain No.cycle)

depth-fits : {s : List ℕ} (q : Refusal) → OfDepth s q → Fits q
depth-fits _ (OfDepth.check h) = check-fits _ h
depth-fits _ OfDepth.cycle = Bare.of_call (lit≤ tt, lit≤ tt)

module _ (s : List ℕ) where
  depth-can : Can (Within 1 16) (OfDepth s) (depth s)
  depth-can = go (Calls.check s) refl (check-can s)
    where
      on : {P : Program} → Accepted s P → ((d : ℕ) × (depth s ≡ Answer.given d)) ⊎ (depth s ≡ Answer.refused (Refusal.plain No.cycle)) →
          Can (Within 1 16) (OfDepth s) (depth s)
      on A (inl (d, e)) = rw e (A.within d (A.deep d e))
      on A (inr e) = rw e OfDepth.cycle

      go : (a : Answer (Unit {0})) → Calls.check s ≡ a → Can Any (Numbers.OfCheck s) a → Can (Within 1 16) (OfDepth s) (depth s)
      go (Answer.given u) e h = let A = depth-means.accepted s (check-wf s e).0 e (check-wf s e).1 in on A A.answered
      go (Answer.refused q) e h = rw (depth-means.refused s q e) (OfDepth.check h)

few-room : (d : ℕ) → Within 1 16 d → d < 2 ^ 32
few-room d h = omega arith

valued_same : (a : Answer ℕ) → valued (λ x. x) a ≡ a
valued_same (Answer.given x) = refl
valued_same (Answer.refused q) = refl

-- an answer that is given or gets 22, read in a number
gets-cycle : {a : Answer ℕ} (r : ℕ) → answer_in r ≡ a → ((d : ℕ) × (a ≡ Answer.given d)) ⊎ (a ≡ Answer.refused (Refusal.plain No.cycle)) →
    is_given r ≡ false → number r ≡ No.cycle
unfolding number_of
gets-cycle r t (inl (d, x)) e = true-false (is_given r) (read-given r (t ∙ x)).0 e
gets-cycle r t (inr x) e = (read-refused r (t ∙ x)).1

pub depth-law : (s : List ℕ) (r : ℕ) → Depth s r → DepthTells s r
unfolding as_number done
depth-law s r m =
    let a = depth s in
    let can = depth-can s in
    let told : answer_in (as_number a) ≡ a = tells number-code (Within 1 16) (OfDepth s) few-room depth-fits a can ∙ valued_same a in
    rw m
    (record {
      answers = told;
      given = λ e. let v = gave number-code (Within 1 16) (OfDepth s) few-room depth-fits a can e in rw v.told v.has;
      unchecked = λ c k e.
          let q = stopped-read c (Calls.check s) (check-law s c k).answers e in
          ap as_number (depth-means.refused s _ q) ∙ sym (k ∙ ap done q);
      refused = λ c k g e.
          let h = done-read c (Calls.check s) (check-law s c k).answers g in
          let A = depth-means.accepted s (check-wf s h).0 h (check-wf s h).1 in
          gets-cycle (as_number a) told A.answered e;
    })

-- what a table is answered: the check's refusal; or, by the tidy table t, its length or 23
data Tidied (s out : List ℕ) : Type 0 where
  unchecked : (q : Refusal) → Numbers.OfCheck s q → Calls.check s ≡ Answer.refused q →
      tidy s out ≡ record { answer = Answer.refused q; after = out } → Tidied s out
  fits : Calls.check s ≡ Answer.given tt → (t : List ℕ) → Tidies s t → length t ≤ length out →
      tidy s out ≡ record { answer = Answer.given (length t); after = t ++ drop (length t) out } → Tidied s out
  short : Calls.check s ≡ Answer.given tt → (t : List ℕ) → Tidies s t → length out < length t →
      tidy s out ≡ record { answer = Answer.refused (Refusal.plain No.room); after = out } → Tidied s out

tidied : (s out : List ℕ) → Tidied s out
tidied s out = go (Calls.check s) refl (check-can s)
  where
    on : Calls.check s ≡ Answer.given tt → (t : List ℕ) → Tidies s t → tidy s out ≡ put No.room out t →
        (b : Bool) → leb (length t) (length out) ≡ b → Tidied s out
    on h t T e true l = let f = leb-true _ _ l in Tidied.fits h t T f (e ∙ put-fits No.room out t f)
    on h t T e false l = let f = leb-false _ _ l in Tidied.short h t T f (e ∙ put-short No.room out t f)

    go : (a : Answer (Unit {0})) → Calls.check s ≡ a → Can Any (Numbers.OfCheck s) a → Tidied s out
    go (Answer.given u) e h = let (t, T, p) = tidy-means.accepted s e in on e t T (p out) (leb (length t) (length out)) refl
    go (Answer.refused q) e h = Tidied.unchecked q h e (tidy-means.refused s out q e)

-- a table that the check accepts is short
accepted-short : (s : List ℕ) → Calls.check s ≡ Answer.given tt → length s ≤ 16384
accepted-short s e = (sized-is s _ (reads s (check-wf s e).0 (check-wf s e).1).sized).most

tidies-short : {s t : List ℕ} → Calls.check s ≡ Answer.given tt → Tidies s t → length t ≤ 16384
tidies-short {s} h T = let x = T.shorter in let y = accepted-short s h in omega arith

pub tidy-law : (s out : List ℕ) (r : ℕ) (out' : List ℕ) → Tidy s out r out' → TidyTells s out r out'
unfolding done number_of
tidy-law s out r out' m = go (tidied s out)
  where
    go : Tidied s out → TidyTells s out r out'
    go (Tidied.unchecked q h k e) =
        let (n, a, not) = was-refused out q r out' m (check-fits q h) e in
        record {
          answers = a ∙ sym (ap (λ (w : Wrote). w.answer) e);
          given = λ g. true-false (is_given r) g not;
          accepted = λ g. true-false (is_given r) g not;
          again = λ g. true-false (is_given r) g not;
          behind = λ g. true-false (is_given r) g not;
          unchecked = λ c i g. n ∙ sym (i ∙ ap done k);
          refused = λ c i g. refused-given (sym k ∙ done-read c (Calls.check s) (check-law s c i).answers g);
          enough = λ c i g. refused-given (sym k ∙ done-read c (Calls.check s) (check-law s c i).answers g);
          unwritten = λ g. m.bytes ∙ ap (λ (w : Wrote). w.after) e;
        }
    go (Tidied.fits h t T l e) =
        let p = was-put out t r out' m (tidies-short h T) e in
        record {
          answers = p.told ∙ sym (ap (λ (w : Wrote). w.answer) e);
          given = λ g. rw p.counted (T.shorter, l);
          accepted = λ g c i. read_done c ((check-law (take (value r) out') c i).answers ∙ ap Calls.check p.front ∙ T.accepted);
          again = λ g d q d' i.
              let j : tidy (take (value r) out') d ≡ tidy s d = ap (λ (x : List ℕ). tidy x d) p.front ∙ T.again d in
              record {
                number = i.number ∙ ap (λ (w : Wrote). as_number w.answer) j;
                bytes = i.bytes ∙ ap (λ (w : Wrote). w.after) j;
              };
          behind = λ g. rw (p.counted, p.is) (drop-append_seam t (drop (length t) out));
          unchecked = λ c i g. refused-given (sym (stopped-read c (Calls.check s) (check-law s c i).answers g) ∙ h);
          refused = λ c i g z. true-false (is_given r) p.yes z;
          enough = λ c i g z. p.yes;
          unwritten = λ z. true-false (is_given r) p.yes z;
        }
    go (Tidied.short h t T l e) =
        let (n, a, not) = was-refused out (Refusal.plain No.room) r out' m (Bare.of_call (lit≤ tt, lit≤ tt)) e in
        record {
          answers = a ∙ sym (ap (λ (w : Wrote). w.answer) e);
          given = λ g. true-false (is_given r) g not;
          accepted = λ g. true-false (is_given r) g not;
          again = λ g. true-false (is_given r) g not;
          behind = λ g. true-false (is_given r) g not;
          unchecked = λ c i g. refused-given (sym (stopped-read c (Calls.check s) (check-law s c i).answers g) ∙ h);
          refused = λ c i g z. (read-refused r a).1;
          enough = λ c i g z. let x = T.shorter in absurd (omega arith);
          unwritten = λ z. m.bytes ∙ ap (λ (w : Wrote). w.after) e;
        }

-- where it is given: the table is accepted, and the first bytes of the output are its tidy table
pub record Archived (s t : List ℕ) : Type 0 where
  pub accepted : Calls.check s ≡ Answer.given tt
  pub tidies : Tidies s t

pub tidy-archived : (s out : List ℕ) (r : ℕ) (out' : List ℕ) → Tidy s out r out' → is_given r ≡ true → Archived s (take (value r) out')
tidy-archived s out r out' m g = go (tidied s out)
  where
    go : Tidied s out → Archived s (take (value r) out')
    go (Tidied.unchecked q h k e) = true-false (is_given r) g (was-refused out q r out' m (check-fits q h) e).2
    go (Tidied.fits h t T l e) =
        let p = was-put out t r out' m (tidies-short h T) e in
        record { accepted = h; tidies = rw p.front T }
    go (Tidied.short h t T l e) =
        true-false (is_given r) g (was-refused out (Refusal.plain No.room) r out' m (Bare.of_call (lit≤ tt, lit≤ tt)) e).2

-- the words of the fresh pool
started-fresh : words_of started ≡ fresh
unfolding fresh
started-fresh = started-words

pub start-law : (s : List ℕ) (ws : List ℤ) (r : ℕ) (ws' : List ℤ) → Start s ws r ws' → StartTells s ws r ws'
start-law s ws r ws' g =
    let a = (Calls.start s ws).answer in
    let R = Numbers.OfStart s in
    let can = start-can s ws in
    let words : ws' ≡ (Calls.start s ws).after = g.words in
    rw g.number
    (record {
      answers = done-in a Any R start_fits can;
      given = λ e. let v = done-gave a Any R start_fits can e in (v.told, words ∙ start-begins s ws v.is ∙ started-fresh);
      refused = λ e.
          let q = done_refused a Any R start_fits can e in
          (rw q.told (start-told q.has), words ∙ start-leaves s ws q.is);
    })

rule-room : (kind rule : ℕ) → RuleOf kind rule → rule < 2 ^ 32
rule-room kind rule (inl h) = omega arith
rule-room kind rule (inr h) = omega arith

pub choose-law : (s : List ℕ) (ws : List ℤ) (kind thread r : ℕ) (ws' : List ℤ) → Choose s ws kind thread r ws' →
    ChooseTells s ws kind thread r ws'
unfolding number_of
choose-law s ws kind thread r ws' g =
    let a = (Calls.choose s ws kind thread).answer in
    let R = Numbers.OfChoice s kind in
    let can = choose-can s ws kind thread in
    let room = rule-room kind in
    let words : ws' ≡ (Calls.choose s ws kind thread).after = g.words in
    let told = tells number-code (RuleOf kind) R room choice-fits a can ∙ valued_same a in
    let names = naming s ws kind thread in
    rw g.number
    (record {
      answers = told;
      given = λ e. let v = gave number-code (RuleOf kind) R room choice-fits a can e in rw v.told v.has;
      refused = λ e.
          let q = refused number-code (RuleOf kind) R room choice-fits a can e in
          (rw q.told (choice-told q.has), words ∙ choose-leaves s ws kind thread q.is);
      overflows = λ e n.
          names.only (sym told ∙ refused-read _ e ∙ ap Answer.refused (plain_in _ No.overflow n (Bare.of_later (lit≤ tt, lit≤ tt))));
      named = λ z o. read-refused _ (told ∙ names.always z o);
    })

-- a list of choices
schedule-fits : {s : List ℕ} {ws ws' : List ℤ} {cs : List Choice} {made : ℕ} (q : Refusal) → Numbers.OfSchedule s ws cs q made ws' → Fits q
schedule-fits _ (Numbers.OfSchedule.lends h) = lent_fits _ h
schedule-fits _ (Numbers.OfSchedule.chosen c w there e) = chosen-fits w

record Stopped (s : List ℕ) (ws : List ℤ) (cs : List Choice) (r made : ℕ) (ws' : List ℤ) : Type 0 where
  choice : OfChoice s r
  before : number r < No.kind → (made ≡ 0) × (ws' ≡ ws)
  stops : No.kind ≤ number r → StopsAt s ws' cs r made

schedule-told : {s : List ℕ} {ws ws' : List ℤ} {cs : List Choice} {made : ℕ} {q : Refusal} → Numbers.OfSchedule s ws cs q made ws' →
    Stopped s ws cs (code_of q) made ws'
unfolding as_number
schedule-told (Numbers.OfSchedule.lends h) =
    let p = lent-told h in
    record { choice = wider p; before = λ _. (refl, refl); stops = λ l. absurd (omega (arith, pool-below p)) }
schedule-told (Numbers.OfSchedule.chosen c w there e) =
    record {
      choice = chosen-told w;
      before = λ b. absurd (omega (arith, chosen-number w, chosen-above w));
      stops = λ _. record { choice = c; there = there; again = λ q w' g. g.number ∙ ap as_number e };
    }

stops_same : {s : List ℕ} {ws ws' : List ℤ} {cs : List Choice} {r made made' : ℕ} → made' ≡ made → ws' ≡ ws → StopsAt s ws cs r made →
    StopsAt s ws' cs r made'
stops_same m w h = rw (m, w) h

pub schedule-law : (s : List ℕ) (ws : List ℤ) (cs : List Choice) (r made : ℕ) (ws' : List ℤ) → Schedule s ws cs r made ws' →
    ScheduleTells s ws cs r made ws'
schedule-law s ws cs r made ws' g =
    let c = Calls.schedule s ws cs in
    let G : Unit {0} → Type 0 = λ u. c.made ≡ length cs in
    let R : Refusal → Type 0 = λ q. Numbers.OfSchedule s ws cs q c.made c.after in
    let can = schedule-can s ws cs in
    let words : ws' ≡ c.after = g.words in
    let stopped : is_given (done c.answer) ≡ false → Stopped s ws cs (done c.answer) c.made c.after =
    λ e. let q = done_refused c.answer G R schedule-fits can e in rw q.told (schedule-told q.has) in
    rw g.number
    (record {
      answers = done-in c.answer G R schedule-fits can;
      given = λ e. let v = done-gave c.answer G R schedule-fits can e in (v.told, g.count ∙ v.has);
      refused = λ e. (stopped e).choice;
      before = λ e l. let b = (stopped e).before l in (g.count ∙ b.0, words ∙ b.1);
      stops = λ e l. stops_same g.count words ((stopped e).stops l);
    })

-- which thread can step
abbrev Eight : Option ℕ → Type 0
Eight o = OnSome (λ i. i < 8) o

eight-room : (o : Option ℕ) → Eight o → thread o < 2 ^ 32
eight-room none h = omega arith
eight-room (some i) h = omega arith

thread-in : (a : Answer (Option ℕ)) (R : Refusal → Type 0) → Can Eight R a → thread_in (valued thread a) ≡ a
unfolding thread_in
thread-in (Answer.given none) R h = refl
thread-in (Answer.given (some i)) R h = let e : eqb i 8 ≡ false = ne_eqb i 8 (λ e. omega arith) in rw e
thread-in (Answer.refused q) R h = refl

eight-most : (o : Option ℕ) → Eight o → thread o ≤ 8
eight-most none h = omega arith
eight-most (some i) h = omega arith

-- a step put in its place, by whether it makes a rule
module _ (s : List ℕ) (ws : List ℤ) (i q : ℕ) (ws' : List ℤ) (c : Choose s ws step i q ws') where
  step-made : Steps s ws i → (is_given q ≡ true) × Within No.stmt No.prom (value q)
  step-made (rule, e) =
      let t = choose-law s ws step i q ws' c in
      let g = (read-given q (t.answers ∙ e)).0 in
      (g, ordinary (t.given g))
    where
      ordinary : RuleOf step (value q) → Within No.stmt No.prom (value q)
      ordinary (inl (z, x)) = x
      ordinary (inr (z, x)) = absurd (omega arith)

  step-stopped : ¬ Steps s ws i → is_given q ≡ false
  step-stopped h = go (is_given q) refl
    where
      go : (b : Bool) → is_given q ≡ b → is_given q ≡ false
      go true e = absurd (h (value q, sym (choose-law s ws step i q ws' c).answers ∙ given-read q e))
      go false e = e

-- what is told of the threads
module _ (s : List ℕ) (ws : List ℤ) where
  told-steps : (o : Option ℕ) → Right s ws (Answer.given o) → thread o ≢ no_thread → Steps s ws (thread o)
  told-steps none h n = absurd (n refl)
  told-steps (some i) h n = h.steps

  told-first : (o : Option ℕ) → Right s ws (Answer.given o) → (j : ℕ) → j < thread o → ¬ Steps s ws j
  told-first none h j l = h.none j
  told-first (some i) h j l = h.first j l

  told-nobody : (o : Option ℕ) → Eight o → Right s ws (Answer.given o) → thread o ≡ no_thread → (j : ℕ) → ¬ Steps s ws j
  told-nobody none e h n j = h.none j
  told-nobody (some i) e h n j = absurd (omega (arith, n))

pub which-law : (s : List ℕ) (ws : List ℤ) (r : ℕ) → Which s ws r → WhichTells s ws r
which-law s ws r e =
    let a = Calls.which s ws in
    let R = Numbers.OfLent s in
    let can = which-can s ws in
    let found : is_given (stepper_of a) ≡ true → Gave thread Eight a (stepper_of a) =
    gave stepper-code Eight R eight-room lent_fits a can in
    let is : (v : Gave thread Eight a (stepper_of a)) → Right s ws (Answer.given v.what) = λ v. subst (Right s ws) v.is (right s ws) in
    rw e
    (record {
      answers = ap thread_in (tells stepper-code Eight R eight-room lent_fits a can) ∙ thread-in a R can;
      given = λ g. let v = found g in rw v.told (eight-most v.what v.has);
      steps = λ g n q ws' c.
          let v = found g in
          step-made s ws (value (stepper_of a)) q ws' c
          (subst (Steps s ws) (sym v.told) (told-steps s ws v.what (is v) (λ z. n (v.told ∙ z))));
      first = λ g i l q ws' c.
          let v = found g in
          step-stopped s ws i q ws' c (told-first s ws v.what (is v) i (omega (arith, l, v.told)));
      nobody = λ g n i q ws' c.
          let v = found g in
          step-stopped s ws i q ws' c (told-nobody s ws v.what v.has (is v) (sym v.told ∙ n) i);
      refused = λ g. let q = refused stepper-code Eight R eight-room lent_fits a can g in rw q.told (lent-told q.has);
      same = λ g kind i q ws' c.
          let x = refused stepper-code Eight R eight-room lent_fits a can g in
          let lends : lent s ws ≡ Answer.refused x.what = subst (Right s ws) x.is (right s ws) in
          choose-first s ws kind i q ws' c x.what lends ∙ sym x.told;
    })

-- main's values
abbrev pub Four : Option (List ℤ) → Type 0
Four o = OnSome (λ v̄. length v̄ ≤ 4) o

pub four-room : (o : Option (List ℤ)) → Four o → count o < 2 ^ 32
four-room none h = omega arith
four-room (some v̄) h = omega arith

over-take : (v̄ vs : List ℤ) → length v̄ ≤ length vs → take (length v̄) (over v̄ vs) ≡ v̄
unfolding over
over-take [] vs h = refl
over-take (v ∷ v̄) [] h = absurd (omega arith)
over-take (v ∷ v̄) (w ∷ vs) h = ap {A = List ℤ} (λ l. v ∷ l) (over-take v̄ vs (omega arith))

over-drop : (v̄ vs : List ℤ) → drop (length v̄) (over v̄ vs) ≡ drop (length v̄) vs
unfolding over
over-drop [] vs = refl
over-drop (v ∷ v̄) [] = refl
over-drop (v ∷ v̄) (w ∷ vs) = over-drop v̄ vs

four-or : (o : Option (List ℤ)) → Four o → (count o ≤ 4) ⊎ (count o ≡ 255)
four-or none h = inr refl
four-or (some v̄) h = inl h

module _ (vs : List ℤ) where
  values-in : (a : Answer (Option (List ℤ))) (R : Refusal → Type 0) → length vs ≡ 4 → Can Four R a →
      values_in (valued count a) (written a vs) ≡ a
  unfolding values_in written
  values-in (Answer.given none) R four h = refl
  values-in (Answer.given (some v̄)) R four h =
      let e : eqb (length v̄) 255 ≡ false = ne_eqb (length v̄) 255 (λ e. omega arith) in
      rw (e, over-take v̄ vs (omega arith))
  values-in (Answer.refused q) R four h = refl

  behind : (o : Option (List ℤ)) → count o ≤ 4 → drop (count o) (written (Answer.given o) vs) ≡ drop (count o) vs
  unfolding written
  behind none h = absurd (omega arith)
  behind (some v̄) h = over-drop v̄ vs

  behind-at : (a : Answer (Option (List ℤ))) (o : Option (List ℤ)) (n : ℕ) → a ≡ Answer.given o → n ≡ count o → n ≤ 4 →
      drop n (written a vs) ≡ drop n vs
  behind-at a o n p q h = rw (p, q) (behind o (rw q at h))

  unwritten : (o : Option (List ℤ)) → Four o → count o ≡ 255 → written (Answer.given o) vs ≡ vs
  unfolding written
  unwritten none h e = refl
  unwritten (some v̄) h e = absurd (omega arith)

  refused-written : (q : Refusal) → written (Answer.refused q) vs ≡ vs
  unfolding written
  refused-written q = refl

pub values-law : (s : List ℕ) (ws vs : List ℤ) (r : ℕ) (vs' : List ℤ) → length vs ≡ 4 → Values s ws vs r vs' → ValuesTells s ws vs r vs'
values-law s ws vs r vs' four g =
    let a = Calls.values s ws in
    let R = Numbers.OfLent s in
    let can = values-can s ws in
    let words : vs' ≡ written a vs = g.words in
    let gave : is_given (counted a) ≡ true → Gave count Four a (counted a) = gave counted-code Four R four-room lent_fits a can in
    rw g.number
    (record {
      answers =
          ap (values_in (answer_in (counted a))) words ∙
          ap (λ (x : Answer ℕ). values_in x (written a vs)) (tells counted-code Four R four-room lent_fits a can) ∙
          values-in vs a R four can;
      given = λ e. let v = gave e in rw v.told (four-or v.what v.has);
      behind = λ e l.
          let v = gave e in
          ap (drop (value (counted a))) words ∙ behind-at vs a v.what (value (counted a)) v.is v.told l;
      unwritten = λ e o.
          let v = gave e in
          words ∙ ap (λ x. written x vs) v.is ∙ unwritten vs v.what v.has (sym v.told ∙ o);
      refused = λ e.
          let q = refused counted-code Four R four-room lent_fits a can e in
          (rw q.told (lent-told q.has), words ∙ ap (λ x. written x vs) q.is ∙ refused-written vs q.what);
    })

-- all of them
pub laws : Laws.Laws
laws =
    record {
      read = read-law;
      check = check-law;
      depth = depth-law;
      tidy = tidy-law;
      complete = complete-law completion-means;
      start = start-law;
      choose = choose-law;
      schedule = schedule-law;
      beat = beat-law;
      run = run-law;
      which = which-law;
      values = values-law;
      listing = listing-law;
    }
