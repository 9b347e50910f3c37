-- The laws of beats and runs: which numbers they can give, and what the macros read in them.
use Prim.Native.Nat.{ℕ, ◌+◌, ◌^◌, ◌≤◌, ◌<◌}
use mathlib.Core.Path.{◌≡◌, refl, sym, ◌∙◌, ap}
use mathlib.Core.Logic.{◌⊎◌, inl, inr}
use mathlib.Core.Bool.{Bool, true, false, cond}
use mathlib.Core.Option.{some}
use mathlib.Core.List.{List, [], ◌∷◌}
use native.Mathlib.Numerals.{add-one}
use native.Mathlib.Omega.{arith}
use lib.Dec.{lit≤}
use lib.IntN.{ℤ}
use lib.ListN.{length, get_or, get_elem?}
use Rattle.model.specs.Numbers as No
use Rattle.model.specs.Numbers.{Within, RuleOf, StepRefusal}
use Rattle.model.specs.Answers.{Refusal, Answer, with}
use Rattle.model.specs.Rules.{Result, choice}
use Rattle.model.specs.Calls as Calls
use Rattle.model.specs.Calls.{Called, Lent, lent}
use Rattle.model.proofs.Facts.{true-false, refused-given, given-injective, both-and, lt-ltb, le-leb}
use Rattle.model.proofs.Guarantees.{read-limits}
use Rattle.model.proofs.Words.{lent-given}
use Rattle.model.proofs.Kept.{choose-lent}
use Rattle.model.proofs.Numbers as Numbers
use Rattle.model.proofs.Numbers.{Can, Any, StepOf, ChoiceOf, lent-can, step_of, choice-of}
use Rattle.tokens.specs.Beats as Beats
use Rattle.tokens.specs.Beats.{stepped, beaten, most_n, most_c, is_pace, paced, lent_at, told, beating, Told}
use Rattle.tokens.proofs.Words.{pace-facts, lent-at, unpaced, unlent, lent-at-given, beat-lent, beat-refused, run_lent, run-refused}
use Rattle.tokens.proofs.Words.{beat-made, onward, run-onward}
use Rattle.tokens.proofs.Few.{beat-few, run-few}
use Rattle.safety.proofs.Beats.{as-steps}
use Rattle.answers.specs.Coded.{given, code_of}
use Rattle.host.specs.Macros.{is_given, value, number, rule, promotions, step}
use Rattle.host.specs.Exports.{done, as_number, beat_number}
use Rattle.host.specs.CallContracts.{Choose, Beat, Run}
use Rattle.host.specs.Laws.{refusal_in, beat_in, BeforeBeat, OfBeat, Pace, Unpaced, BeatTells, StopsAtBeat, RunTells}
use Rattle.host.proofs.Codes.{Bare, Fits, ruled, done-code, number-code, beat-code, given_is, given-value, refused-is, small}
use Rattle.host.proofs.Codes.{refusal-in, gave, refused}
use Rattle.host.proofs.Refusals.{lent_fits, lent-told, pool-below, chosen-fits, chosen-number, chosen-above, step-chosen, step-told}
use Rattle.host.proofs.Refusals.{done-in, done-gave, done_refused}

-- what a beat or a run is refused before any step: as every call on a pool, or 27
data OfLentAt (s : List ℕ) : Refusal → Type 0 where
  lends : {q : Refusal} → Numbers.OfLent s q → OfLentAt s q
  pace : OfLentAt s (Refusal.plain No.pace)

lent-at-can : (s : List ℕ) (ws : List ℤ) (N C : ℕ) → Can Any (OfLentAt s) (lent_at s ws N C)
unfolding lent_at paced with
lent-at-can s ws N C = go (lent s ws) (is_pace N C) (lent-can s ws)
  where
    go : (a : Answer Lent) (b : Bool) → Can Any (Numbers.OfLent s) a →
        Can Any (OfLentAt s)
        (with a λ l. with {A = Unit {0}} (cond b (Answer.given tt) (Answer.refused (Refusal.plain No.pace))) λ _. Answer.given l)
    go (Answer.given l) true h = tt
    go (Answer.given l) false h = OfLentAt.pace
    go (Answer.refused q) b h = OfLentAt.lends h

-- a beat: its rule is 1 to 9 and it makes at most seven promotions; or it is refused before its step, or as a step is
record Small (b : Beats.Beat) : Type 0 where
  ordinary : Within No.stmt No.prom b.rule
  few : b.promotions ≤ 7

data Refuses (s : List ℕ) (ws : List ℤ) (N C : ℕ) : Refusal → Type 0 where
  before : {q : Refusal} → OfLentAt s q → lent_at s ws N C ≡ Answer.refused q → Refuses s ws N C q
  as_step : {n : ℕ} → StepRefusal n → Refuses s ws N C (Refusal.plain n)

module _ (s : List ℕ) (ws : List ℤ) (i N C : ℕ) where
  beat-can : Can Small (Refuses s ws N C) (Beats.beat s ws i N C).answer
  unfolding beaten stepped told
  beat-can = go (lent_at s ws N C) refl (lent-at-can s ws N C)
    where
      on : (l : Lent) (x : Result) → StepOf x → Beats.beat s ws i N C ≡ told ws (stepped N C l.table l.pool i x) →
          Can Small (Refuses s ws N C) (told ws (stepped N C l.table l.pool i x)).answer
      on l (Result.made rule p) h e =
          let f = beat-few s ws i N C _ (ap (λ (d : Called Beats.Beat). d.answer) e) in
          record { ordinary = h; few = omega arith }
      on l (Result.refused n) h e = Refuses.as_step h

      go : (a : Answer Lent) → lent_at s ws N C ≡ a → Can Any (OfLentAt s) a → Can Small (Refuses s ws N C) (Beats.beat s ws i N C).answer
      go (Answer.refused q) e h = rw (beat-refused s ws i N C q e) (Refuses.before h e)
      go (Answer.given l) e h =
          let k = lent-at-given s ws N C l e in
          let b = beat-lent s ws i N C l k.lends k.pace in
          let L = read-limits s l.table (lent-given s ws l k.lends).reads in
          rw b (on l (choice l.table l.pool 0 i) (step_of l.table L l.pool i) b)

  pub beat-leaves : {q : Refusal} → (Beats.beat s ws i N C).answer ≡ Answer.refused q → (Beats.beat s ws i N C).after ≡ ws
  unfolding Beats.beat beating told
  beat-leaves {q} e = go (lent_at s ws N C) e
    where
      on : (x : Beats.Beaten) → (told ws x).answer ≡ Answer.refused q → (told ws x).after ≡ ws
      on (Beats.Beaten.made rule x) e = refused-given (sym e)
      on (Beats.Beaten.refused n) e = refl

      go : (a : Answer Lent) → (beating ws a i N C).answer ≡ Answer.refused q → (beating ws a i N C).after ≡ ws
      go (Answer.given l) e = on (beaten N C l.table l.pool i) e
      go (Answer.refused r) e = refl

-- what it is refused fits into a number, and what the macros then read
lent-at-fits : {s : List ℕ} (q : Refusal) → OfLentAt s q → Fits q
lent-at-fits q (OfLentAt.lends h) = lent_fits q h
lent-at-fits _ OfLentAt.pace = Bare.of_later (lit≤ tt, lit≤ tt)

lent-at-told : {s : List ℕ} {q : Refusal} → OfLentAt s q → BeforeBeat s (code_of q)
lent-at-told (OfLentAt.lends h) = inl (lent-told h)
lent-at-told OfLentAt.pace = inr refl

beat-fits : {s : List ℕ} {ws : List ℤ} {N C : ℕ} (q : Refusal) → Refuses s ws N C q → Fits q
beat-fits q (Refuses.before h e) = lent-at-fits q h
beat-fits _ (Refuses.as_step w) = chosen-fits (step-chosen w)

beat-told : {s : List ℕ} {ws : List ℤ} {N C : ℕ} {q : Refusal} → Refuses s ws N C q → OfBeat s (code_of q)
beat-told (Refuses.before h e) = inl (lent-at-told h)
beat-told (Refuses.as_step w) = inr (step-told w)

-- what a beat is given has room
beat-room : (b : Beats.Beat) → Small b → ruled b < 2 ^ 32
beat-room b h = omega (arith, h.ordinary.1, h.few)

record Ruled (r : ℕ) (b : Beats.Beat) : Type 0 where
  rule : rule r ≡ b.rule
  promotions : promotions r ≡ b.promotions

ruled-is : (r : ℕ) (b : Beats.Beat) → Small b → value r ≡ ruled b → Ruled r b
ruled-is r b h e = record { rule = omega (arith, h.ordinary.1, h.few, e); promotions = omega (arith, h.ordinary.1, h.few, e) }

beat-in : (R : Refusal → Type 0) → ((q : Refusal) → R q → Fits q) → (a : Answer Beats.Beat) → Can Small R a → beat_in (beat_number a) ≡ a
unfolding beat_in beat_number
beat-in R fits (Answer.given b) h =
    let l = beat-room b h in
    let k = ruled-is (given (ruled b)) b h (given-value (ruled b) l) in
    rw (given_is (ruled b) l, k.rule, k.promotions)
beat-in R fits (Answer.refused q) h = rw (refused-is (code_of q) (small q (fits q h)), refusal-in q (fits q h))

pub beat-read : (r : ℕ) {b : Beats.Beat} → beat_in r ≡ Answer.given b → (is_given r ≡ true) × (promotions r ≡ b.promotions)
unfolding beat_in
beat-read r {b} e = go (is_given r) refl e
  where
    go : (d : Bool) → is_given r ≡ d →
        cond d (Answer.given (record { rule = rule r; promotions = promotions r })) (Answer.refused (refusal_in r)) ≡ Answer.given b →
        (is_given r ≡ true) × (promotions r ≡ b.promotions)
    go true p e = (p, ap (λ (b : Beats.Beat). b.promotions) (given-injective e))
    go false p e = refused-given e

-- N and C
pace-is : (n c : ℕ) → Pace n c → is_pace n c ≡ true
unfolding is_pace
pace-is n c p =
    both-and _ _
    (both-and _ _ (both-and _ _ (lt-ltb 0 n (omega (arith, p.0.0))) (le-leb n most_n p.0.1)) (lt-ltb 0 c (omega (arith, p.1.0))))
    (le-leb c most_c p.1.1)

pace-or : (n c : ℕ) → Pace n c ⊎ (is_pace n c ≡ false)
pace-or n c = go (is_pace n c) refl
  where
    go : (b : Bool) → is_pace n c ≡ b → Pace n c ⊎ (is_pace n c ≡ false)
    go true e = let p = pace-facts n c e in inl ((p.some, p.few), (p.some_tokens, p.few_tokens))
    go false e = inr e

no-pace : (n c : ℕ) → ¬ Pace n c → is_pace n c ≡ false
no-pace n c h = go (pace-or n c)
  where
    go : Pace n c ⊎ (is_pace n c ≡ false) → is_pace n c ≡ false
    go (inl p) = absurd (h p)
    go (inr e) = e

-- what is lent without a pace: nothing, as to a choice; or the choice is answered, and it is 27
data Unlent (s : List ℕ) (ws : List ℤ) (N C : ℕ) : Type 0 where
  first : (q : Refusal) → Numbers.OfLent s q → lent s ws ≡ Answer.refused q → lent_at s ws N C ≡ Answer.refused q → Unlent s ws N C
  pace : (l : Lent) → lent s ws ≡ Answer.given l → lent_at s ws N C ≡ Answer.refused (Refusal.plain No.pace) → Unlent s ws N C

unlent-at : (s : List ℕ) (ws : List ℤ) (N C : ℕ) → is_pace N C ≡ false → Unlent s ws N C
unlent-at s ws N C e = go (lent s ws) refl (lent-can s ws)
  where
    go : (a : Answer Lent) → lent s ws ≡ a → Can Any (Numbers.OfLent s) a → Unlent s ws N C
    go (Answer.given l) p h = Unlent.pace l p (unpaced s ws N C l p e)
    go (Answer.refused q) p h = Unlent.first q h p (unlent s ws N C q p)

-- a choice that is refused, and one that is put to a pool
module _ (s : List ℕ) (ws : List ℤ) (kind i q : ℕ) (w : List ℤ) (m : Choose s ws kind i q w) where
  pub choose-first : (x : Refusal) → lent s ws ≡ Answer.refused x → q ≡ code_of x
  unfolding Calls.choose Calls.chosen
  choose-first x e = m.number ∙ ap (λ a. as_number (Calls.chosen ws a kind i).answer) e ∙ number-code.refuses x

  choose-then : (l : Lent) → lent s ws ≡ Answer.given l → is_given q ≡ false → No.kind ≤ number q
  unfolding Calls.made
  choose-then l e g =
      let L = read-limits s l.table (lent-given s ws l e).reads in
      go (choice l.table l.pool kind i) (choice-of l.table L l.pool kind i)
      (m.number ∙ ap (λ (d : Called ℕ). as_number d.answer) (choose-lent s ws kind i e))
    where
      small-rule : {rule : ℕ} → RuleOf kind rule → rule < 2 ^ 32
      small-rule (inl h) = omega arith
      small-rule (inr h) = omega arith

      go : (x : Result) → ChoiceOf kind x → q ≡ as_number (Calls.made ws x).answer → No.kind ≤ number q
      go (Result.made rule p) h n =
          true-false (is_given q) (rw (n, number-code.gives rule) (given_is rule (small-rule h))) g
      go (Result.refused k) h n = rw (n, number-code.refuses (Refusal.plain k), chosen-number h) (chosen-above h)

unpaced-law : (s : List ℕ) (ws : List ℤ) (n c r : ℕ) → ¬ Pace n c → ((q : Refusal) → lent_at s ws n c ≡ Answer.refused q → r ≡ code_of q) →
    Unpaced s ws r
unpaced-law s ws n c r p f = go (unlent-at s ws n c (no-pace n c p))
  where
    go : Unlent s ws n c → Unpaced s ws r
    go (Unlent.first x h e z) =
        let is = f x z in
        record {
          refused = rw is no;
          before = rw is (inl (lent-told h));
          first = λ kind i q w m _ _. is ∙ sym (choose-first s ws kind i q w m x e);
          pace = λ kind i q w m k. never (rw (choose-first s ws kind i q w m x e) at k);
        }
      where
        no : is_given (code_of x) ≡ false
        no = refused-is (code_of x) (small x (lent_fits x h))

        never : {A : Type 0} → (is_given (code_of x) ≡ true) ⊎ (No.kind ≤ number (code_of x)) → A
        never (inl y) = true-false (is_given (code_of x)) y no
        never (inr l) = absurd (omega (arith, pool-below (lent-told h)))
    go (Unlent.pace l e z) =
        let is = f (Refusal.plain No.pace) z in
        record {
          refused = rw is refl;
          before = rw is (inr refl);
          first = λ kind i q w m g k. absurd (omega (arith, choose-then s ws kind i q w m l e g));
          pace = λ kind i q w m _. ap number is;
        }

pub beat-law : (s : List ℕ) (ws : List ℤ) (thread n c r : ℕ) (ws' : List ℤ) → Beat s ws thread n c r ws' → BeatTells s ws thread n c r ws'
beat-law s ws thread n c r ws' g =
    let d = Beats.beat s ws thread n c in
    let a = d.answer in
    let R = Refuses s ws n c in
    let can = beat-can s ws thread n c in
    let words : ws' ≡ d.after = g.words in
    rw g.number
    (record {
      answers = beat-in R beat-fits a can;
      given = λ e.
          let v = gave beat-code Small R beat-room beat-fits a can e in
          let k = ruled-is (beat_number a) v.what v.has v.told in
          rw (k.rule, k.promotions) (v.has.ordinary, v.has.few, v.told);
      refused = λ e.
          let q = refused beat-code Small R beat-room beat-fits a can e in
          (rw q.told (beat-told q.has), words ∙ beat-leaves s ws thread n c q.is);
      paced = λ p q w m. as_step_lem m.number p a refl can;
      unpaced = λ p.
          unpaced-law s ws n c (beat_number a) p λ q e.
          ap (λ (d : Called Beats.Beat). beat_number d.answer) (beat-refused s ws thread n c q e) ∙ beat-code.refuses q;
    })
  where
    -- the step in its place
    as_step_lem : {q : ℕ} → q ≡ as_number (Calls.choose s ws step thread).answer → Pace n c →
        (a : Answer Beats.Beat) → (Beats.beat s ws thread n c).answer ≡ a → Can Small (Refuses s ws n c) a →
        (is_given q ≡ is_given (beat_number a)) × (is_given (beat_number a) ≡ true → value q ≡ rule (beat_number a)) ×
        (is_given (beat_number a) ≡ false → q ≡ beat_number a)
    as_step_lem {q} m p (Answer.given b) e h =
        let l = beat-room b h in
        let x : b.rule < 2 ^ 32 = omega (arith, h.ordinary.1) in
        let k : q ≡ given b.rule =
        m ∙ ap as_number ((as-steps s ws thread n c (pace-is n c p)).given b e) ∙ number-code.gives b.rule
        in
        rw (k, beat-code.gives b) (
          given_is b.rule x ∙ sym (given_is (ruled b) l),
          λ _. given-value b.rule x ∙ sym (ruled-is (given (ruled b)) b h (given-value (ruled b) l)).rule,
          λ z. true-false (is_given (given (ruled b))) (given_is (ruled b) l) z,
        )
    as_step_lem {q} m p (Answer.refused x) e h =
        let k : q ≡ beat_number (Answer.refused x) =
        m ∙ ap as_number ((as-steps s ws thread n c (pace-is n c p)).refused x e) ∙ number-code.refuses x ∙ sym (beat-code.refuses x)
        in
        let f : is_given (beat_number (Answer.refused x)) ≡ false =
        rw (beat-code.refuses x) (refused-is (code_of x) (small x (beat-fits x h)))
        in
        (ap is_given k, λ z. true-false (is_given (beat_number (Answer.refused x))) z f, λ _. k)

pub beat-gave : (s : List ℕ) (ws : List ℤ) (thread n c r : ℕ) (ws' : List ℤ) → Beat s ws thread n c r ws' → is_given r ≡ true →
    (b : Beats.Beat) × ((Beats.beat s ws thread n c).answer ≡ Answer.given b)
beat-gave s ws thread n c r ws' g e =
    let can = beat-can s ws thread n c in
    let v = gave beat-code Small (Refuses s ws n c) beat-room beat-fits _ can (rw g.number at e) in
    (v.what, v.is)

-- a run: a step of each of its threads is made; or nothing is lent to it and nothing is made; or the beat behind those made is refused, as
-- it is by the words that they left
data OfRun (s : List ℕ) (ws : List ℤ) (N C : ℕ) (is : List ℕ) : Refusal → ℕ → ℕ → List ℤ → Type 0 where
  before : {q : Refusal} → OfLentAt s q → lent_at s ws N C ≡ Answer.refused q → OfRun s ws N C is q 0 0 ws
  stopped : {n steps made : ℕ} {ws' : List ℤ} → StepRefusal n → (i : ℕ) → get_elem? is steps ≡ some i →
      (Beats.beat s ws' i N C).answer ≡ Answer.refused (Refusal.plain n) → OfRun s ws N C is (Refusal.plain n) steps made ws'

abbrev RunCan : List ℕ → List ℤ → ℕ → ℕ → List ℕ → Told → Type 0
RunCan s ws N C is d = Can (λ _. d.steps ≡ length is) (λ q. OfRun s ws N C is q d.steps d.promotions d.after) d.answer

-- its first beat is refused, and so is the run; or it is made, and the run goes on behind it
first-refused : {s : List ℕ} {ws : List ℤ} {N C i : ℕ} {is : List ℕ} {q : Refusal} → (Beats.beat s ws i N C).answer ≡ Answer.refused q →
    Refuses s ws N C q → OfRun s ws N C (i ∷ is) q 0 0 ws
first-refused e (Refuses.before h x) = OfRun.before h x
first-refused {i = i} e (Refuses.as_step w) = OfRun.stopped w i refl e

rest-refused : {s : List ℕ} {ws w : List ℤ} {N C i : ℕ} {is : List ℕ} {l : Lent} {q : Refusal} {steps made : ℕ} {w' : List ℤ} (k : ℕ) →
    lent_at s w N C ≡ Answer.given l → OfRun s w N C is q steps made w' → OfRun s ws N C (i ∷ is) q (steps + 1) (made + k) w'
rest-refused k g (OfRun.before h x) = refused-given (sym x ∙ g)
rest-refused k g (OfRun.stopped {steps = steps} w j there e) = OfRun.stopped {steps = steps + 1} w j (rw (add-one steps) there) e

run-can : (s : List ℕ) (N C : ℕ) (is : List ℕ) (ws : List ℤ) → RunCan s ws N C is (Beats.run s ws N C is)
unfolding Beats.runs Beats.reported Calls.stopped
run-can s N C [] ws = go (lent_at s ws N C) refl (lent-at-can s ws N C)
  where
    go : (a : Answer Lent) → lent_at s ws N C ≡ a → Can Any (OfLentAt s) a → RunCan s ws N C [] (Beats.run s ws N C [])
    go (Answer.given l) e h = let k = lent-at-given s ws N C l e in rw (run_lent s ws N C [] l k.lends k.pace) refl
    go (Answer.refused q) e h = rw (run-refused s ws N C [] q e) (OfRun.before h e)
run-can s N C (i ∷ is) ws =
    rw (run-onward s ws N C i is) (go d.answer refl (beat-can s ws i N C) (run-can s N C is d.after))
  where
    d : Called Beats.Beat
    d = Beats.beat s ws i N C

    rest : {l : Lent} → lent_at s d.after N C ≡ Answer.given l → (k steps made : ℕ) (w : List ℤ) (a : Answer (Unit {0})) →
        Can (λ _. steps ≡ length is) (λ q. OfRun s d.after N C is q steps made w) a →
        Can (λ _. steps + 1 ≡ length (i ∷ is)) (λ q. OfRun s ws N C (i ∷ is) q (steps + 1) (made + k) w) a
    rest g k steps made w (Answer.given u) h = omega arith
    rest g k steps made w (Answer.refused q) h = rest-refused k g h

    go : (a : Answer Beats.Beat) → d.answer ≡ a → Can Small (Refuses s ws N C) a →
        RunCan s d.after N C is (Beats.run s d.after N C is) →
        RunCan s ws N C (i ∷ is) (onward a d.after (λ w. Beats.run s w N C is))
    go (Answer.given b) e h k =
        let m = beat-made s ws i N C b e in
        let r = Beats.run s d.after N C is in
        rest (lent-at s d.after N C _ m.left m.lent-to.pace) b.promotions r.steps r.promotions r.after r.answer k
    go (Answer.refused q) e h k = rw (beat-leaves s ws i N C e) (first-refused e h)

-- what it is refused, told by a number
run_fits : {s : List ℕ} {ws ws' : List ℤ} {N C : ℕ} {is : List ℕ} {steps made : ℕ} (q : Refusal) → OfRun s ws N C is q steps made ws' →
    Fits q
run_fits q (OfRun.before h e) = lent-at-fits q h
run_fits _ (OfRun.stopped w i there e) = chosen-fits (step-chosen w)

record Stopped (s : List ℕ) (ws : List ℤ) (N C : ℕ) (is : List ℕ) (r steps made : ℕ) (ws' : List ℤ) : Type 0 where
  beat : OfBeat s r
  before : BeforeBeat s r → (steps ≡ 0) × (made ≡ 0) × (ws' ≡ ws)
  stops : StepRefusal (number r) → StopsAtBeat s ws' N C is r steps

before-beat : {A : Type 0} {s : List ℕ} {r : ℕ} → BeforeBeat s r → StepRefusal (number r) → A
before-beat (inl h) w = absurd (omega (arith, pool-below h, chosen-above (step-chosen w)))
before-beat (inr e) (inl w) = absurd (omega arith)
before-beat (inr e) (inr w) = absurd (omega arith)

run-told : {s : List ℕ} {ws ws' : List ℤ} {N C : ℕ} {is : List ℕ} {steps made : ℕ} {q : Refusal} → OfRun s ws N C is q steps made ws' →
    Stopped s ws N C is (code_of q) steps made ws'
run-told (OfRun.before h e) =
    record { beat = inl (lent-at-told h); before = λ _. (refl, refl, refl); stops = λ w. before-beat (lent-at-told h) w }
run-told (OfRun.stopped w i there e) =
    record {
      beat = inr (step-told w);
      before = λ b. before-beat b (step-told w);
      stops = λ _. record { thread = i; there = there; again = λ q w' g. g.number ∙ ap beat_number e ∙ beat-code.refuses _ };
    }

stops_same : {s : List ℕ} {ws ws' : List ℤ} {N C : ℕ} {is : List ℕ} {r steps steps' : ℕ} → steps' ≡ steps → ws' ≡ ws →
    StopsAtBeat s ws N C is r steps → StopsAtBeat s ws' N C is r steps'
stops_same m w h = rw (m, w) h

pub run-law : (s : List ℕ) (ws : List ℤ) (n c : ℕ) (threads : List ℕ) (r steps made : ℕ) (ws' : List ℤ) →
    Run s ws n c threads r (steps ∷ made ∷ []) ws' → RunTells s ws n c threads r steps made ws'
run-law s ws n c threads r steps made ws' g =
    let d = Beats.run s ws n c threads in
    let a = d.answer in
    let G : Unit {0} → Type 0 = λ u. d.steps ≡ length threads in
    let R : Refusal → Type 0 = λ q. OfRun s ws n c threads q d.steps d.promotions d.after in
    let can = run-can s n c threads ws in
    let words : ws' ≡ d.after = g.words in
    let first : steps ≡ d.steps = ap (λ l. get_or l 0 0) g.counts in
    let second : made ≡ d.promotions = ap (λ l. get_or l 1 0) g.counts in
    let stopped : is_given (done a) ≡ false → Stopped s ws n c threads (done a) d.steps d.promotions d.after =
    λ e. let q = done_refused a G R run_fits can e in rw q.told (run-told q.has) in
    rw g.number
    (record {
      answers = done-in a G R run_fits can;
      few = rw (first, second) (run-few s ws n c threads);
      given = λ e. let v = done-gave a G R run_fits can e in (v.told, first ∙ v.has);
      refused = λ e. (stopped e).beat;
      before = λ e h. let b = (stopped e).before h in (first ∙ b.0, second ∙ b.1, words ∙ b.2);
      stops = λ e w. stops_same first words ((stopped e).stops w);
      unpaced = λ p.
          unpaced-law s ws n c (done a) p λ q e.
          ap (λ (d : Told). done d.answer) (run-refused s ws n c threads q e) ∙ done-code.refuses q;
    })

-- where a pool is lent, a refused beat, or run, is refused 27 or stops at a beat
module _ (s : List ℕ) (ws : List ℤ) (n c : ℕ) {l : Lent} (lends : lent s ws ≡ Answer.given l) where
  lent-refused : {q : Refusal} → lent_at s ws n c ≡ Answer.refused q → q ≡ Refusal.plain No.pace
  lent-refused {q} e = go (is_pace n c) refl
    where
      go : (b : Bool) → is_pace n c ≡ b → q ≡ Refusal.plain No.pace
      go true p = refused-given (sym e ∙ lent-at s ws n c l lends p)
      go false p = let x : Answer.refused q ≡ Answer.refused (Refusal.plain No.pace) = sym e ∙ unpaced s ws n c l lends p in cc

  abbrev Stopping : ℕ → Type 0
  Stopping r = (number r ≡ No.pace) ⊎ StepRefusal (number r)

  pub beat-stopping : (thread r : ℕ) (ws' : List ℤ) → Beat s ws thread n c r ws' → is_given r ≡ false → Stopping r
  beat-stopping thread r ws' g e =
      let can = beat-can s ws thread n c in
      let q = refused beat-code Small (Refuses s ws n c) beat-room beat-fits _ can (rw g.number at e) in
      rw (g.number, q.told) (go q.has)
    where
      go : {q : Refusal} → Refuses s ws n c q → Stopping (code_of q)
      go (Refuses.before h x) = inl (ap (λ q. number (code_of q)) (lent-refused x))
      go (Refuses.as_step w) = inr (step-told w)

  pub run-stopping : (threads : List ℕ) (r steps made : ℕ) (ws' : List ℤ) → Run s ws n c threads r (steps ∷ made ∷ []) ws' →
      is_given r ≡ false → Stopping r
  run-stopping threads r steps made ws' g e =
      let d = Beats.run s ws n c threads in
      let q = done_refused d.answer _ _ run_fits (run-can s n c threads ws) (rw g.number at e) in
      rw (g.number, q.told) (go q.has)
    where
      go : {q : Refusal} {steps made : ℕ} {w : List ℤ} → OfRun s ws n c threads q steps made w → Stopping (code_of q)
      go (OfRun.before h x) = inl (ap (λ q. number (code_of q)) (lent-refused x))
      go (OfRun.stopped w i there x) = inr (step-told w)

-- a beat that is refused as a step is: the step, put in its place, is answered the same number
pub beat-step : (s : List ℕ) (ws : List ℤ) (thread n c r : ℕ) (ws' : List ℤ) → Beat s ws thread n c r ws' → is_given r ≡ false →
    StepRefusal (number r) → Choose s ws step thread r (Calls.choose s ws step thread).after
beat-step s ws thread n c r ws' g e w = go (pace-or n c)
  where
    t : BeatTells s ws thread n c r ws'
    t = beat-law s ws thread n c r ws' g

    go : Pace n c ⊎ (is_pace n c ≡ false) → Choose s ws step thread r (Calls.choose s ws step thread).after
    go (inl p) = record { number = sym ((t.paced p _ _ (record { number = refl; words = refl })).2 e); words = refl }
    go (inr p) = before-beat (t.unpaced (λ q. true-false (is_pace n c) (pace-is n c q) p)).before w

-- a run that stops at a beat: the step of its thread, put to the words left
pub run_step : (s : List ℕ) (ws : List ℤ) (n c : ℕ) (threads : List ℕ) (r steps made : ℕ) (ws' : List ℤ) →
    Run s ws n c threads r (steps ∷ made ∷ []) ws' → is_given r ≡ false → StepRefusal (number r) →
    (i : ℕ) × Choose s ws' step i r (Calls.choose s ws' step i).after
run_step s ws n c threads r steps made ws' g e w =
    let S = (run-law s ws n c threads r steps made ws' g).stops e w in
    let d = Beats.beat s ws' S.thread n c in
    let same = S.again _ d.after (record { number = refl; words = refl }) in
    (S.thread, beat-step s ws' S.thread n c r d.after (record { number = sym same; words = refl }) e w)
