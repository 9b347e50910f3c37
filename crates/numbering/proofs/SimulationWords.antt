-- Words that hold a pool of one table, and words that hold the same pool of the other under its new numbers: the start leaves such words,
-- every call keeps them so, and every call answers the same for both.
use Prim.Native.Nat.{ℕ}
use mathlib.Core.Path.{◌≡◌, refl, sym, ◌∙◌, ap, ap₂}
use mathlib.Core.Bool.{Bool, true, false, cond}
use mathlib.Core.List.{List, [], ◌∷◌, ◌++◌, map, map-append}
use lib.IntN.{ℤ}
use lib.ListN.{length, replicate, length-map}
use Rattle.model.specs.Numbers as No
use Rattle.model.specs.Lists.{Each}
use Rattle.model.specs.Answers.{Answer, with}
use Rattle.model.specs.Syntax.{Program}
use Rattle.model.specs.Pool.{Pool, pool_words, words_of, begin, is_pool, started}
use Rattle.model.specs.Rules.{Result, choice}
use Rattle.model.specs.Calls as Calls
use Rattle.model.specs.Calls.{Called, Choice, lent, read, made, run, reported, scheduled}
use Rattle.model.proofs.Facts.{true-false}
use Rattle.model.proofs.Guarantees.{read-limits}
use Rattle.model.proofs.Words.{lent-given, lent-words, started-pool}
use Rattle.model.proofs.Kept.{choice-kept, choose-lent}
use Rattle.model.proofs.Schedules.{run-kept}
use Rattle.tokens.specs.Beats as Beats
use Rattle.tokens.specs.Beats.{Beat, Beaten, beaten, runs, is_pace, told}
use Rattle.tokens.proofs.Kept.{beaten-valid, runs-valid}
use Rattle.tokens.proofs.Words.{pace-facts, unpaced, beat-lent, beat-refused, run_lent, run-refused}
use Rattle.safety.specs.NeverJams.{Call, Put, left, finally, while_given, of_schedule, of_beat, of_run, of_call, choices}
use Rattle.safety.proofs.Beats.{Promotes, promotions_of, BeatAs, beat-as}
use Rattle.safety.proofs.Theorem.{starts}
use Rattle.numbering.specs.Renumbers.{Numbering, Renumbers, renamed_frame, renamed_thread, renamed_pool}
use Rattle.numbering.specs.Means.{Alike, answers, Same}
use Rattle.numbering.proofs.SimulationStates.{KeptPool, Follows}
use Rattle.numbering.proofs.SimulationChoices.{renamed_result, KeptResult, renamed_ran, KeptRan, Chooses, choice-follows}
use Rattle.numbering.proofs.SimulationChoices.{first-follows, values-follow, run-follows}
use Rattle.numbering.proofs.SimulationBeats.{renamed_spent, renamed_beaten, KeptBeaten, renamed_beats, KeptBeats}
use Rattle.numbering.proofs.SimulationBeats.{beaten-follows, runs-follow}

-- the pool at the start stays as it is, and has kept things alone
started-renamed : (R : Numbering) (P Q : Program) → Renumbers R P Q → renamed_pool R started ≡ started
unfolding started begin renamed_thread renamed_frame
started-renamed R P Q n = rw (n.main, (n.copies 0 n.main_kept).entry)

started-kept : (R : Numbering) (P Q : Program) → Renumbers R P Q → KeptPool R started
unfolding started begin
started-kept R P Q n =
    ((record { function = n.main_kept; block = (n.copies 0 n.main_kept).entry_kept; calls = tt }, tt), tt)

-- a beat's choices are answered as the beat tells: its rule and as many promotions as it made, or its refusal
unfoldable choices_told : Answer Beat → List (Answer ℕ)
choices_told (Answer.given b) = Answer.given b.rule ∷ replicate b.promotions (Answer.given No.promote)
choices_told (Answer.refused r) = Answer.refused r ∷ []

promotions-told : (s : List ℕ) (i : ℕ) (ps : List Pool) → Each (Promotes s i) ps →
    answers s (promotions_of i (map words_of ps)) ≡ replicate (length ps) (Answer.given No.promote)
promotions-told s i [] h = refl
promotions-told s i (p ∷ ps) h = ap₂ {C = List (Answer ℕ)} ◌∷◌ h.0 (promotions-told s i ps h.1)

unpaced-puts : (s : List ℕ) (ws : List ℤ) (i N C : ℕ) → is_pace N C ≡ false → of_beat s ws i N C ≡ []
unfolding of_beat
unpaced-puts s ws i N C q = rw q

answers-told : (s : List ℕ) (ws : List ℤ) (i N C : ℕ) →
    answers s (of_beat s ws i N C) ≡ cond (is_pace N C) (choices_told (Beats.beat s ws i N C).answer) []
unfolding choices_told
answers-told s ws i N C = go (is_pace N C) refl
  where
    paced : (ps : List Put) (d : Called Beat) → is_pace N C ≡ true → BeatAs s ws i N C ps d → answers s ps ≡ choices_told d.answer
    paced ps d q (BeatAs.unpaced e) = true-false (is_pace N C) q e
    paced ps d q (BeatAs.refused e) = rw e
    paced ps d q (BeatAs.made {ps = qs} e h) = rw (e, promotions-told s i qs h.made)

    go : (b : Bool) → is_pace N C ≡ b →
        answers s (of_beat s ws i N C) ≡ cond b (choices_told (Beats.beat s ws i N C).answer) []
    go true q = paced _ _ q (beat-as s ws i N C)
    go false q = rw (unpaced-puts s ws i N C q)

-- words that hold a pool of s, with kept things alone, and words that hold it of t under the new numbers
pub record Hold (s t : List ℕ) (P Q : Program) (R : Numbering) (ws ws' : List ℤ) : Type 0 where
  pub pool : Pool
  pub kept : KeptPool R pool
  pub first : lent s ws ≡ Answer.given (record { table = P; pool = pool })
  pub second : lent t ws' ≡ Answer.given (record { table = Q; pool = renamed_pool R pool })

-- two tables of one program
module _ (s t : List ℕ) (P Q : Program) (R : Numbering) (r : read s ≡ Answer.given P) (r' : read t ≡ Answer.given Q)
    (n : Renumbers R P Q) where
  abbrev Held : List ℤ → List ℤ → Type 0
  Held ws ws' = Hold s t P Q R ws ws'

  -- the words of valid pools
  hold-words : (p : Pool) → KeptPool R p → is_pool P p ≡ true → is_pool Q (renamed_pool R p) ≡ true →
      Held (words_of p) (words_of (renamed_pool R p))
  hold-words p h v v' =
      record { pool = p; kept = h; first = lent-words s P p r v; second = lent-words t Q (renamed_pool R p) r' v' }

  hold-start : (ws ws' : List ℤ) → length ws ≡ pool_words → length ws' ≡ pool_words →
      Held (Calls.start s ws).after (Calls.start t ws').after
  hold-start ws ws' l l' =
      rw (starts s ws r l, starts t ws' r' l')
      (record {
        pool = started;
        kept = started-kept R P Q n;
        first = lent-words s P started r (started-pool P (read-limits s P r));
        second = rw (started-renamed R P Q n) (lent-words t Q started r' (started-pool Q (read-limits t Q r')));
      })

  module _ {ws ws' : List ℤ} (g : Held ws ws') where
    valid : is_pool P g.pool ≡ true
    valid = (lent-given s ws _ g.first).valid

    valid' : is_pool Q (renamed_pool R g.pool) ≡ true
    valid' = (lent-given t ws' _ g.second).valid

    -- a choice
    made-same : (x : Result) → (made ws x).answer ≡ (made ws' (renamed_result R x)).answer
    unfolding made renamed_result
    made-same (Result.made rule p) = refl
    made-same (Result.refused m) = refl

    hold-answer : (kind i : ℕ) → (Calls.choose s ws kind i).answer ≡ (Calls.choose t ws' kind i).answer
    hold-answer kind i =
        rw (
          choose-lent s ws kind i g.first,
          choose-lent t ws' kind i g.second,
          (choice-follows n.copies g.pool kind i g.kept).same,
        )
        (made-same (choice P g.pool kind i))

    hold-after : (kind i : ℕ) → Held (Calls.choose s ws kind i).after (Calls.choose t ws' kind i).after
    unfolding made renamed_result
    hold-after kind i =
        rw (choose-lent s ws kind i g.first, choose-lent t ws' kind i g.second, f.same)
        (go (choice P g.pool kind i) refl f.kept)
      where
        f : Chooses R (choice P g.pool kind i) (choice Q (renamed_pool R g.pool) kind i)
        f = choice-follows n.copies g.pool kind i g.kept

        go : (x : Result) → choice P g.pool kind i ≡ x → KeptResult R x → Held (made ws x).after (made ws' (renamed_result R x)).after
        go (Result.made rule p) e h =
            hold-words p h (choice-kept P (read-limits s P r) g.pool p kind i rule valid e)
            (choice-kept Q (read-limits t Q r') (renamed_pool R g.pool) (renamed_pool R p) kind i rule valid'
            (f.same ∙ ap (renamed_result R) e))
        go (Result.refused m) e h = g

    -- which thread can step
    hold-which : Calls.which s ws ≡ Calls.which t ws'
    unfolding Calls.which with
    hold-which = rw (g.first, g.second, first-follows n.copies g.pool g.kept)

    -- a schedule
    hold-ran : (cs : List Choice) → Follows (renamed_ran R) (KeptRan R) (run P g.pool cs) (run Q (renamed_pool R g.pool) cs)
    hold-ran cs = run-follows n.copies g.pool cs g.kept

    hold-run : (cs : List Choice) → Held (Calls.schedule s ws cs).after (Calls.schedule t ws' cs).after
    unfolding Calls.schedule scheduled reported renamed_ran
    hold-run cs =
        let f = hold-ran cs in
        let v' = run-kept Q (read-limits t Q r') (renamed_pool R g.pool) cs valid' in
        rw (g.first, g.second, f.same)
        (hold-words (run P g.pool cs).pool f.kept (run-kept P (read-limits s P r) g.pool cs valid) (rw f.same at v'))

    -- a beat
    told_same : (x : Beaten) → (told ws x).answer ≡ (told ws' (renamed_beaten R x)).answer
    unfolding told renamed_beaten renamed_spent
    told_same (Beaten.made rule x) = rw (length-map x.from (renamed_pool R))
    told_same (Beaten.refused m) = refl

    hold-beaten : (i N C : ℕ) →
        Follows (renamed_beaten R) (KeptBeaten R) (beaten N C P g.pool i) (beaten N C Q (renamed_pool R g.pool) i)
    hold-beaten i N C = beaten-follows n.copies N C g.pool i g.kept

    beat-answer : (i N C : ℕ) → (Beats.beat s ws i N C).answer ≡ (Beats.beat t ws' i N C).answer
    beat-answer i N C = go (is_pace N C) refl
      where
        go : (b : Bool) → is_pace N C ≡ b → (Beats.beat s ws i N C).answer ≡ (Beats.beat t ws' i N C).answer
        go true q =
            rw (beat-lent s ws i N C _ g.first q, beat-lent t ws' i N C _ g.second q, (hold-beaten i N C).same)
            (told_same (beaten N C P g.pool i))
        go false q =
            rw (
              beat-refused s ws i N C _ (unpaced s ws N C _ g.first q),
              beat-refused t ws' i N C _ (unpaced t ws' N C _ g.second q),
            )

    hold-beat : (i N C : ℕ) → Held (Beats.beat s ws i N C).after (Beats.beat t ws' i N C).after
    unfolding told renamed_beaten renamed_spent
    hold-beat i N C = go (is_pace N C) refl
      where
        f : Follows (renamed_beaten R) (KeptBeaten R) (beaten N C P g.pool i) (beaten N C Q (renamed_pool R g.pool) i)
        f = hold-beaten i N C

        made : is_pace N C ≡ true → (x : Beaten) → beaten N C P g.pool i ≡ x → KeptBeaten R x →
            Held (told ws x).after (told ws' (renamed_beaten R x)).after
        made q (Beaten.made rule x) e h =
            let few = (pace-facts N C q).few in
            hold-words x.pool h (beaten-valid P (read-limits s P r) N C g.pool i rule x few valid e)
            (beaten-valid Q (read-limits t Q r') N C (renamed_pool R g.pool) i rule (renamed_spent R x) few valid'
            (f.same ∙ ap (renamed_beaten R) e))
        made q (Beaten.refused m) e h = g

        go : (b : Bool) → is_pace N C ≡ b → Held (Beats.beat s ws i N C).after (Beats.beat t ws' i N C).after
        go true q =
            rw (beat-lent s ws i N C _ g.first q, beat-lent t ws' i N C _ g.second q, f.same)
            (made q (beaten N C P g.pool i) refl f.kept)
        go false q =
            rw (
              beat-refused s ws i N C _ (unpaced s ws N C _ g.first q),
              beat-refused t ws' i N C _ (unpaced t ws' N C _ g.second q),
            )
            g

    -- a run of beats: what it tells is the same, and it leaves such words
    record Runs (N C : ℕ) (is : List ℕ) : Type 0 where
      answer : (Beats.run s ws N C is).answer ≡ (Beats.run t ws' N C is).answer
      steps : (Beats.run s ws N C is).steps ≡ (Beats.run t ws' N C is).steps
      promotions : (Beats.run s ws N C is).promotions ≡ (Beats.run t ws' N C is).promotions
      after : Held (Beats.run s ws N C is).after (Beats.run t ws' N C is).after

    hold-runs : (N C : ℕ) (is : List ℕ) → Runs N C is
    unfolding Beats.reported renamed_beats
    hold-runs N C is = go (is_pace N C) refl
      where
        f : Follows (renamed_beats R) (KeptBeats R) (runs N C P g.pool is) (runs N C Q (renamed_pool R g.pool) is)
        f = runs-follow n.copies N C g.pool is g.kept

        go : (b : Bool) → is_pace N C ≡ b → Runs N C is
        go true q =
            let few = (pace-facts N C q).few in
            let e = run_lent s ws N C is _ g.first q in
            let e' = run_lent t ws' N C is _ g.second q in
            let v' = runs-valid Q (read-limits t Q r') N C (renamed_pool R g.pool) is few valid' in
            record {
              answer = rw (e, e', f.same);
              steps = rw (e, e', f.same);
              promotions = rw (e, e', f.same);
              after = rw (e, e', f.same)
                  (hold-words (runs N C P g.pool is).pool f.kept (runs-valid P (read-limits s P r) N C g.pool is few valid)
                  (rw f.same at v'));
            }
        go false q =
            let e = run-refused s ws N C is _ (unpaced s ws N C _ g.first q) in
            let e' = run-refused t ws' N C is _ (unpaced t ws' N C _ g.second q) in
            record { answer = rw (e, e'); steps = rw (e, e'); promotions = rw (e, e'); after = rw (e, e') g }

    hold-left : (c : Call) → Held (left s ws c) (left t ws' c)
    hold-left (Call.choose kind i) = hold-after kind i
    hold-left (Call.schedule cs) = hold-run cs
    hold-left (Call.beat i N C) = hold-beat i N C
    hold-left (Call.run N C is) = (hold-runs N C is).after
    hold-left Call.which = g
    hold-left Call.values = g

    -- whatever is put next
    hold-alike : Alike s t ws ws'
    unfolding Calls.schedule scheduled reported renamed_ran Calls.values with
    hold-alike =
        record {
          choose = hold-answer;
          schedule = λ cs. rw (g.first, g.second, (hold-ran cs).same);
          made = λ cs. rw (g.first, g.second, (hold-ran cs).same);
          beat = beat-answer;
          run = λ N C is. (hold-runs N C is).answer;
          steps = λ N C is. (hold-runs N C is).steps;
          promotions = λ N C is. (hold-runs N C is).promotions;
          values = rw (g.first, g.second, values-follow n.copies g.pool g.kept);
          which = hold-which;
        }

  hold-finally : {ws ws' : List ℤ} (cs : List Call) → Held ws ws' → Held (finally s ws cs) (finally t ws' cs)
  unfolding finally
  hold-finally [] g = g
  hold-finally {ws = ws} (c ∷ cs) g = hold-finally {ws = left s ws c} cs (hold-left g c)

  -- the answers of the choices in a list of calls
  while-answers : {A : Type 0} (a : Answer A) (ps qs : List Put) → answers s ps ≡ answers t qs →
      answers s (while_given a ps) ≡ answers t (while_given a qs)
  unfolding while_given
  while-answers (Answer.given a) ps qs e = e
  while-answers (Answer.refused q) ps qs e = refl

  schedule-answers : {ws ws' : List ℤ} (cs : List Choice) → Held ws ws' → answers s (of_schedule s ws cs) ≡ answers t (of_schedule t ws' cs)
  unfolding of_schedule
  schedule-answers [] g = refl
  schedule-answers {ws} {ws'} (c ∷ cs) g =
      let e = hold-answer g c.kind c.thread in
      let h = hold-after g c.kind c.thread in
      rw e (ap {B = List (Answer ℕ)} (λ as'. (Calls.choose t ws' c.kind c.thread).answer ∷ as')
      (while-answers (Calls.choose t ws' c.kind c.thread).answer _ _
      (schedule-answers {ws = (Calls.choose s ws c.kind c.thread).after} cs h)))

  beat-answers : {ws ws' : List ℤ} (i N C : ℕ) → Held ws ws' → answers s (of_beat s ws i N C) ≡ answers t (of_beat t ws' i N C)
  beat-answers {ws} {ws'} i N C g = rw (answers-told s ws i N C, answers-told t ws' i N C, beat-answer g i N C)

  run-answers : {ws ws' : List ℤ} (N C : ℕ) (is : List ℕ) → Held ws ws' → answers s (of_run s ws N C is) ≡ answers t (of_run t ws' N C is)
  unfolding of_run
  run-answers N C [] g = refl
  run-answers {ws} {ws'} N C (i ∷ is) g =
      map-append _ (of_beat s ws i N C) _ ∙
      ap₂ {C = List (Answer ℕ)} ◌++◌ (beat-answers i N C g)
      (rw (beat-answer g i N C) (while-answers (Beats.beat t ws' i N C).answer _ _
      (run-answers {ws = (Beats.beat s ws i N C).after} N C is (hold-beat g i N C)))) ∙
      sym (map-append _ (of_beat t ws' i N C) _)

  call-answers : {ws ws' : List ℤ} (c : Call) → Held ws ws' → answers s (of_call s ws c) ≡ answers t (of_call t ws' c)
  unfolding of_call
  call-answers (Call.choose kind i) g = rw (hold-answer g kind i)
  call-answers (Call.schedule cs) g = schedule-answers cs g
  call-answers (Call.beat i N C) g = beat-answers i N C g
  call-answers (Call.run N C is) g = run-answers N C is g
  call-answers Call.which g = refl
  call-answers Call.values g = refl

  calls-answers : {ws ws' : List ℤ} (cs : List Call) → Held ws ws' → answers s (choices s ws cs) ≡ answers t (choices t ws' cs)
  unfolding choices
  calls-answers [] g = refl
  calls-answers {ws} {ws'} (c ∷ cs) g =
      map-append _ (of_call s ws c) (choices s (left s ws c) cs) ∙
      ap₂ {C = List (Answer ℕ)} ◌++◌ (call-answers c g) (calls-answers {ws = left s ws c} cs (hold-left g c)) ∙
      sym (map-append _ (of_call t ws' c) (choices t (left t ws' c) cs))

-- after every list of calls from fresh pools, the two words hold one pool, under the one numbering and the other
pub always-hold : (s t : List ℕ) (P Q : Program) (R : Numbering) → read s ≡ Answer.given P → read t ≡ Answer.given Q → Renumbers R P Q →
    (ws ws' : List ℤ) → length ws ≡ pool_words → length ws' ≡ pool_words → (cs : List Call) →
    Hold s t P Q R (finally s (Calls.start s ws).after cs) (finally t (Calls.start t ws').after cs)
always-hold s t P Q R r r' n ws ws' l l' cs = hold-finally s t P Q R r r' n cs (hold-start s t P Q R r r' n ws ws' l l')

-- no list of calls tells two tables of one program apart
pub same : (s t : List ℕ) (P Q : Program) (R : Numbering) → read s ≡ Answer.given P → read t ≡ Answer.given Q → Renumbers R P Q →
    Same R s t
same s t P Q R r r' n =
    record {
      rules = λ ws ws' l l' cs. calls-answers s t P Q R r r' n cs (hold-start s t P Q R r r' n ws ws' l l');
      next = λ ws ws' l l' cs. hold-alike s t P Q R r r' n (always-hold s t P Q R r r' n ws ws' l l' cs);
      pools = λ ws ws' l l' cs.
          let g = always-hold s t P Q R r r' n ws ws' l l' cs in
          record { old = _; new = _; first = g.first; second = g.second; pools = refl };
    }
