-- A list of calls is its choices, put one after another with nothing but work and tokens changed between two. So what every single
-- choice keeps of the words, and another purse too, lists of calls keep; and what holds of every choice put with such words holds of each
-- choice in them.
use Prim.Native.Nat.{ℕ}
use mathlib.Core.Path.{◌≡◌, refl, sym, ◌∙◌, ap}
use mathlib.Core.Logic.{inl, inr}
use mathlib.Core.List.{List, [], ◌∷◌, ◌++◌}
use lib.IntN.{ℤ}
use Rattle.model.specs.Answers.{Refusal, Answer}
use Rattle.model.specs.Lists.{Each}
use Rattle.model.specs.Pool.{words_of}
use Rattle.model.specs.Rules.{Result, choice}
use Rattle.model.specs.Calls as Calls
use Rattle.model.specs.Calls.{Called, Choice, Lent, lent, made, go_on, run, reported, scheduled}
use Rattle.model.proofs.Facts.{given-injective}
use Rattle.model.proofs.Words.{lent-words, lent-given}
use Rattle.model.proofs.Kept.{choice-kept, choose-lent}
use Rattle.model.proofs.Guarantees.{read-limits}
use Rattle.tokens.specs.Purses.{stacks, Repursed}
use Rattle.tokens.specs.Beats as Beats
use Rattle.tokens.specs.Beats.{Beat, lent_at, Told}
use Rattle.tokens.proofs.Words.{lent-at-given, run_lent, run-refused, onward, run-onward}
use Rattle.safety.specs.NeverJams.{Call, Put, left, finally, while_given, of_schedule, of_beat, of_run, of_call, choices}
use Rattle.safety.specs.InTurn.{Aside, InTurn, Faithful}
use Rattle.safety.proofs.Beats.{BeatAs, beat-as}

module _ (s : List ℕ) where
  -- one list of choices behind another
  repursed-again : {u v w : List ℤ} → Repursed s u v → Repursed s v w → Repursed s u w
  repursed-again a b =
      record {
        before = a.before;
        lends = a.lends;
        after = b.after;
        lends' = b.lends';
        same = a.same ∙ ap (λ (l : Lent). stacks l.pool) (given-injective (sym a.lends' ∙ b.lends)) ∙ b.same;
      }

  pub aside-again : {u v w : List ℤ} → Aside s u v → Aside s v w → Aside s u w
  aside-again (inl e) b = rw e b
  aside-again (inr a) (inl e) = inr (rw e at a)
  aside-again (inr a) (inr b) = inr (repursed-again a b)

  turns-append : (u v w : List ℤ) (ps qs : List Put) → InTurn s u ps v → InTurn s v qs w → InTurn s u (ps ++ qs) w
  turns-append u v w [] [] h k = aside-again h k
  turns-append u v w [] (q ∷ qs) h k = (aside-again h k.0, k.1)
  turns-append u v w (p ∷ ps) qs h k = (h.0, turns-append (Calls.choose s p.words p.kind p.thread).after v w ps qs h.1 k)

-- the words as choices leave them, each put with its own words
unfoldable pub left_by : List ℕ → List ℤ → List Put → List ℤ
left_by s ws [] = ws
left_by s ws (p ∷ ps) = left_by s (Calls.choose s p.words p.kind p.thread).after ps

schedule-lent : (s : List ℕ) (ws : List ℤ) (cs : List Choice) (l : Lent) → lent s ws ≡ Answer.given l →
    (Calls.schedule s ws cs).after ≡ words_of (run l.table l.pool cs).pool
unfolding Calls.schedule scheduled reported
schedule-lent s ws cs l e = rw e

schedule-refused : (s : List ℕ) (ws : List ℤ) (cs : List Choice) (r : Refusal) → lent s ws ≡ Answer.refused r →
    (Calls.schedule s ws cs).after ≡ ws
unfolding Calls.schedule scheduled
schedule-refused s ws cs r e = rw e

-- the first choice of a schedule is answered, and the others come after it if it is made
module _ (s : List ℕ) (ws : List ℤ) (cs : List Choice)
    (f : (w : List ℤ) → (Calls.schedule s w cs).after ≡ left_by s w (of_schedule s w cs)) where
  abbrev behind : Called ℕ → List ℤ
  behind d = left_by s d.after (while_given d.answer (of_schedule s d.after cs))

  turn-lent : (kind i : ℕ) (l : Lent) → lent s ws ≡ Answer.given l → (x : Result) → choice l.table l.pool kind i ≡ x →
      words_of (go_on l.pool x (λ p. run l.table p cs)).pool ≡ behind (made ws x)
  unfolding go_on made while_given left_by
  turn-lent kind i l e (Result.made rule p) h =
      let g = lent-given s ws l e in
      let v = choice-kept l.table (read-limits s l.table g.reads) l.pool p kind i rule g.valid h in
      let m = lent-words s l.table p g.reads v in
      sym (schedule-lent s (words_of p) cs (record { table = l.table; pool = p }) m) ∙ f (words_of p)
  turn-lent kind i l e (Result.refused n) h = (lent-given s ws l e).words

  turn : (c : Choice) (a : Answer Lent) → lent s ws ≡ a →
      (Calls.schedule s ws (c ∷ cs)).after ≡ behind (Calls.choose s ws c.kind c.thread)
  unfolding run Calls.choose Calls.chosen while_given left_by
  turn c (Answer.given l) e =
      let x = choice l.table l.pool c.kind c.thread in
      schedule-lent s ws (c ∷ cs) l e ∙ turn-lent c.kind c.thread l e x refl ∙
      ap behind (sym (choose-lent s ws c.kind c.thread e))
  turn c (Answer.refused r) e =
      schedule-refused s ws (c ∷ cs) r e ∙ ap (λ (a : Answer Lent). behind (Calls.chosen ws a c.kind c.thread)) (sym e)

-- a schedule leaves what its choices leave, put one by one up to the first refused
pub schedule-left : (s : List ℕ) (ws : List ℤ) (cs : List Choice) →
    (Calls.schedule s ws cs).after ≡ left_by s ws (of_schedule s ws cs)
unfolding of_schedule left_by run
schedule-left s ws [] = go (lent s ws) refl
  where
    go : (a : Answer Lent) → lent s ws ≡ a → (Calls.schedule s ws []).after ≡ ws
    go (Answer.given l) e = schedule-lent s ws [] l e ∙ (lent-given s ws l e).words
    go (Answer.refused r) e = schedule-refused s ws [] r e
schedule-left s ws (c ∷ cs) = turn s ws cs (λ ws'. schedule-left s ws' cs) c (lent s ws) refl

-- and each of them is put with what the one before left
while-turns : (s : List ℕ) (ws : List ℤ) (a : Answer ℕ) (ps : List Put) → InTurn s ws ps (left_by s ws ps) →
    InTurn s ws (while_given a ps) (left_by s ws (while_given a ps))
unfolding while_given left_by
while-turns s ws (Answer.given rule) ps h = h
while-turns s ws (Answer.refused r) ps h = inl refl

schedule-turns : (s : List ℕ) (ws : List ℤ) (cs : List Choice) → InTurn s ws (of_schedule s ws cs) (left_by s ws (of_schedule s ws cs))
unfolding of_schedule left_by
schedule-turns s ws [] = inl refl
schedule-turns s ws (c ∷ cs) =
    let d = Calls.choose s ws c.kind c.thread in
    (inl refl, while-turns s d.after d.answer (of_schedule s d.after cs) (schedule-turns s d.after cs))

-- a beat
turns_as : {s : List ℕ} {ws : List ℤ} {i N C : ℕ} {ps : List Put} {d : Called Beat} → BeatAs s ws i N C ps d → InTurn s ws ps d.after
turns_as (BeatAs.unpaced q) = inl refl
turns_as (BeatAs.refused e) = (inl refl, inl (ap (λ (d : Called ℕ). d.after) e))
turns_as (BeatAs.made e h) = (inl refl, rw e h.turns)

-- a run, as its first beat and, if that is made, the run behind it
run-turns : (s : List ℕ) (N C : ℕ) (is : List ℕ) (ws : List ℤ) → InTurn s ws (of_run s ws N C is) (Beats.run s ws N C is).after
unfolding of_run Beats.runs Beats.reported while_given
run-turns s N C [] ws = go (lent_at s ws N C) refl
  where
    go : (a : Answer Lent) → lent_at s ws N C ≡ a → Aside s ws (Beats.run s ws N C []).after
    go (Answer.given l) e =
        let h = lent-at-given s ws N C l e in
        inl (sym (ap (λ (r : Told). r.after) (run_lent s ws N C [] l h.lends h.pace) ∙ (lent-given s ws l h.lends).words))
    go (Answer.refused r) e = inl (sym (ap (λ (r : Told). r.after) (run-refused s ws N C [] r e)))
run-turns s N C (i ∷ is) ws =
    let d = Beats.beat s ws i N C in
    rw (run-onward s ws N C i is)
    (turns-append s ws d.after _ (of_beat s ws i N C) (while_given d.answer (of_run s d.after N C is)) (turns_as (beat-as s ws i N C))
    (go d.answer d.after (run-turns s N C is d.after)))
  where
    go : (a : Answer Beat) (w : List ℤ) → InTurn s w (of_run s w N C is) (Beats.run s w N C is).after →
        InTurn s w (while_given a (of_run s w N C is)) (onward a w (λ w. Beats.run s w N C is)).after
    go (Answer.given b) w h = h
    go (Answer.refused r) w h = inl refl

-- a call, and a list of calls
call-in-turn : (s : List ℕ) (ws : List ℤ) (c : Call) → InTurn s ws (of_call s ws c) (left s ws c)
unfolding of_call
call-in-turn s ws (Call.choose kind i) = (inl refl, inl refl)
call-in-turn s ws (Call.schedule cs) = rw (schedule-left s ws cs) (schedule-turns s ws cs)
call-in-turn s ws (Call.beat i N C) = turns_as (beat-as s ws i N C)
call-in-turn s ws (Call.run N C is) = run-turns s N C is ws
call-in-turn s ws Call.which = inl refl
call-in-turn s ws Call.values = inl refl

pub faithful : Faithful
unfolding choices finally
faithful s ws [] = inl refl
faithful s ws (c ∷ cs) =
    turns-append s ws (left s ws c) _ (of_call s ws c) (choices s (left s ws c) cs) (call-in-turn s ws c) (faithful s (left s ws c) cs)

-- what every single choice keeps of the words, and other purses too, lists of calls keep
module _ (s : List ℕ) (I : List ℤ → Type 0)
    (kept : (ws : List ℤ) → I ws → (kind i : ℕ) → I (Calls.choose s ws kind i).after)
    (aside : (ws ws' : List ℤ) → Repursed s ws ws' → I ws → I ws') where
  carried : {ws ws' : List ℤ} → Aside s ws ws' → I ws → I ws'
  carried (inl e) g = rw e at g
  carried (inr r) g = aside _ _ r g

  turns-kept : (ws : List ℤ) (ps : List Put) (ws' : List ℤ) → InTurn s ws ps ws' → I ws → I ws'
  turns-kept ws [] ws' h g = carried h g
  turns-kept ws (p ∷ ps) ws' h g =
      turns-kept (Calls.choose s p.words p.kind p.thread).after ps ws' h.1 (kept p.words (carried h.0 g) p.kind p.thread)

  pub finally-kept : {ws : List ℤ} (cs : List Call) → I ws → I (finally s ws cs)
  finally-kept {ws} cs g = turns-kept ws (choices s ws cs) (finally s ws cs) (faithful s ws cs) g

  -- what holds of every choice put with such words holds of each choice in them
  module _ (Q : Put → Type 0)
      (q : (ws : List ℤ) → I ws → (kind i : ℕ) → Q (record { words = ws; kind = kind; thread = i })) where
    turns-each : (ws : List ℤ) (ps : List Put) (ws' : List ℤ) → InTurn s ws ps ws' → I ws → Each Q ps
    turns-each ws [] ws' h g = tt
    turns-each ws (p ∷ ps) ws' h g =
        let k = carried h.0 g in
        (q p.words k p.kind p.thread, turns-each (Calls.choose s p.words p.kind p.thread).after ps ws' h.1 (kept p.words k p.kind p.thread))

    pub call-each : {ws : List ℤ} (c : Call) → I ws → Each Q (of_call s ws c)
    call-each {ws} c g = turns-each ws (of_call s ws c) (left s ws c) (call-in-turn s ws c) g

    pub calls-each : {ws : List ℤ} (cs : List Call) → I ws → Each Q (choices s ws cs)
    calls-each {ws} cs g = turns-each ws (choices s ws cs) (finally s ws cs) (faithful s ws cs) g
