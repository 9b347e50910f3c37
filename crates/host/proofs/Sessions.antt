-- Demand 3 of the exported functions, from demand 3 of the model and the laws of the exports.
use Prim.Native.Nat.{ℕ, ◌≤◌, ◌<◌}
use mathlib.Core.Path.{◌≡◌, refl, sym, ◌∙◌, ap, subst}
use mathlib.Core.Logic.{◌≢◌, ◌⊎◌, inl, inr}
use mathlib.Core.Bool.{Bool, true, false}
use mathlib.Core.Option.{Option, none, some}
use mathlib.Core.List.{List, [], ◌∷◌, ◌++◌, append_assoc}
use native.Mathlib.Omega.{arith}
use lib.Dec.{lit≤}
use lib.Arith.{lt_of_le-ne}
use lib.IntN.{ℤ}
use lib.ListN.{length}
use Rattle.model.specs.Numbers as No
use Rattle.model.specs.Numbers.{Within, StepRefusal}
use Rattle.model.specs.Answers.{Refusal, Answer, number_of, with}
use Rattle.model.specs.Lists.{Each}
use Rattle.model.specs.Syntax.{Function, Program}
use Rattle.model.specs.Pool.{Pool, words_of}
use Rattle.model.specs.Rules.{Result, choice, main_values}
use Rattle.model.specs.Calls as Calls
use Rattle.model.specs.Calls.{Called, Choice, Lent, lent}
use Rattle.model.proofs.Facts.{each_left, each_right, some-injective, refused-given}
use Rattle.model.proofs.Guarantees.{read-limits}
use Rattle.model.proofs.Words.{lent-words, lent-given}
use Rattle.model.proofs.Kept.{OnSome, choice-kept, choose-lent}
use Rattle.model.proofs.Numbers as Numbers
use Rattle.model.proofs.Numbers.{read-heading, steps-there, step-there, values-can}
use Rattle.first.specs.Means.{Nobody, Right}
use Rattle.first.proofs.Means.{right}
use Rattle.safety.specs.NeverJams as Model
use Rattle.safety.specs.NeverJams.{left, finally, while_given, of_schedule, of_call, choices}
use Rattle.safety.proofs.Theorem.{demand3, now, always-pool, waiting-moves}
use Rattle.host.specs.Macros.{is_given, value, number, pool_words, step, no_thread}
use Rattle.host.specs.CallContracts.{Choose, Schedule, Beat, Run, Which, Values}
use Rattle.host.specs.Laws.{refusal_in, thread_in, OfChoice}
use Rattle.host.specs.Sessions.{Call, Made, Session, Unstuck, Unjammed, Answered, Returned, CanStep, OutOfFrames, Overflows, Moves}
use Rattle.host.specs.Sessions.{Stands, Safe, Demand3}
use Rattle.host.proofs.Codes.{Bare, counted-code, count, is-given, plain_in}
use Rattle.host.proofs.Macros.{refusal-number, given-read, refused-read, read-given, read-refused, done-read}
use Rattle.host.proofs.Macros.{stopped-read, read_done}
use Rattle.host.proofs.Refusals.{lent_fits}
use Rattle.host.proofs.Beats.{beat-stopping, run-stopping, beat-step, run_step}
use Rattle.host.proofs.Laws.{Four, four-room, check-law, start-law, choose-law, schedule-law, which-law}

-- calls behind calls
finally-append : (s : List ℕ) (ws : List ℤ) (cs ds : List Model.Call) → finally s ws (cs ++ ds) ≡ finally s (finally s ws cs) ds
unfolding finally
finally-append s ws [] ds = refl
finally-append s ws (c ∷ cs) ds = finally-append s (left s ws c) cs ds

choices-append : (s : List ℕ) (ws : List ℤ) (cs ds : List Model.Call) →
    choices s ws (cs ++ ds) ≡ choices s ws cs ++ choices s (finally s ws cs) ds
unfolding choices finally
choices-append s ws [] ds = refl
choices-append s ws (c ∷ cs) ds = rw (choices-append s (left s ws c) cs ds, append_assoc) refl

-- a number that a choice may be refused with, and one that a step may
abbrev Free : ℕ → Type 0
Free n = (No.kind ≤ n) × (n ≢ No.stuck)

abbrev Unjams : ℕ → Type 0
Unjams n = Within No.thread No.frames n ⊎ (n ≡ No.overflow)

-- where each choice of a list is answered well, so is the list
run-answered : (s : List ℕ) (P : Program) (p : Pool) (cs : List Choice) (ws : List ℤ) →
    lent s ws ≡ Answer.given (record { table = P; pool = p }) →
    Each (Model.Answered s) (of_schedule s ws cs) → OnSome Free (Calls.run P p cs).refusal
unfolding Calls.run Calls.go_on Calls.made of_schedule while_given Model.Answered number_of
run-answered s P p [] ws e h = tt
run-answered s P p (c ∷ cs) ws e h =
    go (choice P p c.kind c.thread) refl h.0 h.1 (λ p' ws'. run-answered s P p' cs ws')
  where
    chosen : (x : Result) → choice P p c.kind c.thread ≡ x → Calls.choose s ws c.kind c.thread ≡ Calls.made ws x
    chosen x q = choose-lent s ws c.kind c.thread e ∙ ap (Calls.made ws) q

    go : (x : Result) → choice P p c.kind c.thread ≡ x →
        Model.Answered s (record { words = ws; kind = c.kind; thread = c.thread }) →
        Each (Model.Answered s)
        (while_given (Calls.choose s ws c.kind c.thread).answer (of_schedule s (Calls.choose s ws c.kind c.thread).after cs)) →
        ((p' : Pool) (ws' : List ℤ) → lent s ws' ≡ Answer.given (record { table = P; pool = p' }) →
        Each (Model.Answered s) (of_schedule s ws' cs) → OnSome Free (Calls.run P p' cs).refusal) →
        OnSome Free (Calls.go_on p x (λ p'. Calls.run P p' cs)).refusal
    go (Result.made rule p') q a b k =
        let g = lent-given s ws (record { table = P; pool = p }) e in
        let v = choice-kept P (read-limits s P g.reads) p p' c.kind c.thread rule g.valid q in
        k p' (words_of p') (lent-words s P p' g.reads v)
        (subst (λ (d : Called ℕ). Each (Model.Answered s) (while_given d.answer (of_schedule s d.after cs)))
        (chosen (Result.made rule p') q) b)
    go (Result.refused n) q a b k = a (Refusal.plain n) (ap (λ (d : Called ℕ). d.answer) (chosen (Result.refused n) q))

schedule-answered : (s : List ℕ) (cs : List Choice) (ws : List ℤ) (l : Lent) → lent s ws ≡ Answer.given l →
    Each (Model.Answered s) (of_schedule s ws cs) → {q : Refusal} → (Calls.schedule s ws cs).answer ≡ Answer.refused q → Free (number_of q)
unfolding Calls.schedule Calls.scheduled Calls.reported Calls.stopped number_of
schedule-answered s cs ws l e h {q} a =
    go (Calls.run l.table l.pool cs).refusal (run-answered s l.table l.pool cs ws e h) (rw e at a)
  where
    go : (o : Option ℕ) → OnSome Free o → Calls.stopped o ≡ Answer.refused q → Free (number_of q)
    go none h a = refused-given (sym a)
    go (some n) h a = let i : Refusal.plain n ≡ q = cc in rw (← i) h

-- words that calls leave after the start of an accepted table
module _ (s : List ℕ) (ws : List ℤ) (h : Calls.check s ≡ Answer.given tt) (n : length ws ≡ pool_words) where
  pub record Reached (w : List ℤ) : Type 0 where
    pub calls : List Model.Call
    pub is : now s ws calls ≡ w

  module _ {w : List ℤ} (g : Reached w) where
    pub reached-lent : (l : Lent) × (lent s w ≡ Answer.given l)
    reached-lent = rw (← g.is) (always-pool s ws h n g.calls)

    reached-stands : Model.Stands s w
    reached-stands = rw (← g.is) ((demand3 s ws h n).safe g.calls).stands

    reached-waiting : (i : ℕ) → (Calls.choose s w 0 i).answer ≡ Answer.refused (Refusal.plain No.waits) →
        Model.Moves s w
    reached-waiting i e = go (rw (← g.is) at e)
      where
        go : (Calls.choose s (now s ws g.calls) 0 i).answer ≡ Answer.refused (Refusal.plain No.waits) →
            Model.Moves s w
        go e = rw (← g.is) (waiting-moves s ws h n g.calls i e)

    reached-left : (c : Model.Call) → Reached (left s w c)
    unfolding finally
    reached-left c =
        let e = finally-append s (Calls.start s ws).after g.calls (c ∷ []) in
        record { calls = g.calls ++ (c ∷ []); is = e ∙ ap (λ v. left s v c) g.is }

    reached-answered : (c : Model.Call) → Each (Model.Answered s) (of_call s w c)
    unfolding choices
    reached-answered c =
        let w₀ = (Calls.start s ws).after in
        let all = ((demand3 s ws h n).safe (g.calls ++ (c ∷ []))).answered in
        let last = each_right (Model.Answered s) (choices s w₀ g.calls) _ (rw (choices-append s w₀ g.calls (c ∷ [])) at all) in
        rw (← g.is) (each_left (Model.Answered s) (of_call s (now s ws g.calls) c) [] last)

-- a refusal of a choice, read by the macros
unstuck : {s : List ℕ} (r : ℕ) → OfChoice s r → Free (number r) → Unstuck r
unstuck r (inl t) f e = absurd (omega (arith, t.numbered.1))
unstuck r (inr (inl w)) f e = inl ((f.0, w.1), f.1)
unstuck r (inr (inr o)) f e = inr o

-- the exported functions, on words that are a pool of the table
module _ (s : List ℕ) (w : List ℤ) (lends : (l : Lent) × (lent s w ≡ Answer.given l)) where
  choose-free : (kind thread r : ℕ) (w' : List ℤ) → Model.Answered s (record { words = w; kind = kind; thread = thread }) →
      Choose s w kind thread r w' → is_given r ≡ false → Free (number r)
  unfolding Model.Answered
  choose-free kind thread r w' a m e =
      rw (← refusal-number r) (a (refusal_in r) (sym (choose-law s w kind thread r w' m).answers ∙ refused-read r e))

  choose-unstuck : (kind thread r : ℕ) (w' : List ℤ) → Model.Answered s (record { words = w; kind = kind; thread = thread }) →
      Choose s w kind thread r w' → Unstuck r
  choose-unstuck kind thread r w' a m e =
      unstuck r ((choose-law s w kind thread r w' m).refused e).0 (choose-free kind thread r w' a m e) e

  schedule-unstuck : (cs : List Choice) (r made : ℕ) (w' : List ℤ) → Each (Model.Answered s) (of_schedule s w cs) →
      Schedule s w cs r made w' → Unstuck r
  schedule-unstuck cs r made w' a m e =
      let t = schedule-law s w cs r made w' m in
      let f = schedule-answered s cs w lends.0 lends.1 a (stopped-read r _ t.answers e) in
      unstuck r (t.refused e) (rw (refusal-number r) at f) e

  -- a step is never stuck
  abbrev Unstopped : Type 0
  Unstopped = (i : ℕ) → Model.Answered s (record { words = w; kind = step; thread = i })

  step-unjammed : (thread r : ℕ) (w' : List ℤ) → Unstopped → Choose s w step thread r w' → is_given r ≡ false →
      StepRefusal (number r) → Unjams (number r)
  step-unjammed thread r w' a m e (inl x) =
      let l = lt_of_le-ne x.1 (choose-free step thread r w' (a thread) m e).1 in
      inl (x.0, omega (arith, l))
  step-unjammed thread r w' a m e (inr x) = inr x

  beat-unjammed : (thread n c r : ℕ) (w' : List ℤ) → Unstopped → Beat s w thread n c r w' → Unjammed r
  beat-unjammed thread n c r w' a m e = go (beat-stopping s w n c lends.1 thread r w' m e)
    where
      go : (number r ≡ No.pace) ⊎ StepRefusal (number r) → (number r ≡ No.pace) ⊎ Unjams (number r)
      go (inl x) = inl x
      go (inr x) = inr (step-unjammed thread r _ a (beat-step s w thread n c r w' m e x) e x)

  -- a run stops at a beat of the words that it leaves
  run-unjammed : (n c : ℕ) (threads : List ℕ) (r steps made : ℕ) (w' : List ℤ) →
      ((i v : ℕ) (w'' : List ℤ) → Choose s w' step i v w'' → is_given v ≡ false → StepRefusal (number v) → Unjams (number v)) →
      Run s w n c threads r (steps ∷ made ∷ []) w' → Unjammed r
  run-unjammed n c threads r steps made w' a m e = go (run-stopping s w n c lends.1 threads r steps made w' m e)
    where
      go : (number r ≡ No.pace) ⊎ StepRefusal (number r) → (number r ≡ No.pace) ⊎ Unjams (number r)
      go (inl x) = inl x
      go (inr x) = let (i, k) = run_step s w n c threads r steps made w' m e x in inr (a i r _ k e x)

  which-given : (r : ℕ) → Which s w r → is_given r ≡ true
  unfolding thread_in
  which-given r m = go (is_given r) refl
    where
      go : (b : Bool) → is_given r ≡ b → is_given r ≡ true
      go true e = e
      go false e =
          let is : Calls.which s w ≡ Answer.refused (refusal_in r) = sym (which-law s w r m).answers ∙ ap thread_in (refused-read r e) in
          let refused : lent s w ≡ Answer.refused (refusal_in r) = subst (Right s w) is (right s w) in
          refused-given (sym refused ∙ lends.1)

  values-given : (vs : List ℤ) (r : ℕ) (vs' : List ℤ) {o : Option (List ℤ)} → Calls.values s w ≡ Answer.given o → Values s w vs r vs' →
      (is_given r ≡ true) × (value r ≡ count o)
  values-given vs r vs' {o} e m =
      rw m.number (is-given counted-code Four (Numbers.OfLent s) four-room lent_fits (Calls.values s w) o (values-can s w) e)

  values-answer : (o : Option (List ℤ)) × (Calls.values s w ≡ Answer.given o)
  unfolding Calls.values with
  values-answer = (main_values lends.0.table lends.0.pool, rw lends.1)

  -- how the words stand
  pub returned : Model.Returned s w → Returned s w
  returned d vs r vs' m =
      let (g, v) = values-given vs r vs' d.given m in
      let H = read-heading s d.table d.reads in
      let same : d.main ≡ H.main = some-injective (sym d.first ∙ H.first) in
      let four : length d.result ≤ 4 = rw d.given at (values-can s w) in
      (g, v ∙ d.declared ∙ ap (λ (F : Function). F.signature.returns) same ∙ H.returns, rw v four)

  pub can-step : Model.CanStep s w → CanStep s w
  can-step c =
      record {
        thread = c.thread;
        there = steps-there s w c.thread c.rule c.makes;
        makes = λ r w' m.
            let (g, v) = read-given r ((choose-law s w 0 c.thread r w' m).answers ∙ c.makes) in
            (g, rw v c.ordinary);
      }

  -- a step that is refused, and not for want of its thread
  gets : {n : ℕ} (i : ℕ) → n ≢ No.thread → (Calls.choose s w 0 i).answer ≡ Answer.refused (Refusal.plain n) →
      (i < 8) × ((r : ℕ) (w' : List ℤ) → Choose s w step i r w' → (is_given r ≡ false) × (number r ≡ n))
  unfolding number_of
  gets {n} i d q = (
    step-there s w i lends.0 lends.1 λ e. let z : n ≡ No.thread = cc in d z,
    λ r w' m. read-refused r ((choose-law s w 0 i r w' m).answers ∙ q),
  )

  pub overflows : Model.Overflows s w → Overflows s w
  overflows o = let (t, g) = gets o.thread (omega arith) o.gets in record { thread = o.thread; there = t; gets = g }

  fails : Model.OutOfFrames s w ⊎ Model.Overflows s w → OutOfFrames s w ⊎ Overflows s w
  fails (inl o) = let (t, g) = gets o.thread (omega arith) o.gets in inl (record { thread = o.thread; there = t; gets = g })
  fails (inr o) = inr (overflows o)

  moves : Model.Moves s w → Moves s w
  moves (inl c) = inl (can-step c)
  moves (inr o) = inr (fails o)

  stands : Model.Stands s w → Stands s w
  stands (inl d) = inl (returned d)
  stands (inr m) = inr (moves m)

  -- what mezdaulk_which tells
  pub none-steps : (r : ℕ) → Which s w r → value r ≡ no_thread → ¬ Model.CanStep s w
  unfolding thread_in
  none-steps r m e c =
      let is : Calls.which s w ≡ Answer.given none =
      sym (which-law s w r m).answers ∙ ap thread_in (given-read r (which-given r m) ∙ ap Answer.given e)
      in
      let nobody : Nobody s w = subst (Right s w) is (right s w) in
      nobody.none c.thread (c.rule, c.makes)

  nobody : Model.Stands s w → (r : ℕ) → Which s w r → value r ≡ no_thread →
      Returned s w ⊎ (OutOfFrames s w ⊎ Overflows s w)
  nobody (inl d) r m e = inl (returned d)
  nobody (inr (inl c)) r m e = absurd (none-steps r m e c)
  nobody (inr (inr o)) r m e = inr (fails o)

  -- a step that waits
  pub waits : (thread r : ℕ) (w' : List ℤ) → Choose s w step thread r w' → is_given r ≡ false → number r ≡ No.waits →
      (Calls.choose s w 0 thread).answer ≡ Answer.refused (Refusal.plain No.waits)
  waits thread r w' m e i =
      sym (choose-law s w step thread r w' m).answers ∙ refused-read r e ∙
      ap Answer.refused (plain_in r No.waits i (Bare.of_call (lit≤ tt, lit≤ tt)))

-- sessions of an accepted table
module _ (s : List ℕ) (ws : List ℤ) (h : Calls.check s ≡ Answer.given tt) (n : length ws ≡ pool_words) where
  abbrev pub At : List ℤ → Type 0
  At w = Reached s ws h n w

  -- a call: what it answers, and what it leaves
  pub call-safe : (w : List ℤ) (c : Call) (w' : List ℤ) → At w → Made s w c w' → Answered c × At w'
  unfolding of_call
  call-safe w (Call.choose kind thread r) w' g m = (
    choose-unstuck s w (reached-lent s ws h n g) kind thread r w' (reached-answered s ws h n g (Model.Call.choose kind thread)).0 m,
    rw m.words (reached-left s ws h n g (Model.Call.choose kind thread)),
  )
  call-safe w (Call.schedule cs r made) w' g m = (
    schedule-unstuck s w (reached-lent s ws h n g) cs r made w' (reached-answered s ws h n g (Model.Call.schedule cs)) m,
    rw m.words (reached-left s ws h n g (Model.Call.schedule cs)),
  )
  call-safe w (Call.beat thread i c r) w' g m = (
    beat-unjammed s w (reached-lent s ws h n g) thread i c r w' (λ j. (reached-answered s ws h n g (Model.Call.choose step j)).0) m,
    rw m.words (reached-left s ws h n g (Model.Call.beat thread i c)),
  )
  call-safe w (Call.run i c threads r steps made) w' g m =
      let g' : At w' = rw m.words (reached-left s ws h n g (Model.Call.run i c threads)) in (
        run-unjammed s w (reached-lent s ws h n g) i c threads r steps made w'
            (λ j v w''. step-unjammed s w' (reached-lent s ws h n g') j v w''
            (λ j. (reached-answered s ws h n g' (Model.Call.choose step j)).0)) m,
        g',
      )
  call-safe w (Call.which r) w' g m = (which-given s w (reached-lent s ws h n g) r m.0, rw m.1 g)
  call-safe w (Call.values vs r vs') w' g m =
      let lends = reached-lent s ws h n g in
      ((values-given s w lends vs r vs' (values-answer s w lends).1 m.0).0, rw m.1 g)

  pub session-safe : (cs : List Call) (w w' : List ℤ) → At w → Session s w cs w' → Each Answered cs × At w'
  session-safe [] w w' g m = (tt, rw m g)
  session-safe (c ∷ cs) w w' g m =
      let (a, g₁) = call-safe w c m.0 g m.1 in
      let (as', g₂) = session-safe cs m.0 w' g₁ m.2 in
      ((a, as'), g₂)

  safe : (cs : List Call) (w w' : List ℤ) → At w → Session s w cs w' → Safe s cs w'
  safe cs w w' g m =
      let (a, g') = session-safe cs w w' g m in
      let lends = reached-lent s ws h n g' in
      let t = reached-stands s ws h n g' in
      record {
        answered = a;
        stands = stands s w' lends t;
        nobody = nobody s w' lends t;
        waiting = λ i r v m e k. moves s w' lends (reached-waiting s ws h n g' i (waits s w' lends i r v m e k));
      }

  pub begun : At (Calls.start s ws).after
  unfolding finally
  begun = record { calls = []; is = refl }

-- no accepted table ever jams, by what the exported functions answer and leave
pub exports-never-jam : Demand3
exports-never-jam s c k e ws n r ws' m =
    let h = done-read c (Calls.check s) (check-law s c k).answers e in
    record {
      starts = read_done r ((start-law s ws r ws' m).answers ∙ (demand3 s ws h n).starts);
      safe = λ cs w' x. safe s ws h n cs ws' w' (rw m.words (begun s ws h n)) x;
    }
