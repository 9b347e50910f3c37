-- Schedules, beats, runs and sessions of the exported functions as choices put one by one.
use Prim.Native.Nat.{ℕ, ◌+◌}
use mathlib.Core.Path.{◌≡◌, refl, sym, ◌∙◌, ap}
use mathlib.Core.Logic.{inl}
use mathlib.Core.Bool.{Bool, true, false, cond}
use mathlib.Core.List.{List, [], ◌∷◌, ◌++◌, map, map-map, map-append}
use native.Mathlib.Numerals.{add-one}
use lib.IntN.{ℤ}
use lib.ListN.{length, take, replicate}
use Rattle.model.specs.Numbers as No
use Rattle.model.specs.Answers.{Refusal, Answer}
use Rattle.model.specs.Lists.{Each}
use Rattle.model.specs.Syntax.{Program}
use Rattle.model.specs.Pool.{Pool, words_of}
use Rattle.model.specs.Rules.{Result, choice}
use Rattle.model.specs.Calls as Calls
use Rattle.model.specs.Calls.{Called, Choice, Lent, lent, made, go_on, run}
use Rattle.model.proofs.Words.{lent-words, lent-given}
use Rattle.model.proofs.Guarantees.{read-limits}
use Rattle.model.proofs.Kept.{choice-kept, choose-lent}
use Rattle.tokens.specs.Beats.{Beat}
use Rattle.safety.specs.NeverJams as Model
use Rattle.safety.specs.InTurn.{Aside, InTurn}
use Rattle.safety.proofs.Schedules.{aside-again}
use Rattle.safety.proofs.Beats.{promotions_of, Promotes, BeatAs, beat-as}
use Rattle.host.specs.Macros.{is_given, rule, promotions, step, promote}
use Rattle.host.specs.Exports.{as_number}
use Rattle.host.specs.CallContracts as Contracts
use Rattle.host.specs.Laws.{refusal_in, beat_in}
use Rattle.host.specs.Sessions.{Call, Made}
use Rattle.host.specs.Children.{Put, LogBy, Log, Exactly, Singly, OneByOne, Turn, turn_of, of_beat, of_beats, CountsAs, Plain}
use Rattle.host.specs.Children.{EverySession}
use Rattle.host.specs.Tokens.{BeatLog}
use Rattle.host.proofs.Macros.{given-read, read-given}
use Rattle.host.proofs.Beats.{beat-law}
use Rattle.host.proofs.Laws.{choose-law}
use Rattle.host.proofs.Tokens.{exports-beat-by-beat}

module _ (s : List ℕ) where
  -- no choice was made
  nothing : (ws ws' : List ℤ) (cs : List Choice) → ws' ≡ ws → Singly s ws cs 0 ws'
  nothing ws ws' cs e = record { puts = []; log = sym e; are = refl; given = tt }

  -- a choice that was made, and those after it
  more : (ws : List ℤ) (c : Choice) (cs : List Choice) (rule n : ℕ) (v w : List ℤ) →
      Calls.choose s ws c.kind c.thread ≡ record { answer = Answer.given rule; after = v } →
      Singly s v cs n w → Singly s ws (c ∷ cs) (n + 1) w
  more ws c cs rule n v w e h =
      let d = Calls.choose s ws c.kind c.thread in
      let r : ℕ = as_number d.answer in
      let law = choose-law s ws c.kind c.thread r d.after (record { number = refl; words = refl }) in
      let a = ap (λ (d : Called ℕ). d.answer) e in
      record {
        puts = record { words = ws; kind = c.kind; thread = c.thread; number = r } ∷ h.puts;
        log = (refl, (v, record { number = refl; words = ap (λ (d : Called ℕ). d.after) (sym e) }, h.log));
        are = rw (add-one n) (ap {B = List Choice} (λ l. c ∷ l) h.are);
        given = ((read-given r (law.answers ∙ a)).0, h.given);
      }

  singly : (P : Program) (p : Pool) (cs : List Choice) (ws : List ℤ) → lent s ws ≡ Answer.given (record { table = P; pool = p }) →
      Singly s ws cs (run P p cs).made (words_of (run P p cs).pool)
  unfolding run go_on made
  singly P p [] ws e = nothing ws (words_of p) [] (lent-given s ws _ e).words
  singly P p (c ∷ cs) ws e = go (choice P p c.kind c.thread) refl (λ q. singly P q cs)
    where
      go : (x : Result) → choice P p c.kind c.thread ≡ x →
          ((q : Pool) (v : List ℤ) → lent s v ≡ Answer.given (record { table = P; pool = q }) →
          Singly s v cs (run P q cs).made (words_of (run P q cs).pool)) →
          let r = go_on p x (λ q. run P q cs) in Singly s ws (c ∷ cs) r.made (words_of r.pool)
      go (Result.made rule q) m k =
          let g = lent-given s ws _ e in
          let v = choice-kept P (read-limits s P g.reads) p q c.kind c.thread rule g.valid m in
          more ws c cs rule (run P q cs).made (words_of q) (words_of (run P q cs).pool)
          (choose-lent s ws c.kind c.thread e ∙ ap (made ws) m) (k q (words_of q) (lent-words s P q g.reads v))
      go (Result.refused n) m k = nothing ws (words_of p) (c ∷ cs) (lent-given s ws _ e).words

  scheduled : (ws : List ℤ) (cs : List Choice) (a : Answer Lent) → lent s ws ≡ a →
      Singly s ws cs (Calls.scheduled ws a cs).made (Calls.scheduled ws a cs).after
  unfolding Calls.scheduled Calls.reported
  scheduled ws cs (Answer.given l) e = singly l.table l.pool cs ws e
  scheduled ws cs (Answer.refused r) e = nothing ws ws cs refl

-- a schedule is its choices, put one by one
pub exports-one-by-one : OneByOne
unfolding Calls.schedule
exports-one-by-one s ws cs r made ws' m = rw (m.count, m.words) (scheduled s ws cs (lent s ws) refl)

-- logs one behind another
module _ (R : List ℤ → List ℤ → Type 0) (again : (u v w : List ℤ) → R u v → R v w → R u w) (s : List ℕ) where
  log-append : (ws : List ℤ) (ps : List Put) (w : List ℤ) (qs : List Put) (w' : List ℤ) → LogBy R s ws ps w → LogBy R s w qs w' →
      LogBy R s ws (ps ++ qs) w'
  log-append ws [] w [] w' l m = again ws w w' l m
  log-append ws [] w (q ∷ qs) w' l m = (again ws w q.words l m.0, m.1)
  log-append ws (p ∷ ps) w qs w' l m = let (v, a, k) = l.1 in (l.0, (v, a, log-append v ps w qs w' k m))

exact-log : (s : List ℕ) (ws : List ℤ) (ps : List Put) (w : List ℤ) → Exactly s ws ps w → Log s ws ps w
exact-log s ws [] w l = inl l
exact-log s ws (p ∷ ps) w l = let (v, a, k) = l.1 in (inl l.0, (v, a, exact-log s v ps w k))

module _ (s : List ℕ) where
  -- choices of the model, with the numbers that they answer
  abbrev numbered : Model.Put → Put
  numbered p =
      record {
        words = p.words;
        kind = p.kind;
        thread = p.thread;
        number = as_number (Calls.choose s p.words p.kind p.thread).answer;
      }

  turns-log : (ws : List ℤ) (ps : List Model.Put) (w : List ℤ) → InTurn s ws ps w → Log s ws (map numbered ps) w
  turns-log ws [] w h = h
  turns-log ws (p ∷ ps) w h =
      (h.0, (_, record { number = refl; words = refl }, turns-log (Calls.choose s p.words p.kind p.thread).after ps w h.1))

  -- the choices with these answers lead from the words ws to the words ws'
  record Through (ws : List ℤ) (ts : List Turn) (ws' : List ℤ) : Type 0 where
    puts : List Put
    log : Log s ws puts ws'
    are : map turn_of puts ≡ ts

  none-through : {ws w : List ℤ} → ws ≡ w → Through ws [] w
  none-through e = record { puts = []; log = inl e; are = refl }

  through-append : {ws w w' : List ℤ} {ts us : List Turn} → Through ws ts w → Through w us w' → Through ws (ts ++ us) w'
  through-append {ws} {w} {w'} a b =
      record {
        puts = a.puts ++ b.puts;
        log = log-append (Aside s) (λ _ _ _. aside-again s) s ws a.puts w b.puts w' a.log b.log;
        are = rw (map-append turn_of a.puts b.puts, a.are, b.are);
      }

  -- a beat
  numbered_is : (p : Model.Put) →
      turn_of (numbered p) ≡
      record {
        choice = record { kind = p.kind; thread = p.thread };
        answer = (Calls.choose s p.words p.kind p.thread).answer;
      }
  numbered_is p =
      let d = Calls.choose s p.words p.kind p.thread in
      let law = choose-law s p.words p.kind p.thread _ d.after (record { number = refl; words = refl }) in
      ap (λ (a : Answer ℕ). record { choice = record { kind = p.kind; thread = p.thread }; answer = a }) law.answers

  abbrev promotion : ℕ → Turn
  promotion i = record { choice = record { kind = promote; thread = i }; answer = Answer.given No.promote }

  abbrev turns_in : ℕ → Answer Beat → List Turn
  turns_in i (Answer.given b) =
      record { choice = record { kind = step; thread = i }; answer = Answer.given b.rule } ∷ replicate b.promotions (promotion i)
  turns_in i (Answer.refused r) = []

  promotions-are : (i : ℕ) (qs : List Pool) → Each (Promotes s i) qs →
      map turn_of (map numbered (promotions_of i (map words_of qs))) ≡ replicate (length qs) (promotion i)
  promotions-are i [] h = refl
  promotions-are i (q ∷ qs) h =
      rw (numbered_is (record { words = words_of q; kind = promote; thread = i }), h.0, promotions-are i qs h.1)

  as-through : {ws : List ℤ} {i N C : ℕ} {ps : List Model.Put} {d : Called Beat} → BeatAs s ws i N C ps d →
      Through ws (turns_in i d.answer) d.after
  as-through (BeatAs.unpaced q) = none-through refl
  as-through (BeatAs.refused e) = none-through refl
  as-through {ws} {i} (BeatAs.made {w = w} {ps = qs} {ws' = ws'} e h) =
      let ps = promotions_of i (map words_of qs) in
      let p : Model.Put = record { words = ws; kind = step; thread = i } in
      record {
        puts = numbered p ∷ map numbered ps;
        log = (
          inl refl,
          (w, record { number = refl; words = ap (λ (d : Called ℕ). d.after) (sym e) }, turns-log w ps ws' h.turns),
        );
        are = rw (numbered_is p, e, promotions-are i qs h.made);
      }

  turns-read : (i r : ℕ) (a : Answer Beat) → beat_in r ≡ a → turns_in i a ≡ cond (is_given r) (of_beat i r) []
  unfolding beat_in
  turns-read i r a e = rw (← e) (go (is_given r) (refusal_in r))
    where
      go : (b : Bool) (q : Refusal) →
          turns_in i (cond b (Answer.given (record { rule = rule r; promotions = promotions r })) (Answer.refused q)) ≡
          cond b (of_beat i r) []
      go true q = refl
      go false q = refl

  beat-through : (ws : List ℤ) (i n c r : ℕ) (w : List ℤ) → Contracts.Beat s ws i n c r w →
      Through ws (cond (is_given r) (of_beat i r) []) w
  beat-through ws i n c r w m =
      rw (← turns-read i r _ (beat-law s ws i n c r w m).answers, m.words) (as-through (beat-as s ws i n c))

  -- beats one by one
  beaten-through : (n c : ℕ) (ws : List ℤ) (is rs : List ℕ) (w : List ℤ) → BeatLog s n c ws is rs w →
      Through ws (of_beats is rs) w
  beaten-through n c ws [] [] w e = none-through e
  beaten-through n c ws [] (r ∷ rs) w x = absurd x
  beaten-through n c ws (i ∷ is) [] w x = absurd x
  beaten-through n c ws (i ∷ is) (r ∷ rs) w (y, (v, m, b)) =
      through-append (rw y at (beat-through ws i n c r v m)) (beaten-through n c v is rs w b)

-- one call
record CallLogged (s : List ℕ) (ws : List ℤ) (c : Call) (w : List ℤ) : Type 0 where
  puts : List Put
  log : Log s ws puts w
  are : CountsAs c (map turn_of puts)
  plain : Plain c → Exactly s ws puts w

exactly : {s : List ℕ} {ws : List ℤ} {c : Call} {w : List ℤ} (ps : List Put) → Exactly s ws ps w → CountsAs c (map turn_of ps) →
    CallLogged s ws c w
exactly {s} {ws} {c} {w} ps l e = record { puts = ps; log = exact-log s ws ps w l; are = e; plain = λ _. l }

given-turns : (ps : List Put) → Each (λ p. is_given p.number ≡ true) ps →
    Each (λ t. (rule : ℕ) × (t.answer ≡ Answer.given rule)) (map turn_of ps)
given-turns [] h = tt
given-turns (p ∷ ps) h = ((_, given-read p.number h.0), given-turns ps h.1)

call-logged : (s : List ℕ) (ws : List ℤ) (c : Call) (w : List ℤ) → Made s ws c w → CallLogged s ws c w
call-logged s ws (Call.choose kind thread r) w m =
    exactly (record { words = ws; kind = kind; thread = thread; number = r } ∷ []) (refl, (w, m, refl)) refl
call-logged s ws (Call.schedule cs r n) w m =
    let h = exports-one-by-one s ws cs r n w m in
    exactly h.puts h.log (map-map (λ (t : Turn). t.choice) turn_of h.puts ∙ h.are, given-turns h.puts h.given)
call-logged s ws (Call.beat thread n c r) w m =
    let t = beat-through s ws thread n c r w m in
    record { puts = t.puts; log = t.log; are = t.are; plain = λ x. absurd x }
call-logged s ws (Call.run n c threads r steps made) w m =
    let h = exports-beat-by-beat s ws n c threads r steps made w m in
    let t = beaten-through s n c ws (take steps threads) h.numbers w h.beats in
    record {
      puts = t.puts;
      log = t.log;
      are = (h.numbers, h.counted, h.promoted, t.are);
      plain = λ x. absurd x;
    }
call-logged s ws (Call.which r) w m = exactly [] (sym m.1) refl
call-logged s ws (Call.values vs r vs') w m = exactly [] (sym m.1) refl

-- every session is choices put one by one
pub exports-log : EverySession
exports-log s ws [] ws' e = record { puts = []; log = inl (sym e); are = refl; plain = λ _. sym e }
exports-log s ws (c ∷ cs) ws' (w, m, l) =
    let a = call-logged s ws c w m in
    let h = exports-log s w cs ws' l in
    record {
      puts = a.puts ++ h.puts;
      log = log-append (Aside s) (λ _ _ _. aside-again s) s ws a.puts w h.puts ws' a.log h.log;
      are = (map turn_of a.puts, map turn_of h.puts, a.are, h.are, map-append turn_of a.puts h.puts);
      plain = λ x. log-append ◌≡◌ (λ _ _ _ e f. e ∙ f) s ws a.puts w h.puts ws' (a.plain x.0) (h.plain x.1);
    }
