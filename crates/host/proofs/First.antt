-- Steps by the first, as the exported functions tell them.
use Prim.Native.Nat.{ℕ}
use mathlib.Core.Path.{◌≡◌, refl, sym, ◌∙◌, ap, ap₂}
use mathlib.Core.Bool.{true, false}
use mathlib.Core.Option.{some}
use mathlib.Core.List.{List, [], ◌∷◌, map, map-map}
use lib.Dec.{eqb}
use lib.IntN.{ℤ}
use lib.ListN.{length, length-map}
use Rattle.model.specs.Numbers as No
use Rattle.model.specs.Numbers.{Within}
use Rattle.model.specs.Answers.{Answer}
use Rattle.model.specs.Lists.{Each}
use Rattle.model.specs.Calls as Calls
use Rattle.model.specs.Calls.{Called, Choice}
use Rattle.model.proofs.Facts.{ne_eqb}
use Rattle.first.specs.Runs as Model
use Rattle.first.proofs.Trails.{agree}
use Rattle.first.proofs.Runs.{runner}
use Rattle.host.specs.Macros.{is_given, value, step, no_thread}
use Rattle.host.specs.Exports.{as_number}
use Rattle.host.specs.Laws.{answer_in, thread_in}
use Rattle.host.specs.Sessions.{Session}
use Rattle.host.specs.First.{Asked, ByFirst, Steps, Over, SameOrder, as_choice, as_calls, EveryRun}
use Rattle.host.proofs.Macros.{given-read}
use Rattle.host.proofs.Laws.{choose-law, which-law}

-- words allow one such step alone
same_asked : {i j q r : ℕ} {w v : List ℤ} → i ≡ j → q ≡ r → w ≡ v →
    ◌≡◌ {A = Asked} (record { told = i; number = q; words = w }) (record { told = j; number = r; words = v })
same_asked e f g = rw (e, f, g)

one : (s : List ℕ) (ws : List ℤ) (t u : Asked) → ByFirst s ws t → ByFirst s ws u → t ≡ u
one s ws t u a b =
    same_asked told
    (a.choose.number ∙ ap (λ (c : Called ℕ). as_number c.answer) calls ∙ sym b.choose.number)
    (a.choose.words ∙ ap (λ (c : Called ℕ). c.after) calls ∙ sym b.choose.words)
  where
    told : t.told ≡ u.told
    told = a.which ∙ sym b.which

    calls : Calls.choose s ws step (value t.told) ≡ Calls.choose s ws step (value u.told)
    calls = ap (λ (r : ℕ). Calls.choose s ws step (value r)) told

over : (s : List ℕ) (ws : List ℤ) → Over s ws → (t : Asked) → ¬ ByFirst s ws t
over s ws (r, m, g, n) t a = a.thread (ap value (a.which ∙ sym m) ∙ n)

pub exports-same-order : SameOrder
exports-same-order s ws ts w us v m n = agree (λ t. t.words) (ByFirst s) (one s) (Over s) (over s) ws ts w us v m n

-- such a step is one of the model
abbrev to_step : Asked → Model.Step
to_step t = record { thread = value t.told; rule = value t.number; words = t.words }

module _ (s : List ℕ) (ws : List ℤ) (t : Asked) (a : ByFirst s ws t) where
  made : (is_given t.number ≡ true) × Within No.stmt No.prom (value t.number)
  made = (which-law s ws t.told a.which).steps a.given a.thread t.number t.words a.choose

  to_step_lem : Model.ByFirst s ws (to_step t)
  unfolding thread_in
  to_step_lem =
      let other : eqb (value t.told) no_thread ≡ false = ne_eqb (value t.told) no_thread a.thread in
      let names : thread_in (answer_in t.told) ≡ Answer.given (some (value t.told)) = rw (given-read t.told a.given, other) in
      let answer : (Calls.choose s ws step (value t.told)).answer ≡ Answer.given (value t.number) =
      sym (choose-law s ws step (value t.told) t.number t.words a.choose).answers ∙ given-read t.number made.0
      in
      record {
        named = sym (which-law s ws t.told a.which).answers ∙ names;
        makes = ap₂ {C = Called ℕ} (λ x w. record { answer = x; after = w }) answer (sym a.choose.words);
      }

module _ (s : List ℕ) where
  all_made : (ws : List ℤ) (ts : List Asked) (w : List ℤ) → Steps s ws ts w →
      Each (λ t. (is_given t.number ≡ true) × Within No.stmt No.prom (value t.number)) ts
  all_made ws [] w m = tt
  all_made ws (t ∷ ts) w (a, m) = (made s ws t a, all_made t.words ts w m)

  to-run : (ws : List ℤ) (ts : List Asked) (w : List ℤ) → Steps s ws ts w → Model.Run s ws (map to_step ts) w
  to-run ws [] w m = m
  to-run ws (t ∷ ts) w (a, m) = (to_step_lem s ws t a, to-run t.words ts w m)

  session : (ws : List ℤ) (ts : List Asked) (w : List ℤ) → Steps s ws ts w → Session s ws (as_calls ts) w
  unfolding as_calls
  session ws [] w m = sym m
  session ws (t ∷ ts) w (a, m) = (ws, (a.which, refl), (t.words, a.choose, session t.words ts w m))

  replayed : (ws : List ℤ) (ts : List Asked) (w : List ℤ) → Steps s ws ts w →
      ((Calls.schedule s ws (map as_choice ts)).made ≡ length ts) × ((Calls.schedule s ws (map as_choice ts)).after ≡ w)
  replayed ws ts w m =
      let (i, j) = runner.replayed s ws (map to_step ts) w (to-run ws ts w m) in
      let e : map Model.as_choice (map to_step ts) ≡ map as_choice ts = map-map Model.as_choice to_step ts in (
        ap (λ (cs : List Choice). (Calls.schedule s ws cs).made) (sym e) ∙ i ∙ length-map ts to_step,
        ap (λ (cs : List Choice). (Calls.schedule s ws cs).after) (sym e) ∙ j,
      )

pub exports-every-run : EveryRun
exports-every-run s ws ts ws' m =
    record {
      made = all_made s ws ts ws' m;
      schedule = λ r n w x. let (i, j) = replayed s ws ts ws' m in (x.count ∙ i, x.words ∙ j);
      session = session s ws ts ws' m;
    }
