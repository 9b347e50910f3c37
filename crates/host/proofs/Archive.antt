-- The tidy table in the place of the old one, from the theorem on two numberings and the laws of the exports.
use Prim.Native.Nat.{ℕ}
use mathlib.Core.Path.{◌≡◌, refl, sym, ◌∙◌, ap, ap₂, subst}
use mathlib.Core.Bool.{true}
use mathlib.Core.Option.{Option}
use mathlib.Core.List.{List, [], ◌∷◌}
use lib.IntN.{ℤ}
use lib.ListN.{length, take}
use Rattle.model.specs.Answers.{Answer}
use Rattle.model.specs.Calls as Calls
use Rattle.safety.specs.NeverJams as Model
use Rattle.safety.specs.NeverJams.{left, finally}
use Rattle.safety.proofs.Theorem.{demand3}
use Rattle.numbering.specs.Means.{Alike}
use Rattle.host.specs.Macros.{is_given, value, pool_words}
use Rattle.host.specs.Exports as Exports
use Rattle.host.specs.Exports.{done, as_number, beat_number, stepper_of}
use Rattle.host.specs.CallContracts.{Start}
use Rattle.host.specs.Sessions.{Call, Made, Session}
use Rattle.host.specs.Archive.{Instead, Archive}
use Rattle.host.proofs.Macros.{read_done}
use Rattle.host.proofs.Laws.{start-law, tidy-archived}

-- alike the other way round
flip : {s t : List ℕ} {w w' : List ℤ} → Alike s t w w' → Alike t s w' w
flip A =
    record {
      choose = λ kind thread. sym (A.choose kind thread);
      schedule = λ cs. sym (A.schedule cs);
      made = λ cs. sym (A.made cs);
      beat = λ thread N C. sym (A.beat thread N C);
      run = λ N C threads. sym (A.run N C threads);
      steps = λ N C threads. sym (A.steps N C threads);
      promotions = λ N C threads. sym (A.promotions N C threads);
      values = sym A.values;
      which = sym A.which;
    }

-- a host's call on s, as one of the model's, and the same call on t
record Again (s t : List ℕ) (w w' : List ℤ) (c : Call) (after : List ℤ) : Type 0 where
  call : Model.Call
  leaves : after ≡ left s w call
  made : Made t w' c (left t w' call)

call-again : (s t : List ℕ) (w w' : List ℤ) → Alike s t w w' → (c : Call) (v : List ℤ) → Made s w c v → Again s t w w' c v
call-again s t w w' A (Call.choose kind thread r) v m =
    record {
      call = Model.Call.choose kind thread;
      leaves = m.words;
      made = record { number = m.number ∙ ap as_number (A.choose kind thread); words = refl };
    }
call-again s t w w' A (Call.schedule cs r made) v m =
    record {
      call = Model.Call.schedule cs;
      leaves = m.words;
      made = record { number = m.number ∙ ap done (A.schedule cs); count = m.count ∙ A.made cs; words = refl };
    }
call-again s t w w' A (Call.beat thread n c r) v m =
    record {
      call = Model.Call.beat thread n c;
      leaves = m.words;
      made = record { number = m.number ∙ ap beat_number (A.beat thread n c); words = refl };
    }
call-again s t w w' A (Call.run n c threads r steps promotions) v m =
    record {
      call = Model.Call.run n c threads;
      leaves = m.words;
      made = record {
        number = m.number ∙ ap done (A.run n c threads);
        counts = m.counts ∙ ap₂ {C = List ℕ} (λ i j. i ∷ j ∷ []) (A.steps n c threads) (A.promotions n c threads);
        words = refl;
      };
    }
call-again s t w w' A (Call.which r) v m =
    record {
      call = Model.Call.which;
      leaves = m.1;
      made = (m.0 ∙ ap stepper_of A.which, refl);
    }
call-again s t w w' A (Call.values vs r vs') v m =
    record {
      call = Model.Call.values;
      leaves = m.1;
      made = (subst (λ (a : Answer (Option (List ℤ))). Exports.Values a vs r vs') A.values m.0, refl);
    }

-- whatever calls come next, what follows them is answered alike
abbrev Ever : List ℕ → List ℕ → List ℤ → List ℤ → Type 0
Ever s t w w' = (cs : List Model.Call) → Alike s t (finally s w cs) (finally t w' cs)

session-again : (s t : List ℕ) (w w' : List ℤ) → Ever s t w w' → (cs : List Call) (v : List ℤ) → Session s w cs v →
    (v' : List ℤ) × Session t w' cs v'
unfolding finally
session-again s t w w' H [] v m = (w', refl)
session-again s t w w' H (c ∷ cs) v (between, m, rest) =
    let a = call-again s t w w' (H []) c between m in
    let (v', rest') = session-again s t (left s w a.call) (left t w' a.call) (λ ds. H (a.call ∷ ds)) cs v
    (subst (λ (x : List ℤ). Session s x cs v) a.leaves rest) in
    (v', (left t w' a.call, a.made, rest'))

instead : (s t : List ℕ) (w w' : List ℤ) → Ever s t w w' → Instead s t w w'
instead s t w w' H = record { to = session-again s t w w' H; back = session-again t s w' w (λ cs. flip (H cs)) }

-- the start of an accepted table is given
starts : (s : List ℕ) (ws : List ℤ) → Calls.check s ≡ Answer.given tt → length ws ≡ pool_words →
    (a : ℕ) (w : List ℤ) → Start s ws a w → is_given a ≡ true
starts s ws h n a w m = read_done a ((start-law s ws a w m).answers ∙ (demand3 s ws h n).starts)

pub exports-archive : Archive
exports-archive s out r out' m g ws ws' n n' a b w w' i j =
    let t = take (value r) out' in
    let A = tidy-archived s out r out' m g in (
      starts s ws A.accepted n a w i,
      starts t ws' A.tidies.accepted n' b w' j,
      rw (i.words, j.words) (instead s t (Calls.start s ws).after (Calls.start t ws').after (A.tidies.same.next ws ws' n n')),
    )
