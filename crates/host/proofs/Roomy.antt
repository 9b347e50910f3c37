-- What the depth says of sessions of the exported functions, from the theorem on started pools and the laws of the exports.
use Prim.Native.Nat.{ℕ, ◌≤◌}
use mathlib.Core.Path.{◌≡◌, refl, sym, ◌∙◌}
use mathlib.Core.Logic.{◌⊎◌, inl, inr}
use mathlib.Core.List.{List, [], ◌∷◌}
use native.Mathlib.Omega.{arith}
use lib.IntN.{ℤ}
use lib.ListN.{length}
use Rattle.model.specs.Numbers as No
use Rattle.model.specs.Answers.{Refusal, Answer}
use Rattle.model.specs.Lists.{Each}
use Rattle.model.specs.Pool.{most_frames}
use Rattle.model.specs.Calls as Calls
use Rattle.model.proofs.Valid.{pool-facts}
use Rattle.model.proofs.Words.{lent-given, pool-fits}
use Rattle.safety.specs.NeverJams as Model
use Rattle.safety.specs.NeverJams.{of_call}
use Rattle.safety.proofs.Theorem.{demand3}
use Rattle.chains.specs.Depth.{depth}
use Rattle.chains.specs.Roomy as Chains
use Rattle.chains.specs.Roomy.{Few}
use Rattle.chains.proofs.Means.{depth-means}
use Rattle.chains.proofs.Theorem.{now-few, now-room, now-stands, waiting-steps}
use Rattle.host.specs.Macros.{value, pool_words, step, no_thread}
use Rattle.host.specs.CallContracts.{Choose, Which}
use Rattle.host.specs.Laws.{refusal_in}
use Rattle.host.specs.Sessions.{Call, Made, Session, Returned, CanStep, Overflows}
use Rattle.host.specs.Roomy.{Unfilled, NotFull, frame_count, Roomy, Depth}
use Rattle.host.proofs.Macros.{refusal-number, given-read, refused-read, read_done}
use Rattle.host.proofs.Laws.{depth-law, start-law, choose-law, schedule-law}
use Rattle.host.proofs.Beats.{beat-step, run_step}
use Rattle.host.proofs.Counts.{counts-few}
use Rattle.host.proofs.Sessions.{Reached, reached-lent, returned, can-step, overflows, none-steps, waits, call-safe}
use Rattle.host.proofs.Sessions.{session-safe, begun}

-- the frame counts of words in which no thread has more than d frames
few-counts : (s : List ℕ) (d : ℕ) (w : List ℤ) → Few s d w → (i : ℕ) → frame_count w i ≤ d
few-counts s d w f i =
    let l = lent-given s w f.lends f.pool in
    let fits = pool-fits (pool-facts f.lends.table f.lends.pool l.valid) in
    rw (← l.words) (counts-few d f.lends.pool i fits.each f.few)

-- sessions of a table with a depth
module _ (s : List ℕ) (d : ℕ) (D : depth s ≡ Answer.given d) (ws : List ℤ) (n : length ws ≡ pool_words) where
  accepted : Calls.check s ≡ Answer.given tt
  accepted = depth-means.only s d D

  abbrev At : List ℤ → Type 0
  At w = Reached s ws accepted n w

  at-few : {w : List ℤ} → At w → Few s d w
  at-few g = rw (← g.is) (now-few s d D ws n g.calls)

  module _ (l : d ≤ most_frames) where
    at_room : {w : List ℤ} → At w → (kind thread : ℕ) → Chains.NotFull s (record { words = w; kind = kind; thread = thread })
    unfolding of_call
    at_room g kind thread = rw (← g.is) (now-room s d D ws n g.calls l (Model.Call.choose kind thread)).0

    at-stands : {w : List ℤ} → At w → Model.Returned s w ⊎ (Model.CanStep s w ⊎ Model.Overflows s w)
    at-stands g = rw (← g.is) (now-stands s d D ws n g.calls l)

    at-waiting : {w : List ℤ} → At w → (i : ℕ) → (Calls.choose s w 0 i).answer ≡ Answer.refused (Refusal.plain No.waits) →
        Model.CanStep s w ⊎ Model.Overflows s w
    at-waiting g i = rw (← g.is) (waiting-steps s d D ws n g.calls l i)

    -- a choice; a list of choices, a beat and a run stop at a choice that is answered the same
    choose-room : {w : List ℤ} → At w → (kind thread r : ℕ) (w' : List ℤ) → Choose s w kind thread r w' → Unfilled r
    unfolding Chains.NotFull
    choose-room {w} g kind thread r w' m e =
        rw (← refusal-number r)
        (at_room g kind thread (refusal_in r) (sym (choose-law s w kind thread r w' m).answers ∙ refused-read r e))

    call-room : (w : List ℤ) (c : Call) (w' : List ℤ) → At w → At w' → Made s w c w' → NotFull c
    call-room w (Call.choose kind thread r) w' g g' m = choose-room g kind thread r w' m
    call-room w (Call.schedule cs r made) w' g g' m = λ e i.
        let S = (schedule-law s w cs r made w' m).stops e (omega arith) in
        let c = S.choice in
        let a = Calls.choose s w' c.kind c.thread in
        let same = S.again _ a.after (record { number = refl; words = refl }) in
        choose-room g' c.kind c.thread r a.after (record { number = sym same; words = refl }) e i
    call-room w (Call.beat thread i c r) w' g g' m = λ e x.
        choose-room g step thread r _ (beat-step s w thread i c r w' m e (inl (omega arith, omega arith))) e x
    call-room w (Call.run i c threads r steps made) w' g g' m = λ e x.
        let (j, k) = run_step s w i c threads r steps made w' m e (inl (omega arith, omega arith)) in
        choose-room g' step j r _ k e x
    call-room w (Call.which r) w' g g' m = tt
    call-room w (Call.values vs r vs') w' g g' m = tt

    session-room : (cs : List Call) (w w' : List ℤ) → At w → Session s w cs w' → Each NotFull cs
    session-room [] w w' g m = tt
    session-room (c ∷ cs) w w' g m =
        let g₁ = (call-safe s ws accepted n w c m.0 g m.1).1 in
        (call-room w c m.0 g g₁ m.1, session-room cs m.0 w' g₁ m.2)

    moves : {w : List ℤ} (g : At w) → Model.CanStep s w ⊎ Model.Overflows s w → CanStep s w ⊎ Overflows s w
    moves {w} g (inl c) = inl (can-step s w (reached-lent s ws accepted n g) c)
    moves {w} g (inr o) = inr (overflows s w (reached-lent s ws accepted n g) o)

    stands : {w : List ℤ} (g : At w) → Model.Returned s w ⊎ (Model.CanStep s w ⊎ Model.Overflows s w) →
        Returned s w ⊎ (CanStep s w ⊎ Overflows s w)
    stands {w} g (inl r) = inl (returned s w (reached-lent s ws accepted n g) r)
    stands {w} g (inr m) = inr (moves g m)

    nobody : {w : List ℤ} (g : At w) → Model.Returned s w ⊎ (Model.CanStep s w ⊎ Model.Overflows s w) → (r : ℕ) → Which s w r →
        value r ≡ no_thread → Returned s w ⊎ Overflows s w
    nobody {w} g (inl d) r m e = inl (returned s w (reached-lent s ws accepted n g) d)
    nobody {w} g (inr (inl c)) r m e = absurd (none-steps s w (reached-lent s ws accepted n g) r m e c)
    nobody {w} g (inr (inr o)) r m e = inr (overflows s w (reached-lent s ws accepted n g) o)

  roomy : (cs : List Call) (w w' : List ℤ) → At w → Session s w cs w' → Roomy s d cs w'
  roomy cs w w' g m =
      let g' = (session-safe s ws accepted n cs w w' g m).1 in
      let lends = reached-lent s ws accepted n g' in
      record {
        few = λ i _. few-counts s d w' (at-few g') i;
        answered = λ l. session-room l cs w w' g m;
        stands = λ l. stands l g' (at-stands l g');
        nobody = λ l. nobody l g' (at-stands l g');
        waiting = λ l i r v c e k. moves l g' (at-waiting l g' i (waits s w' lends i r v c e k));
      }

-- a table of depth 8 or less never runs out of frames, by what the exported functions answer and leave
pub exports-never-full : Depth
exports-never-full s c m e ws n r ws' st =
    let D : depth s ≡ Answer.given (value c) = sym (depth-law s c m).answers ∙ given-read c e in
    let h = accepted s (value c) D ws n in (
      read_done r ((start-law s ws r ws' st).answers ∙ (demand3 s ws h n).starts),
      λ cs w x. roomy s (value c) D ws n cs ws' w (rw st.words (begun s ws h n)) x,
    )
