-- What each answer of the code that decides says of the step.
use Prim.Native.Nat.{ℕ, ◌+◌, ◌-◌, ◌≤◌, ◌<◌}
use mathlib.Core.Path.{◌≡◌, refl, sym, ap, subst, subst⁻¹, ◌∙◌}
use mathlib.Core.Option.{none, some}
use Rattle.std.specs.Prelude.{Option, Some, None, Result, Ok}
use mathlib.Core.List.{List, [], ◌∷◌, ◌++◌}
use native.Mathlib.Omega.{arith}
use lib.IntN.{ℤ, pos}
use lib.ListN.{length, take, replicate}
use lib.Seq.{length-take-le}
use Rattle.model.specs.Numbers as No
use Rattle.model.specs.Lists.{pad}
use Rattle.model.specs.Syntax.{Program}
use Rattle.model.specs.Pool.{Frame, Thread, Pool, most_frames, frame_words, start_of, restacked}
use Rattle.model.specs.Frames.{look_all, deque, enter}
use Rattle.model.specs.Rules.{Act, act, ended, returned}
use Rattle.pool.specs.Held.{FrameAt}
use Rattle.pool.specs.Edits.{threads_in, frames_in}
use Rattle.pool.specs.InPlace.{frame_at, newest_at}
use Rattle.pool.proofs.Steps.{frames-counted, threads-counted}
use Rattle.code.specs.Code.{most}
use Rattle.eval.specs.declared.Values.{Values}
use Rattle.eval.specs.Given.{values_as, looked_as, filled}
use Rattle.eval.proofs.Buffers.{filled_none, filled-zeros}
use Rattle.answers.specs.declared.No.{No as Number}
use Rattle.rules.specs.declared.Entry.{Entry}
use Rattle.rules.specs.Acts.{refusing, arrived, Parameters, next_of, returns_of, Arrives, Entering, Enters, given_by, Giving}
use Rattle.rules.proofs.Endings.{act-gives}
use Rattle.steps.specs.Decision.{Decision, Decides}
use Rattle.steps.specs.Choice.{caller_of, Known, Ends, of_one, ends_with, Brought, Brings, Calls, Decided, Returns, joined_of, Joined}
use Rattle.steps.specs.Choice.{Joins}
use Rattle.steps.proofs.Effects.{decides-ended, decides-pop, decides-lost, decides-alone, decides-waits, decides-join, decides-unmet}
use Rattle.steps.proofs.Knowing.{frame_is, newest-is, next_known}

-- an ended thread has one frame, which returns
returned-one : (K : List Frame) (a : Act) → length K ≡ 0 → returned [] a ≡ returned K a
returned-one [] a h = refl
returned-one (k ∷ K) a h = absurd (omega arith)

returned-more : (K : List Frame) (a : Act) → 0 < length K → none ≡ returned K a
unfolding returned
returned-more [] a h = absurd (omega arith)
returned-more (k ∷ K) a h = refl

-- the temporaries that it returns
one-all : (K : List Frame) (x̄ : List ℕ) → length K ≡ 0 → x̄ ≡ of_one K x̄
one-all [] x̄ h = refl
one-all (k ∷ K) x̄ h = absurd (omega arith)

more-none : (K : List Frame) (x̄ : List ℕ) → 0 < length K → of_one K x̄ ≡ []
more-none [] x̄ h = absurd (omega arith)
more-none (k ∷ K) x̄ h = refl

module _ {s places : List ℕ} {ws : List ℤ} {i m : ℕ} (c : m ≡ frames_in ws i) where
  pub brings-deep : (out : List ℤ) → (m ≡ 1 → ⊥) → Brings s places ws i out None out
  unfolding ended
  brings-deep out o P a t b h =
      let l : 0 < length t.older = omega (arith, frames-counted h.thread) in
      record {
        is = returned-more t.older (act P t.newest) l;
        few = tt;
        left = rw (more-none t.older _ l) (filled_none t.newest out);
      }

  pub brings-given : (out₀ out : List ℤ) {k : ℕ} (r : Option ℕ) → m ≡ 1 → k ≡ start_of i 0
      → Giving s places (frame_at ws k) out₀ r out
      → Brings s places ws i out₀ r out
  unfolding ended
  brings-given out₀ out {k} r o p g P a t b h =
      let e : frame_at ws k ≡ t.newest = newest-is h (omega (arith, c)) in
      let l : length t.older ≡ 0 = omega (arith, frames-counted h.thread) in
      record {
        is =
            g.is P h.table
            ∙ ap (λ (x : Frame). returned [] (act P x)) e
            ∙ returned-one t.older (act P t.newest) l;
        few = g.few;
        left =
            g.left P h.table
            ∙ ap (λ (x : Frame). filled x (returns_of x (next_of P x)) out₀) e
            ∙ ap (λ (x̄ : List ℕ). filled t.newest x̄ out₀) (one-all t.older _ l);
      }

-- the thread's values by value: the buffer was empty
ended-gives : (P : Program) (t : Thread) (v̄ : List ℤ) → ended P t ≡ some v̄ → look_all t.newest (ends_with P t) ≡ some v̄
unfolding ended
ended-gives P t v̄ e = go t.older e
  where
    go : (K : List Frame) → returned K (act P t.newest) ≡ some v̄
        → look_all t.newest (of_one K (returns_of t.newest (next_of P t.newest))) ≡ some v̄
    go [] q = act-gives P t.newest v̄ q
    go (k ∷ K) q = let z = returned-more (k ∷ K) (act P t.newest) (omega arith) in cc

module _ {s places : List ℕ} {ws : List ℤ} {i : ℕ} (out : List ℤ) (r : Option ℕ)
    (q : Brings s places ws i (replicate most (pos 0)) r out) where
  pub ends-given : {n : ℕ} → r ≡ Some n → length out ≡ most → Ends s places ws i (Some (record { count = n; at = out }))
  unfolding looked_as values_as
  ends-given {n} e l P a t b h =
      let x : Brought P t _ (Some n) out = subst (λ (y : Option ℕ). Brought P t (replicate most (pos 0)) y out) e (q P a t b h) in
      let k : length (take n out) ≡ n = length-take-le n out (omega (arith, x.few)) in
      let f : look_all t.newest (ends_with P t) ≡ some (take n out) = ended-gives P t _ (sym x.is) in
      let z : out ≡ pad most (pos 0) (take n out) = x.left ∙ filled-zeros t.newest (ends_with P t) (take n out) f in
      rw (← x.is) (rw k (ap (λ (w̄ : List ℤ). Some (record { count = n; at = w̄ })) z))

  pub ends-none : r ≡ None → {o : Option Values} → o ≡ None → Ends s places ws i o
  unfolding looked_as
  ends-none e w P a t b h =
      let z : none ≡ ended P t = ap (λ (x : Option ℕ). given_by x out) (sym e) ∙ (q P a t b h).is in
      rw (← z) w

-- a call
module _ {ws : List ℤ} {i m : ℕ} (c : m ≡ frames_in ws i) where
  pub calls-room : m < most_frames → Calls ws i (Ok tt)
  calls-room o a t b h = omega (arith, frames-counted h)

  pub calls-full : most_frames ≤ m → Calls ws i (refusing No.frames)
  calls-full o a t b h = (refl, omega (arith, frames-counted h))

-- a block that is entered with values of the buffer
entered : {s : List ℕ} {P : Program} {f b n : ℕ} (e : Entry) → Arrives s P f b n e → (m : Frame) (out : List ℤ) → m.function ≡ f
    → length (take n out) ≡ n → enter P m b (take n out) ≡ some (arrived s e out m)
entered e A m out f l = A.is m (take _ out) f l ∙ rw (A.block, A.count)

parameters : {s : List ℕ} {P : Program} {f b n : ℕ} (e : Entry) → Arrives s P f b n e → Parameters s e.parameters e.count
parameters {s} e A = subst⁻¹ (Parameters s e.parameters) A.count A.parameters

-- what is decided, by what entering a block comes to
module _ {P : Program} {s : List ℕ} {t : Thread} {b : Pool} (d : Frame → Decision) (k : Frame) (out : List ℤ) where
  decided-by : (r : Result Entry Number) {f c n there : ℕ} → Entering s P f c n r → k.function ≡ f → length (take n out) ≡ n → 0 < there
      → ((l : Frame) → enter P k c (take n out) ≡ some l → Decides P t b (d l))
      → (enter P k c (take n out) ≡ none → Decides P t b (Decision.refuse No.stuck))
      → Decided P s t b d k there out r
  decided-by r (Entering.arrives e q A) f l z g h =
      rw q (record { is = g (arrived s e out k) (entered e A k out f l); parameters = parameters e A; goes = z })
  decided-by r (Entering.jams q N) f l z g h = rw q (h (N k (take _ out) f l))

-- a return
module _ {s places : List ℕ} {ws : List ℤ} {i n m : ℕ} (c : m ≡ frames_in ws i) where
  pub returns-ended : m < 2 → Returns s places ws i n (refusing No.ended)
  returns-ended o P a t b h out l f e = decides-ended t _ e t.older (omega (arith, frames-counted h.thread))

  pub returns-entered : (r : Result Entry Number) {j k f c₁ : ℕ} → 2 ≤ m → j ≡ newest_at ws i → k ≡ j - frame_words
      → f ≡ (frame_at ws k).function → c₁ ≡ (frame_at ws k).block → Enters s places f c₁ n r → Returns s places ws i n r
  returns-entered r {j} {k} {f} {c₁} o z p e₁ e₂ g P a t b h out l few e = go t.older h
    where
      go : (K : List Frame) → Known s places ws i P a (restacked t (t.newest ∷ K)) b
          → Decided P s (restacked t (t.newest ∷ K)) b Decision.pop (caller_of (restacked t (t.newest ∷ K))) (length K) out r
      go [] u = absurd (omega (arith, frames-counted u.thread))
      go (m₁ ∷ K) u =
          decided-by Decision.pop m₁ out r (g P u.table) of long (omega arith) (λ l q. decides-pop t (take n out) e l (here ∙ q))
          (λ q. decides-lost t (take n out) e (here ∙ q))
        where
          is : frame_at ws k ≡ m₁
          is =
              let x : FrameAt (restacked t (t.newest ∷ m₁ ∷ K)) (m - 2) (t.newest ∷ []) m₁ K =
              record { is = refl; place = omega (arith, frames-counted u.thread) }
              in
              frame_is u (omega (arith, z, p, c)) x

          of : m₁.function ≡ f
          of = sym (e₁ ∙ ap (λ (x : Frame). x.function) is)

          long : length (take n out) ≡ n
          long = length-take-le n out (omega (arith, few, l))

          here : enter P m₁ m₁.block (take n out) ≡ enter P m₁ c₁ (take n out)
          here = ap (λ (x : ℕ). enter P m₁ x (take n out)) (sym (e₂ ∙ ap (λ (x : Frame). x.block) is))

-- a join
module _ {s places : List ℕ} {ws : List ℤ} {i f c m : ℕ} (z : m ≡ threads_in ws) where
  pub joins-alone : (out : List ℤ) → m ≤ i + 1 → Joins s places ws i f c out (refusing No.waits) out
  joins-alone out o P a t b h e x = go b h
    where
      go : (b : Pool) → Known s places ws i P a t b → Joined P s t b out (refusing No.waits) out
      go [] u = record { decided = decides-alone _ c x; left = refl }
      go (v ∷ b) u = absurd (omega (arith, threads-counted u.thread, u.thread.place))

  module _ (out₀ out : List ℤ) (w : Option ℕ) (o : i + 1 < m) (g : Brings s places ws (i + 1) out₀ w out) where
    pub joins-waits : (r : Result Entry Number) → w ≡ None → r ≡ refusing No.waits → Joins s places ws i f c out₀ r out
    joins-waits r y q P a t b h e x = go b h
      where
        go : (b : Pool) → Known s places ws i P a t b → Joined P s t b out₀ r out
        go [] u = absurd (omega (arith, threads-counted u.thread, u.thread.place))
        go (v ∷ b) u =
            let got = g P (a ++ (t ∷ [])) v b (next_known u) in
            record {
              decided = rw q (decides-waits _ c x (sym (ap (λ (x : Option ℕ). given_by x out) (sym y) ∙ got.is)));
              left = got.left;
            }

    pub joins-entered : (r : Result Entry Number) {n : ℕ} → w ≡ Some n → length out ≡ most → Enters s places f c n r
        → Joins s places ws i f c out₀ r out
    unfolding deque
    joins-entered r {n} y l k P a t b h e x = go b h
      where
        go : (b : Pool) → Known s places ws i P a t b → Joined P s t b out₀ r out
        go [] u = absurd (omega (arith, threads-counted u.thread, u.thread.place))
        go (v ∷ b) u =
            let got : Brought P v out₀ (Some n) out =
            subst (λ (y : Option ℕ). Brought P v out₀ y out) y (g P (a ++ (t ∷ [])) v b (next_known u)) in
            record {
              decided = decided-by Decision.join (joined_of t) out r (k P u.table) (sym e)
                  (length-take-le n out (omega (arith, got.few, l))) (omega arith)
                  (λ l q. decides-join _ c x (take n out) l (sym got.is) q)
                  (λ q. decides-unmet _ c x (take n out) (sym got.is) q);
              left = got.left;
            }
