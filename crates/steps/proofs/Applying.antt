-- What the writes make of the act of a thread, and what is found for a promotion.
use Prim.Native.Nat.{ℕ, ◌+◌, ◌≤◌, ◌<◌}
use mathlib.Core.Path.{◌≡◌, refl, sym, ap, subst, subst⁻¹, ◌∙◌}
use mathlib.Core.Bool.{Bool, true, false}
use mathlib.Core.Option as Model
use mathlib.Core.Option.{some}
use mathlib.Core.List.{List, [], ◌∷◌, ◌++◌, append_assoc}
use native.Mathlib.Omega.{arith}
use lib.Dec.{ltb}
use lib.IntN.{ℤ}
use lib.ListN.{length, get_elem?, length-append}
use Rattle.model.specs.Numbers as No
use Rattle.model.specs.Lists.{Each}
use Rattle.model.specs.Syntax.{Program}
use Rattle.model.specs.Pool.{Frame, Thread, Pool, most_threads, start_of, frames, restacked}
use Rattle.model.specs.Frames.{deque}
use Rattle.code.specs.Code.{most}
use Rattle.model.specs.Rules.{Act, Result as StepResult, act, oldest, child, promoting, spawned, step, promote}
use Rattle.model.proofs.Facts.{at-below, lt-ltb, le-ltb}
use Rattle.pool.specs.Frame.{Small}
use Rattle.pool.specs.Held.{ThreadAt, FrameAt}
use Rattle.pool.specs.Edits.{threads_in, frames_in}
use Rattle.pool.specs.InPlace.{frame_at, newest_at}
use Rattle.pool.proofs.Pools.{frame-there}
use Rattle.pool.proofs.Steps.{frames-counted, threads-counted}
use Rattle.std.specs.Prelude.{Option, Some, None, Result, Ok, Err}
use Rattle.answers.specs.declared.No.{No as Number}
use Rattle.answers.specs.declared.Rule.{Rule}
use Rattle.rules.specs.declared.Entry.{Entry}
use Rattle.rules.specs.declared.Action.{Action}
use Rattle.rules.specs.declared.Action.TheVariants.{Bind, Enter, Open, Close, Push, Pop, Join}
use Rattle.rules.specs.Acts.{arrived, act_by, sound_by, Is, child_by, Parameters, Acts, Spawns}
use Rattle.steps.specs.declared.Unpromoted.{Unpromoted}
use Rattle.steps.specs.Decision.{Decision, popped, joined, effected, Decides, before}
use Rattle.steps.specs.Choice.{caller_in, caller_of, Known, Made, by_rule, refused, Comes, CalledBy, Calls, Decided, Returns, joined_of}
use Rattle.steps.specs.Choice.{Joins, Steps, Done, Holder, HolderOf, FindsOldest, Promotes}
use Rattle.steps.specs.Writes.{at_head, Sets, Arrives, Opens, Shuts, Pushes, Pops, Unites, Spawned}
use Rattle.steps.proofs.Effects.{decides-refuse, decides-stay, decides-push, decides-full}
use Rattle.steps.proofs.Promotions.{oldest-none, oldest-at}
use Rattle.steps.proofs.Knowing.{small-frames, small_at, newest-is, frame_is, acts-as}
use Rattle.steps.proofs.Writing.{newest-changed}

-- the head of a block with as many values as parameters
at_head_lem : (s : List ℕ) (e : Entry) (out : List ℤ) (m : Frame) → Parameters s e.parameters e.count
    → at_head s e out m ≡ arrived s e out m
at_head_lem s e out m p = rw p.count

-- an act, by its kind
pub act-is : {r : Result Action Number} {A B : Action} → r ≡ Ok A → A ≡ B → r ≡ Ok B
act-is e f = e ∙ ap Ok f

-- a step, by what is decided
done-by : (ws : List ℤ) {P : Program} (a : Pool) {t : Thread} {b : Pool} (x : Made) (ws' : List ℤ) (d : Decision) → Decides P t b d
    → Comes ws (before a (effected t b d)) x ws' → Comes ws (before a (step P t b)) x ws'
done-by ws {P} a {t} {b} x ws' d h c = subst⁻¹ (λ (y : StepResult). Comes ws (before a y) x ws') h.is c

-- a step of thread i, whose newest frame is at k and acts by r
module _ {s places : List ℕ} {ws : List ℤ} {i k : ℕ} (z : k ≡ newest_at ws i) (out₀ out : List ℤ) (r : Result Action Number)
    (q : Acts s places (frame_at ws k) out₀ r out) where
  pub steps-refused : {n : Number} → r ≡ Err n → {x : Made} → x ≡ Err n → Steps s places ws i x ws
  unfolding before effected
  steps-refused {n} y {x} o P a t b h =
      let w : Is s t.newest out (Err n) (act P t.newest) =
      subst (λ (x : Result Action Number). Is s t.newest out x (act P t.newest)) y (acts-as h r out₀ out z q) in
      done-by ws a x ws _ (decides-refuse n.0 (sym w.act)) (o, refl)

  -- by the act that is done
  module _ (A : Action) (y : r ≡ Ok A) where
    steps-by : (x : Made) (ws' : List ℤ)
        → ((P : Program) (a : Pool) (t : Thread) (b : Pool) → Known s places ws i P a t b → act P t.newest ≡ act_by s t.newest A out
        → sound_by s t.newest A → Comes ws (before a (step P t b)) x ws')
        → Steps s places ws i x ws'
    steps-by x ws' f P a t b h =
        let y : Is s t.newest out (Ok A) (act P t.newest) =
        subst (λ (x : Result Action Number). Is s t.newest out x (act P t.newest)) y (acts-as h r out₀ out z q) in
        f P a t b h (sym y.act) y.sound

  module _ {ws' : List ℤ} where
    pub steps-bind : {x : ℕ} {v : ℤ} → r ≡ Ok (Bind x v) → Sets ws k x v ws' → Steps s places ws i (by_rule No.stmt) ws'
    unfolding before effected
    steps-bind y f = steps-by _ y (by_rule No.stmt) ws' (λ P a t b h e p.
        done-by ws a (by_rule No.stmt) ws' _ (decides-stay No.stmt _ e)
        (refl, (newest-changed h.thread (small-frames h).0 z (λ g. f t.newest g p.0 p.1)).held))

    pub steps-enter : {rule : Rule} {e : Entry} → r ≡ Ok (Enter rule e) → Arrives s ws k e out ws' → Steps s places ws i (Ok rule) ws'
    unfolding before effected
    steps-enter {rule} {e} y f = steps-by _ y (Ok rule) ws' (λ P a t b h u p.
        done-by ws a (Ok rule) ws' _ (decides-stay rule.0 _ u) (
          refl,
          (newest-changed h.thread (small-frames h).0 z
              (λ g. rw (← at_head_lem s e out t.newest p) (f t.newest g p.each))).held,
        ))

    pub steps-open : {π c : ℕ} → r ≡ Ok (Open π c) → Opens ws k π c ws' → Steps s places ws i (by_rule No.spork) ws'
    unfolding before effected
    steps-open y f = steps-by _ y (by_rule No.spork) ws' (λ P a t b h e p.
        done-by ws a (by_rule No.spork) ws' _ (decides-stay No.spork _ e)
        (refl, (newest-changed h.thread (small-frames h).0 z (λ g. f t.newest g p)).held))

    pub steps-close : {c : ℕ} → r ≡ Ok (Close c) → Shuts ws k c ws' → Steps s places ws i (by_rule No.unpr) ws'
    unfolding before effected
    steps-close y f = steps-by _ y (by_rule No.unpr) ws' (λ P a t b h e p.
        done-by ws a (by_rule No.unpr) ws' _ (decides-stay No.unpr _ e)
        (refl, (newest-changed h.thread (small-frames h).0 z (λ g. f t.newest g p)).held))

  module _ {g n c : ℕ} (y : r ≡ Ok (Push g n c)) (x : Result (Unit {0}) Number) (f : Calls ws i x) where
    pub steps-full : {m : Number} → x ≡ Err m → {v : Made} → v ≡ Err m → Steps s places ws i v ws
    unfolding before effected
    steps-full {m} w {v} o = steps-by _ y v ws (λ P a t b h e p.
        let l = subst (λ (x : Result (Unit {0}) Number). CalledBy x t) w (f a t b h.thread) in
        done-by ws a v ws _ (decides-full _ _ e l.1) (rw (← l.0) (o, refl)))

    pub steps-push : {ws' : List ℤ} → x ≡ Ok tt → Pushes ws i g n c out ws' → Steps s places ws i (by_rule No.call) ws'
    unfolding before effected
    steps-push {ws'} w d = steps-by _ y (by_rule No.call) ws' (λ P a t b h e p.
        let l = subst (λ (x : Result (Unit {0}) Number). CalledBy x t) w (f a t b h.thread) in
        done-by ws a (by_rule No.call) ws' _ (decides-push _ _ e l) (refl, (d a t b h.thread (small-frames h).0 l).held))

  module _ {n : ℕ} (y : r ≡ Ok (Pop n)) (l : length out ≡ most) (x : Result Entry Number) (f : Returns s places ws i n x) where
    pub steps-ended : {m : Number} → x ≡ Err m → {v : Made} → v ≡ Err m → Steps s places ws i v ws
    unfolding before effected
    steps-ended {m} w {v} o = steps-by _ y v ws (λ P a t b h e p.
        let d = subst (Decided P s t b Decision.pop (caller_of t) (length t.older) out) w (f P a t b h out l p e) in
        done-by ws a v ws _ d (o, refl))

    pub steps-pop : {e : Entry} {ws' : List ℤ} → x ≡ Ok e → Pops s ws i e out ws' → Steps s places ws i (by_rule No.return) ws'
    unfolding before effected popped
    steps-pop {e} {ws'} w v = steps-by _ y (by_rule No.return) ws' (λ P a t b h u p.
        let d = subst (Decided P s t b Decision.pop (caller_of t) (length t.older) out) w (f P a t b h out l p u) in
        done-by ws a (by_rule No.return) ws' _ d.is (go a t t.newest t.older b h.thread (small-frames h).1 d.parameters d.goes))
      where
        go : (a : Pool) (t : Thread) (l : Frame) (K : List Frame) (b : Pool) → ThreadAt ws i a (restacked t (l ∷ K)) b → Each Small K
            → Parameters s e.parameters e.count → 0 < length K
            → Comes ws (before a (popped t K b (arrived s e out (caller_in l K)))) (by_rule No.return) ws'
        go a t l [] b h o p q = absurd (omega (arith, q))
        go a t l (m ∷ K) b h o p q =
            let x : ThreadAt ws' i a (restacked t (arrived s e out m ∷ K)) b =
            rw (← at_head_lem s e out m p) (v a t l m K b h o.0 p.each)
            in
            (refl, x.held)

  module _ {c f : ℕ} (y : r ≡ Ok (Join c)) (g : f ≡ (frame_at ws k).function) (x : Result Entry Number) (out' : List ℤ)
      (j : Joins s places ws i f c out x out') where
    joined-as : {P : Program} {a : Pool} {t : Thread} {b : Pool} → Known s places ws i P a t b
        → act P t.newest ≡ Act.join (joined_of t) c → Decided P s t b Decision.join (joined_of t) (length b) out' x
    joined-as {P} {a} {t} {b} h e = (j P a t b h (g ∙ ap (λ (m : Frame). m.function) (newest-is h z)) e).decided

    pub steps-waits : {m : Number} → x ≡ Err m → {v : Made} → v ≡ Err m → Steps s places ws i v ws
    unfolding before effected
    steps-waits {m} w {v} o = steps-by _ y v ws (λ P a t b h e p.
        let d = subst (Decided P s t b Decision.join (joined_of t) (length b) out') w (joined-as h e) in
        done-by ws a v ws _ d (o, refl))

    pub steps-join : {e : Entry} {ws' : List ℤ} → x ≡ Ok e → Unites s ws i e out' ws' → Steps s places ws i (by_rule No.prom) ws'
    unfolding before effected joined
    steps-join {e} {ws'} w v = steps-by _ y (by_rule No.prom) ws' (λ P a t b h u p.
        let d = subst (Decided P s t b Decision.join (joined_of t) (length b) out') w (joined-as h u) in
        done-by ws a (by_rule No.prom) ws' _ d.is (go a t b h.thread (small-frames h).0 p d.parameters d.goes))
      where
        go : (a : Pool) (t : Thread) (b : Pool) → ThreadAt ws i a t b → Small t.newest
            → (0 < length t.newest.calls) × (0 < t.newest.promoted) → Parameters s e.parameters e.count → 0 < length b
            → Comes ws (before a (joined t b (arrived s e out' (joined_of t)))) (by_rule No.prom) ws'
        go a t [] h o p q l = absurd (omega (arith, l))
        go a t (u ∷ b) h o p q l =
            let x : ThreadAt ws' i a (restacked t (arrived s e out' (joined_of t) ∷ t.older)) b =
            rw (← at_head_lem s e out' (joined_of t) q) (v a t u b h o p.0 p.1 q.each)
            in
            (refl, x.held)

-- all frames up to j, oldest first, have nothing unpromoted
abbrev pub Passed : List ℤ → ℕ → ℕ → Type 0
Passed ws i j =
    (s places : List ℕ) (P : Program) (a : Pool) (t : Thread) (b : Pool) → Known s places ws i P a t b
    → (K₁ K₂ : List Frame) → frames t ≡ K₁ ++ K₂ → length K₂ ≡ j → Each Done K₂

pub passed_none : (ws : List ℤ) (i : ℕ) → Passed ws i 0
passed_none ws i s places P a t b h K₁ [] e l = tt
passed_none ws i s places P a t b h K₁ (k ∷ K₂) e l = absurd (omega arith)

module _ {ws : List ℤ} {i j k n p : ℕ} (w : k ≡ start_of i j) (c : n ≡ length (frame_at ws k).calls) (q : p ≡ (frame_at ws k).promoted)
    (g : Passed ws i j) where
  -- the frames older than the one read
  older-done : {s places : List ℕ} {P : Program} {a : Pool} {t : Thread} {b : Pool} → Known s places ws i P a t b
      → (K₁ : List Frame) (m : Frame) (K₂ : List Frame) → FrameAt t j K₁ m K₂ → Each Done K₂
  older-done {s} {places} {P} {a} {t} {b} h K₁ m K₂ e =
      g s places P a t b h (K₁ ++ (m ∷ [])) K₂ (e.is ∙ sym (append_assoc K₁ (m ∷ []) K₂)) e.place

  pub passed-more : n ≤ p → Passed ws i (j + 1)
  passed-more y s places P a t b h K₁ [] e l = absurd (omega arith)
  passed-more y s places P a t b h K₁ (m ∷ K₂) e l =
      let x : FrameAt t j K₁ m K₂ = record { is = e; place = omega arith } in
      let d : Done (frame_at ws k) = omega (arith, c, q) in
      (subst Done (frame_is h w x) d, older-done h K₁ m K₂ x)

  pub finds-holder : {π : ℕ} → get_elem? (frame_at ws k).calls p ≡ some π → j < frames_in ws i
      → FindsOldest ws i (Some (record { at = k; call = π }))
  finds-holder {π} y l s places P a t b h =
      let (z, x) = frame-there t j (omega (arith, frames-counted h.thread)) in
      let u : get_elem? (frame_at ws k).calls (frame_at ws k).promoted ≡ some π = ap (get_elem? (frame_at ws k).calls) (sym q) ∙ y in
      record {
        number = j;
        place = w;
        frame = z.item;
        newer = z.before;
        older = z.behind;
        at = x;
        done = older-done h z.before z.item z.behind x;
        call = subst (λ (m : Frame). get_elem? m.calls m.promoted ≡ some π) (frame_is h w x) u;
      }

pub finds-none : (ws : List ℤ) (i j : ℕ) → Passed ws i j → j ≡ frames_in ws i → FindsOldest ws i None
finds-none ws i j p l s places P a t b h = p s places P a t b h [] (frames t) refl (omega (arith, frames-counted h.thread))

-- the frames K₁, k and K₂, with one more call of k promoted
abbrev promoted_in : Frame → List Frame → List Frame → List Frame
promoted_in k K₁ K₂ = K₁ ++ deque k k.calls (k.promoted + 1) ∷ K₂

-- a promotion
module _ {s places : List ℕ} {ws : List ℤ} {i : ℕ} (r : Option Unpromoted) (f : FindsOldest ws i r) where
  pub promotes-none : r ≡ None → {x : Made} → x ≡ refused No.promoted → Promotes s places ws i x ws
  unfolding before promote promoting
  promotes-none y e P a t b h =
      let d : Each Done (frames t) = subst (HolderOf i t) y (f s places P a t b h) in
      rw (oldest-none (frames t) d) (e, refl)

  module _ (o : Unpromoted) {m : ℕ} (y : r ≡ Some o) (c : m ≡ threads_in ws) where
    module _ {P : Program} {a : Pool} {t : Thread} {b : Pool} (h : Known s places ws i P a t b) where
      holder : Holder i t o.at o.call
      holder = subst (HolderOf i t) y (f s places P a t b h)

      promoted : Thread
      promoted = restacked t (promoted_in holder.frame holder.newer holder.older)

      promote-is : (room : Bool) → promote P room t b ≡
          promoting P room t b
          (some (record { holder = holder.frame; call = o.call; frames = promoted_in holder.frame holder.newer holder.older }))
      unfolding promote
      promote-is room =
          let x = holder in
          ap (promoting P room t b) (ap oldest x.at.is ∙ oldest-at x.newer x.frame x.older o.call x.done x.call)

      count : length (a ++ t ∷ b) ≡ m
      count = omega (arith, length-append a (t ∷ b), threads-counted h.thread)

    pub promotes-full : most_threads ≤ m → Promotes s places ws i (refused No.threads) ws
    unfolding before promoting
    promotes-full l P a t b h =
        rw (le-ltb (length (a ++ t ∷ b)) most_threads (omega (arith, count h)), promote-is h false) (refl, refl)

    module _ (out₀ out : List ℤ) (d : Result (ℕ × ℕ) Number) (l : m < most_threads)
        (g : Spawns s places (frame_at ws o.at) o.call out₀ d out) where
      with-room : {P : Program} {a : Pool} {t : Thread} {b : Pool} (h : Known s places ws i P a t b)
          → promote P (ltb (length (a ++ t ∷ b)) most_threads) t b ≡ spawned (promoted h) b (child_by d out)
      unfolding promoting promoted
      with-room {P} {a} {t} {b} h =
          ap (λ (room : Bool). promote P room t b) (lt-ltb (length (a ++ t ∷ b)) most_threads (omega (arith, count h)))
          ∙ promote-is h true
          ∙ ap (spawned (promoted h) b)
          (ap (λ (x : Frame). child P x o.call) (sym (frame_is h (holder h).place (holder h).at)) ∙ sym (g P h.table).is)

      pub promotes-unmet : ((c : ℕ × ℕ) → d ≡ Ok c → ⊥) → Promotes s places ws i (refused No.stuck) ws
      unfolding before spawned
      promotes-unmet f P a t b h = rw (with-room h, none) (refl, refl)
        where
          none : child_by d out ≡ Model.none
          none = go d refl
            where
              go : (x : Result (ℕ × ℕ) Number) → d ≡ x → child_by x out ≡ Model.none
              go (Ok c) e = absurd (f c e)
              go (Err n) e = refl

      pub promotes-made : {f n : ℕ} {ws' : List ℤ} → d ≡ Ok (f, n) → Spawned ws i o.at f n out ws'
          → Promotes s places ws i (by_rule No.promote) ws'
      unfolding before spawned promoted
      promotes-made z p P a t b h =
          let x = holder h in
          let k : Frame = x.frame in
          let q : Small k = small_at h x.at in
          let r : k.promoted < 255 = omega (arith, at-below k.calls k.promoted x.call, q.fits.calls) in
          rw (with-room h, z) (refl, (p a t b x.number x.newer k x.older h.thread x.place x.at q r).held)
