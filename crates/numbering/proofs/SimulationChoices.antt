-- One choice, under two numberings: of a pool with kept things alone, the pool under new numbers is answered the same, and what is
-- made of it is what is made of the first, under new numbers.
use Prim.Native.Nat.{ℕ, zero, suc, ◌+◌}
use mathlib.Core.Path.{◌≡◌, refl, ◌∙◌, ap}
use mathlib.Core.Bool.{Bool, true, false, cond}
use mathlib.Core.Option
use mathlib.Core.Option.{Option, none, some}
use mathlib.Core.List.{List, [], ◌∷◌, map}
use lib.Dec.{ltb}
use lib.IntN.{ℤ}
use lib.ListN.{length, get_elem?, length-map}
use Rattle.model.specs.Numbers as No
use Rattle.model.specs.Lists.{Each}
use Rattle.model.specs.Syntax.{Program}
use Rattle.model.specs.Pool.{Frame, Thread, Pool, most_frames, most_threads, frames, restacked}
use Rattle.model.specs.Frames.{◌>>=◌, look_all, deque}
use Rattle.model.specs.Rules
use Rattle.model.specs.Rules.{Act, act, Result, Promotion, ended, choice, main_values}
use Rattle.model.specs.Calls.{Choice, Ran, one_more, go_on, run, is_made, can_step, first}
use Rattle.model.proofs.Facts.{each_at, map_at}
use Rattle.model.proofs.Kept.{OnSome}
use Rattle.model.proofs.Lowest.{lowest-alike}
use Rattle.numbering.specs.Renamed as Renamed
use Rattle.numbering.specs.Renumbers.{Numbering, BlockKept, SpawnKept, Copies, renamed_frame, renamed_thread, renamed_pool}
use Rattle.numbering.proofs.SimulationStates.{KeptFrame, KeptThread, KeptPool}
use Rattle.numbering.proofs.SimulationStates.{Follows, FollowsIf, follows-bind}
use Rattle.numbering.proofs.SimulationActs.{renamed_act, KeptAct, look_all-renamed, function-before, function-after}
use Rattle.numbering.proofs.SimulationActs.{enter-follows, callee-follows, act-follows}

-- what a choice makes, under new numbers
unfoldable pub renamed_result : Numbering → Result → Result
renamed_result R (Result.made rule ts) = Result.made rule (renamed_pool R ts)
renamed_result R (Result.refused n) = Result.refused n

abbrev pub KeptResult : Numbering → Result → Type 0
KeptResult R (Result.made rule ts) = KeptPool R ts
KeptResult R (Result.refused n) = Unit {0}

-- a schedule, under new numbers
unfoldable pub renamed_ran : Numbering → Ran → Ran
renamed_ran R r = record { made = r.made; refusal = r.refusal; pool = renamed_pool R r.pool }

abbrev pub KeptRan : Numbering → Ran → Type 0
KeptRan R r = KeptPool R r.pool

-- a promotion under new numbers, and one of kept things
unfoldable pub renamed_promotion : Numbering → Promotion → Promotion
renamed_promotion R p =
    record {
      holder = renamed_frame R p.holder;
      call = R.spawn p.holder.function p.call;
      frames = map (renamed_frame R) p.frames;
    }

pub record KeptPromotion (R : Numbering) (p : Promotion) : Type 0 where
  pub holder : KeptFrame R p.holder
  pub call : SpawnKept R p.holder.function p.call
  pub frames : Each (KeptFrame R) p.frames

module _ (R : Numbering) where
  abbrev pub Chooses : Result → Result → Type 0
  Chooses x x' = Follows (renamed_result R) (KeptResult R) x x'

  -- a thread's values at its return
  returned-renamed : (K : List Frame) (a : Act) → Rules.returned (map (renamed_frame R) K) (renamed_act R a) ≡ Rules.returned K a
  unfolding Rules.returned renamed_act
  returned-renamed [] (Act.refuse n) = refl
  returned-renamed [] (Act.stay rule k) = refl
  returned-renamed [] (Act.push k l) = refl
  returned-renamed [] (Act.pop v̄) = refl
  returned-renamed [] (Act.join k b) = refl
  returned-renamed (k ∷ K) a = refl

  -- the newest frame changed
  top-follows : (rule : ℕ) (t : Thread) (K : List Frame) (ts : List Thread) (o o' : Option Frame) → Each (KeptFrame R) K → KeptPool R ts →
      FollowsIf (renamed_frame R) (KeptFrame R) o o' →
      Chooses (Rules.on_top rule t K ts o) (Rules.on_top rule (renamed_thread R t) (map (renamed_frame R) K) (renamed_pool R ts) o')
  unfolding Rules.on_top renamed_result renamed_thread
  top-follows rule t K ts none o' h hs f = record { same = rw f.same; kept = tt }
  top-follows rule t K ts (some k) o' h hs f = record { same = rw f.same; kept = ((f.kept, h), hs) }

  restacked-renamed : (t : Thread) (K : List Frame) →
      restacked (renamed_thread R t) (map (renamed_frame R) K) ≡ renamed_thread R (restacked t K)
  unfolding renamed_thread
  restacked-renamed t [] = refl
  restacked-renamed t (k ∷ K) = refl

  restacked-kept : (t : Thread) (K : List Frame) → KeptThread R t → Each (KeptFrame R) K → KeptThread R (restacked t K)
  restacked-kept t [] h g = h
  restacked-kept t (k ∷ K) h g = g

  -- the oldest unpromoted call
  abbrev Promotes : Option Promotion → Option Promotion → Type 0
  Promotes o o' = FollowsIf (renamed_promotion R) (KeptPromotion R) o o'

  promote_in-follows : (k : Frame) (K : List Frame) → KeptFrame R k → Each (KeptFrame R) K →
      Promotes (Rules.promote_in k K) (Rules.promote_in (renamed_frame R k) (map (renamed_frame R) K))
  unfolding Rules.promote_in renamed_frame renamed_promotion deque
  promote_in-follows k K h hs = rw (map_at (R.spawn k.function) k.calls k.promoted) (go (get_elem? k.calls k.promoted) refl)
    where
      go : (o : Option ℕ) → get_elem? k.calls k.promoted ≡ o →
          Promotes (◌>>=◌ o λ π. some (record { holder = k; call = π; frames = deque k k.calls (k.promoted + 1) ∷ K }))
          (◌>>=◌ (Option.map (R.spawn k.function) o) λ π.
          some
          (record {
            holder = renamed_frame R k;
            call = π;
            frames = renamed_frame R (deque k k.calls (k.promoted + 1)) ∷ map (renamed_frame R) K;
          }))
      go none e = record { same = refl; kept = tt }
      go (some π) e =
          record {
            same = refl;
            kept = record {
              holder = h;
              call = each_at (SpawnKept R k.function) k.calls k.promoted h.calls e;
              frames = (record { function = h.function; block = h.block; calls = h.calls }, hs);
            };
          }

  above-follows : (k : Frame) (K : List Frame) (o o' : Option Promotion) → KeptFrame R k → Each (KeptFrame R) K → Promotes o o' →
      Promotes (Rules.or_else (Option.map (Rules.above k) o) (Rules.promote_in k K))
      (Rules.or_else (Option.map (Rules.above (renamed_frame R k)) o') (Rules.promote_in (renamed_frame R k) (map (renamed_frame R) K)))
  unfolding Rules.or_else renamed_promotion
  above-follows k K none o' h hs f = rw f.same (promote_in-follows k K h hs)
  above-follows k K (some p) o' h hs f =
      rw f.same
      (record {
        same = refl;
        kept = record { holder = f.kept.holder; call = f.kept.call; frames = (h, f.kept.frames) };
      })

  oldest-follows : (K : List Frame) → Each (KeptFrame R) K → Promotes (Rules.oldest K) (Rules.oldest (map (renamed_frame R) K))
  unfolding Rules.oldest
  oldest-follows [] h = record { same = refl; kept = tt }
  oldest-follows (k ∷ K) h =
      above-follows k K (Rules.oldest K) (Rules.oldest (map (renamed_frame R) K)) h.0 h.1 (oldest-follows K h.1)

  -- thread i of a pool
  behind-follows : (t : Thread) (x x' : Result) → KeptThread R t → Chooses x x' →
      Chooses (Rules.behind t x) (Rules.behind (renamed_thread R t) x')
  unfolding Rules.behind renamed_result
  behind-follows t (Result.made rule ts) x' h f = record { same = rw f.same; kept = (h, f.kept) }
  behind-follows t (Result.refused n) x' h f = record { same = rw f.same; kept = tt }

  on-follows : (f f' : Thread → List Thread → Result) →
      ((t : Thread) (ts : List Thread) → KeptThread R t → KeptPool R ts → Chooses (f t ts) (f' (renamed_thread R t) (renamed_pool R ts))) →
      (p : Pool) (i : ℕ) → KeptPool R p → Chooses (Rules.on_thread f p i) (Rules.on_thread f' (renamed_pool R p) i)
  unfolding Rules.on_thread renamed_result
  on-follows f f' k [] i h = record { same = refl; kept = tt }
  on-follows f f' k (t ∷ ts) zero h = k t ts h.0 h.1
  on-follows f f' k (t ∷ ts) (suc i) h =
      behind-follows t (Rules.on_thread f ts i) (Rules.on_thread f' (renamed_pool R ts) i) h.0 (on-follows f f' k ts i h.1)

-- where Q has what is kept of P
module _ {R : Numbering} {P Q : Program} (c : Copies R P Q) where
  -- a thread is ended under the one numbering and under the other, with the same values
  ended-renamed : (t : Thread) → KeptThread R t → ended Q (renamed_thread R t) ≡ ended P t
  unfolding ended renamed_thread
  ended-renamed t h = rw (act-follows c t.newest h.0).same (returned-renamed R t.older (act P t.newest))

  pop-follows : (t : Thread) (K : List Frame) (ts : List Thread) (v̄ : List ℤ) → Each (KeptFrame R) K → KeptPool R ts →
      Chooses R (Rules.popping P t K ts v̄) (Rules.popping Q (renamed_thread R t) (map (renamed_frame R) K) (renamed_pool R ts) v̄)
  unfolding Rules.popping renamed_result
  pop-follows t [] ts v̄ h hs = record { same = refl; kept = tt }
  pop-follows t (k ∷ K) ts v̄ h hs =
      top-follows R No.return t K ts _ _ h.1 hs (unfold renamed_frame in enter-follows c k h.0 k.block v̄ h.0.block)

  join-follows : (t : Thread) (k : Frame) (b : ℕ) (ts : List Thread) → KeptThread R t → KeptFrame R k → BlockKept R k.function b →
      KeptPool R ts →
      Chooses R (Rules.joins P t k b ts)
      (Rules.joins Q (renamed_thread R t) (renamed_frame R k) (R.block k.function b) (renamed_pool R ts))
  unfolding Rules.joins Rules.joining renamed_result renamed_thread
  join-follows t k b [] h g q hs = record { same = refl; kept = tt }
  join-follows t k b (u ∷ ts) h g q hs = rw (ended-renamed u hs.0) (go (ended P u))
    where
      go : (o : Option (List ℤ)) →
          Chooses R (Rules.joining P t k b ts o)
          (Rules.joining Q (renamed_thread R t) (renamed_frame R k) (R.block k.function b) (renamed_pool R ts) o)
      go none = record { same = refl; kept = tt }
      go (some v̄) = top-follows R No.prom t t.older ts _ _ h.1 hs.1 (enter-follows c k g b v̄ q)

  apply-follows : (t : Thread) (ts : List Thread) (a : Act) → KeptThread R t → KeptPool R ts → KeptAct R a →
      Chooses R (Rules.apply P t ts a) (Rules.apply Q (renamed_thread R t) (renamed_pool R ts) (renamed_act R a))
  unfolding Rules.apply renamed_result renamed_act renamed_thread
  apply-follows t ts (Act.refuse n) h hs g = record { same = refl; kept = tt }
  apply-follows t ts (Act.stay rule k) h hs g = record { same = refl; kept = ((g, h.1), hs) }
  apply-follows t ts (Act.push k l) h hs g = rw (length-map t.older (renamed_frame R)) (go (ltb (length (frames t)) most_frames))
    where
      go : (b : Bool) →
          Chooses R (cond b (Result.made No.call (restacked t (l ∷ k ∷ t.older) ∷ ts)) (Result.refused No.frames))
          (cond b (Result.made No.call (renamed_thread R (restacked t (l ∷ k ∷ t.older)) ∷ renamed_pool R ts)) (Result.refused No.frames))
      go true = record { same = refl; kept = ((g.1, (g.0, h.1)), hs) }
      go false = record { same = refl; kept = tt }
  apply-follows t ts (Act.pop v̄) h hs g = pop-follows t t.older ts v̄ h.1 hs
  apply-follows t ts (Act.join k b) h hs g = join-follows t k b ts h g.0 g.1 hs

  step_follows : (t : Thread) (ts : List Thread) → KeptThread R t → KeptPool R ts →
      Chooses R (Rules.step P t ts) (Rules.step Q (renamed_thread R t) (renamed_pool R ts))
  unfolding Rules.step renamed_thread
  step_follows t ts h hs =
      let a = act-follows c t.newest h.0 in
      rw a.same (apply-follows t ts (act P t.newest) h hs a.kept)

  -- a child's first frame
  child-follows : (k : Frame) (π : ℕ) → KeptFrame R k → SpawnKept R k.function π →
      FollowsIf (renamed_frame R) (KeptFrame R) (Rules.child P k π) (Rules.child Q (renamed_frame R k) (R.spawn k.function π))
  unfolding Rules.child Renamed.spawn_call
  child-follows k π h q =
      let S = (c k.function h.function).spawns π q in
      rw (function-before c h, function-after c h, S.old, S.new, look_all-renamed R k S.call.arguments)
      (follows-bind (renamed_frame R) (KeptFrame R) (look_all k S.call.arguments) _ _ λ v̄ _.
      callee-follows c S.call.function v̄ S.function)

  promote-follows : (room : Bool) (t : Thread) (ts : List Thread) → KeptThread R t → KeptPool R ts →
      Chooses R (Rules.promote P room t ts) (Rules.promote Q room (renamed_thread R t) (renamed_pool R ts))
  unfolding Rules.promote Rules.promoting Rules.spawned renamed_result renamed_thread renamed_promotion
  promote-follows room t ts h hs =
      let f = oldest-follows R (frames t) h in
      rw f.same (go room (Rules.oldest (frames t)) f.kept)
    where
      begun : (u : Thread) (o o' : Option Frame) → KeptThread R u → FollowsIf (renamed_frame R) (KeptFrame R) o o' →
          Chooses R (Rules.spawned u ts o) (Rules.spawned (renamed_thread R u) (renamed_pool R ts) o')
      begun u none o' g f = record { same = rw f.same; kept = tt }
      begun u (some k) o' g f = record { same = rw f.same; kept = (g, ((f.kept, tt), hs)) }

      go : (b : Bool) (o : Option Promotion) → OnSome (KeptPromotion R) o →
          Chooses R (Rules.promoting P b t ts o)
          (Rules.promoting Q b (renamed_thread R t) (renamed_pool R ts) (Option.map (renamed_promotion R) o))
      go b none g = record { same = refl; kept = tt }
      go false (some p) g = record { same = refl; kept = tt }
      go true (some p) g =
          rw (restacked-renamed R t p.frames)
          (begun (restacked t p.frames) _ _ (restacked-kept R t p.frames h g.frames)
          (child-follows p.holder p.call g.holder g.call))

  -- one choice
  pub choice-follows : (p : Pool) (kind i : ℕ) → KeptPool R p → Chooses R (choice P p kind i) (choice Q (renamed_pool R p) kind i)
  unfolding choice renamed_result
  choice-follows p zero i h = on-follows R (Rules.step P) (Rules.step Q) step_follows p i h
  choice-follows p (suc zero) i h =
      let room = ltb (length p) most_threads in
      rw (length-map p (renamed_thread R)) (on-follows R (Rules.promote P room) (Rules.promote Q room) (promote-follows room) p i h)
  choice-follows p (suc (suc kind)) i h = record { same = refl; kept = tt }

  -- the first thread that can step
  pub first-follows : (p : Pool) → KeptPool R p → first Q (renamed_pool R p) ≡ first P p
  unfolding first is_made renamed_result
  first-follows p h =
      rw (length-map p (renamed_thread R)) (lowest-alike (can_step Q (renamed_pool R p)) (can_step P p) same (length p) 0)
    where
      made-same : (x : Result) → is_made (renamed_result R x) ≡ is_made x
      made-same (Result.made rule q) = refl
      made-same (Result.refused n) = refl

      same : (i : ℕ) → can_step Q (renamed_pool R p) i ≡ can_step P p i
      same i = ap is_made (choice-follows p 0 i h).same ∙ made-same (choice P p 0 i)

  -- main's values
  pub values-follow : (p : Pool) → KeptPool R p → main_values Q (renamed_pool R p) ≡ main_values P p
  unfolding main_values
  values-follow [] h = refl
  values-follow (t ∷ ts) h = ended-renamed t h.0

  -- a schedule
  pub run-follows : (p : Pool) (cs : List Choice) → KeptPool R p →
      Follows (renamed_ran R) (KeptRan R) (run P p cs) (run Q (renamed_pool R p) cs)
  unfolding run go_on renamed_ran renamed_result
  run-follows p [] h = record { same = refl; kept = h }
  run-follows p (d ∷ cs) h =
      let f = choice-follows p d.kind d.thread h in
      rw f.same (go (choice P p d.kind d.thread) f.kept (λ p'. run-follows p' cs))
    where
      go : (x : Result) → KeptResult R x →
          ((p' : Pool) → KeptPool R p' → Follows (renamed_ran R) (KeptRan R) (run P p' cs) (run Q (renamed_pool R p') cs)) →
          Follows (renamed_ran R) (KeptRan R) (go_on p x (λ p'. run P p' cs))
          (go_on (renamed_pool R p) (renamed_result R x) (λ p'. run Q p' cs))
      go (Result.made rule p') g k = let f = k p' g in record { same = ap one_more f.same; kept = f.kept }
      go (Result.refused n) g k = record { same = refl; kept = h }
