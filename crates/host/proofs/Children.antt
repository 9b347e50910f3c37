-- What a child began with, in the terms of the exported functions, from the theorem on started pools and the laws of the exports.
use Prim.Native.Nat.{ℕ, suc, ◌+◌}
use mathlib.Core.Path.{◌≡◌, refl, sym, ◌∙◌, ap, subst}
use mathlib.Core.Bool.{Bool, true, false}
use mathlib.Core.Option.{Option, none, some}
use mathlib.Core.List.{List, [], ◌∷◌, map}
use lib.IntN.{ℤ, pos}
use lib.ListN.{length, get_or, get_elem?}
use Rattle.model.specs.Answers.{Answer}
use Rattle.model.specs.Lists.{Each}
use Rattle.model.specs.Sets.{has, ◌∈◌}
use Rattle.model.specs.Syntax.{Program}
use Rattle.model.specs.Pool.{Frame, frames, begin, function_of, children}
use Rattle.model.specs.Frames.{◌>>=◌, when, look, look_all}
use Rattle.model.specs.Calls as Calls
use Rattle.model.specs.Calls.{Lent, lent, read}
use Rattle.model.proofs.Facts.{none-some, some-injective, given-injective, each_at, map-some, map_at}
use Rattle.model.proofs.Words.{lent-given}
use Rattle.safety.specs.NeverJams as Model
use Rattle.safety.specs.InTurn.{InTurn}
use Rattle.sporks.specs.Openers.{opener}
use Rattle.sporks.specs.Handed.{reply_to, replies, arguments_of, OpenCall, Hands}
use Rattle.sporks.proofs.Theorem.{next-hands}
use Rattle.host.specs.CallContracts.{Choose}
use Rattle.host.specs.Laws.{answer_in}
use Rattle.host.specs.Roomy.{frame_count}
use Rattle.host.specs.Children.{Put, Log, seen, newest_at, Began, Children}
use Rattle.host.proofs.Macros.{given-read, read-given, done-read}
use Rattle.host.proofs.Laws.{check-law, choose-law}
use Rattle.host.proofs.Places.{ThreadIn, lent-thread}

-- bound temporaries, and their values
module _ (k : Frame) where
  abbrev value_of : ℕ → ℤ
  value_of x = get_or k.values x (pos 0)

  looked : (x̄ : List ℕ) {v̄ : List ℤ} → look_all k x̄ ≡ some v̄ → Each (λ x. x ∈ k.bound) x̄ × (v̄ ≡ map value_of x̄)
  unfolding look_all look when
  looked [] e = (tt, sym (some-injective e))
  looked (x ∷ x̄) {v̄} e = go (has k.bound x) (look_all k x̄) refl (λ w̄ e'. looked x̄ e') e
    where
      go : (b : Bool) (o : Option (List ℤ)) → has k.bound x ≡ b →
          ((w̄ : List ℤ) → o ≡ some w̄ → Each (λ x. x ∈ k.bound) x̄ × (w̄ ≡ map value_of x̄)) →
          (◌>>=◌ (when b (some (value_of x))) λ v. ◌>>=◌ o λ w̄. some (v ∷ w̄)) ≡ some v̄ →
          Each (λ x. x ∈ k.bound) (x ∷ x̄) × (v̄ ≡ map value_of (x ∷ x̄))
      go false o h r e = none-some e
      go true none h r e = none-some e
      go true (some w̄) h r e =
          let (a, b) = r w̄ refl in
          ((h, a), rw (← some-injective e, b))

-- choices put one by one, as puts of the model
abbrev as_put : Put → Model.Put
as_put p = record { words = p.words; kind = p.kind; thread = p.thread }

module _ (s : List ℕ) where
  log-turns : (ws : List ℤ) (ps : List Put) (w : List ℤ) → Log s ws ps w → InTurn s ws (map as_put ps) w
  log-turns ws [] w l = l
  log-turns ws (p ∷ ps) w l = let (v, m, l') = l.1 in (l.0, rw m.words at (log-turns v ps w l'))

  -- what each of them answered
  abbrev Answers : Put → Type 0
  Answers p = (reply_to s (as_put p)).answer ≡ answer_in p.number

  answers : (p : Put) (w w' : List ℤ) → p.words ≡ w → Choose s w p.kind p.thread p.number w' → Answers p
  answers p w w' e m = rw e (sym (choose-law s w p.kind p.thread p.number w' m).answers)

  log-answers : (ws : List ℤ) (ps : List Put) (w : List ℤ) → Log s ws ps w → Each Answers ps
  log-answers ws [] w l = tt
  log-answers ws (p ∷ ps) w l = let (v, m, l') = l.1 in (answers p p.words v refl m, log-answers v ps w l')

  log-seen : (ps : List Put) → Each Answers ps → replies s (map as_put ps) ≡ map seen ps
  log-seen [] h = refl
  log-seen (p ∷ ps) h =
      let e : reply_to s (as_put p) ≡ seen p = ap (λ a. record { thread = p.thread; answer = a }) h.0 in
      rw (e, log-seen ps h.1)

-- what the model claims of a promotion, read from words and numbers
module _ (s : List ℕ) {P : Program} (R : read s ≡ Answer.given P) where
  same-table : (w : List ℤ) {l : Lent} → lent s w ≡ Answer.given l → l.table ≡ P
  same-table w {l} e = given-injective (sym (lent-given s w l e).reads ∙ R)

  began : (ps : List Put) → Each (Answers s) ps → (p : Put) (w' : List ℤ) →
      w' ≡ (Calls.choose s p.words p.kind p.thread).after → Hands s (map as_put ps) (as_put p) → Began P ps p w'
  unfolding function_of arguments_of
  began ps a p w' e h =
      let S = h.spork in
      let (q, there, is) = map-some as_put (get_elem? ps h.number) (sym (map_at as_put ps h.number) ∙ S.numbered) in
      let parent = lent-thread s p.words h.lends h.pool p.thread h.parent h.there in
      let child = lent-thread s w' _ (ap (lent s) e ∙ h.left) (p.thread + 1) h.child h.child_there in
      let at : ThreadIn q.words q.thread S.thread =
      subst (λ (x : Model.Put). ThreadIn x.words x.thread S.thread) (sym is)
      (lent-thread s S.put.words S.lends S.pool S.put.thread S.thread S.there)
      in
      let (given, made) =
      read-given q.number (sym (each_at (Answers s) ps h.number a there) ∙ ap (λ x. (reply_to s x).answer) is ∙ S.made)
      in
      let k = newest_at q.words q.thread in
      let numbered : opener (map seen ps) p.thread (children (frames h.parent)) ≡ some h.number =
      rw (← log-seen s ps a) h.numbered
      in
      let function : function_of P k ≡ some h.function =
      rw (at.newest, ← same-table p.words h.pool, ← ap (λ (o : OpenCall). o.function) S.is) h.function_there
      in
      let spawn : get_elem? h.function.spawns S.call ≡ some h.spawn =
      rw (← ap (λ (o : OpenCall). o.call) S.is) h.spawn_there
      in
      let T = same-table S.put.words S.pool in
      let had : arguments_of P k S.call ≡ some S.values = rw (at.newest, ← T) S.had in
      let (bound, values) = looked k h.spawn.arguments (rw (function, spawn) at had) in
      let one : frame_count w' (p.thread + 1) ≡ 1 = child.count ∙ ap (λ (K : List Frame). suc (length K)) h.one_frame in
      record {
        number = h.number;
        numbered = ap (opener (map seen ps) p.thread) parent.promoted ∙ numbered;
        spork = q;
        there = there;
        given = given;
        made = made;
        body = S.body;
        call = S.call;
        at_spork = rw (at.newest, ← T) S.at_spork;
        function = h.function;
        function_there = function;
        spawn = h.spawn;
        spawn_there = spawn;
        bound = bound;
        alone = one;
        begun = rw one at child.newest ∙ h.begun ∙ ap (begin h.spawn.function) values;
      }

-- a child begins with the values that its call's arguments had at the spork, by what the exported functions answer and leave
pub exports-hand : Children
exports-hand s P c k g R ws n r started st ps w l p w' e m i v =
    let h = done-read c (Calls.check s) (check-law s c k).answers g in
    let turns : InTurn s (Calls.start s ws).after (map as_put ps) p.words = rw (e, ← st.words) (log-turns s started ps w l) in
    let a = answers s p w w' e m ∙ given-read p.number i ∙ ap Answer.given v in
    began s R ps (log-answers s started ps w l) p w' (rw e m.words) (next-hands s ws h n (map as_put ps) (as_put p) turns a)
