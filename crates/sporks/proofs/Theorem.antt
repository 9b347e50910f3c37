-- S-5, proved: what is so after every choice of a list, and what a promotion hands the child.
use Prim.Native.Nat.{ℕ, zero, suc, ◌+◌}
use mathlib.Core.Path.{◌≡◌, refl, sym, ◌∙◌, ap, subst}
use mathlib.Core.Logic.{inl, inr}
use mathlib.Core.Option
use mathlib.Core.Option.{some}
use mathlib.Core.List.{List, [], ◌∷◌, ◌++◌, map, map-map, map-append, append_assoc, append-nil}
use native.Mathlib.Omega.{arith}
use lib.IntN.{ℤ}
use lib.ListN.{length, get_elem?, take, length-map}
use Rattle.model.specs.Numbers as No
use Rattle.model.specs.Answers.{Refusal, Answer}
use Rattle.model.specs.Pool.{Pool, pool_words, frames, begin, children, started}
use Rattle.model.specs.Rules.{Result, choice}
use Rattle.model.specs.Calls as Calls
use Rattle.model.specs.Calls.{Lent, lent, made}
use Rattle.model.proofs.Facts.{none-some, some-injective, given-injective, at_first, map_at}
use Rattle.model.proofs.Guarantees.{read-limits}
use Rattle.model.proofs.Words.{lent-words, started-pool}
use Rattle.model.proofs.Kept.{choose-kept}
use Rattle.model.proofs.Numbers.{choose-leaves}
use Rattle.tokens.specs.Purses.{stacks}
use Rattle.safety.specs.NeverJams.{Put, choices, finally}
use Rattle.safety.specs.InTurn.{Aside, InTurn}
use Rattle.safety.proofs.Owed.{last-at}
use Rattle.safety.proofs.Words.{Table, Good, good-lent, good-after, good-aside, main, limits, threads}
use Rattle.safety.proofs.Schedules.{faithful}
use Rattle.safety.proofs.Theorem.{accepted, starts, good-started}
use Rattle.sporks.specs.Openers.{Reply, follow, follows, openers, opener}
use Rattle.sporks.specs.Handed.{reply_to, replies, OpenCall, standing, open_calls, open_in, Sporked, Kept, Hands, Arguments}
use Rattle.sporks.proofs.Pairs.{Paired², paired-map, paired_at, paired-on}
use Rattle.sporks.proofs.Seen.{in_pool, Seen, Sees, Sporks}
use Rattle.sporks.proofs.Choices.{sees-choice}

-- the openers after one choice more
follows-snoc : (n : ℕ) (xss : List (List ℕ)) (rs : List Reply) (r : Reply) →
    follows n xss (rs ++ (r ∷ [])) ≡ follow (n + length rs) r.answer r.thread (follows n xss rs)
unfolding follows
follows-snoc n xss [] r =
    let e : n ≡ n + 0 = omega arith in
    ap (λ (m : ℕ). follow m r.answer r.thread xss) e
follows-snoc n xss (q ∷ rs) r =
    let e : n + 1 + length rs ≡ n + length (q ∷ rs) = omega arith in
    follows-snoc (n + 1) _ rs r ∙ ap (λ (m : ℕ). follow m r.answer r.thread (follows n xss (q ∷ rs))) e

module _ (s : List ℕ) where
  abbrev openers_of : List Put → List (List ℕ)
  openers_of ps = openers (replies s ps)

  openers-snoc : (ps : List Put) (p : Put) →
      openers_of (ps ++ (p ∷ [])) ≡ follow (length ps) (reply_to s p).answer p.thread (openers_of ps)
  unfolding openers
  openers-snoc ps p =
      let e : 0 + length (replies s ps) ≡ length ps = omega (arith, length-map ps (reply_to s)) in
      ap (follows 0 ([] ∷ [])) (map-append (reply_to s) ps (p ∷ [])) ∙ follows-snoc 0 ([] ∷ []) (replies s ps) (reply_to s p) ∙
      ap (λ (m : ℕ). follow m (reply_to s p).answer p.thread (openers_of ps)) e

-- a spork among the choices is one among more
more-choices : {s : List ℕ} (ps qs : List Put) {m : ℕ} {o : OpenCall} → Sporked s ps m o → Sporked s (ps ++ qs) m o
more-choices ps qs {m} h =
    record {
      put = h.put;
      numbered = at_first ps qs m h.numbered;
      made = h.made;
      lends = h.lends;
      pool = h.pool;
      thread = h.thread;
      there = h.there;
      body = h.body;
      call = h.call;
      at_spork = h.at_spork;
      values = h.values;
      had = h.had;
      is = h.is;
    }

-- an open call's values are those of its spork
sporked-values : {s : List ℕ} {ps : List Put} {m : ℕ} {o : OpenCall} {v̄ : List ℤ} (h : Sporked s ps m o) → o.arguments ≡ some v̄ →
    v̄ ≡ h.values
sporked-values h e = some-injective (sym e ∙ ap (λ (o : OpenCall). o.arguments) h.is)

-- after the choices ps, which left the words ws
record After {s : List ℕ} (T : Table s) (ps : List Put) (ws : List ℤ) : Type 0 where
  good : Good T ws
  paired : Paired² (Sporked s ps) (openers_of s ps) (in_pool T.program good.pool)

after_kept : {s : List ℕ} {T : Table s} {ps : List Put} {ws : List ℤ} → After T ps ws → Kept s ps ws
after_kept {T = T} a = record { lends = record { table = T.program; pool = a.good.pool }; pool = good-lent a.good; same = a.paired }

-- the openers are kept when the words are the same pool
same-pool : {s : List ℕ} {T : Table s} {ps : List Put} {ws : List ℤ} (p : Pool) (g : Good T ws) →
    lent s ws ≡ Answer.given (record { table = T.program; pool = p }) → Paired² (Sporked s ps) (openers_of s ps) (in_pool T.program p) →
    After T ps ws
same-pool {s} {T} {ps} p g e h =
    let q : p ≡ g.pool = ap (λ (l : Lent). l.pool) (given-injective (sym e ∙ good-lent g)) in
    record { good = g; paired = subst (λ (p : Pool). Paired² (Sporked s ps) (openers_of s ps) (in_pool T.program p)) q h }

module _ {s : List ℕ} {T : Table s} {ps : List Put} (p : Put) (a : After T ps p.words) where
  seen : (rule : ℕ) (p' : Pool) → choice T.program a.good.pool p.kind p.thread ≡ Result.made rule p' →
      Seen T.program a.good.pool p.thread rule p'
  seen rule p' e =
      subst (Sees T.program a.good.pool p.thread) e
      (sees-choice T.formed (limits a.good) a.good.pool (main T) p.kind p.thread (threads a.good) a.good.typed)

  -- the choice is a spork of the call
  sporked : {o : OpenCall} → (reply_to s p).answer ≡ Answer.given No.spork → Sporks T.program a.good.pool p.thread o →
      Sporked s (ps ++ (p ∷ [])) (length ps) o
  sporked e h =
      record {
        put = p;
        numbered = last-at ps p;
        made = e;
        lends = record { table = T.program; pool = a.good.pool };
        pool = good-lent a.good;
        thread = h.thread;
        there = h.there;
        body = h.spork.body;
        call = h.spork.call;
        at_spork = h.spork.at;
        values = h.spork.values;
        had = h.spork.had;
        is = h.spork.is;
      }

  -- with this choice among them
  weakened : Paired² (Sporked s (ps ++ (p ∷ []))) (openers_of s ps) (in_pool T.program a.good.pool)
  weakened =
      paired-map (λ xs ys. paired-map (λ m o. more-choices ps (p ∷ [])) xs ys) (openers_of s ps) (in_pool T.program a.good.pool)
      a.paired

  abbrev afterwards : List ℤ
  afterwards = (Calls.choose s p.words p.kind p.thread).after

  after-given : (rule : ℕ) → (reply_to s p).answer ≡ Answer.given rule → After T (ps ++ (p ∷ [])) afterwards
  unfolding follow
  after-given rule e =
      let g = a.good in
      let l : Lent = record { table = T.program; pool = g.pool } in
      let c = choose-kept s p.words p.kind p.thread rule l (good-lent g) e in
      let h = seen rule c.pool c.made in
      let R = Sporked s (ps ++ (p ∷ [])) in
      let v =
      paired-on R (length ps) h.call rule (λ q. sporked (e ∙ ap Answer.given q) (h.sporks q)) p.thread (openers_of s ps)
      (in_pool T.program g.pool) weakened
      in
      same-pool c.pool (good-after g p.kind p.thread) c.lends (rw (openers-snoc s ps p, e, h.after) v)

  after-refused : (r : Refusal) → (reply_to s p).answer ≡ Answer.refused r → After T (ps ++ (p ∷ [])) afterwards
  unfolding follow
  after-refused r e =
      let g = a.good in
      same-pool g.pool (good-after g p.kind p.thread)
      (rw (choose-leaves s p.words p.kind p.thread e) (good-lent g)) (rw (openers-snoc s ps p, e) weakened)

  after-choice : After T (ps ++ (p ∷ [])) afterwards
  after-choice = go (reply_to s p).answer refl
    where
      go : (d : Answer ℕ) → (reply_to s p).answer ≡ d → After T (ps ++ (p ∷ [])) afterwards
      go (Answer.given rule) e = after-given rule e
      go (Answer.refused r) e = after-refused r e

  -- a promotion hands the child what the arguments had at the spork
  hands : (reply_to s p).answer ≡ Answer.given No.promote → Hands s ps p
  unfolding opener standing
  hands e =
      let g = a.good in
      let l : Lent = record { table = T.program; pool = g.pool } in
      let c = choose-kept s p.words p.kind p.thread No.promote l (good-lent g) e in
      let h = (seen No.promote c.pool c.made).gives refl in
      let b = h.begins in
      let xs =
      paired_at _ (openers_of s ps) (in_pool T.program g.pool) p.thread a.paired
      (map_at (open_in T.program) g.pool p.thread ∙ ap (Option.map (open_in T.program)) h.there)
      in
      let m = paired_at _ xs.0 (open_in T.program h.parent) (children (frames h.parent)) xs.2 h.oldest in
      let v = sporked-values m.2 b.have in
      record {
        lends = l;
        pool = good-lent g;
        parent = h.parent;
        there = h.there;
        call = standing T.program h.holder h.call;
        oldest = h.oldest;
        number = m.0;
        numbered = rw xs.1 m.1;
        spork = m.2;
        function = b.function;
        function_there = b.function_there;
        spawn = b.spawn;
        spawn_there = b.spawn_there;
        callee = b.callee;
        callee_there = b.callee_there;
        takes = ap length (sym v) ∙ b.takes;
        after = c.pool;
        left = c.lends;
        parent_after = h.parent_after;
        parent_there = h.parent_there;
        one_more = h.one_more;
        child = h.child;
        child_there = h.child_there;
        one_frame = h.one_frame;
        begun = b.begun ∙ ap (begin b.spawn.function) v;
      }

-- a pool just started has nothing open
after-start : {s : List ℕ} (T : Table s) (ws : List ℤ) → length ws ≡ pool_words → After T [] (Calls.start s ws).after
unfolding started openers follows open_calls begin
after-start {s} T ws n =
    let P = T.program in
    same-pool started (good-started T ws n)
    (rw (starts s ws T.reads n) (lent-words s P started T.reads (started-pool P (read-limits s P T.reads)))) (tt, tt)

module _ {s : List ℕ} {T : Table s} where
  -- work and tokens aside
  carried : (ps : List Put) {ws ws' : List ℤ} → Aside s ws ws' → After T ps ws → After T ps ws'
  carried ps (inl e) a = rw e at a
  carried ps (inr r) a =
      let g = a.good in
      let P = T.program in
      let h = good-aside g r in
      let b : r.before.pool ≡ g.pool = ap (λ (l : Lent). l.pool) (given-injective (sym r.lends ∙ good-lent g)) in
      let c : r.after.pool ≡ h.pool = ap (λ (l : Lent). l.pool) (given-injective (sym r.lends' ∙ good-lent h)) in
      let e : stacks g.pool ≡ stacks h.pool = ap stacks (sym b) ∙ r.same ∙ ap stacks c in
      let f : in_pool P g.pool ≡ in_pool P h.pool =
      sym (map-map (open_calls P) frames g.pool) ∙ ap (map (open_calls P)) e ∙ map-map (open_calls P) frames h.pool
      in
      record { good = h; paired = rw (← f) a.paired }

  -- before each choice of a list that goes on from there, and at its end
  before : (ps : List Put) (ws : List ℤ) (qs : List Put) (ws' : List ℤ) → InTurn s ws qs ws' → After T ps ws → (m : ℕ) (q : Put) →
      get_elem? qs m ≡ some q → After T (ps ++ take m qs) q.words
  before ps ws [] ws' h a m q e = none-some e
  before ps ws (p ∷ qs) ws' h a zero q e = rw (append-nil ps, ← some-injective e) (carried ps h.0 a)
  before ps ws (p ∷ qs) ws' h a (suc m) q e =
      rw (← append_assoc ps (p ∷ []) (take m qs))
      (before (ps ++ (p ∷ [])) _ qs ws' h.1 (after-choice p (carried ps h.0 a)) m q e)

  at-end : (ps : List Put) (ws : List ℤ) (qs : List Put) (ws' : List ℤ) → InTurn s ws qs ws' → After T ps ws → After T (ps ++ qs) ws'
  at-end ps ws [] ws' h a = rw (append-nil ps) (carried ps h a)
  at-end ps ws (p ∷ qs) ws' h a =
      rw (← append_assoc ps (p ∷ []) qs) (at-end (ps ++ (p ∷ [])) _ qs ws' h.1 (after-choice p (carried ps h.0 a)))

-- a child's arguments are those of the spork
pub arguments-kept : Arguments
arguments-kept s ws h n cs =
    let T = accepted s h in
    let w = (Calls.start s ws).after in
    let a = after-start T ws n in
    let ps = choices s w cs in
    let b = before [] w ps (finally s w cs) (faithful s w cs) a in
    record {
      promotions = λ m p e r. hands p (b m p e) r;
      ever = λ m p e. after_kept (b m p e);
      after = after_kept (at-end [] w ps (finally s w cs) (faithful s w cs) a);
    }

-- and of a promotion that comes next after any choices in turn
pub next-hands : (s : List ℕ) (ws : List ℤ) → Calls.check s ≡ Answer.given tt → length ws ≡ pool_words → (ps : List Put) (p : Put) →
    InTurn s (Calls.start s ws).after ps p.words → (reply_to s p).answer ≡ Answer.given No.promote → Hands s ps p
next-hands s ws h n ps p t r = hands p (at-end [] (Calls.start s ws).after ps p.words t (after-start (accepted s h) ws n)) r
