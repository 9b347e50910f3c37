-- Words that hold a pool of a table whose threads are linked: the start leaves such words, every choice keeps them so, and so does
-- another purse; and they have what Roomy says of them.
use Prim.Native.Nat.{ℕ, ◌≤◌, ◌<◌}
use mathlib.Core.Path.{◌≡◌, refl, sym, ◌∙◌, ap, subst}
use mathlib.Core.List.{List, [], ◌∷◌}
use native.Mathlib.Omega.{arith}
use lib.IntN.{ℤ}
use lib.ListN.{length}
use Rattle.model.specs.Numbers as No
use Rattle.model.specs.Answers.{Refusal, Answer, number_of}
use Rattle.model.specs.Lists.{Each}
use Rattle.model.specs.Syntax.{Program}
use Rattle.model.specs.Pool.{Frame, Thread, Pool, most_frames, pool_words, frames, function_of, started}
use Rattle.model.specs.Valid.{IsFrame, IsOlder, IsThread}
use Rattle.model.specs.Rules.{Result, choice}
use Rattle.model.specs.Calls as Calls
use Rattle.model.specs.Calls.{Lent, lent, read, made}
use Rattle.model.proofs.Facts.{refused-given, given-injective, each_map, each_at, at_each, at-below}
use Rattle.model.proofs.Guarantees.{read-limits}
use Rattle.model.proofs.Valid.{pool-facts}
use Rattle.model.proofs.Words.{lent-given, lent-words, started-pool}
use Rattle.model.proofs.Kept.{choose-lent, choose-kept}
use Rattle.model.proofs.Numbers.{choose-leaves}
use Rattle.tokens.specs.Purses.{stacks, Repursed}
use Rattle.safety.proofs.Words.{refused-number}
use Rattle.safety.proofs.Theorem.{starts}
use Rattle.chains.specs.Chains.{Deepest}
use Rattle.chains.specs.Roomy.{NotFull, Few, oldest_function, Chained, Deeper, Full}
use Rattle.chains.proofs.Linked.{Linked, links-needs, Keeps, choice-keeps}

pub record Held (s : List ℕ) (ws : List ℤ) : Type 0 where
  pub lends : Lent
  pub pool : lent s ws ≡ Answer.given lends
  pub linked : Each (Linked lends.table) lends.pool

-- the start
pub held_start : (s : List ℕ) (P : Program) (ws : List ℤ) → read s ≡ Answer.given P → length ws ≡ pool_words →
    Held s (Calls.start s ws).after
unfolding started
held_start s P ws r n =
    rw (starts s ws r n)
    (record {
      lends = record { table = P; pool = started };
      pool = lent-words s P started r (started-pool P (read-limits s P r));
      linked = (tt, tt);
    })

-- threads are linked by their frames alone
linked-stacks : (P : Program) (p p' : Pool) → stacks p ≡ stacks p' → Each (Linked P) p → Each (Linked P) p'
linked-stacks P [] [] e h = h
linked-stacks P [] (u ∷ us) e h = absurd (omega (arith, ap length e))
linked-stacks P (t ∷ ts) [] e h = absurd (omega (arith, ap length e))
linked-stacks P (t ∷ ts) (u ∷ us) e h =
    let k : t.newest ≡ u.newest = cc in
    let K : t.older ≡ u.older = cc in
    (rw (k, K) at h.0, linked-stacks P ts us (cc) h.1)

-- the function of a valid thread's oldest frame is there
oldest-there : (P : Program) (k : Frame) (K : List Frame) → IsFrame P k → Each (IsOlder P) K → oldest_function k.function K < length P
unfolding function_of
oldest-there P k [] f h = at-below P k.function f.stands.found
oldest-there P k (l ∷ K) f h = oldest-there P l K h.0.frame h.1

module _ {s : List ℕ} {ws : List ℤ} (g : Held s ws) where
  held_reads : read s ≡ Answer.given g.lends.table
  held_reads = (lent-given s ws g.lends g.pool).reads

  held-choice : (kind i : ℕ) → Keeps g.lends.table (choice g.lends.table g.lends.pool kind i)
  held-choice kind i = choice-keeps g.lends.table g.lends.pool kind i g.linked

  -- a choice that is made leaves such words, and a refused one leaves the words
  pub held_after : (kind i : ℕ) → Held s (Calls.choose s ws kind i).after
  held_after kind i = go (Calls.choose s ws kind i).answer refl
    where
      go : (a : Answer ℕ) → (Calls.choose s ws kind i).answer ≡ a → Held s (Calls.choose s ws kind i).after
      go (Answer.given rule) e =
          let c = choose-kept s ws kind i rule g.lends g.pool e in
          record {
            lends = record { table = g.lends.table; pool = c.pool };
            pool = c.lends;
            linked = subst (Keeps g.lends.table) c.made (held-choice kind i);
          }
      go (Answer.refused r) e = rw (choose-leaves s ws kind i e) g

  -- words that differ in work and tokens alone are such words too
  pub held-aside : {ws' : List ℤ} → Repursed s ws ws' → Held s ws'
  held-aside {ws'} r =
      let b : r.before ≡ g.lends = given-injective (sym r.lends ∙ g.pool) in
      let P : g.lends.table ≡ r.after.table = given-injective (sym held_reads ∙ (lent-given s ws' r.after r.lends').reads) in
      let e = ap (λ (l : Lent). stacks l.pool) (sym b) ∙ r.same in
      record {
        lends = r.after;
        pool = r.lends';
        linked = rw P at (linked-stacks g.lends.table g.lends.pool r.after.pool e g.linked);
      }

  pub held-chained : Chained s ws
  held-chained =
      record {
        lends = g.lends;
        pool = g.pool;
        each = each_map (λ t h. links-needs g.lends.table t.newest.function t.older h) g.lends.pool g.linked;
      }

  -- a choice that is answered 18
  held-deeper : (kind i : ℕ) (r : Refusal) → (Calls.choose s ws kind i).answer ≡ Answer.refused r → number_of r ≡ No.frames →
      Deeper g.lends.table
  unfolding made
  held-deeper kind i r e n =
      go (choice g.lends.table g.lends.pool kind i) (held-choice kind i) (rw (choose-lent s ws kind i g.pool) at e)
    where
      go : (x : Result) → Keeps g.lends.table x → (made ws x).answer ≡ Answer.refused r → Deeper g.lends.table
      go (Result.made rule p) k q = refused-given (sym q)
      go (Result.refused m) k q = k (refused-number q ∙ n)

  pub held-full : (P : Program) → read s ≡ Answer.given P → (kind i : ℕ) → Full s P (record { words = ws; kind = kind; thread = i })
  unfolding Full
  held-full P r kind i q e n = subst Deeper (given-injective (sym held_reads ∙ r)) (held-deeper kind i q e n)

  -- with a depth
  module _ (d : ℕ) (deep : (P : Program) → read s ≡ Answer.given P → Deepest P d) where
    few-frames : (t : Thread) → IsThread g.lends.table t → Linked g.lends.table t → length (frames t) ≤ d
    few-frames t v h =
        let P = g.lends.table in
        (deep P held_reads).most (oldest_function t.newest.function t.older) (length (frames t))
        (oldest-there P t.newest t.older v.newest v.older) (links-needs P t.newest.function t.older h)

    pub held-few : Few s d ws
    held-few =
        let P = g.lends.table in
        let p = g.lends.pool in
        let v = (pool-facts P p (lent-given s ws g.lends g.pool).valid).each in
        record {
          lends = g.lends;
          pool = g.pool;
          few = at_each (λ t. length (frames t) ≤ d) p λ i t e.
              few-frames t (each_at (IsThread P) p i v e) (each_at (Linked P) p i g.linked e);
        }

    pub held-room : d ≤ most_frames → (kind i : ℕ) → NotFull s (record { words = ws; kind = kind; thread = i })
    unfolding NotFull
    held-room l kind i r e n =
        let D = held-deeper kind i r e n in
        omega (arith, D.more, (deep g.lends.table held_reads).most D.first D.frames D.there D.needs)
