-- What plain choices leave of the purses: each rule, then each thread, then on bytes and words.
use Prim.Native.Nat.{ℕ, zero, suc, ◌+◌, ◌<◌}
use mathlib.Core.Path.{◌≡◌, refl, sym, ◌∙◌, ap, subst}
use mathlib.Core.Logic.{inl, inr, ◌≢◌}
use mathlib.Core.Bool.{Bool, true, false, cond}
use mathlib.Core.Option.{Option, none, some}
use mathlib.Core.List.{List, [], ◌∷◌, ◌++◌}
use native.Mathlib.Omega.{arith}
use lib.Dec.{eqb, ltb}
use lib.IntN.{ℤ}
use lib.ListN.{length, take, drop}
use Rattle.model.specs.Numbers as No
use Rattle.model.specs.Numbers.{RuleOf}
use Rattle.model.specs.Answers.{Answer}
use Rattle.model.specs.Syntax.{Program}
use Rattle.model.specs.Limits.{Limits}
use Rattle.model.specs.Pool.{Frame, Purse, Thread, Pool, most_frames, frames, empty, restacked}
use Rattle.model.specs.Frames.{enter}
use Rattle.model.specs.Rules as Rules
use Rattle.model.specs.Rules.{Act, act, Result, Promotion, choice}
use Rattle.model.specs.Calls as Calls
use Rattle.model.specs.Calls.{Lent, lent}
use Rattle.model.proofs.Facts.{refused-given, ne_eqb}
use Rattle.model.proofs.Valid.{restacked-purse}
use Rattle.model.proofs.Guarantees.{read-limits}
use Rattle.model.proofs.Words.{lent-given}
use Rattle.model.proofs.Kept.{choose-kept}
use Rattle.model.proofs.Numbers.{Acts, act-acts, ChoiceOf, choice-of}
use Rattle.tokens.specs.Means.{purses, surviving, Survive, Survivors}

-- what is left, rule by rule
module _ (i : ℕ) (es : List Purse) where
  pub surviving-prom : surviving No.prom i es ≡ take (i + 1) es ++ drop (i + 2) es
  unfolding surviving
  surviving-prom = refl

  pub surviving-promote : surviving No.promote i es ≡ take (i + 1) es ++ (empty ∷ drop (i + 1) es)
  unfolding surviving
  surviving-promote = refl

  pub surviving-other : (rule : ℕ) → rule ≢ No.prom → rule ≢ No.promote → surviving rule i es ≡ es
  unfolding surviving
  surviving-other rule m n = rw (ne_eqb rule No.prom m, ne_eqb rule No.promote n)

-- the threads in front stay
surviving-behind : (rule i : ℕ) (e : Purse) (es : List Purse) → surviving rule (suc i) (e ∷ es) ≡ e ∷ surviving rule i es
unfolding surviving
surviving-behind rule i e es =
    let n : suc i + 1 ≡ suc (i + 1) = omega arith in
    let m : suc i + 2 ≡ suc (i + 2) = omega arith in
    rw (n, m) (go (eqb rule No.prom) (eqb rule No.promote))
  where
    go : (b c : Bool) →
        cond b (take (suc (i + 1)) (e ∷ es) ++ drop (suc (i + 2)) (e ∷ es))
        (cond c (take (suc (i + 1)) (e ∷ es) ++ (empty ∷ drop (suc (i + 1)) (e ∷ es))) (e ∷ es)) ≡
        e ∷ cond b (take (i + 1) es ++ drop (i + 2) es) (cond c (take (i + 1) es ++ (empty ∷ drop (i + 1) es)) es)
    go true c = refl
    go false true = refl
    go false false = refl

-- what a choice of thread i of the pool p leaves
abbrev Leaves : ℕ → Pool → Result → Type 0
Leaves i p (Result.made rule p') = purses p' ≡ surviving rule i (purses p)
Leaves i p (Result.refused n) = Unit {0}

-- rules 1 to 8: the same threads
stays : (t : Thread) (ts : List Thread) (rule : ℕ) → rule < No.prom → purses (t ∷ ts) ≡ surviving rule 0 (purses (t ∷ ts))
stays t ts rule l = sym (surviving-other 0 (purses (t ∷ ts)) rule (omega arith) (omega arith))

-- rule 9: the thread directly behind goes
joined : (t u : Thread) (ts : List Thread) → purses (t ∷ ts) ≡ surviving No.prom 0 (purses (t ∷ u ∷ ts))
joined t u ts = sym (surviving-prom 0 (purses (t ∷ u ∷ ts)))

top-leaves : (p : Pool) (rule : ℕ) (t : Thread) (K : List Frame) (ts : List Thread) (o : Option Frame) →
    purses (t ∷ ts) ≡ surviving rule 0 (purses p) → Leaves 0 p (Rules.on_top rule t K ts o)
unfolding Rules.on_top
top-leaves p rule t K ts none e = tt
top-leaves p rule t K ts (some k) e = e

pop-leaves : (P : Program) (t : Thread) (K : List Frame) (ts : List Thread) (v̄ : List ℤ) → Leaves 0 (t ∷ ts) (Rules.popping P t K ts v̄)
unfolding Rules.popping
pop-leaves P t [] ts v̄ = tt
pop-leaves P t (k ∷ K) ts v̄ = top-leaves (t ∷ ts) No.return t K ts (enter P k k.block v̄) (stays t ts No.return (omega arith))

apply-leaves : (P : Program) (t : Thread) (ts : List Thread) (a : Act) → Acts a → Leaves 0 (t ∷ ts) (Rules.apply P t ts a)
unfolding Rules.apply Rules.joins Rules.joining
apply-leaves P t ts (Act.refuse n) h = tt
apply-leaves P t ts (Act.stay rule k) h = stays t ts rule (omega (arith, h.1))
apply-leaves P t ts (Act.push k l) h = go (ltb (length (frames t)) most_frames)
  where
    go : (b : Bool) →
        Leaves 0 (t ∷ ts) (cond b (Result.made No.call (restacked t (l ∷ k ∷ t.older) ∷ ts)) (Result.refused No.frames))
    go true = stays t ts No.call (omega arith)
    go false = tt
apply-leaves P t ts (Act.pop v̄) h = pop-leaves P t t.older ts v̄
apply-leaves P t [] (Act.join k c) h = tt
apply-leaves P t (u ∷ ts) (Act.join k c) h = go (Rules.ended P u)
  where
    go : (o : Option (List ℤ)) → Leaves 0 (t ∷ u ∷ ts) (Rules.joining P t k c ts o)
    go none = tt
    go (some v̄) = top-leaves (t ∷ u ∷ ts) No.prom t t.older ts (enter P k c v̄) (joined t u ts)

-- rule 10: the child is born directly behind
promote-leaves : (P : Program) (room : Bool) (t : Thread) (ts : List Thread) → Leaves 0 (t ∷ ts) (Rules.promote P room t ts)
unfolding Rules.promote Rules.promoting Rules.spawned
promote-leaves P room t ts = go room (Rules.oldest (frames t))
  where
    spawned : (K : List Frame) (o : Option Frame) → Leaves 0 (t ∷ ts) (Rules.spawned (restacked t K) ts o)
    spawned K none = tt
    spawned K (some k) =
        ap (λ (e : Purse). e ∷ empty ∷ purses ts) (restacked-purse t K) ∙ sym (surviving-promote 0 (purses (t ∷ ts)))

    go : (b : Bool) (o : Option Promotion) → Leaves 0 (t ∷ ts) (Rules.promoting P b t ts o)
    go b none = tt
    go false (some q) = tt
    go true (some q) = spawned q.frames (Rules.child P q.holder q.call)

module _ (f : Thread → List Thread → Result) (h : (t : Thread) (ts : List Thread) → Leaves 0 (t ∷ ts) (f t ts)) where
  on-leaves : (p : Pool) (i : ℕ) → Leaves i p (Rules.on_thread f p i)
  unfolding Rules.on_thread Rules.behind
  on-leaves [] i = tt
  on-leaves (t ∷ ts) zero = h t ts
  on-leaves (t ∷ ts) (suc i) = go (Rules.on_thread f ts i) (on-leaves ts i)
    where
      go : (r : Result) → Leaves i ts r → Leaves (suc i) (t ∷ ts) (Rules.behind t r)
      go (Result.made rule ts') e =
          ap (λ (es : List Purse). t.purse ∷ es) e ∙ sym (surviving-behind rule i t.purse (purses ts))
      go (Result.refused n) e = tt

choice-leaves : (P : Program) → Limits P → (p : Pool) (kind i : ℕ) → Leaves i p (choice P p kind i)
unfolding choice Rules.step
choice-leaves P L p zero i = on-leaves (Rules.step P) (λ t ts. apply-leaves P t ts (act P t.newest) (act-acts L t.newest)) p i
choice-leaves P L p (suc zero) i = on-leaves (Rules.promote P _) (promote-leaves P _) p i
choice-leaves P L p (suc (suc kind)) i = tt

pub choice-survivors : (P : Program) → Limits P → (p p' : Pool) (kind i rule : ℕ) → choice P p kind i ≡ Result.made rule p' →
    purses p' ≡ surviving rule i (purses p)
choice-survivors P L p p' kind i rule e = subst (Leaves i p) e (choice-leaves P L p kind i)

-- a promotion that is made is by rule 10
pub promotes : (P : Program) → Limits P → (p p' : Pool) (i rule : ℕ) → choice P p 1 i ≡ Result.made rule p' → rule ≡ No.promote
promotes P L p p' i rule e = go (subst (ChoiceOf 1) e (choice-of P L p 1 i))
  where
    go : RuleOf 1 rule → rule ≡ No.promote
    go (inl h) = absurd (omega (arith, h.0))
    go (inr h) = h.1

-- the same on bytes and words
pub survivors : Survivors
unfolding Calls.choose Calls.chosen
survivors s ws kind i rule g = go (lent s ws) refl g
  where
    go : (a : Answer Lent) → lent s ws ≡ a → (Calls.chosen ws a kind i).answer ≡ Answer.given rule → Survive s ws kind i rule
    go (Answer.refused r) e q = refused-given q
    go (Answer.given l) e q =
        let h = choose-kept s ws kind i rule l e g in
        let L : Limits l.table = read-limits s l.table (lent-given s ws l e).reads in
        record {
          before = l;
          lends = e;
          after = record { table = l.table; pool = h.pool };
          left = h.lends;
          survive = choice-survivors l.table L l.pool h.pool kind i rule h.made;
        }
