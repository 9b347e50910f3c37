-- A beat as the choices that it counts as: no choice, its step alone, or its step and the promotions that its tokens pay.
use Prim.Native.Nat.{ℕ, zero, suc, ◌≤◌}
use mathlib.Core.Path.{◌≡◌, refl, sym, ◌∙◌, ap}
use mathlib.Core.Logic.{inl, inr}
use mathlib.Core.Bool.{Bool, true, false, cond}
use mathlib.Core.List.{List, [], ◌∷◌, map}
use native.Mathlib.Omega.{arith}
use lib.Dec.{ltb}
use lib.IntN.{ℤ}
use lib.ListN.{length}
use Rattle.model.specs.Numbers as No
use Rattle.model.specs.Numbers.{RuleOf}
use Rattle.model.specs.Answers.{Refusal, Answer}
use Rattle.model.specs.Lists.{Each}
use Rattle.model.specs.Syntax.{Program}
use Rattle.model.specs.Pool.{Pool, most_threads, words_of, is_pool}
use Rattle.model.specs.Rules.{Result, choice}
use Rattle.model.specs.Calls as Calls
use Rattle.model.specs.Calls.{Called, Lent, lent, read}
use Rattle.model.proofs.Facts.{true-false, refused-given}
use Rattle.model.proofs.Guarantees.{read-limits}
use Rattle.model.proofs.Words.{lent-words, lent-given}
use Rattle.model.proofs.Kept.{choice-kept, choose-lent}
use Rattle.model.proofs.Numbers.{choose-can}
use Rattle.tokens.specs.Purses.{purse_at, earned, shared, stacks, Repursed}
use Rattle.tokens.specs.Beats as Beats
use Rattle.tokens.specs.Beats.{Beat, paying, spend, stepped, beaten, most_n, is_pace, lent_at, told, put_to, promoting, promoted_from}
use Rattle.tokens.proofs.Purses.{earned-stacks, shared-stacks, earned-valid, shared-valid}
use Rattle.tokens.proofs.Words.{pace-facts, lent-at, lent-at-given, unlent, beat-lent, beat-refused}
use Rattle.safety.specs.NeverJams.{Put, of_beat}
use Rattle.safety.specs.InTurn.{InTurn, AsItsStep, AsSteps}

-- a step of thread i, and promotions of it put with these words
abbrev pub step_of : List ℤ → ℕ → Put
step_of ws i = record { words = ws; kind = 0; thread = i }

abbrev pub promotions_of : ℕ → List (List ℤ) → List Put
promotions_of i wss = map (λ w. record { words = w; kind = 1; thread = i }) wss

abbrev pub Promotes : List ℕ → ℕ → Pool → Type 0
Promotes s i p = (Calls.choose s (words_of p) 1 i).answer ≡ Answer.given No.promote

-- promotions put to the pools ps, all of them made: in turn from the words ws up to the words ws'
pub record Promotions (s : List ℕ) (i : ℕ) (ws : List ℤ) (ps : List Pool) (ws' : List ℤ) : Type 0 where
  pub turns : InTurn s ws (promotions_of i (map words_of ps)) ws'
  pub made : Each (Promotes s i) ps

-- the rules that a step and a promotion make
pub step-rule : (s : List ℕ) (ws : List ℤ) (i rule : ℕ) → (Calls.choose s ws 0 i).answer ≡ Answer.given rule → rule ≤ No.prom
step-rule s ws i rule e = go (rw e at (choose-can s ws 0 i))
  where
    go : RuleOf 0 rule → rule ≤ No.prom
    go (inl h) = h.1.1
    go (inr h) = absurd (omega (arith, h.0))

promotion-rule : (s : List ℕ) (ws : List ℤ) (i rule : ℕ) → (Calls.choose s ws 1 i).answer ≡ Answer.given rule → rule ≡ No.promote
promotion-rule s ws i rule e = go (rw e at (choose-can s ws 1 i))
  where
    go : RuleOf 1 rule → rule ≡ No.promote
    go (inl h) = absurd (omega (arith, h.0))
    go (inr h) = h.1

module _ (s : List ℕ) (P : Program) (r : read s ≡ Answer.given P) (i : ℕ) where
  repursed : (p p' : Pool) → is_pool P p ≡ true → is_pool P p' ≡ true → stacks p ≡ stacks p' → Repursed s (words_of p) (words_of p')
  repursed p p' v v' e =
      record {
        before = record { table = P; pool = p };
        lends = lent-words s P p r v;
        after = record { table = P; pool = p' };
        lends' = lent-words s P p' r v';
        same = e;
      }

  -- what a promotion that is made answers and leaves
  promotes : (p p' : Pool) (rule : ℕ) → is_pool P p ≡ true → choice P p 1 i ≡ Result.made rule p' →
      Promotes s i p × ((Calls.choose s (words_of p) 1 i).after ≡ words_of p')
  unfolding Calls.made
  promotes p p' rule v e =
      let c = choose-lent s (words_of p) 1 i (lent-words s P p r v) ∙ ap (Calls.made (words_of p)) e in
      let a : (Calls.choose s (words_of p) 1 i).answer ≡ Answer.given rule = ap (λ (d : Called ℕ). d.answer) c in
      (a ∙ ap Answer.given (promotion-rule s (words_of p) i rule a), ap (λ (d : Called ℕ). d.after) c)

  -- the promotions that tokens pay, from a pool q that differs from p in work and tokens alone
  spends : (most : ℕ) (q p : Pool) → is_pool P q ≡ true → is_pool P p ≡ true → stacks q ≡ stacks p →
      Promotions s i (words_of q) (spend most P i p).from (words_of (spend most P i p).pool)
  unfolding spend paying
  spends zero q p w v e = record { turns = inr (repursed q p w v e); made = tt }
  spends (suc most) q p w v e = tokens (ltb 0 (purse_at p i).tokens) (λ q p. spends most q p)
    where
      Behind : Type 0
      Behind =
          (q p : Pool) → is_pool P q ≡ true → is_pool P p ≡ true → stacks q ≡ stacks p →
          Promotions s i (words_of q) (spend most P i p).from (words_of (spend most P i p).pool)

      none : Promotions s i (words_of q) [] (words_of p)
      none = record { turns = inr (repursed q p w v e); made = tt }

      promoted : (x : Result) → choice P p 1 i ≡ x → Behind →
          let y = paying p x (λ p'. spend most P i (shared i p')) in Promotions s i (words_of q) y.from (words_of y.pool)
      promoted (Result.refused n) m k = none
      promoted (Result.made rule p') m k =
          let a = promotes p p' rule v m in
          let v' = choice-kept P (read-limits s P r) p p' 1 i rule v m in
          let h = k p' (shared i p') v' (shared-valid P i p' v') (sym (shared-stacks i p')) in
          record { turns = (inr (repursed q p w v e), rw a.1 h.turns); made = (a.0, h.made) }

      tokens : (b : Bool) → Behind →
          let y = cond b (paying p (choice P p 1 i) (λ p'. spend most P i (shared i p'))) (record { from = []; pool = p }) in
          Promotions s i (words_of q) y.from (words_of y.pool)
      tokens true k = promoted (choice P p 1 i) refl k
      tokens false k = none

-- a beat, as choices and as a call
pub data BeatAs (s : List ℕ) (ws : List ℤ) (i N C : ℕ) : List Put → Called Beat → Type 0 where
  unpaced : {r : Refusal} → is_pace N C ≡ false → BeatAs s ws i N C [] (record { answer = Answer.refused r; after = ws })
  refused : {r : Refusal} → Calls.choose s ws 0 i ≡ record { answer = Answer.refused r; after = ws } →
      BeatAs s ws i N C (step_of ws i ∷ []) (record { answer = Answer.refused r; after = ws })
  made : {rule : ℕ} {w : List ℤ} {ps : List Pool} {ws' : List ℤ} →
      Calls.choose s ws 0 i ≡ record { answer = Answer.given rule; after = w } → Promotions s i w ps ws' →
      BeatAs s ws i N C (step_of ws i ∷ promotions_of i (map words_of ps))
      (record { answer = Answer.given (record { rule = rule; promotions = length ps }); after = ws' })

-- with a pace and a pool, by what the step is answered
module _ (s : List ℕ) (ws : List ℤ) (i N C : ℕ) (l : Lent) (e : lent s ws ≡ Answer.given l) (n : N ≤ most_n) where
  by-step : (x : Result) → choice l.table l.pool 0 i ≡ x →
      let b = stepped N C l.table l.pool i x in
      BeatAs s ws i N C (step_of ws i ∷ promotions_of i (put_to b)) (told ws b)
  unfolding stepped put_to told Calls.made
  by-step (Result.refused m) q = BeatAs.refused (choose-lent s ws 0 i e ∙ ap (Calls.made ws) q)
  by-step (Result.made rule p') q =
      let c : Calls.choose s ws 0 i ≡ record { answer = Answer.given rule; after = words_of p' } =
      choose-lent s ws 0 i e ∙ ap (Calls.made ws) q
      in
      let g = lent-given s ws l e in
      let P = l.table in
      let v = choice-kept P (read-limits s P g.reads) l.pool p' 0 i rule g.valid q in
      let p = earned N C rule l.pool i p' in
      let h =
      spends s P g.reads i most_threads p' p v (earned-valid P N C rule l.pool i p' n v)
      (sym (earned-stacks N C rule l.pool i p'))
      in
      BeatAs.made c h

pub beat-as : (s : List ℕ) (ws : List ℤ) (i N C : ℕ) → BeatAs s ws i N C (of_beat s ws i N C) (Beats.beat s ws i N C)
unfolding of_beat promoted_from promoting beaten Calls.choose Calls.chosen
beat-as s ws i N C = go (is_pace N C) refl
  where
    at-no-pace : is_pace N C ≡ false → (a : Answer Lent) → lent_at s ws N C ≡ a → BeatAs s ws i N C [] (Beats.beat s ws i N C)
    at-no-pace q (Answer.refused r) e = rw (beat-refused s ws i N C r e) (BeatAs.unpaced q)
    at-no-pace q (Answer.given l) e = true-false (is_pace N C) (lent-at-given s ws N C l e).pace q

    AtPace : Answer Lent → Type 0
    AtPace a = BeatAs s ws i N C (step_of ws i ∷ promotions_of i (promoting a i N C)) (Beats.beat s ws i N C)

    at-pace : is_pace N C ≡ true → (a : Answer Lent) → lent s ws ≡ a → AtPace (lent_at s ws N C)
    at-pace q (Answer.refused r) e =
        let u = unlent s ws N C r e in
        rw (u, beat-refused s ws i N C r u) (BeatAs.refused (ap (λ (a : Answer Lent). Calls.chosen ws a 0 i) e))
    at-pace q (Answer.given l) e =
        rw (lent-at s ws N C l e q, beat-lent s ws i N C l e q) (by-step s ws i N C l e (pace-facts N C q).few _ refl)

    go : (b : Bool) → is_pace N C ≡ b →
        BeatAs s ws i N C (cond b (step_of ws i ∷ promotions_of i (promoting (lent_at s ws N C) i N C)) []) (Beats.beat s ws i N C)
    go true q = at-pace q (lent s ws) refl
    go false q = at-no-pace q (lent_at s ws N C) refl

-- a beat is answered as its step is
module _ {s : List ℕ} {ws : List ℤ} {i N C : ℕ} (q : is_pace N C ≡ true) where
  as_step : {ps : List Put} {d : Called Beat} → BeatAs s ws i N C ps d → Beats.beat s ws i N C ≡ d → AsItsStep s ws i N C
  as_step (BeatAs.unpaced e) h = true-false (is_pace N C) q e
  as_step (BeatAs.refused e) h =
      record {
        refused = λ r a. cc;
        refuses = λ r a. cc;
        leaves = λ r a. cc;
        given = λ b a. refused-given (sym (ap (λ (d : Called Beat). d.answer) h) ∙ a);
        gives = λ rule a. refused-given (sym (ap (λ (d : Called ℕ). d.answer) e) ∙ a);
      }
  as_step (BeatAs.made e k) h =
      record {
        refused = λ r a. refused-given (sym a ∙ ap (λ (d : Called Beat). d.answer) h);
        refuses = λ r a. refused-given (sym a ∙ ap (λ (d : Called ℕ). d.answer) e);
        leaves = λ r a. refused-given (sym a ∙ ap (λ (d : Called Beat). d.answer) h);
        given = λ b a. cc;
        gives = λ rule a. (_, ap (λ (d : Called Beat). d.answer) h, cc);
      }

pub as-steps : AsSteps
as-steps s ws i N C q = as_step q (beat-as s ws i N C) refl
