-- The steps and promotions that a run tells, counted in the rules that its choices make.
use Prim.Native.Nat.{ℕ, ◌+◌}
use mathlib.Core.Path.{◌≡◌, refl, ap}
use mathlib.Core.Bool.{Bool}
use mathlib.Core.List.{List, [], ◌∷◌, ◌++◌, map}
use native.Mathlib.Omega.{arith}
use lib.IntN.{ℤ}
use lib.ListN.{length}
use Rattle.model.specs.Numbers as No
use Rattle.model.specs.Answers.{Answer}
use Rattle.model.specs.Lists.{Each, concat}
use Rattle.model.specs.Pool.{Pool, words_of}
use Rattle.model.specs.Calls as Calls
use Rattle.model.specs.Calls.{Called, Lent}
use Rattle.model.proofs.Facts.{le-leb, ne_eqb}
use Rattle.tokens.specs.Beats as Beats
use Rattle.tokens.specs.Beats.{Beat, lent_at}
use Rattle.tokens.proofs.Words.{lent-at-given, run_lent, run-refused, onward, run-onward}
use Rattle.safety.specs.NeverJams.{Put, while_given, of_beat, of_run}
use Rattle.safety.specs.InTurn.{made_by, rules_made, ordinary, promotion, how_many, Counts}
use Rattle.safety.proofs.Beats.{promotions_of, Promotes, step-rule, BeatAs, beat-as}

-- as many steps and promotions as choices make
record Makes (s : List ℕ) (ps : List Put) (m n : ℕ) : Type 0 where
  steps : m ≡ how_many ordinary (rules_made s ps)
  promotions : n ≡ how_many promotion (rules_made s ps)

-- choices one behind another
made-append : (s : List ℕ) (f : ℕ → Bool) (ps qs : List Put) →
    how_many f (rules_made s (ps ++ qs)) ≡ how_many f (rules_made s ps) + how_many f (rules_made s qs)
unfolding concat how_many made_by
made-append s f [] qs = omega arith
made-append s f (p ∷ ps) qs = go (Calls.choose s p.words p.kind p.thread).answer (made-append s f ps qs)
  where
    go : (a : Answer ℕ) → how_many f (rules_made s (ps ++ qs)) ≡ how_many f (rules_made s ps) + how_many f (rules_made s qs) →
        how_many f (made_by a ++ rules_made s (ps ++ qs)) ≡ how_many f (made_by a ++ rules_made s ps) + how_many f (rules_made s qs)
    go (Answer.given rule) h = omega arith
    go (Answer.refused r) h = h

append-makes : {s : List ℕ} {ps qs : List Put} {m n m' n' : ℕ} → Makes s ps m n → Makes s qs m' n' → Makes s (ps ++ qs) (m' + m) (n' + n)
append-makes {s} {ps} {qs} h k =
    record {
      steps = omega (arith, made-append s ordinary ps qs, h.steps, k.steps);
      promotions = omega (arith, made-append s promotion ps qs, h.promotions, k.promotions);
    }

-- a beat
promotions-make : (s : List ℕ) (i : ℕ) (ps : List Pool) → Each (Promotes s i) ps → Makes s (promotions_of i (map words_of ps)) 0 (length ps)
unfolding concat how_many made_by ordinary promotion
promotions-make s i [] h = record { steps = refl; promotions = refl }
promotions-make s i (p ∷ ps) h =
    let k = promotions-make s i ps h.1 in
    record { steps = rw h.0 (omega (arith, k.steps)); promotions = rw h.0 (omega (arith, k.promotions)) }

abbrev steps_in : Answer Beat → ℕ
steps_in (Answer.given b) = 1
steps_in (Answer.refused r) = 0

abbrev promotions_in : Answer Beat → ℕ
promotions_in (Answer.given b) = b.promotions
promotions_in (Answer.refused r) = 0

makes-as : {s : List ℕ} {ws : List ℤ} {i N C : ℕ} {ps : List Put} {d : Called Beat} → BeatAs s ws i N C ps d →
    Makes s ps (steps_in d.answer) (promotions_in d.answer)
unfolding concat how_many made_by ordinary promotion
makes-as (BeatAs.unpaced q) = record { steps = refl; promotions = refl }
makes-as (BeatAs.refused e) = record { steps = rw e; promotions = rw e }
makes-as {s} {ws} {i} (BeatAs.made {rule = rule} {ps = ps} e h) =
    let a = ap (λ (d : Called ℕ). d.answer) e in
    let k = promotions-make s i ps h.made in
    let l = step-rule s ws i rule a in
    record {
      steps = rw (a, le-leb rule No.prom l) (omega (arith, k.steps));
      promotions = rw (a, ne_eqb rule No.promote (λ q. omega arith)) (omega (arith, k.promotions));
    }

-- a run
run-makes : (s : List ℕ) (N C : ℕ) (is : List ℕ) (ws : List ℤ) →
    Makes s (of_run s ws N C is) (Beats.run s ws N C is).steps (Beats.run s ws N C is).promotions
unfolding of_run concat how_many Beats.runs Beats.reported while_given
run-makes s N C [] ws = go (lent_at s ws N C) refl
  where
    go : (a : Answer Lent) → lent_at s ws N C ≡ a → Makes s [] (Beats.run s ws N C []).steps (Beats.run s ws N C []).promotions
    go (Answer.given l) e =
        let h = lent-at-given s ws N C l e in
        rw (run_lent s ws N C [] l h.lends h.pace) (record { steps = refl; promotions = refl })
    go (Answer.refused r) e = rw (run-refused s ws N C [] r e) (record { steps = refl; promotions = refl })
run-makes s N C (i ∷ is) ws =
    let d = Beats.beat s ws i N C in
    rw (run-onward s ws N C i is) (go d.answer d.after (makes-as (beat-as s ws i N C)) (run-makes s N C is d.after))
  where
    go : (a : Answer Beat) (w : List ℤ) → Makes s (of_beat s ws i N C) (steps_in a) (promotions_in a) →
        Makes s (of_run s w N C is) (Beats.run s w N C is).steps (Beats.run s w N C is).promotions →
        let r = onward a w (λ w. Beats.run s w N C is) in
        Makes s (of_beat s ws i N C ++ while_given a (of_run s w N C is)) r.steps r.promotions
    go (Answer.given b) w h k = append-makes h k
    go (Answer.refused r) w h k = append-makes h (record { steps = refl; promotions = refl })

pub counts : Counts
counts s ws N C is = let h = run-makes s N C is ws in record { steps = h.steps; promotions = h.promotions }
