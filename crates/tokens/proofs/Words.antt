-- Beats and runs on bytes and words: what is lent to them, what they leave, and a run as its first beat and the run behind it.
use Prim.Native.Nat.{ℕ, ◌+◌, ◌≤◌, ◌<◌}
use mathlib.Core.Path.{◌≡◌, refl, sym, ap, ◌∙◌}
use mathlib.Core.Bool.{true, false, ◌&&◌}
use mathlib.Core.List.{List, ◌∷◌}
use lib.Dec.{leb, ltb}
use lib.IntN.{ℤ}
use lib.ListN.{length}
use Rattle.model.specs.Numbers as No
use Rattle.model.specs.Answers.{Refusal, Answer, with}
use Rattle.model.specs.Pool.{words_of}
use Rattle.model.specs.Calls.{Called, Lent, lent, stopped}
use Rattle.model.proofs.Facts.{refused-given, given-injective, and_left, and_right, leb-true, ltb-true}
use Rattle.model.proofs.Guarantees.{read-limits}
use Rattle.model.proofs.Words.{with-given, test-given, lent-given, lent-words}
use Rattle.tokens.specs.Beats.{Spent, Beaten, beaten, go_on, runs, most_n, most_c, is_pace, paced, lent_at, Beat, told, beating, beat}
use Rattle.tokens.specs.Beats.{Told, reported, running, run}
use Rattle.tokens.proofs.Kept.{beaten-valid}

-- a pace
pub record IsPace (N C : ℕ) : Type 0 where
  pub some : 0 < N
  pub few : N ≤ most_n
  pub some_tokens : 0 < C
  pub few_tokens : C ≤ most_c

pub pace-facts : (N C : ℕ) → is_pace N C ≡ true → IsPace N C
unfolding is_pace
pace-facts N C e =
    let e₃ = and_left (ltb 0 N && leb N most_n && ltb 0 C) _ e in
    let e₂ = and_left (ltb 0 N && leb N most_n) _ e₃ in
    record {
      some = ltb-true 0 N (and_left (ltb 0 N) _ e₂);
      few = leb-true N most_n (and_right (ltb 0 N) _ e₂);
      some_tokens = ltb-true 0 C (and_right (ltb 0 N && leb N most_n) _ e₃);
      few_tokens = leb-true C most_c (and_right (ltb 0 N && leb N most_n && ltb 0 C) _ e);
    }

-- what is lent: a table, a pool of it, and a pace
pub lent-at : (s : List ℕ) (ws : List ℤ) (N C : ℕ) (l : Lent) → lent s ws ≡ Answer.given l → is_pace N C ≡ true →
    lent_at s ws N C ≡ Answer.given l
unfolding lent_at with paced
lent-at s ws N C l e q = rw (e, q)

-- with no pace it is 27
pub unpaced : (s : List ℕ) (ws : List ℤ) (N C : ℕ) (l : Lent) → lent s ws ≡ Answer.given l → is_pace N C ≡ false →
    lent_at s ws N C ≡ Answer.refused (Refusal.plain No.pace)
unfolding lent_at with paced
unpaced s ws N C l e q = rw (e, q)

pub unlent : (s : List ℕ) (ws : List ℤ) (N C : ℕ) (r : Refusal) → lent s ws ≡ Answer.refused r → lent_at s ws N C ≡ Answer.refused r
unfolding lent_at with
unlent s ws N C r e = rw e

pub record LentAt (s : List ℕ) (ws : List ℤ) (N C : ℕ) (l : Lent) : Type 0 where
  pub lends : lent s ws ≡ Answer.given l
  pub pace : is_pace N C ≡ true

pub lent-at-given : (s : List ℕ) (ws : List ℤ) (N C : ℕ) (l : Lent) → lent_at s ws N C ≡ Answer.given l → LentAt s ws N C l
unfolding lent_at paced
lent-at-given s ws N C l e =
    let (m, a, b) = with-given (lent s ws) (λ l. with (paced N C) (λ _. Answer.given l)) e in
    let (u, c, d) = with-given (paced N C) (λ _. Answer.given m) b in
    record { lends = a ∙ d; pace = (test-given (is_pace N C) tt (Refusal.plain No.pace) c).0 }

-- the calls, by what is lent
pub beat-lent : (s : List ℕ) (ws : List ℤ) (i N C : ℕ) (l : Lent) → lent s ws ≡ Answer.given l → is_pace N C ≡ true →
    beat s ws i N C ≡ told ws (beaten N C l.table l.pool i)
unfolding beat beating
beat-lent s ws i N C l e q = rw (lent-at s ws N C l e q)

pub beat-refused : (s : List ℕ) (ws : List ℤ) (i N C : ℕ) (r : Refusal) → lent_at s ws N C ≡ Answer.refused r →
    beat s ws i N C ≡ record { answer = Answer.refused r; after = ws }
unfolding beat beating
beat-refused s ws i N C r e = rw e

pub run_lent : (s : List ℕ) (ws : List ℤ) (N C : ℕ) (is : List ℕ) (l : Lent) → lent s ws ≡ Answer.given l → is_pace N C ≡ true →
    run s ws N C is ≡ reported (runs N C l.table l.pool is)
unfolding run running
run_lent s ws N C is l e q = rw (lent-at s ws N C l e q)

pub run-refused : (s : List ℕ) (ws : List ℤ) (N C : ℕ) (is : List ℕ) (r : Refusal) → lent_at s ws N C ≡ Answer.refused r →
    run s ws N C is ≡ record { answer = Answer.refused r; steps = 0; promotions = 0; after = ws }
unfolding run running
run-refused s ws N C is r e = rw e

-- a beat that is made: what was lent to it, and the pool behind it, lent in its words
pub record Made (s : List ℕ) (ws : List ℤ) (i N C : ℕ) (b : Beat) : Type 0 where
  pub lends : Lent
  pub lent-to : LentAt s ws N C lends
  pub spent : Spent
  pub made : beaten N C lends.table lends.pool i ≡ Beaten.made b.rule spent
  pub promotions : b.promotions ≡ length spent.from
  pub after : (beat s ws i N C).after ≡ words_of spent.pool
  pub left : lent s (beat s ws i N C).after ≡ Answer.given (record { table = lends.table; pool = spent.pool })

pub beat-made : (s : List ℕ) (ws : List ℤ) (i N C : ℕ) (b : Beat) → (beat s ws i N C).answer ≡ Answer.given b → Made s ws i N C b
unfolding told
beat-made s ws i N C b a = outer (lent_at s ws N C) refl
  where
    inner : (l : Lent) → LentAt s ws N C l → (x : Beaten) → beaten N C l.table l.pool i ≡ x → Made s ws i N C b
    inner l h (Beaten.refused n) q =
        refused-given (sym (ap (λ (d : Called Beat). d.answer) (beat-lent s ws i N C l h.lends h.pace ∙ ap (told ws) q)) ∙ a)
    inner l h (Beaten.made rule x) q =
        let c : beat s ws i N C ≡ told ws (Beaten.made rule x) = beat-lent s ws i N C l h.lends h.pace ∙ ap (told ws) q in
        let same : record { rule = rule; promotions = length x.from } ≡ b =
        given-injective (sym (ap (λ (d : Called Beat). d.answer) c) ∙ a)
        in
        let after : (beat s ws i N C).after ≡ words_of x.pool = ap (λ (d : Called Beat). d.after) c in
        let g = lent-given s ws l h.lends in
        let v =
        beaten-valid l.table (read-limits s l.table g.reads) N C l.pool i rule x (pace-facts N C h.pace).few g.valid q
        in
        record {
          lends = l;
          lent-to = h;
          spent = x;
          made = q ∙ ap (λ (r : ℕ). Beaten.made r x) (ap (λ (d : Beat). d.rule) same);
          promotions = sym (ap (λ (d : Beat). d.promotions) same);
          after = after;
          left = rw after (lent-words s l.table x.pool g.reads v);
        }

    outer : (o : Answer Lent) → lent_at s ws N C ≡ o → Made s ws i N C b
    outer (Answer.refused r) q = refused-given (sym (ap (λ (d : Called Beat). d.answer) (beat-refused s ws i N C r q)) ∙ a)
    outer (Answer.given l) q = inner l (lent-at-given s ws N C l q) (beaten N C l.table l.pool i) refl

-- a run is its first beat and, where that is made, the run behind it
abbrev pub onward : Answer Beat → List ℤ → (List ℤ → Told) → Told
onward (Answer.given b) w k =
    record {
      answer = (k w).answer;
      steps = (k w).steps + 1;
      promotions = (k w).promotions + b.promotions;
      after = (k w).after;
    }
onward (Answer.refused r) w k = record { answer = Answer.refused r; steps = 0; promotions = 0; after = w }

pub run-onward : (s : List ℕ) (ws : List ℤ) (N C i : ℕ) (is : List ℕ) →
    run s ws N C (i ∷ is) ≡ onward (beat s ws i N C).answer (beat s ws i N C).after (λ w. run s w N C is)
unfolding runs go_on told reported stopped
run-onward s ws N C i is = outer (lent_at s ws N C) refl
  where
    Goes : Called Beat → Type 0
    Goes d = run s ws N C (i ∷ is) ≡ onward d.answer d.after (λ w. run s w N C is)

    outer : (o : Answer Lent) → lent_at s ws N C ≡ o → Goes (beat s ws i N C)
    outer (Answer.refused r) q = rw (beat-refused s ws i N C r q) (run-refused s ws N C (i ∷ is) r q)
    outer (Answer.given l) q = rw (beat-lent s ws i N C l h.lends h.pace) (go (beaten N C l.table l.pool i) refl)
      where
        h : LentAt s ws N C l
        h = lent-at-given s ws N C l q

        first : run s ws N C (i ∷ is) ≡ reported (go_on l.pool (beaten N C l.table l.pool i) (λ p. runs N C l.table p is))
        first = run_lent s ws N C (i ∷ is) l h.lends h.pace

        go : (x : Beaten) → beaten N C l.table l.pool i ≡ x → Goes (told ws x)
        go (Beaten.refused n) e =
            first ∙ ap (λ (x : Beaten). reported (go_on l.pool x (λ p. runs N C l.table p is))) e
            ∙ ap (λ (w : List ℤ). record { answer = Answer.refused (Refusal.plain n); steps = 0; promotions = 0; after = w })
            (lent-given s ws l h.lends).words
        go (Beaten.made rule x) e =
            let g = lent-given s ws l h.lends in
            let v =
            beaten-valid l.table (read-limits s l.table g.reads) N C l.pool i rule x (pace-facts N C h.pace).few
            g.valid e
            in
            let m = lent-words s l.table x.pool g.reads v in
            let rest = run_lent s (words_of x.pool) N C is (record { table = l.table; pool = x.pool }) m h.pace in
            first ∙ ap (λ (x : Beaten). reported (go_on l.pool x (λ p. runs N C l.table p is))) e
            ∙ ap
            (λ (r : Told).
            record {
              answer = r.answer;
              steps = r.steps + 1;
              promotions = r.promotions + length x.from;
              after = r.after;
            })
            (sym rest)
