-- One beat: the step, what it earns, and what is spent; or the step's refusal.
use Prim.Native.Nat.{ℕ, ◌+◌}
use mathlib.Core.Path.{◌≡◌, refl, sym, ap, subst, ◌∙◌}
use mathlib.Core.List.{List}
use lib.IntN.{ℤ}
use lib.ListN.{length}
use Rattle.model.specs.Answers.{Refusal, Answer}
use Rattle.model.specs.Syntax.{Program}
use Rattle.model.specs.Pool.{Pool, most_threads, words_of}
use Rattle.model.specs.Rules.{Result, choice}
use Rattle.answers.specs.declared.Refusal.TheVariants.{Plain}
use Rattle.std.specs.Prelude.{Result as Outcome, Ok, Err}
use Rattle.answers.specs.declared.No.{No}
use Rattle.answers.specs.declared.Rule.{Rule}
use Rattle.answers.specs.declared.Refusal.{Refusal as Why}
use Rattle.steps.specs.Choice.{Made, Chooses}
use Rattle.steps.proofs.Choosing.{chose-made, chose-refused}
use Rattle.tokens.specs.Purses.{brought, earned}
use Rattle.tokens.specs.Beats.{Spent, spend, Beaten, stepped, beaten, told}
use Rattle.beats.specs.declared.purse.Purse.{Purse as Lent}
use Rattle.beats.specs.declared.Beaten.{Beaten as Answered}
use Rattle.beats.specs.Purses.{Holds, Finds, Earns, brought_by}
use Rattle.beats.specs.Beating.{Spends, called_of, Beating}

-- a beat by its step's result
module _ (N C : ℕ) (P : Program) (p : Pool) (i : ℕ) where
  beaten-made : {rule : ℕ} {p' : Pool} → choice P p 0 i ≡ Result.made rule p'
      → beaten N C P p i ≡ Beaten.made rule (spend most_threads P i (earned N C rule p i p'))
  unfolding beaten stepped
  beaten-made e = rw e refl

  beaten-refused : {n : ℕ} → choice P p 0 i ≡ Result.refused n → beaten N C P p i ≡ Beaten.refused n
  unfolding beaten stepped
  beaten-refused e = rw e refl

told-made : (ws ws' : List ℤ) (rule : Rule) (n : ℕ) (x : Spent) → n ≡ length x.from → ws' ≡ words_of x.pool
    → called_of (Ok (record { rule = rule; promotions = n })) ws' ≡ told ws (Beaten.made rule.0 x)
unfolding told
told-made ws ws' rule n x e w = λ j. record { answer = Answer.given (record { rule = rule.0; promotions = e j }); after = w j }

told-refused : (ws ws' : List ℤ) (n : No) → ws' ≡ ws → called_of (Err (Plain n)) ws' ≡ told ws (Beaten.refused n.0)
unfolding told
told-refused ws ws' n w = λ j. record { answer = Answer.refused (Refusal.plain n.0); after = w j }

module _ {s places : List ℕ} {ws ws₁ : List ℤ} {i : ℕ} (N C : ℕ) (r : Made) (c : Chooses s places ws 0 i r ws₁) where
  pub beating-made : {rule : Rule} {m n : ℕ} {ws₂ ws₃ : List ℤ} (e : Lent) → Finds ws (i + 1) e → r ≡ Ok rule
      → m ≡ brought_by rule.0 e.tokens → Earns ws₁ i N C m ws₂ → Spends s places ws₂ i n ws₃
      → Beating s places ws i N C (Ok (record { rule = rule; promotions = n })) ws₃
  unfolding earned brought
  beating-made {rule} {m} {n} {ws₂} {ws₃} e f z b g k P p q h =
      let x = chose-made P p ws 0 i ws₁ rule.0 q.limits h.valid
      (subst (λ (y : Made). Chooses s places ws 0 i y ws₁) z c P p q h.words h.valid) in
      let t : m ≡ brought rule.0 p i = b ∙ ap (brought_by rule.0) (ap (λ u. u.tokens) (f P p h)) in
      let y : Holds P ws₂ (earned N C rule.0 p i x.pool) =
      subst (λ (m : ℕ). Earns ws₁ i N C m ws₂) t g P x.pool (record { words = x.words; valid = x.valid }) in
      let w = k P (earned N C rule.0 p i x.pool) q y in
      told-made ws ws₃ rule n _ w.count w.holds.words ∙ ap (told ws) (sym (beaten-made N C P p i x.is))

  pub beating-refused : {n : No} → r ≡ Err n → {x : Outcome Answered Why} → x ≡ Err (Plain n) → Beating s places ws i N C x ws₁
  beating-refused {n} z {x} e P p q h =
      let y = chose-refused P p ws 0 i ws₁ n.0 (subst (λ (y : Made). Chooses s places ws 0 i y ws₁) z c P p q h.words h.valid) in
      ap (λ (x : Outcome Answered Why). called_of x ws₁) e ∙ told-refused ws ws₁ n y.1
      ∙ ap (told ws) (sym (beaten-refused N C P p i y.0))
