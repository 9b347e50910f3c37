-- What a list of calls counts as is what it does: its choices, put one after another, leave what the calls leave; a beat is answered as
-- its step is; and the steps and promotions that a run tells are the rules that its choices make.
use Rattle.std.specs.Prelude.{ℕ, ◌+◌, ◌≡◌, ◌⊎◌, Bool, true, cond, List, [], ◌∷◌, map, eqb, leb, ℤ}
use Rattle.model.specs.Numbers as No
use Rattle.model.specs.Answers.{Refusal, Answer}
use Rattle.model.specs.Lists.{concat}
use Rattle.model.specs.Calls as Calls
use Rattle.tokens.specs.Purses.{Repursed}
use Rattle.tokens.specs.Beats as Beats
use Rattle.tokens.specs.Beats.{Beat, is_pace}
use Rattle.safety.specs.NeverJams.{Call, Put, finally, of_run, choices}

-- the same words, or words of two pools of the table that differ in work and tokens alone, at which no rule looks
abbrev pub Aside : List ℕ → List ℤ → List ℤ → Type 0
Aside s ws ws' = (ws ≡ ws') ⊎ Repursed s ws ws'

-- choices one after another, from the words ws up to the words ws': each is put with what the one before left, work and tokens aside
abbrev pub InTurn : List ℕ → List ℤ → List Put → List ℤ → Type 0
InTurn s ws [] ws' = Aside s ws ws'
InTurn s ws (p ∷ ps) ws' = Aside s ws p.words × InTurn s (Calls.choose s p.words p.kind p.thread).after ps ws'

-- for all bytes, words and lists of calls
abbrev pub Faithful : Type 0
Faithful = (s : List ℕ) (ws : List ℤ) (cs : List Call) → InTurn s ws (choices s ws cs) (finally s ws cs)

-- a beat is refused exactly where its step is, with the same refusal, and leaves the words; it is given exactly where its step is, with
-- the same rule
pub record AsItsStep (s : List ℕ) (ws : List ℤ) (i N C : ℕ) : Type 0 where
  pub refused : (r : Refusal) → (Beats.beat s ws i N C).answer ≡ Answer.refused r → (Calls.choose s ws 0 i).answer ≡ Answer.refused r
  pub refuses : (r : Refusal) → (Calls.choose s ws 0 i).answer ≡ Answer.refused r → (Beats.beat s ws i N C).answer ≡ Answer.refused r
  pub leaves : (r : Refusal) → (Beats.beat s ws i N C).answer ≡ Answer.refused r → (Beats.beat s ws i N C).after ≡ ws
  pub given : (b : Beat) → (Beats.beat s ws i N C).answer ≡ Answer.given b → (Calls.choose s ws 0 i).answer ≡ Answer.given b.rule
  pub gives : (rule : ℕ) → (Calls.choose s ws 0 i).answer ≡ Answer.given rule →
      (b : Beat) × ((Beats.beat s ws i N C).answer ≡ Answer.given b) × (b.rule ≡ rule)

-- for all bytes and words, any thread number, and any N and C that there are
abbrev pub AsSteps : Type 0
AsSteps = (s : List ℕ) (ws : List ℤ) (i N C : ℕ) → is_pace N C ≡ true → AsItsStep s ws i N C

-- the rules that choices make, in order
unfoldable pub made_by : Answer ℕ → List ℕ
made_by (Answer.given rule) = rule ∷ []
made_by (Answer.refused r) = []

abbrev pub rules_made : List ℕ → List Put → List ℕ
rules_made s ps = concat (map (λ p. made_by (Calls.choose s p.words p.kind p.thread).answer) ps)

-- rules 1 to 9, which are ordinary steps, and rule 10
unfoldable pub ordinary : ℕ → Bool
ordinary rule = leb rule No.prom

unfoldable pub promotion : ℕ → Bool
promotion rule = eqb rule No.promote

unfoldable pub how_many : (ℕ → Bool) → List ℕ → ℕ
how_many f [] = 0
how_many f (rule ∷ rules) = cond (f rule) 1 0 + how_many f rules

-- for all bytes and words, any N and C, and every list of threads: the steps and the promotions that a run tells are as many as its
-- choices made of the one and the other
pub record Counted (s : List ℕ) (ws : List ℤ) (N C : ℕ) (is : List ℕ) : Type 0 where
  pub steps : (Beats.run s ws N C is).steps ≡ how_many ordinary (rules_made s (of_run s ws N C is))
  pub promotions : (Beats.run s ws N C is).promotions ≡ how_many promotion (rules_made s (of_run s ws N C is))

abbrev pub Counts : Type 0
Counts = (s : List ℕ) (ws : List ℤ) (N C : ℕ) (is : List ℕ) → Counted s ws N C is
