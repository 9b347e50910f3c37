-- The names of kinds and rules, by the test that told one.
use Prim.Native.Nat.{ℕ}
use mathlib.Core.Path.{◌≡◌, refl, ap, sym, ◌∙◌}
use mathlib.Core.Logic.{◌≢◌}
use mathlib.Core.List.{List}
use Rattle.model.specs.Text.{ascii, spaced, part}
use Rattle.model.specs.Numbers as No
use Rattle.model.specs.Output.{kind_name, rule_name}
use Rattle.model.proofs.Facts.{ne_eqb}
use Rattle.puts.specs.Puts.{Puts}
use Rattle.puts.proofs.Laws.{same}

module _ (d : List ℕ) (at r : ℕ) (d' : List ℕ) (x : ℕ) where
  -- a text that is the name of what x was found to be
  named : (name : ℕ → List ℕ) (xs : List ℕ) (n : ℕ) → xs ≡ spaced (name n) → Puts d at xs r d' → x ≡ n
      → Puts d at (spaced (name x)) r d'
  named name xs n e p t = same p (e ∙ ap (λ k. spaced (name k)) (sym t))

  pub step : Puts d at (ascii " step") r d' → x ≡ 0 → Puts d at (spaced (kind_name x)) r d'
  unfolding kind_name
  step = named kind_name _ 0 refl

  pub promotion : Puts d at (ascii " promote") r d' → x ≡ 1 → Puts d at (spaced (kind_name x)) r d'
  unfolding kind_name
  promotion = named kind_name _ 1 refl

  pub no_kind : Puts d at (part x) r d' → x ≢ 0 → x ≢ 1 → Puts d at (spaced (kind_name x)) r d'
  unfolding kind_name part
  no_kind p a b = same p (rw (ne_eqb x 0 a, ne_eqb x 1 b) refl)

  pub stmt : Puts d at (ascii " stmt") r d' → x ≡ No.stmt → Puts d at (spaced (rule_name x)) r d'
  unfolding rule_name
  stmt = named rule_name _ No.stmt refl

  pub goto : Puts d at (ascii " goto") r d' → x ≡ No.goto → Puts d at (spaced (rule_name x)) r d'
  unfolding rule_name
  goto = named rule_name _ No.goto refl

  pub then : Puts d at (ascii " then") r d' → x ≡ No.then → Puts d at (spaced (rule_name x)) r d'
  unfolding rule_name
  then = named rule_name _ No.then refl

  pub else : Puts d at (ascii " else") r d' → x ≡ No.else → Puts d at (spaced (rule_name x)) r d'
  unfolding rule_name
  else = named rule_name _ No.else refl

  pub call : Puts d at (ascii " call") r d' → x ≡ No.call → Puts d at (spaced (rule_name x)) r d'
  unfolding rule_name
  call = named rule_name _ No.call refl

  pub return : Puts d at (ascii " return") r d' → x ≡ No.return → Puts d at (spaced (rule_name x)) r d'
  unfolding rule_name
  return = named rule_name _ No.return refl

  pub spork : Puts d at (ascii " spork") r d' → x ≡ No.spork → Puts d at (spaced (rule_name x)) r d'
  unfolding rule_name
  spork = named rule_name _ No.spork refl

  pub unpr : Puts d at (ascii " unpr") r d' → x ≡ No.unpr → Puts d at (spaced (rule_name x)) r d'
  unfolding rule_name
  unpr = named rule_name _ No.unpr refl

  pub prom : Puts d at (ascii " prom") r d' → x ≡ No.prom → Puts d at (spaced (rule_name x)) r d'
  unfolding rule_name
  prom = named rule_name _ No.prom refl

  pub promote : Puts d at (ascii " promote") r d' → x ≢ No.stmt → x ≢ No.goto → x ≢ No.then
      → x ≢ No.else → x ≢ No.call → x ≢ No.return → x ≢ No.spork → x ≢ No.unpr
      → x ≢ No.prom → Puts d at (spaced (rule_name x)) r d'
  unfolding rule_name
  promote p a b c e f g h i j = same p
      (rw (
        ne_eqb x 1 a,
        ne_eqb x 2 b,
        ne_eqb x 3 c,
        ne_eqb x 4 e,
        ne_eqb x 5 f,
        ne_eqb x 6 g,
        ne_eqb x 7 h,
        ne_eqb x 8 i,
        ne_eqb x 9 j,
      ) refl)

pub ruleset kinds = (step, promotion, no_kind)

pub ruleset rule_names = (stmt, goto, then, else, call, return, spork, unpr, prom, promote)
