-- Sets of temporaries as the code asks them, and what the walks find.
use Rattle.std.specs.Prelude.{ℕ, ◌%◌, Bool, cond, List, [], ◌∷◌, Option, Some, None, Result, Ok, Err}
use Rattle.model.specs.Numbers as Numbers
use Rattle.answers.specs.declared.No.{No}
use Rattle.model.specs.Lists.{all}
use Rattle.model.specs.Sets.{has, with}
use Rattle.model.specs.Pool.{temporaries}
use Rattle.model.specs.Syntax.{Statement, uses}

-- is x in a set, and a set with x: a number's last four bits are a temporary, and a temporary is its own
unfoldable pub holds : ℕ → ℕ → Bool
holds Γ x = has Γ (x % temporaries)

unfoldable pub binding : ℕ → ℕ → ℕ
binding Γ x = with Γ (x % temporaries)

-- all temporaries are bound, and they end at e; or one is not
abbrev pub seen_as : Bool → ℕ → Option ℕ
seen_as b e = cond b (Some e) None

-- the set afterwards, with the offset behind; or the number of a fault
abbrev pub Walked : Type 0
Walked = Result (ℕ × ℕ) No

abbrev pub done : ℕ → ℕ → Walked
done Γ e = Ok (Γ, e)

abbrev pub stopped : ℕ → Walked
stopped n = Err (record { 0 = n })

-- things that bind, one after another: what each uses is in the set, what it binds is not, and is from then on. The set
-- afterwards, with the offset e behind; or the number of the first fault
unfoldable pub walked : {A : Type 0} → (A → List ℕ) → (A → ℕ) → ℕ → List A → ℕ → Walked
walked of binds Γ [] e = done Γ e
walked of binds Γ (a ∷ as') e =
    cond (all (holds Γ) (of a)) (cond (holds Γ (binds a)) (stopped Numbers.twice) (walked of binds (binding Γ (binds a)) as' e))
    (stopped Numbers.unbound)

-- statements, and parameters
abbrev pub operands_of : Statement → List ℕ
operands_of S = uses S.source

abbrev pub target_of : Statement → ℕ
target_of S = S.target

unfoldable pub statements_as : ℕ → List Statement → ℕ → Walked
statements_as Γ C e = walked operands_of target_of Γ C e

abbrev pub nothing : ℕ → List ℕ
nothing x = []

abbrev pub itself : ℕ → ℕ
itself x = x

unfoldable pub fresh_as : ℕ → List ℕ → ℕ → Walked
fresh_as Γ x̄ e = walked nothing itself Γ x̄ e
