-- The two listings in the terms of the exported functions: what the operator cannot tell, and what the customer has besides. That words are
-- a pool of the table is that mezdaulk_which is given.
use Rattle.std.specs.Prelude.{ℕ, ◌≤◌, ◌≡◌, true, List, ℤ, length, take}
use Rattle.views.specs.Means.{Agree, erased}
use Rattle.host.specs.Macros.{is_given, value}
use Rattle.host.specs.CallContracts.{Which, Operator, Customer}

-- two pools of the table that agree in all words but the sixteen values of each frame give the operator, with outputs equally long, the
-- same number, so the same length or the same refusal, and the same bytes
abbrev pub Private : Type 0
Private =
    (s : List ℕ) (ws ws' : List ℤ) (w w' : ℕ) → Which s ws w → Which s ws' w' → is_given w ≡ true → is_given w' ≡ true → Agree ws ws' →
    (out out' : List ℕ) → length out ≡ length out' → (r r' : ℕ) (e e' : List ℕ) → Operator s ws out r e → Operator s ws' out' r' e' →
    (r ≡ r') × (is_given r ≡ true → take (value r) e ≡ take (value r) e')

-- the operator's listing is the customer's without its values: with room for it it is given, and it is no longer than the customer's
pub record Less (text : List ℕ) (room q : ℕ) (e : List ℕ) : Type 0 where
  pub given : length (erased text) ≤ room → is_given q ≡ true
  pub bytes : is_given q ≡ true → take (value q) e ≡ erased text
  pub shorter : length (erased text) ≤ length text

abbrev pub Erases : Type 0
Erases =
    (s : List ℕ) (ws : List ℤ) (out : List ℕ) (r : ℕ) (e : List ℕ) → Customer s ws out r e → is_given r ≡ true →
    (out' : List ℕ) (q : ℕ) (e' : List ℕ) → Operator s ws out' q e' → Less (take (value r) e) (length out') q e'
