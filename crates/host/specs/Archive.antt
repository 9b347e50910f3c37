-- The tidy table in the place of the old one, in the terms of the exported functions: no session tells one from the other.
use Rattle.std.specs.Prelude.{ℕ, ◌≡◌, true, List, ℤ, length, take}
use Rattle.host.specs.Macros.{is_given, value, pool_words}
use Rattle.host.specs.CallContracts.{Tidy, Start}
use Rattle.host.specs.Sessions.{Call, Session}

-- every session with s from the words ws can be had with t from the words ws': the same calls, answered the same numbers, with as many
-- choices, steps and promotions made and the same values of main; and the other way round
pub record Instead (s t : List ℕ) (ws ws' : List ℤ) : Type 0 where
  pub to : (cs : List Call) (w : List ℤ) → Session s ws cs w → (w' : List ℤ) × Session t ws' cs w'
  pub back : (cs : List Call) (w' : List ℤ) → Session t ws' cs w' → (w : List ℤ) × Session s ws cs w

-- for every table that mezdaulk_tidy was given, with the bytes that it wrote, and every two pools' lengths of words lent to
-- mezdaulk_start
abbrev pub Archive : Type 0
Archive =
    (s out : List ℕ) (r : ℕ) (out' : List ℕ) → Tidy s out r out' → is_given r ≡ true →
    (ws ws' : List ℤ) → length ws ≡ pool_words → length ws' ≡ pool_words →
    (a b : ℕ) (w w' : List ℤ) → Start s ws a w → Start (take (value r) out') ws' b w' →
    (is_given a ≡ true) × (is_given b ≡ true) × Instead s (take (value r) out') w w'
