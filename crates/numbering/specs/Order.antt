-- What is kept, and in which order, in the words of S-2: main and each entry first, then by first mention, going through what is kept
-- in its new order; and what is never mentioned goes.
use Rattle.std.specs.Prelude.{ℕ, ◌≡◌, true, List, [], ◌∷◌, map}
use Rattle.std.proofs.Math.Option.{some}
use Rattle.std.proofs.Math.ListN.{get_elem?}
use Rattle.model.specs.Lists.{concat}
use Rattle.model.specs.Syntax.{Function, Program}
use Rattle.numbering.specs.Mentions.{of, targets_in}
use Rattle.numbering.specs.Tidy.{member, mentions, kept_blocks, mentioned_in, kept_functions}

-- x is 0, or mentioned by what is reached
pub data Reached (next : ℕ → List ℕ) : ℕ → Type 0 where
  first : Reached next 0
  then : (x y : ℕ) → Reached next x → member y (next x) ≡ true → Reached next y

-- the list is 0 and what its members mention, gone through in its own order, each at its first mention; and each is reached
pub record InOrder (next : ℕ → List ℕ) (xs : List ℕ) : Type 0 where
  pub order : xs ≡ mentions [] (0 ∷ concat (map next xs))
  pub kept : (x : ℕ) → Reached next x → member x xs ≡ true
  pub reached : (x : ℕ) → member x xs ≡ true → Reached next x

-- there is no other such list
abbrev pub Unique : Type 0
Unique = (next : ℕ → List ℕ) (xs ys : List ℕ) → InOrder next xs → InOrder next ys → xs ≡ ys

-- the kept functions of a program, and the kept blocks of each of its functions. Its kept spawn calls are what these mention, by definition
pub record Ordered (P : Program) : Type 0 where
  pub functions : InOrder (λ f. of mentioned_in (get_elem? P f)) (kept_functions P)
  pub blocks : (f : ℕ) (F : Function) → get_elem? P f ≡ some F → InOrder (targets_in F) (kept_blocks F)
