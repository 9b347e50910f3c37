-- The tidy table: S-2 of document 02. Lists of old numbers in their new order; a thing's new number is its place there.
use Rattle.std.specs.Prelude.{ℕ, zero, suc, ◌+◌, ◌≡◌, Bool, false, ◌||◌, cond, List, [], ◌∷◌, ◌++◌, map, eqb}
use Rattle.std.proofs.Math.Option.{Option, none, some}
use Rattle.std.proofs.Math.ListN.{get_elem?}
use Rattle.model.specs.Numbers as No
use Rattle.model.specs.Answers.{Answer, Wrote, put}
use Rattle.model.specs.Lists.{concat}
use Rattle.model.specs.Syntax.{Function, Program}
use Rattle.model.specs.Write as Write
use Rattle.model.specs.Calls.{accepted}
use Rattle.numbering.specs.Renamed as Renamed
use Rattle.numbering.specs.Renamed.{Names}
use Rattle.numbering.specs.Mentions.{of, targets_in, spawns_in, functions_in}

-- is x among them?
unfoldable pub member : ℕ → List ℕ → Bool
member x [] = false
member x (y ∷ ys) = eqb x y || member x ys

-- no number is there twice
unfoldable pub Distinct : List ℕ → Type 0
Distinct [] = Unit {0}
Distinct (x ∷ xs) = (member x xs ≡ false) × Distinct xs

-- a mention of x: it comes to the end where it is not among them yet; mentions one after another
unfoldable pub mention : List ℕ → ℕ → List ℕ
mention xs x = cond (member x xs) xs (xs ++ (x ∷ []))

unfoldable pub mentions : List ℕ → List ℕ → List ℕ
mentions xs [] = xs
mentions xs (y ∷ ys) = mentions (mention xs y) ys

-- a list that grows while it is gone through: from index i on, with so many steps left, each number mentions what follows from it
unfoldable pub onward : List ℕ → (ℕ → List ℕ) → Option ℕ → List ℕ
onward xs k none = xs
onward xs k (some x) = k x

unfoldable pub grown : (ℕ → List ℕ) → ℕ → ℕ → List ℕ → List ℕ
grown next zero i xs = xs
grown next (suc left) i xs = onward xs (λ x. grown next left (i + 1) (mentions xs (next x))) (get_elem? xs i)

-- the kept blocks of a function, the entry first; its kept spawn calls
unfoldable pub kept_blocks : Function → List ℕ
kept_blocks F = grown (targets_in F) 32 0 (0 ∷ [])

unfoldable pub kept_spawns : Function → List ℕ
kept_spawns F = mentions [] (concat (map (spawns_in F) (kept_blocks F)))

-- the functions that a function mentions in its kept blocks; the kept functions, main first
unfoldable pub mentioned_in : Function → List ℕ
mentioned_in F = concat (map (functions_in F) (kept_blocks F))

unfoldable pub kept_functions : Program → List ℕ
kept_functions P = grown (λ f. of mentioned_in (get_elem? P f)) 16 0 (0 ∷ [])

-- the new number of x: its place among them, or how many they are where it is not there
unfoldable pub place : List ℕ → ℕ → ℕ
place [] x = 0
place (y ∷ ys) x = cond (eqb x y) 0 (place ys x + 1)

-- the things of a list that have these numbers, in the numbers' order
unfoldable pub before : {A : Type 0} → Option A → List A → List A
before none xs = xs
before (some x) xs = x ∷ xs

unfoldable pub picked : {A : Type 0} → List A → List ℕ → List A
picked xs [] = []
picked xs (i ∷ ī) = before (get_elem? xs i) (picked xs ī)

-- a function under the new numbers, with its kept blocks and spawn calls alone
unfoldable pub names_in : List ℕ → Function → Names
names_in fs F = record { function = place fs; block = place (kept_blocks F); spawn = place (kept_spawns F) }

unfoldable pub tidy_function : List ℕ → Function → Function
tidy_function fs F =
    record {
      signature = F.signature;
      spawns = map (Renamed.spawn_call (names_in fs F)) (picked F.spawns (kept_spawns F));
      blocks = map (Renamed.block (names_in fs F)) (picked F.blocks (kept_blocks F));
    }

unfoldable pub tidied : Program → Program
tidied P = map (tidy_function (kept_functions P)) (picked P (kept_functions P))

-- the tidy table, put into the output
unfoldable pub putting : List ℕ → Answer Program → Wrote
putting out (Answer.given P) = put No.room out (Write.table (tidied P))
putting out (Answer.refused r) = record { answer = Answer.refused r; after = out }

-- tidy: 1 to 11, then 23, or the tidy table's length
unfoldable pub tidy : List ℕ → List ℕ → Wrote
tidy s out = putting out (accepted s)
