-- The lists of kept numbers as the code has them, and what it says of them, for every program that places and transfers are those of.
use Rattle.std.specs.Prelude.{ℕ, ◌^◌, ◌<◌, ◌≡◌, cond, List, map, ◌++◌, length, get_or, replicate}
use Rattle.std.proofs.Math.Option.{some}
use Rattle.std.proofs.Math.ListN.{get_elem?}
use Rattle.model.specs.Lists.{Each, concat}
use Rattle.model.specs.Syntax.{Transfer, Function, Program, sporked_by, called_by}
use Rattle.model.specs.Limits.{Limits}
use Rattle.code.specs.Bytes.{byte_at}
use Rattle.code.specs.Code.{run, transfer_at}
use Rattle.places.specs.Places.{Places}
use Rattle.transfers.specs.Transfers.{Transfers, transfer_in}
use Rattle.numbering.specs.Mentions.{of, spawns_in, spawned_by, functions_in, ClosedIn, Closed}
use Rattle.kept.specs.declared.Kept.{Kept}
use Rattle.numbering.specs.Tidy.{member, Distinct, mentions, kept_blocks, kept_spawns, kept_functions, place}

-- room for so many numbers; the new number of a thing that is not kept
abbrev pub most : ℕ
most = 32

abbrev pub absent : ℕ
absent = 255

-- nothing is kept
unfoldable pub nothing : Kept
nothing = record { order = replicate most absent; numbers = replicate most absent; count = 0 }

-- the new number of x, as the list has it
abbrev pub number_in : Kept → ℕ → ℕ
number_in list x = byte_at list.numbers x

-- the list has the numbers xs, in their order, and the new number of each
pub record Lists (list : Kept) (xs : List ℕ) : Type 0 where
  pub room : length list.order ≡ most
  pub sized : length list.numbers ≡ most
  pub count : list.count ≡ length xs
  pub each : Each (λ x. x < most) xs
  pub distinct : Distinct xs
  pub order : (i : ℕ) → i < list.count → byte_at list.order i ≡ get_or xs i 0
  pub numbers : (x : ℕ) → x < most → number_in list x ≡ cond (member x xs) (place xs x) absent

-- into the list come the mentions of these names, one after another
pub record Adds (list : Kept) (names : List ℕ) (list' : Kept) : Type 0 where
  pub is : (xs : List ℕ) → Lists list xs → Each (λ x. x < most) names → Lists list' (mentions xs names)

-- what is known of a program: the places are its; the transfers are its, in a table no longer than a machine's numbers go; both
abbrev pub Placed : List ℕ → List ℕ → Program → Type 0
Placed s places P = Places s P places

abbrev pub Ended : List ℕ → List ℕ → Program → Type 0
Ended s transfers P = (length s < 2 ^ 64) × Transfers s P transfers

abbrev pub Known : List ℕ → List ℕ → List ℕ → Program → Type 0
Known s places transfers P = Places s P places × Transfers s P transfers

-- into the list come the mentions of the names that function f has, in every program that this is known of and that mentions
-- what is there
pub record AddsIn (Given : Program → Type 0) (f : ℕ) (names : Function → List ℕ) (list list' : Kept) : Type 0 where
  pub is : (P : Program) (F : Function) → Given P → get_elem? P f ≡ some F → ClosedIn P F → Adds list (names F) list'

-- such names: the spawn calls and the functions that block b mentions
abbrev pub spawns_by : ℕ → Function → List ℕ
spawns_by b F = spawns_in F b

abbrev pub functions_by : ℕ → Function → List ℕ
functions_by b F = functions_in F b

-- the function of spawn call π, those of the n spawn calls that are named from an offset on, and those of a transfer
abbrev pub spawned_of : ℕ → Function → List ℕ
spawned_of π F = spawned_by F π

abbrev pub spawned_from : List ℕ → ℕ → ℕ → Function → List ℕ
spawned_from s at n F = concat (map (spawned_by F) (run s at n))

abbrev pub called_of : Function → Transfer → List ℕ
called_of F t = concat (map (spawned_by F) (sporked_by t)) ++ called_by t

abbrev pub called_from : List ℕ → ℕ → Function → List ℕ
called_from s at F = called_of F (transfer_at s at)

-- what the transfer of block b mentions: its blocks or its spawn call, and its functions
unfoldable pub by_transfer : (Transfer → List ℕ) → ℕ → Function → List ℕ
by_transfer names b F = of names (transfer_in (get_elem? F.blocks b))

abbrev pub called_in : ℕ → Function → List ℕ
called_in b F = by_transfer (called_of F) b F

-- the kept blocks of function f; its kept spawn calls, by its kept blocks; the kept functions
abbrev pub KeepsBlocks : List ℕ → List ℕ → ℕ → Kept → Type 0
KeepsBlocks s transfers f list =
    (P : Program) (F : Function) → Limits P → Ended s transfers P → get_elem? P f ≡ some F → ClosedIn P F → Lists list (kept_blocks F)

abbrev pub KeepsSpawns : List ℕ → List ℕ → List ℕ → ℕ → Kept → Kept → Type 0
KeepsSpawns s places transfers f blocks list =
    (P : Program) (F : Function) → Places s P places → Transfers s P transfers → get_elem? P f ≡ some F → ClosedIn P F →
    Lists blocks (kept_blocks F) → Lists list (kept_spawns F)

abbrev pub KeepsFunctions : List ℕ → List ℕ → List ℕ → Kept → Type 0
KeepsFunctions s places transfers list =
    (P : Program) → Places s P places → Transfers s P transfers → Closed P → Lists list (kept_functions P)
