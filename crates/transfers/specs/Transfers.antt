-- Where the transfer of each block stands, as one array of offsets in which it is looked up by number.
use Rattle.std.specs.Prelude.{ℕ, ◌+◌, ◌*◌, ◌≤◌, ◌<◌, ◌≡◌, List, length, get_or, replicate}
use Rattle.std.proofs.Math.Option.{Option, none, map}
use Rattle.std.proofs.Math.ListN.{get_elem?}
use Rattle.model.specs.Syntax.{Transfer, Head, Block, Program}
use Rattle.model.specs.Read as Read
use Rattle.model.specs.Read.{Parser}
use Rattle.model.specs.Pool.{block_in}
use Rattle.places.specs.Layout as Layout
use Rattle.places.specs.Places.{Place, PlacesBy, Entry, Found}

-- the layout: block b of function f behind those of the functions before
abbrev pub index : ℕ → ℕ → ℕ
index f b = Layout.blocks * f + b

abbrev pub len : ℕ
len = Layout.functions * Layout.blocks

-- no transfers
unfoldable pub nowhere : List ℕ
nowhere = replicate len Layout.absent

-- the transfer of a block that is there
abbrev pub transfer_of : Block → Transfer
transfer_of B = B.transfer

unfoldable pub transfer_in : Option Block → Option Transfer
transfer_in o = map transfer_of o

-- the transfers of the program P that the table s reads to, which has no function and no block past those that there are entries for
pub record Transfers (s : List ℕ) (P : Program) (transfers : List ℕ) : Type 0 where
  pub entries : (f b : ℕ) → f < Layout.functions → b < Layout.blocks
      → Entry Read.transfer s (get_or transfers (index f b) 0) (transfer_in (block_in (get_elem? P f) b))
  pub few_functions : (f b : ℕ) → Layout.functions ≤ f → block_in (get_elem? P f) b ≡ none
  pub few_blocks : (f b : ℕ) → Layout.blocks ≤ b → block_in (get_elem? P f) b ≡ none

-- all of them are found, by the places, whatever heads are read by, in an array that had none, where no offset of the table is the entry
-- of a thing that is not there
abbrev pub Finds : List ℕ → List ℕ → List ℕ → List ℕ → Type 0
Finds s places transfers transfers' =
    (P : Program) (p : Parser Head) → PlacesBy p s P places → length s ≤ Layout.absent → transfers ≡ nowhere → Transfers s P transfers'

-- the contract of the lookup, for every table and program that the array has the transfers of
abbrev pub FindsTransfer : List ℕ → ℕ → ℕ → Place → Type 0
FindsTransfer transfers f b r =
    (s : List ℕ) (P : Program) → Transfers s P transfers → Found Read.transfer s r (transfer_in (block_in (get_elem? P f) b))
